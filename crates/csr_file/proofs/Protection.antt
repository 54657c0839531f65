-- What writes of the registers of physical memory protection leave.
use Rattle.std.proofs.Common.{◌≡◌, ◌≢◌, ℕ, ◌+◌, ◌-◌, ◌*◌, ◌/◌, ◌%◌, ◌<◌, ◌≤◌, Bool, true, false, ◌&&◌, ◌||◌, nat_lt}
use Rattle.std.proofs.Common.{mod-lt, not, nat_le, inl, inr, refl, sym, ap, ◌∙◌, subst, arith, List, length, map, get_or}
use Rattle.std.proofs.Common.{get_or-set_other, replicate, All, if◌then◌else◌}
use Rattle.std.specs.Prelude.{◌==◌}
use Rattle.std.specs.List.{range_with_len}
use Rattle.std.proofs.lemmas.Bool.{cases_Bool, cases_lt}
use Rattle.std.proofs.lemmas.Nat.{pow_pos}
use Rattle.std.proofs.lemmas.List.{get_or-replicate}
use Rattle.std.proofs.lemmas.Bool.Decides.{nat_tests}
use Rattle.std.proofs.lemmas.List.Elements.{All-map, All-replicate, All-set}
use Rattle.std.proofs.lemmas.List.FromFn.{get_or-map-range_with_len, length-map-range_with_len}
use Rattle.std.proofs.lemmas.List.{ext_get_or}
use Rattle.std.proofs.Math.ListN.{get_or-eq_default}
use Rattle.hart_words.specs.Words.{bit_field}
use Rattle.hart_words.specs.declared.privilege.PmpEntry.{PmpEntry}
use Rattle.csr_file.specs.declared.csrs.Csrs.{Csrs}
use Rattle.csr_file.specs.declared.fields.TheConstants.{PMP_LOCK}
use Rattle.csr_file.specs.Fields.{bit_is_set}
use Rattle.csr_file.specs.declared.profile.CsrProfile.{CsrProfile}
use Rattle.csr_file.specs.Profiles.{entry_bits_of}
use Rattle.csr_file.specs.Registers.{at, csrs_at_reset_of, no_entry, pmp_entry_of}
use Rattle.csr_file.specs.Values.{configuration_of, configuration_after, configuration_after_write, entry_after_write}
use Rattle.csr_file.specs.Values.{with_entry_address, configurations_write_of, is_locked_from_below, address_is_locked}
use Rattle.csr_file.specs.Values.{entry_address_write_of, has_entry}
use Rattle.csr_file.specs.Legal.{IsLegal, IsLegalConfiguration, IsLegalEntry}
use Rattle.csr_file.specs.Laws.{KeepsLocked}
use Rattle.csr_file.proofs.LegalTests.{both}

-- the bits that a configuration byte keeps make a legal one
fields_legal : (byte : ℕ) → byte % 4 ≢ 2 → IsLegalConfiguration (byte % 32 + byte / 128 % 2 * 128)
fields_legal byte apart = record { reserved = omega arith; rights = λ two. apart (omega (arith, two)) }

differs : (a b : ℕ) → (a == b) ≡ false → a ≢ b
differs a b off same = grind (arith, nat_tests)

after_by : (old byte : ℕ) (locked reserved : Bool) → (byte % 4 == 2) ≡ reserved → IsLegalConfiguration old
    → IsLegalConfiguration (if locked || reserved then old else byte % 32 + byte / 128 % 2 * 128)
after_by old byte true reserved is legal = legal
after_by old byte false true is legal = legal
after_by old byte false false is legal = fields_legal byte (differs (byte % 4) 2 is)

after_legal : (old byte : ℕ) → IsLegalConfiguration old → IsLegalConfiguration (configuration_after old byte)
unfolding configuration_after
after_legal old byte legal = after_by old byte (bit_is_set old PMP_LOCK) (byte % 4 == 2) refl legal

off_legal : (profile : CsrProfile) → IsLegalEntry profile no_entry
off_legal profile = record {
  configuration = record { reserved = refl; rights = λ two. omega arith };
  address = pow_pos (entry_bits_of profile);
}

-- a number past the entries reads as one that is off
entry_legal : (csrs : Csrs) (number : ℕ) → IsLegal csrs → IsLegalEntry csrs.profile (pmp_entry_of csrs number)
entry_legal csrs number legal = elim (cases_Bool (nat_lt number (length csrs.entries))) [
  | inl inside ↦ legal.entries number no_entry (grind (arith, nat_tests, inside))
  | inr outside ↦
      let past : length csrs.entries ≤ number = grind (arith, nat_tests, outside) in
      subst (IsLegalEntry csrs.profile) (sym (get_or-eq_default csrs.entries no_entry past)) (off_legal csrs.profile)
]

pub reset_entries_legal : (profile : CsrProfile) → All (IsLegalEntry profile) (replicate 16 no_entry)
reset_entries_legal profile = All-replicate (IsLegalEntry profile) 16 no_entry (off_legal profile)

-- all entries are off at reset
pub reset_missing : (profile : CsrProfile) (number : ℕ) → has_entry (csrs_at_reset_of profile) number ≡ false
    → pmp_entry_of (csrs_at_reset_of profile) number ≡ no_entry
unfolding csrs_at_reset_of
reset_missing profile number none = elim (cases_lt number 16) [
  | inl inside ↦ get_or-replicate 16 number no_entry no_entry inside
  | inr past ↦ get_or-eq_default (replicate 16 no_entry) no_entry past
]

written_by : (old byte : ℕ) (inside : Bool) → IsLegalConfiguration old
    → IsLegalConfiguration (if inside then configuration_after old byte else old)
written_by old byte true legal = after_legal old byte legal
written_by old byte false legal = legal

written_legal : (csrs : Csrs) (first value number : ℕ) → IsLegal csrs
    → IsLegalEntry csrs.profile (entry_after_write csrs first value number)
unfolding configuration_after_write
written_legal csrs first value number legal =
    let before = entry_legal csrs number legal in
    record {
      configuration =
          written_by (configuration_of csrs number) (bit_field (8 * (number - first)) 8 value)
          (nat_le first number && nat_lt number (first + 8) && has_entry csrs number) before.configuration;
      address = before.address;
    }

-- an entry that the core has not stays as it is
not_written : (csrs : Csrs) (first value number : ℕ) → has_entry csrs number ≡ false
    → configuration_after_write csrs first value number ≡ configuration_of csrs number
unfolding configuration_after_write
not_written csrs first value number none =
    rw (none, and_false (nat_le first number && nat_lt number (first + 8))) refl
  where
    and_false : (b : Bool) → (b && false) ≡ false
    and_false true = refl
    and_false false = refl

still_missing : (csrs : Csrs) (first value number : ℕ) → IsLegal csrs → has_entry csrs number ≡ false
    → pmp_entry_of (configurations_write_of csrs first value) number ≡ no_entry
unfolding configurations_write_of
still_missing csrs first value number legal none = elim (cases_lt number 16) [
  | inl inside ↦
      get_or-map-range_with_len (entry_after_write csrs first value) 0 16 number number no_entry inside (omega arith)
      ∙ ap (λ cfg. record (pmp_entry_of csrs number) { cfg = cfg }) (not_written csrs first value number none)
      ∙ legal.missing number none
  | inr past ↦
      get_or-eq_default (map (entry_after_write csrs first value) (range_with_len 0 16)) no_entry past
]

pub configurations_legal : (csrs : Csrs) (first value : ℕ) → IsLegal csrs
    → IsLegal (configurations_write_of csrs first value)
unfolding configurations_write_of at
configurations_legal csrs first value legal = record {
  whole = legal.whole;
  values = legal.values;
  entries =
      All-map (IsLegalEntry csrs.profile) (entry_after_write csrs first value) (range_with_len 0 16)
      (λ k d inside. written_legal csrs first value (get_or (range_with_len 0 16) k d) legal);
  missing = λ number none. still_missing csrs first value number legal none;
}

address_by : (csrs : Csrs) (number value : ℕ) (free : Bool) → (free ≡ true → has_entry csrs number ≡ true) → IsLegal csrs
    → IsLegal (if free then with_entry_address csrs number value else csrs)
unfolding at
address_by csrs number value false there legal = legal
address_by csrs number value true there legal = record {
  whole = legal.whole;
  values = legal.values;
  entries =
      All-set (IsLegalEntry csrs.profile) csrs.entries number _
      (record {
        configuration = (entry_legal csrs number legal).configuration;
        address = mod-lt value (pow_pos (entry_bits_of csrs.profile));
      })
      legal.entries;
  missing = λ other none.
      get_or-set_other csrs.entries number other _ no_entry
      (λ same. apart (has_entry csrs number) (there refl) (ap (has_entry csrs) (sym same) ∙ none))
      ∙ legal.missing other none;
}
  where
    apart : (b : Bool) → b ≡ true → b ≡ false → ⊥
    apart true on off = cc
    apart false on off = cc

pub address_legal : (csrs : Csrs) (number value : ℕ) → IsLegal csrs → IsLegal (entry_address_write_of csrs number value)
unfolding entry_address_write_of
address_legal csrs number value legal =
    address_by csrs (number % 16) value
    (has_entry csrs (number % 16) && not (address_is_locked csrs (number % 16)))
    (λ is. (both _ _ is).0) legal

-- a locked entry keeps its configuration
locked_by : (old byte : ℕ) (reserved : Bool) → bit_is_set old PMP_LOCK ≡ true
    → (if bit_is_set old PMP_LOCK || reserved then old else byte) ≡ old
locked_by old byte reserved locked =
    let P : Bool → Type 0 = λ b. (if b || reserved then old else byte) ≡ old in
    subst P (sym locked) refl

after_locked : (old byte : ℕ) → bit_is_set old PMP_LOCK ≡ true → configuration_after old byte ≡ old
unfolding configuration_after
after_locked old byte locked = locked_by old (byte % 32 + byte / 128 % 2 * 128) (byte % 4 == 2) locked

inside_by : (old byte : ℕ) (inside : Bool) → bit_is_set old PMP_LOCK ≡ true
    → (if inside then configuration_after old byte else old) ≡ old
inside_by old byte true locked = after_locked old byte locked
inside_by old byte false locked = refl

written_locked : (csrs : Csrs) (first value number : ℕ) → bit_is_set (configuration_of csrs number) PMP_LOCK ≡ true
    → configuration_after_write csrs first value number ≡ configuration_of csrs number
unfolding configuration_after_write
written_locked csrs first value number locked =
    inside_by (configuration_of csrs number) (bit_field (8 * (number - first)) 8 value)
    (nat_le first number && nat_lt number (first + 8) && has_entry csrs number) locked

-- each entry after a write of configurations
entry_after : (csrs : Csrs) (first value number : ℕ) → number < 16
    → pmp_entry_of (configurations_write_of csrs first value) number ≡ entry_after_write csrs first value number
unfolding configurations_write_of
entry_after csrs first value number below =
    get_or-map-range_with_len (entry_after_write csrs first value) 0 16 number number no_entry below (omega arith)

pub configurations_keep : (csrs : Csrs) (first value number : ℕ) → number < 16
    → bit_is_set (configuration_of csrs number) PMP_LOCK ≡ true
    → KeepsLocked csrs (configurations_write_of csrs first value) number
unfolding configurations_write_of
configurations_keep csrs first value number below locked =
    let with_configuration : ℕ → PmpEntry = λ cfg. record (pmp_entry_of csrs number) { cfg = cfg } in
    record {
      profile = refl;
      entry =
          entry_after csrs first value number below
          ∙ ap with_configuration (written_locked csrs first value number locked);
      below = λ begins. ap (λ entry. entry.addr) (entry_after csrs first value (number - 1) (omega (arith, below)));
    }

-- and its address
unlocked_apart : (csrs : Csrs) (one number : ℕ) → bit_is_set (configuration_of csrs number) PMP_LOCK ≡ true
    → address_is_locked csrs one ≡ false → number ≢ one
unfolding address_is_locked
unlocked_apart csrs one number locked free same =
    let P : ℕ → Type 0 = λ n. bit_is_set (configuration_of csrs n) PMP_LOCK ≡ true in
    left_false (bit_is_set (configuration_of csrs one) PMP_LOCK)
    (nat_lt one 15 && is_locked_from_below (configuration_of csrs (one + 1))) free (subst P same locked)
  where
    left_false : (a b : Bool) → (a || b) ≡ false → a ≡ true → ⊥
    left_false true b off on = cc
    left_false false b off on = cc

before_apart : (csrs : Csrs) (one number : ℕ) → number < 16 → 0 < number
    → is_locked_from_below (configuration_of csrs number) ≡ true → address_is_locked csrs one ≡ false → number - 1 ≢ one
unfolding address_is_locked
before_apart csrs one number below some begins free same =
    let is : one + 1 ≡ number = omega (arith, same) in
    let P : ℕ → Type 0 = λ n. is_locked_from_below (configuration_of csrs n) ≡ true in
    let low : nat_lt one 15 ≡ true = grind (arith, nat_tests, is, below) in
    right_false (bit_is_set (configuration_of csrs one) PMP_LOCK) (nat_lt one 15)
    (is_locked_from_below (configuration_of csrs (one + 1))) free low (subst P (sym is) begins)
  where
    right_false : (a b d : Bool) → (a || (b && d)) ≡ false → b ≡ true → d ≡ true → ⊥
    right_false true b d off on here = cc
    right_false false true true off on here = cc
    right_false false true false off on here = cc
    right_false false false d off on here = cc

kept_by : (csrs : Csrs) (one number value : ℕ) (free : Bool) → (free ≡ true → number ≢ one)
    → pmp_entry_of (if free then with_entry_address csrs one value else csrs) number ≡ pmp_entry_of csrs number
kept_by csrs one number value false apart = refl
kept_by csrs one number value true apart = get_or-set_other csrs.entries one number _ no_entry (apart refl)

profile_by : (csrs : Csrs) (one value : ℕ) (free : Bool)
    → (if free then with_entry_address csrs one value else csrs).profile ≡ csrs.profile
profile_by csrs one value true = refl
profile_by csrs one value false = refl

-- an address that is written is not locked
not_locked : (a b : Bool) → (a && not b) ≡ true → b ≡ false
not_locked true false is = refl
not_locked true true is = cc
not_locked false b is = cc

below_by : (csrs : Csrs) (one number : ℕ) → number < 16 → bit_is_set (configuration_of csrs number) PMP_LOCK ≡ true
    → is_locked_from_below (configuration_of csrs number) ≡ true → address_is_locked csrs one ≡ false → number - 1 ≢ one
below_by csrs zero_or number below locked begins free = elim (cases_Bool (nat_lt 0 number)) [
  | inl some ↦ before_apart csrs zero_or number below (grind (arith, nat_tests, some)) begins free
  | inr none ↦
      let is : number - 1 ≡ number = grind (arith, nat_tests, none) in
      λ same. unlocked_apart csrs zero_or number locked free (sym is ∙ same)
]

pub address_keeps : (csrs : Csrs) (one value number : ℕ) → number < 16
    → bit_is_set (configuration_of csrs number) PMP_LOCK ≡ true
    → KeepsLocked csrs (entry_address_write_of csrs one value) number
unfolding entry_address_write_of
address_keeps csrs one value number below locked = record {
  profile = profile_by csrs (one % 16) value (has_entry csrs (one % 16) && not (address_is_locked csrs (one % 16)));
  entry =
      kept_by csrs (one % 16) number value
      (has_entry csrs (one % 16) && not (address_is_locked csrs (one % 16)))
      (λ is. unlocked_apart csrs (one % 16) number locked (not_locked _ _ is));
  below =
      λ begins. ap (λ entry. entry.addr)
      (kept_by csrs (one % 16) (number - 1) value
      (has_entry csrs (one % 16) && not (address_is_locked csrs (one % 16)))
      (λ is. below_by csrs (one % 16) number below locked begins (not_locked _ _ is)));
}

-- a list that holds at each place what a function gives from a number on
pub filled_from : (f : ℕ → ℕ) (first count : ℕ) (xs : List ℕ) → length xs ≡ count
    → ((k : ℕ) → k < count → get_or xs k 0 ≡ f (first + k)) → xs ≡ map f (range_with_len first count)
filled_from f first count xs whole each =
    ext_get_or 0 xs _ (whole ∙ sym (length-map-range_with_len f first count))
    (λ k inside. let below : k < count =
    omega (arith, inside, whole) in
    each k below ∙ sym (get_or-map-range_with_len f first count k (first + k) 0 below refl))

-- The text of a state that can be saved is read as that state.
use Rattle.std.proofs.Common.{◌≡◌, ℕ, zero, suc, ◌+◌, ◌<◌, ◌≤◌, Bool, true, false, List, [], ◌∷◌, ◌++◌}
use Rattle.std.proofs.Common.{length, if◌then◌else◌}
use Rattle.std.proofs.Common.{refl, ap, ◌∙◌, arith, get_or, map, min}
use Rattle.std.specs.Prelude.{◌==◌, ◌^◌, nat_lt, replicate}
use Rattle.std.specs.List.{range_with_len, list_all}
use Rattle.std.specs.Int.{w64, to_le_bytes, from_le_bytes}
use Rattle.std.proofs.lemmas.Bool.Decides.{Decides-ltb, nat_tests}
use Rattle.std.proofs.lemmas.Nat.{le_bytes_8, pow_below}
use Rattle.hart_words.specs.declared.privilege.PmpEntry.{PmpEntry}
use Rattle.csr_file.specs.declared.csrs.Csrs.{Csrs}
use Rattle.csr_file.specs.declared.profile.CsrProfile.{CsrProfile}
use Rattle.csr_file.specs.declared.stored_csr.StoredCsr.{StoredCsr}
use Rattle.csr_file.specs.Legal.{IsLegalValue, IsLegalEntry, is_legal_address}
use Rattle.csr_file.specs.Profiles.{entry_bits_of, entry_count_of}
use Rattle.csr_file.specs.Registers.{at, no_entry}
use Rattle.csr_file.specs.Values.{packed_pmpcfg_of}
use Rattle.state_text.specs.declared.numbers.NumberKind.{NumberKind}
use Rattle.state_text.specs.declared.numbers.NumberKind.TheVariants.{Register, Stored, Configurations, EntryAddress}
use Rattle.state_text.specs.Numbers.{saved_csrs, numbers_of, registers_with, csrs_with}
use Rattle.csr_file.specs.Legal.{is_legal_configuration}
use Rattle.csr_file.proofs.LegalTests.{and_both, configuration_legal, value_legal}
use Rattle.state_text.specs.Values.{is_entry, is_legal}
use Rattle.hart_words.specs.declared.registers.Registers.{Registers}
use Rattle.csr_file.specs.Table.{stored_index_of}
use Rattle.state_text.specs.declared.numbers.TheConstants.{KINDS}
use Rattle.state_text.proofs.NumberLines.{AreLegal}

-- tests of several lists, one after another
legal_both : (profile : CsrProfile) (kinds others : List NumberKind) (numbers more : List ℕ)
    → length kinds ≡ length numbers → AreLegal profile kinds numbers → AreLegal profile others more
    → AreLegal profile (kinds ++ others) (numbers ++ more)
unfolding AreLegal
legal_both profile [] others [] more len one two = two
legal_both profile [] others (number ∷ numbers) more len one two = absurd (omega arith)
legal_both profile (kind ∷ kinds) others [] more len one two = absurd (omega arith)
legal_both profile (kind ∷ kinds) others (number ∷ numbers) more len one two =
    (one.0, legal_both profile kinds others numbers more (omega arith) one.1 two)

legal_registers : (profile : CsrProfile) (count : ℕ) (numbers : List ℕ)
    → AreLegal profile (replicate count Register) numbers
unfolding AreLegal is_legal
legal_registers profile zero numbers = tt
legal_registers profile (suc count) [] = tt
legal_registers profile (suc count) (number ∷ numbers) = (refl, legal_registers profile count numbers)

legal_stored : (profile : CsrProfile) (csrs : Csrs)
    → ((stored : StoredCsr) → IsLegalValue profile stored (at csrs stored))
    → (stored : List StoredCsr) → AreLegal profile (map Stored stored) (map (at csrs) stored)
unfolding AreLegal is_legal
legal_stored profile csrs legal [] = tt
legal_stored profile csrs legal (stored ∷ others) =
    (value_legal profile stored (at csrs stored) (legal stored), legal_stored profile csrs legal others)

-- numbers that are all below a bound
below_both : (bound : ℕ) (xs ys : List ℕ) → ((k : ℕ) → get_or xs k 0 < bound) → ((k : ℕ) → get_or ys k 0 < bound)
    → (k : ℕ) → get_or (xs ++ ys) k 0 < bound
below_both bound [] ys one two k = two k
below_both bound (x ∷ xs) ys one two zero = one 0
below_both bound (x ∷ xs) ys one two (suc k) = below_both bound xs ys (λ i. one (suc i)) two k

below_map : {X : Type 0} (f : X → ℕ) (bound : ℕ) (xs : List X) → 0 < bound → ((x : X) → f x < bound)
    → (k : ℕ) → get_or (map f xs) k 0 < bound
below_map f bound [] some each k = some
below_map f bound (x ∷ xs) some each zero = each x
below_map f bound (x ∷ xs) some each (suc k) = below_map f bound xs some each k

below_range : (f : ℕ → ℕ) (bound a n : ℕ) → 0 < bound → ((k : ℕ) → a ≤ k → k < a + n → f k < bound)
    → (k : ℕ) → get_or (map f (range_with_len a n)) k 0 < bound
below_range f bound a zero some each k = some
below_range f bound a (suc n) some each zero = each a (omega arith) (omega arith)
below_range f bound a (suc n) some each (suc k) =
    below_range f bound (a + 1) n some (λ i low high. each i (omega arith) (omega arith)) k

legal_addresses : (profile : CsrProfile) (f : ℕ → ℕ) (a n : ℕ)
    → ((k : ℕ) → a ≤ k → k < a + n → is_legal profile (EntryAddress k) (f k) ≡ true)
    → AreLegal profile (map EntryAddress (range_with_len a n)) (map f (range_with_len a n))
unfolding AreLegal
legal_addresses profile f a zero each = tt
legal_addresses profile f a (suc n) each = (
  each a (omega arith) (omega arith),
  legal_addresses profile f (a + 1) n (λ k low high. each k (omega arith) (omega arith)),
)

all_range : (test : ℕ → Bool) (f : ℕ → ℕ) (a n : ℕ) → ((k : ℕ) → a ≤ k → k < a + n → test (f k) ≡ true)
    → list_all test (map f (range_with_len a n)) ≡ true
all_range test f a zero each = refl
all_range test f a (suc n) each =
    and_both _ _ (each a (omega arith) (omega arith))
    (all_range test f (a + 1) n (λ k low high. each k (omega arith) (omega arith)))

none_range : (f : ℕ → ℕ) (a n : ℕ) → ((k : ℕ) → a ≤ k → f k ≡ 0) → map f (range_with_len a n) ≡ replicate n 0
none_range f a zero each = refl
none_range f a (suc n) each =
    rw (each a (omega arith)) (ap (λ (l : List ℕ). 0 ∷ l) (none_range f (a + 1) n (λ k low. each k (omega arith))))

-- registers of given values
unfoldable pub registers_from : (ℕ → ℕ) → Registers
registers_from r = record { values = map r (range_with_len 0 31) }

unfoldable pub csrs_from : CsrProfile → (ℕ → ℕ) → (ℕ → PmpEntry) → Csrs
csrs_from profile v e = record {
  values = map v (range_with_len 0 21);
  entries = map e (range_with_len 0 16);
  profile = profile;
}

-- eight configurations as one number
unfoldable packed : (ℕ → PmpEntry) → ℕ → List ℕ
packed e first = map (λ k. (e k).cfg) (range_with_len first 8)

unpacked : (e : ℕ → PmpEntry) (first : ℕ) → ((k : ℕ) → (e k).cfg < 256)
    → to_le_bytes w64 (from_le_bytes w64 (packed e first)) ≡ packed e first
unfolding packed
unpacked e first small =
    le_bytes_8 (packed e first) _ refl (below_map (λ k. (e k).cfg) 256 (range_with_len first 8)
    (omega arith) small) refl

-- what is known of the numbers of a hart
pub record HasBack (registers : Registers) (csrs : Csrs) : Type 0 where
  pub registers_back : registers_with (numbers_of registers csrs) ≡ registers
  pub csrs_back : csrs_with csrs.profile (numbers_of registers csrs) ≡ csrs
  pub len : length (numbers_of registers csrs) ≡ 70
  pub legal : AreLegal csrs.profile KINDS (numbers_of registers csrs)
  pub small : (k : ℕ) → get_or (numbers_of registers csrs) k 0 < 2 ^ 64

-- a hart's numbers, with the values one by one
pub record AreFit (profile : CsrProfile) (r v : ℕ → ℕ) (e : ℕ → PmpEntry) : Type 0 where
  pub registers : (k : ℕ) → r k < 2 ^ 64
  pub csrs : (k : ℕ) → v k < 2 ^ 64
  pub configurations : (k : ℕ) → (e k).cfg < 256
  pub stored : (stored : StoredCsr) → IsLegalValue profile stored (at (csrs_from profile v e) stored)
  pub entries : (k : ℕ) → k < 16 → IsLegalEntry profile (e k)
  pub missing : (k : ℕ) → is_entry profile k ≡ false → e k ≡ no_entry

-- the addresses of entries can be read: 0 of those that the core has not
address_fits : {profile : CsrProfile} {r v : ℕ → ℕ} {e : ℕ → PmpEntry} → AreFit profile r v e → (k : ℕ) → k < 16
    → is_legal profile (EntryAddress k) (e k).addr ≡ true
unfolding is_legal
address_fits {profile} {r} {v} {e} fit k below = by (is_entry profile k) refl
  where
    by : (there : Bool) → is_entry profile k ≡ there
        → (if there then is_legal_address profile (e k).addr else (e k).addr == 0) ≡ true
    by true is = (Decides-ltb _ _).1 (fit.entries k below).address
    by false is = ap (λ (entry : PmpEntry). entry.addr == 0) (fit.missing k is)

past_all : (first k count : ℕ) → first ≤ k → nat_lt first count ≡ false → nat_lt k count ≡ false
past_all first k count low none = grind (arith, nat_tests, none)

-- and so can their configurations
configurations_fit : {profile : CsrProfile} {r v : ℕ → ℕ} {e : ℕ → PmpEntry} → AreFit profile r v e → (first : ℕ)
    → ((k : ℕ) → first ≤ k → k < first + 8 → k < 16)
    → is_legal profile (Configurations first) (from_le_bytes w64 (packed e first)) ≡ true
unfolding is_legal packed
configurations_fit {profile} {r} {v} {e} fit first within = by (is_entry profile first) refl
  where
    by : (there : Bool) → is_entry profile first ≡ there
        → (if there then list_all is_legal_configuration (to_le_bytes w64 (from_le_bytes w64 (packed e first)))
        else from_le_bytes w64 (packed e first) == 0) ≡ true
    by true is =
        ap (list_all is_legal_configuration) (unpacked e first fit.configurations)
        ∙ (all_range is_legal_configuration (λ k. (e k).cfg) first 8
        (λ k low high. configuration_legal (e k).cfg (fit.entries k (within k low high)).configuration))
    by false is =
        ap (λ (bytes : List ℕ). from_le_bytes w64 bytes == 0)
        (none_range (λ k. (e k).cfg) first 8
        (λ k low. ap (λ (entry : PmpEntry). entry.cfg)
        (fit.missing k (past_all first k (entry_count_of profile.entry_count) low is))))

pub back_from : (profile : CsrProfile) (r v : ℕ → ℕ) (e : ℕ → PmpEntry) → AreFit profile r v e
    → HasBack (registers_from r) (csrs_from profile v e)
unfolding numbers_of csrs_with packed_pmpcfg_of at registers_from csrs_from packed AreLegal
back_from profile r v e fit = record {
  registers_back = refl;
  csrs_back = ap (λ (bytes : List ℕ). with_configurations bytes)
      (both_same (unpacked e 0 fit.configurations) (unpacked e 8 fit.configurations));
  len = refl;
  legal = legal_both profile (replicate 31 Register) (map Stored saved_csrs ++ protection)
      (map r (range_with_len 0 31)) rest refl (legal_registers profile 31 (map r (range_with_len 0 31)))
      (legal_both profile (map Stored saved_csrs) protection (map (at csrs) saved_csrs)
      (from_le_bytes w64 (packed e 0) ∷ from_le_bytes w64 (packed e 8) ∷ map (λ k. (e k).addr) (range_with_len 0 16))
      refl (legal_stored profile csrs fit.stored saved_csrs) protection_legal);
  small = below_both (2 ^ 64) (map r (range_with_len 0 31)) rest (below_map r (2 ^ 64) (range_with_len 0 31)
      (omega arith) fit.registers)
      (below_both (2 ^ 64) (map (at csrs) saved_csrs) (from_le_bytes w64 (packed e 0) ∷ from_le_bytes w64
      (packed e 8) ∷ map (λ k. (e k).addr) (range_with_len 0 16))
      (below_map (at csrs) (2 ^ 64) saved_csrs (omega arith) at_small)
      (λ k. last k));
}
  where
    csrs : Csrs
    csrs = csrs_from profile v e

    protection : List NumberKind
    protection = Configurations 0 ∷ Configurations 8 ∷ map EntryAddress (range_with_len 0 16)

    rest : List ℕ
    rest = map (at csrs) saved_csrs ++ (from_le_bytes w64 (packed e 0) ∷ from_le_bytes w64 (packed e 8) ∷ map (λ k.
        (e k).addr) (range_with_len 0 16))

    with_configurations : List ℕ → Csrs
    with_configurations bytes = record {
      values = map v (range_with_len 0 21);
      entries = map (λ k. record { cfg = get_or bytes k 0; addr = (e k).addr }) (range_with_len 0 16);
      profile = profile;
    }

    both_same : {a b c d : List ℕ} → a ≡ c → b ≡ d → a ++ b ≡ c ++ d
    both_same p q = rw (p, q) refl

    protection_legal : AreLegal profile protection (from_le_bytes w64 (packed e 0) ∷ from_le_bytes w64 (packed e 8)
        ∷ map (λ k. (e k).addr) (range_with_len 0 16))
    protection_legal = (
      configurations_fit fit 0 (λ k low high. omega arith),
      (
        configurations_fit fit 8 (λ k low high. omega arith),
        legal_addresses profile (λ k. (e k).addr) 0 16 (λ k low high. address_fits fit k high),
      ),
    )

    at_small : (stored : StoredCsr) → at csrs stored < 2 ^ 64
    at_small stored = below_map v (2 ^ 64) (range_with_len 0 21) (omega arith) fit.csrs (stored_index_of stored)

    packed_small : (first : ℕ) → from_le_bytes w64 (packed e first) < 2 ^ 64
    packed_small first =
        let c = fit.configurations in
        omega (
          arith,
          c first,
          c (first + 1),
          c (first + 1 + 1),
          c (first + 1 + 1 + 1),
          c (first + 1 + 1 + 1 + 1),
          c (first + 1 + 1 + 1 + 1 + 1),
          c (first + 1 + 1 + 1 + 1 + 1 + 1),
          c (first + 1 + 1 + 1 + 1 + 1 + 1 + 1),
        )

    address_small : {n : ℕ} → n < 2 ^ entry_bits_of profile → n < 2 ^ 64
    address_small {n} below =
        let few : min profile.entry_bits 54 < 64 = omega arith in
        omega (arith, below, pow_below (min profile.entry_bits 54) 64 few)

    last : (k : ℕ) → get_or (from_le_bytes w64 (packed e 0) ∷ from_le_bytes w64 (packed e 8) ∷ map (λ k. (e k).addr)
        (range_with_len 0 16)) k 0 < 2 ^ 64
    last zero = packed_small 0
    last (suc zero) = packed_small 8
    last (suc (suc k)) =
        below_range (λ k. (e k).addr) (2 ^ 64) 0 16 (omega arith)
        (λ k low high. address_small (fit.entries k high).address) k

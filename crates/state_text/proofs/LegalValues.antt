-- What the tests say of values: each register is legal.
use Rattle.std.proofs.Common.{◌≡◌, ℕ, zero, suc, ◌+◌, ◌-◌, ◌<◌, Bool, true, false, List, [], ◌∷◌, ◌++◌}
use Rattle.std.proofs.Common.{length, get_or, map, drop, refl, sym, ap, subst, ◌∙◌, inl, inr, if◌then◌else◌}
use Rattle.std.proofs.Common.{arith}
use Rattle.std.specs.Prelude.{◌&&◌, ◌==◌, ◌^◌, nat_lt, replicate, slice_index}
use Rattle.std.specs.Int.{w64, to_le_bytes}
use Rattle.std.specs.List.{list_all, range_with_len}
use Rattle.std.proofs.lemmas.Bool.{cases_lt}
use Rattle.std.proofs.lemmas.Bool.Decides.{Decides-eqb, Decides-ltb, nat_tests}
use Rattle.std.proofs.lemmas.Nat.{pow_pos}
use Rattle.std.proofs.lemmas.List.FromFn.{get_or-map-range_with_len}
use Rattle.std.proofs.Math.ListN.{get_or-append, get_or-eq_default}
use Rattle.std.proofs.lemmas.List.{get_or-append_right, get_or-drop, get_or-map}
use Rattle.hart_words.specs.declared.privilege.PmpEntry.{PmpEntry}
use Rattle.csr_file.specs.Legal.{is_legal_address, is_legal_configuration}
use Rattle.csr_file.specs.Table.{stored_index_of}
use Rattle.csr_file.proofs.Places.{at_list, inside, of_each}
use Rattle.csr_file.proofs.LegalTests.{both, legal_configuration, legal_value}
use Rattle.csr_file.specs.declared.profile.CsrProfile.{CsrProfile}
use Rattle.csr_file.specs.declared.profile.EntryCount.{EntryCount}
use Rattle.csr_file.specs.declared.profile.EntryCount.TheVariants.{Zero, Eight, Sixteen}
use Rattle.csr_file.specs.declared.stored_csr.StoredCsr.{StoredCsr}
use Rattle.csr_file.specs.declared.stored_csr.StoredCsr.TheVariants.{Mstatus}
use Rattle.csr_file.specs.Legal.{IsLegalValue, IsLegalEntry, IsLegal}
use Rattle.csr_file.specs.Profiles.{entry_bits_of, entry_count_of}
use Rattle.csr_file.specs.Registers.{at, no_entry}
use Rattle.state_text.specs.declared.numbers.NumberKind.{NumberKind}
use Rattle.state_text.specs.declared.numbers.NumberKind.TheVariants.{Register, Stored, EntryAddress}
use Rattle.state_text.specs.declared.numbers.TheConstants.{KINDS}
use Rattle.state_text.specs.Numbers.{configurations_in, pmp_entry_in, csrs_with, stored_place, stored_places}
use Rattle.state_text.specs.Values.{is_entry, is_legal}
use Rattle.state_text.proofs.NumberLines.{AreLegal, legal_at}

pub all_at : (test : ℕ → Bool) (xs : List ℕ) (k : ℕ) → list_all test xs ≡ true → k < length xs
    → test (get_or xs k 0) ≡ true
all_at test [] k h within = absurd (omega arith)
all_at test (x ∷ xs) zero h within = (both (test x) _ h).0
all_at test (x ∷ xs) (suc k) h within = all_at test xs k (both (test x) _ h).1 (omega arith)

both_all : (test : ℕ → Bool) (xs ys : List ℕ) → list_all test xs ≡ true → list_all test ys ≡ true
    → list_all test (xs ++ ys) ≡ true
both_all test [] ys p q = q
both_all test (x ∷ xs) ys p q = by (test x) (both_all test xs ys) p
  where
    by : (first : Bool) → (list_all test xs ≡ true → list_all test ys ≡ true → list_all test (xs ++ ys) ≡ true)
        → (first && list_all test xs) ≡ true → (first && list_all test (xs ++ ys)) ≡ true
    by true rest p = rest p q
    by false rest p = absurd cc

-- ---- entries of physical memory protection

-- the entry of that number that has the numbers of a text
entry_at : (numbers : List ℕ) (k : ℕ) (d : PmpEntry) → k < 16
    → get_or (map (pmp_entry_in numbers) (range_with_len 0 16)) k d ≡ pmp_entry_in numbers k
entry_at numbers k d within = get_or-map-range_with_len (pmp_entry_in numbers) 0 16 k k d within (omega arith)

-- what each number after the configurations is
address_kind : (k : ℕ) → k < 16 → get_or KINDS (54 + k) Register ≡ EntryAddress k
address_kind k within =
    let all : drop 54 KINDS ≡ map EntryAddress (range_with_len 0 16) = refl in
    sym (get_or-drop 54 KINDS k Register) ∙ ap (λ (kinds : List NumberKind). get_or kinds k Register) all
    ∙ get_or-map-range_with_len EntryAddress 0 16 k k Register within (omega arith)

-- eight entries are there or not together
first_none : (count : EntryCount) (k : ℕ) → k < 8 → nat_lt k (entry_count_of count) ≡ false
    → nat_lt 0 (entry_count_of count) ≡ false
first_none Zero k below none = refl
first_none Eight k below none = absurd (grind (arith, nat_tests, none))
first_none Sixteen k below none = absurd (grind (arith, nat_tests, none))

second_none : (count : EntryCount) (k : ℕ) → k < 16 → nat_lt k (entry_count_of count) ≡ false
    → nat_lt 8 (entry_count_of count) ≡ false
second_none Zero k below none = refl
second_none Eight k below none = refl
second_none Sixteen k below none = absurd (grind (arith, nat_tests, none))

-- a number of entries that are not there is 0
none_there : (there test : Bool) (value : ℕ) → there ≡ false → (if there then test else value == 0) ≡ true → value ≡ 0
none_there true test value is h = absurd cc
none_there false test value is h = (Decides-eqb value 0).0 h

no_byte : (k : ℕ) → get_or (to_le_bytes w64 0) k 0 ≡ 0
no_byte k = zeros 8 k
  where
    zeros : (n k : ℕ) → ◌≡◌ {A = ℕ} (get_or (replicate n 0) k 0) 0
    zeros zero k = refl
    zeros (suc n) zero = refl
    zeros (suc n) (suc k) = zeros n k

bytes_legal : (there : Bool) (value : ℕ)
    → (if there then list_all is_legal_configuration (to_le_bytes w64 value) else value == 0) ≡ true
    → list_all is_legal_configuration (to_le_bytes w64 value) ≡ true
bytes_legal true value h = h
bytes_legal false value h =
    let none : value ≡ 0 = (Decides-eqb value 0).0 h in
    rw none refl

address_legal : (profile : CsrProfile) (there : Bool) (value : ℕ)
    → (if there then is_legal_address profile value else value == 0) ≡ true → value < 2 ^ entry_bits_of profile
address_legal profile true value h = (Decides-ltb value (2 ^ entry_bits_of profile)).0 h
address_legal profile false value h =
    let none : value ≡ 0 = (Decides-eqb value 0).0 h in
    rw none (pow_pos (entry_bits_of profile))

-- ---- stored registers

-- each has the number at its place, where the text has that register
number_at : (numbers : List ℕ) (stored : StoredCsr)
    → slice_index (map (slice_index numbers) stored_places) (stored_index_of stored)
    ≡ slice_index numbers (stored_place stored)
number_at numbers stored =
    get_or-map (slice_index numbers) stored_places (stored_index_of stored) 0 0 (inside stored)
    ∙ ap (slice_index numbers) (at_list stored_place stored)

kind_at : (stored : StoredCsr) → get_or KINDS (stored_place stored) Register ≡ Stored stored
kind_at Mstatus = refl
kind_at _ = refl

place_below : (stored : StoredCsr) → stored_place stored < 70
place_below stored = (Decides-ltb _ _).0 (of_each (λ one. nat_lt (stored_place one) 70) refl stored)

-- the registers that have the numbers of a text are legal
pub legal_csrs : (profile : CsrProfile) (numbers : List ℕ) → length numbers ≡ 70 → AreLegal profile KINDS numbers
    → IsLegal (csrs_with profile numbers)
unfolding csrs_with at is_legal
legal_csrs profile numbers len legal = record {
  whole = refl;
  values = values;
  entries = λ k d within. subst (IsLegalEntry profile) (sym (entry_at numbers k d within)) (entry k within);
  missing = λ k none. elim (cases_lt k 16) [
    | inl within ↦
        entry_at numbers k no_entry within
        ∙ same_entry (no_configuration k within none) (no_address k within none)
    | inr past ↦ get_or-eq_default (map (pmp_entry_in numbers) (range_with_len 0 16)) no_entry past
  ];
}
  where
    here : (place : ℕ) → place < 70 → is_legal profile (get_or KINDS place Register) (get_or numbers place 0) ≡ true
    here place within = legal_at profile KINDS numbers place legal within (omega arith)

    values : (stored : StoredCsr) → IsLegalValue profile stored (at (csrs_with profile numbers) stored)
    values stored =
        subst (IsLegalValue profile stored) (sym (number_at numbers stored))
        (legal_value profile stored (get_or numbers (stored_place stored) 0)
        (subst (λ kind. is_legal profile kind (get_or numbers (stored_place stored) 0) ≡ true) (kind_at stored)
        (here (stored_place stored) (place_below stored))))

    low : (if is_entry profile 0 then list_all is_legal_configuration (to_le_bytes w64 (get_or numbers 52 0))
        else get_or numbers 52 0 == 0) ≡ true
    low = here 52 (omega arith)

    high : (if is_entry profile 8 then list_all is_legal_configuration (to_le_bytes w64 (get_or numbers 53 0))
        else get_or numbers 53 0 == 0) ≡ true
    high = here 53 (omega arith)

    configurations : list_all is_legal_configuration (configurations_in numbers) ≡ true
    configurations =
        both_all is_legal_configuration (to_le_bytes w64 (get_or numbers 52 0)) (to_le_bytes w64 (get_or numbers 53 0))
        (bytes_legal (is_entry profile 0) (get_or numbers 52 0) low)
        (bytes_legal (is_entry profile 8) (get_or numbers 53 0) high)

    address : (k : ℕ) → k < 16 → (if is_entry profile k then is_legal_address profile (get_or numbers (54 + k) 0)
        else get_or numbers (54 + k) 0 == 0) ≡ true
    address k within =
        ap (λ (kind : NumberKind). is_legal profile kind (get_or numbers (54 + k) 0)) (sym (address_kind k within))
        ∙ here (54 + k) (omega (arith, within))

    entry : (k : ℕ) → k < 16 → IsLegalEntry profile (pmp_entry_in numbers k)
    entry k within = record {
      configuration = legal_configuration (get_or (configurations_in numbers) k 0)
          (all_at is_legal_configuration (configurations_in numbers) k configurations within);
      address = address_legal profile (is_entry profile k) (get_or numbers (54 + k) 0) (address k within);
    }

    no_configuration : (k : ℕ) → k < 16 → is_entry profile k ≡ false → get_or (configurations_in numbers) k 0 ≡ 0
    no_configuration k within none = elim (cases_lt k 8) [
      | inl below ↦
          let none_low : get_or numbers 52 0 ≡ 0 =
          none_there (is_entry profile 0) _ _ (first_none profile.entry_count k below none) low in
          get_or-append (to_le_bytes w64 (get_or numbers 52 0)) (to_le_bytes w64 (get_or numbers 53 0)) 0 k below
          ∙ ap (λ n. get_or (to_le_bytes w64 n) k 0) none_low ∙ no_byte k
      | inr past ↦
          let none_high : get_or numbers 53 0 ≡ 0 =
          none_there (is_entry profile 8) _ _ (second_none profile.entry_count k within none) high in
          get_or-append_right (to_le_bytes w64 (get_or numbers 52 0)) (to_le_bytes w64 (get_or numbers 53 0)) 8 k 0
          refl past
          ∙ ap (λ n. get_or (to_le_bytes w64 n) (k - 8) 0) none_high ∙ no_byte (k - 8)
    ]

    no_address : (k : ℕ) → k < 16 → is_entry profile k ≡ false → get_or numbers (54 + k) 0 ≡ 0
    no_address k within none = none_there (is_entry profile k) _ _ none (address k within)

    same_entry : {c a : ℕ} → c ≡ 0 → a ≡ 0 → ◌≡◌ {A = PmpEntry} (record { cfg = c; addr = a }) no_entry
    same_entry p q = rw (p, q) refl

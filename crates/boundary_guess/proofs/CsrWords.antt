-- Control and status registers hold words, and what accesses to them give are words.
use Rattle.std.proofs.Common.{◌≡◌, inl, inr, ℕ, ◌+◌, ◌-◌, ◌*◌, ◌/◌, ◌%◌, ◌^◌, ◌<◌, ◌≤◌, ◌==◌, Bool, true, false, ◌&&◌}
use Rattle.std.proofs.Common.{nat_lt, nat_le, bit_and, List, length, map, get_or, if◌then◌else◌, sym, subst, arith}
use Rattle.std.proofs.Common.{bit_or, lit<, not}
use Rattle.std.specs.Prelude.{◌||◌, slice_index, All}
use Rattle.std.specs.List.{range_with_len}
use Rattle.std.specs.Int.{from_le_bytes, w64}
use Rattle.std.proofs.lemmas.Bool.{cases_eq, cases_Bool}
use Rattle.std.proofs.lemmas.Bool.Decides.{nat_tests}
use Rattle.std.proofs.lemmas.Nat.{and_le_l, and_le_r, or_lt, pow_below}
use Rattle.std.proofs.lemmas.List.Elements.{All-map, All-set}
use Rattle.std.proofs.Math.ListN.{get_or-eq_default}
use Rattle.hart_words.specs.Words.{bit_field}
use Rattle.csr_table.specs.declared.registers.Csr.{Csr}
use Rattle.csr_table.specs.declared.registers.Csr.TheVariants as csr
use Rattle.csr_file.specs.declared.csrs.Csrs.{Csrs}
use Rattle.csr_file.specs.declared.csr_kind.CsrKind.{CsrKind}
use Rattle.csr_file.specs.declared.csr_kind.CsrKind.TheVariants.{Stored, Status, Pending, SupervisorStatus}
use Rattle.csr_file.specs.declared.csr_kind.CsrKind.TheVariants.{SupervisorEnables, SupervisorPending, Translation}
use Rattle.csr_file.specs.declared.csr_kind.CsrKind.TheVariants.{LowConfigurations, HighConfigurations, EntryAddress}
use Rattle.csr_file.specs.declared.csr_kind.CsrKind.TheVariants.{Constant, ImplementationDefined, Counter}
use Rattle.csr_file.specs.declared.stored_csr.StoredCsr.{StoredCsr}
use Rattle.csr_file.specs.declared.stored_csr.StoredCsr.TheVariants.{Mstatus, Mie, Mip, Satp}
use Rattle.csr_file.specs.declared.fields.TheConstants.{FS, PMP_LOCK, SD, VS}
use Rattle.csr_file.specs.Fields.{all_bits, bit_is_set, is_supported_mode, masked_update, satp_mode_of}
use Rattle.csr_file.specs.Legal.{IsLegal}
use Rattle.csr_file.specs.Registers.{at, no_entry, with_at}
use Rattle.csr_file.specs.declared.profile.CsrProfile.{CsrProfile}
use Rattle.csr_file.specs.Profiles.{added_lines_of, entry_bits_of, is_from_row, kind_in, line_bits_of}
use Rattle.csr_file.specs.Profiles.{presence_of}
use Rattle.csr_file.specs.Table.{addable_lines, csr_kind_of, line_bits, stored_index_of}
use Rattle.csr_file.specs.Values.{address_is_locked, configuration_after, configuration_of, configuration_after_write}
use Rattle.csr_file.specs.Values.{configurations_write_of, csr_base_of, csr_value_of, csr_write_of, entry_address_of}
use Rattle.csr_file.specs.Values.{entry_address_write_of, entry_after_write, packed_pmpcfg_of, pending_interrupts_of}
use Rattle.csr_file.specs.Values.{has_entry, status_shown, status_write_of, stored_write_of, translation_write_of, with_entry_address}
use Rattle.csr_file.proofs.Places.{at_other, at_same, same_index}

-- each register holds a word, and each configuration of an entry is a byte
pub record HasWords (csrs : Csrs) : Type 0 where
  pub values : (stored : StoredCsr) → at csrs stored < 2 ^ 64
  pub configurations : All (λ entry. entry.cfg < 256) csrs.entries

pub with_word : (csrs : Csrs) (stored : StoredCsr) (value : ℕ) → IsLegal csrs → HasWords csrs → value < 2 ^ 64
    → HasWords (with_at csrs stored value)
unfolding with_at
with_word csrs stored value legal words small = record {
  values = λ other. elim (cases_eq (stored_index_of other) (stored_index_of stored)) [
    | inl same ↦ let e : other ≡ stored = same_index other stored same in
        let P : ℕ → Type 0 = λ v. v < 2 ^ 64 in
        subst (λ s. at (with_at csrs stored value) s < 2 ^ 64) (sym e)
        (subst P (sym (at_same csrs stored value legal.whole)) small)
    | inr apart ↦
        let P : ℕ → Type 0 = λ v. v < 2 ^ 64 in
        subst P (sym (at_other csrs stored other value apart)) (words.values other)
  ];
  configurations = words.configurations;
}

and_first : (a b : ℕ) → a < 2 ^ 64 → bit_and a b < 2 ^ 64
and_first a b small = let less = and_le_l a b in omega (arith, less, small)

and_second : (a b : ℕ) → b < 2 ^ 64 → bit_and a b < 2 ^ 64
and_second a b small = let less = and_le_r a b in omega (arith, less, small)

pub merged_word : (mask old value : ℕ) → old < 2 ^ 64 → value < 2 ^ 64 → masked_update mask old value < 2 ^ 64
unfolding masked_update
merged_word mask old value before after =
    or_lt 64 _ _ (and_first old (all_bits - mask) before) (and_first value mask after)

-- ---- configurations

any_at : {X : Type 0} (P : X → Type 0) (xs : List X) (i : ℕ) (d : X) → All P xs → P d → P (get_or xs i d)
any_at P xs i d all default = elim (cases_Bool (nat_lt i (length xs))) [
  | inl inside ↦ all i d (grind (arith, nat_tests, inside))
  | inr outside ↦
      let past : length xs ≤ i = grind (arith, nat_tests, outside) in
      subst P (sym (get_or-eq_default xs d past)) default
]

configuration_byte : (csrs : Csrs) (number : ℕ) → HasWords csrs → configuration_of csrs number < 256
configuration_byte csrs number words =
    any_at (λ entry. entry.cfg < 256) csrs.entries number no_entry words.configurations (lit< tt)

after_by : (kept : Bool) (old byte : ℕ) → old < 256 → (if kept then old else byte % 32 + byte / 128 % 2 * 128) < 256
after_by true old byte few = few
after_by false old byte few = omega arith

after_byte : (old byte : ℕ) → old < 256 → configuration_after old byte < 256
unfolding configuration_after
after_byte old byte few = after_by (bit_is_set old PMP_LOCK || (byte % 4 == 2)) old byte few

written_by : (inside : Bool) (old byte : ℕ) → old < 256 → (if inside then configuration_after old byte else old) < 256
written_by true old byte few = after_byte old byte few
written_by false old byte few = few

written_byte : (csrs : Csrs) (first value number : ℕ) → HasWords csrs
    → (entry_after_write csrs first value number).cfg < 256
unfolding configuration_after_write
written_byte csrs first value number words =
    written_by (nat_le first number && nat_lt number (first + 8) && has_entry csrs number) (configuration_of csrs number)
    (bit_field (8 * (number - first)) 8 value) (configuration_byte csrs number words)

configurations_words : (csrs : Csrs) (first value : ℕ) → HasWords csrs
    → HasWords (configurations_write_of csrs first value)
unfolding configurations_write_of at
configurations_words csrs first value words = record {
  values = words.values;
  configurations =
      All-map (λ entry. entry.cfg < 256) (entry_after_write csrs first value) (range_with_len 0 16)
      (λ k d inside. written_byte csrs first value (get_or (range_with_len 0 16) k d) words);
}

address_by : (free : Bool) (csrs : Csrs) (number value : ℕ) → HasWords csrs
    → HasWords (if free then with_entry_address csrs number value else csrs)
unfolding at
address_by false csrs number value words = words
address_by true csrs number value words = record {
  values = words.values;
  configurations =
      All-set (λ entry. entry.cfg < 256) csrs.entries number _ (configuration_byte csrs number words)
      words.configurations;
}

address_words : (csrs : Csrs) (number value : ℕ) → HasWords csrs → HasWords (entry_address_write_of csrs number value)
unfolding entry_address_write_of
address_words csrs number value words =
    address_by (has_entry csrs (number % 16) && not (address_is_locked csrs (number % 16))) csrs (number % 16) value words

-- ---- writes

translation_by : (supported : Bool) (csrs : Csrs) (value : ℕ) → IsLegal csrs → HasWords csrs → value < 2 ^ 64
    → HasWords (if supported then stored_write_of csrs Satp value else csrs)
unfolding stored_write_of
translation_by true csrs value legal words small =
    with_word csrs Satp _ legal words (merged_word _ (at csrs Satp) value (words.values Satp) small)
translation_by false csrs value legal words small = words

pub write_words : (csrs : Csrs) (kind : CsrKind) (value : ℕ) → IsLegal csrs → HasWords csrs → value < 2 ^ 64
    → HasWords (csr_write_of csrs kind value)
unfolding csr_write_of stored_write_of status_write_of translation_write_of
write_words csrs (Stored stored) value legal words small =
    with_word csrs stored _ legal words (merged_word _ (at csrs stored) value (words.values stored) small)
write_words csrs Status value legal words small =
    with_word csrs Mstatus _ legal words (merged_word _ (at csrs Mstatus) value (words.values Mstatus) small)
write_words csrs Pending value legal words small =
    with_word csrs Mip _ legal words (merged_word _ (at csrs Mip) value (words.values Mip) small)
write_words csrs SupervisorStatus value legal words small =
    with_word csrs Mstatus _ legal words (merged_word _ (at csrs Mstatus) value (words.values Mstatus) small)
write_words csrs SupervisorEnables value legal words small =
    with_word csrs Mie _ legal words (merged_word _ (at csrs Mie) value (words.values Mie) small)
write_words csrs SupervisorPending value legal words small =
    with_word csrs Mip _ legal words (merged_word _ (at csrs Mip) value (words.values Mip) small)
write_words csrs Translation value legal words small =
    translation_by (is_supported_mode (satp_mode_of value)) csrs value legal words small
write_words csrs LowConfigurations value legal words small = configurations_words csrs 0 value words
write_words csrs HighConfigurations value legal words small = configurations_words csrs 8 value words
write_words csrs (EntryAddress number) value legal words small = address_words csrs number value words
write_words csrs (Constant number) value legal words small = words
write_words csrs ImplementationDefined value legal words small = words
write_words csrs (Counter bit) value legal words small = words

-- ---- reads

eight_bytes : (byte : ℕ → ℕ) → ((i : ℕ) → byte i < 256)
    → byte 0 + 2 ^ 8 * byte 1 + 2 ^ 16 * byte 2 + 2 ^ 24 * byte 3 + 2 ^ 32 * byte 4 + 2 ^ 40 * byte 5 + 2 ^ 48 * byte 6
    + 2 ^ 56 * byte 7 < 2 ^ 64
eight_bytes byte below =
    omega (arith, below 0, below 1, below 2, below 3, below 4, below 5, below 6, below 7)

packed_word : (bytes : List ℕ) → ((i : ℕ) → slice_index bytes i < 256) → from_le_bytes w64 bytes < 2 ^ 64
packed_word bytes below = let all = eight_bytes (slice_index bytes) below in omega (arith, all)

configurations_word : (csrs : Csrs) (first : ℕ) → HasWords csrs → packed_pmpcfg_of csrs first < 2 ^ 64
unfolding packed_pmpcfg_of
configurations_word csrs first words =
    packed_word (map (configuration_of csrs) (range_with_len first 8))
    (λ i. any_at (λ byte. byte < 256) (map (configuration_of csrs) (range_with_len first 8)) i 0
    (All-map (λ byte. byte < 256) (configuration_of csrs) (range_with_len first 8)
    (λ k d inside. configuration_byte csrs (get_or (range_with_len first 8) k d) words)) (lit< tt))

address_word : (csrs : Csrs) (number : ℕ) → IsLegal csrs → entry_address_of csrs number < 2 ^ 64
address_word csrs number legal =
    any_at (λ entry. entry.addr < 2 ^ 64) csrs.entries (number % 16) no_entry
    (λ k d inside. let few = (legal.entries k d inside).address in
    omega (arith, few, pow_below (entry_bits_of csrs.profile) 64 (omega arith))) (lit< tt)

-- the value of a constant register
abbrev FitsKind : CsrKind → Type 0
FitsKind (Constant number) = number < 2 ^ 64
FitsKind _ = Unit {0}

table_fits : (csr : Csr) → FitsKind (csr_kind_of csr)
unfolding csr_kind_of
table_fits csr.Misa = lit< tt
table_fits (csr.Mhpmevent number) = lit< tt
table_fits _ = tt

fits_by : (csr : Csr) (from_row : Bool) → FitsKind (if from_row then ImplementationDefined else csr_kind_of csr)
fits_by csr true = tt
fits_by csr false = table_fits csr

pub kind_fits : (profile : CsrProfile) (csr : Csr) → FitsKind (kind_in profile csr)
unfolding kind_in
kind_fits profile csr = fits_by csr (is_from_row (presence_of profile csr))

pending_word : (csrs : Csrs) (lines : ℕ) → HasWords csrs → pending_interrupts_of csrs lines < 2 ^ 64
unfolding pending_interrupts_of
pending_word csrs lines words =
    let added = and_second csrs.profile.lines addable_lines (lit< tt) in
    or_lt 64 _ _ (words.values Mip)
    (and_second lines (line_bits_of csrs.profile) (or_lt 64 line_bits (added_lines_of csrs.profile) (lit< tt) added))

-- mstatus as it reads
status_word : (status : ℕ) → status < 2 ^ 64 → status_shown status < 2 ^ 64
status_word status small = by ((status / 2 ^ FS % 4 == 3) || (status / 2 ^ VS % 4 == 3))
  where
    by : (dirty : Bool) → (if dirty then bit_or status (2 ^ SD) else status) < 2 ^ 64
    by true = or_lt 64 status (2 ^ SD) small (lit< tt)
    by false = small

pub value_word : (csrs : Csrs) (kind : CsrKind) (lines : ℕ) → IsLegal csrs → HasWords csrs → FitsKind kind
    → csr_value_of csrs kind lines < 2 ^ 64
unfolding csr_value_of
value_word csrs (Stored stored) lines legal words fits = words.values stored
value_word csrs Status lines legal words fits = status_word (at csrs Mstatus) (words.values Mstatus)
value_word csrs Pending lines legal words fits = pending_word csrs lines words
value_word csrs SupervisorStatus lines legal words fits =
    and_first (status_shown (at csrs Mstatus)) _ (status_word (at csrs Mstatus) (words.values Mstatus))
value_word csrs SupervisorEnables lines legal words fits = and_first (at csrs Mie) _ (words.values Mie)
value_word csrs SupervisorPending lines legal words fits = and_first _ _ (pending_word csrs lines words)
value_word csrs Translation lines legal words fits = words.values Satp
value_word csrs LowConfigurations lines legal words fits = configurations_word csrs 0 words
value_word csrs HighConfigurations lines legal words fits = configurations_word csrs 8 words
value_word csrs (EntryAddress number) lines legal words fits = address_word csrs number legal
value_word csrs (Constant number) lines legal words fits = fits
value_word csrs ImplementationDefined lines legal words fits = lit< tt
value_word csrs (Counter bit) lines legal words fits = lit< tt

pub base_word : (csrs : Csrs) (kind : CsrKind) (lines : ℕ) → IsLegal csrs → HasWords csrs → FitsKind kind
    → csr_base_of csrs kind lines < 2 ^ 64
unfolding csr_base_of
base_word csrs Pending lines legal words fits = words.values Mip
base_word csrs (Stored stored) lines legal words fits = value_word csrs (Stored stored) lines legal words fits
base_word csrs Status lines legal words fits = value_word csrs Status lines legal words fits
base_word csrs SupervisorStatus lines legal words fits = value_word csrs SupervisorStatus lines legal words fits
base_word csrs SupervisorEnables lines legal words fits = value_word csrs SupervisorEnables lines legal words fits
base_word csrs SupervisorPending lines legal words fits = value_word csrs SupervisorPending lines legal words fits
base_word csrs Translation lines legal words fits = value_word csrs Translation lines legal words fits
base_word csrs LowConfigurations lines legal words fits = value_word csrs LowConfigurations lines legal words fits
base_word csrs HighConfigurations lines legal words fits = value_word csrs HighConfigurations lines legal words fits
base_word csrs (EntryAddress number) lines legal words fits =
    value_word csrs (EntryAddress number) lines legal words fits
base_word csrs (Constant number) lines legal words fits = value_word csrs (Constant number) lines legal words fits
base_word csrs ImplementationDefined lines legal words fits =
    value_word csrs ImplementationDefined lines legal words fits
base_word csrs (Counter bit) lines legal words fits = value_word csrs (Counter bit) lines legal words fits

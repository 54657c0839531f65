-- The registers of protection are M's, by their addresses.
use Rattle.std.proofs.Common.{◌≡◌, ℕ, ◌/◌, ◌%◌, ◌^◌, ◌≤◌, Bool, true, false, not, cond, ◌&&◌, ◌||◌, List, [], ◌∷◌}
use Rattle.std.proofs.Common.{Option, Some, None, refl, sym, ap, ◌∙◌, nat_le, arith, if◌then◌else◌}
use Rattle.std.specs.List.{find, list_all}
use Rattle.std.specs.Option.{option_map}
use Rattle.std.proofs.lemmas.Bool.{and_parts}
use Rattle.std.proofs.lemmas.Bool.Decides.{nat_tests}
use Rattle.hart_words.specs.declared.privilege.Mode.{Mode}
use Rattle.hart_words.specs.declared.privilege.Mode.TheVariants.{User, Supervisor, Machine}
use Rattle.hart_words.specs.Privilege.{mode_number}
use Rattle.csr_table.specs.declared.registers.Csr.{Csr}
use Rattle.csr_table.specs.declared.registers.CsrRow.{CsrRow}
use Rattle.csr_table.specs.Addresses.{CsrRange, lists, csr_ranges, csr_in, csr_row_with, csr_row_of}
use Rattle.csr_file.specs.declared.csrs.Csrs.{Csrs}
use Rattle.csr_file.specs.declared.csr_kind.CsrKind.TheVariants.{ImplementationDefined}
use Rattle.csr_file.specs.declared.profile.CsrProfile.{CsrProfile}
use Rattle.csr_file.specs.Profiles.{is_absent, is_from_row, kind_in, presence_of}
use Rattle.csr_file.specs.Table.{csr_kind_of}
use Rattle.csr_file.specs.Access.{may_read, may_write, is_enabled}
use Rattle.csr_file.specs.Laws.{is_protective}

abbrev protects : Csr → Bool
protects csr = is_protective (csr_kind_of csr)

-- a range is M's, by bits 9:8 of its addresses, or none of its registers is of protection
abbrev is_apt : ℕ → CsrRange → Bool
is_apt address range =
    (nat_le 0x300 range.first && nat_le range.last 0x3FF) || not (protects (range.names address))

all_apt : (address : ℕ) → list_all (is_apt address) csr_ranges ≡ true
unfolding csr_kind_of
all_apt address = refl

-- the range that lists an address
record Lists (address : ℕ) (range : CsrRange) : Type 0 where
  pub listed : lists range address ≡ true
  pub apt : is_apt address range ≡ true

found : (address : ℕ) (part : List CsrRange) (range : CsrRange) → list_all (is_apt address) part ≡ true
    → find (λ r. lists r address) part ≡ Some range → Lists address range
found address [] range apt is = cc
found address (this ∷ rest) range apt is =
    let parts = and_parts (is_apt address this) (list_all (is_apt address) rest) apt in
    by (lists this address) refl parts.0 (found address rest range parts.1) is
  where
    by : (b : Bool) → lists this address ≡ b → is_apt address this ≡ true
        → (find (λ r. lists r address) rest ≡ Some range → Lists address range)
        → cond b (Some this) (find (λ r. lists r address) rest) ≡ Some range → Lists address range
    by true here fits later at =
        let same : this ≡ range = cc in
        record {
          listed = ap (λ r. lists r address) (sym same) ∙ here;
          apt = ap (λ r. is_apt address r) (sym same) ∙ fits;
        }
    by false here fits later at = later at

third : (first last address : ℕ) → 0x300 ≤ first → last ≤ 0x3FF → first ≤ address → address ≤ last
    → address / 2 ^ 8 % 4 ≡ 3
third first last address low high from to = omega arith

by_range : (address : ℕ) (range : CsrRange) (ours : Bool) → Lists address range
    → (nat_le 0x300 range.first && nat_le range.last 0x3FF) ≡ ours → protects (range.names address) ≡ true
    → address / 2 ^ 8 % 4 ≡ 3
by_range address range true has is protective =
    let ends = and_parts (nat_le 0x300 range.first) (nat_le range.last 0x3FF) is in
    let here = and_parts (nat_le range.first address) (nat_le address range.last) has.listed in
    third range.first range.last address (grind (arith, nat_tests, ends.0)) (grind (arith, nat_tests, ends.1))
    (grind (arith, nat_tests, here.0)) (grind (arith, nat_tests, here.1))
by_range address range false has is protective =
    other (nat_le 0x300 range.first && nat_le range.last 0x3FF) (protects (range.names address)) has.apt is protective
  where
    other : (a b : Bool) → (a || not b) ≡ true → a ≡ false → b ≡ true → address / 2 ^ 8 % 4 ≡ 3
    other true b h off on = cc
    other false true h off on = cc
    other false false h off on = cc

by_found : (address : ℕ) (range : Option CsrRange) (row : CsrRow) → find (λ r. lists r address) csr_ranges ≡ range
    → option_map (csr_row_with address) (option_map (λ r. r.names address) range) ≡ Some row → protects row.csr ≡ true
    → row.least_mode ≡ 3
by_found address None row is has protective = cc
by_found address (Some range) row is has protective =
    let same : csr_row_with address (range.names address) ≡ row = cc in
    let level : address / 2 ^ 8 % 4 ≡ 3 =
    by_range address range (nat_le 0x300 range.first && nat_le range.last 0x3FF)
    (found address csr_ranges range (all_apt address) is) refl (ap (λ r. protects r.csr) same ∙ protective) in
    ap (λ r. r.least_mode) (sym same) ∙ level

protective_row : (address : ℕ) (row : CsrRow) → csr_row_of address ≡ Some row → protects row.csr ≡ true
    → row.least_mode ≡ 3
unfolding csr_row_of csr_in
protective_row address row is protective =
    by_found address (find (λ r. lists r address) csr_ranges) row refl is protective

machine_alone : (mode : Mode) → 3 ≤ mode_number mode → mode ≡ Machine
machine_alone Machine high = refl
machine_alone Supervisor high = absurd (omega (arith, high))
machine_alone User high = absurd (omega (arith, high))

-- a register of protection is one on every core that has it
protective_by : (csr : Csr) (from_row : Bool)
    → is_protective (if from_row then ImplementationDefined else csr_kind_of csr) ≡ true → protects csr ≡ true
protective_by csr true is = cc
protective_by csr false is = is

protects_in : (profile : CsrProfile) (csr : Csr) → is_protective (kind_in profile csr) ≡ true → protects csr ≡ true
unfolding kind_in
protects_in profile csr is = protective_by csr (is_from_row (presence_of profile csr)) is

-- a write of a register of protection is M's
pub protective_in_machine : (csrs : Csrs) (address : ℕ) (mode : Mode) (row : CsrRow) → csr_row_of address ≡ Some row
    → may_write csrs mode row ≡ true → is_protective (kind_in csrs.profile row.csr) ≡ true → mode ≡ Machine
unfolding may_write may_read
protective_in_machine csrs address mode row is may protective =
    let mine : Bool = nat_le row.least_mode (mode_number mode) in
    let enabled = is_enabled csrs mode (kind_in csrs.profile row.csr) in
    let there : Bool = not (is_absent (presence_of csrs.profile row.csr)) in
    let read = and_parts (mine && enabled && there) (not row.read_only) may in
    let parts = and_parts (mine && enabled) there read.0 in
    let level = and_parts mine enabled parts.0 in
    let least : row.least_mode ≡ 3 = protective_row address row is (protects_in csrs.profile row.csr protective) in
    machine_alone mode (grind (arith, nat_tests, level.0, least))

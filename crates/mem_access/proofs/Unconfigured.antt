-- Entries that are not configured cover nothing.
use Rattle.std.proofs.Common.{◌≡◌, ℕ, zero, suc, ◌+◌, Bool, true, false, ◌&&◌, nat_lt, List, [], ◌∷◌, length, take, max}
use Rattle.std.proofs.Common.{min, refl, sym, ap, ◌∙◌, subst, arith, if◌then◌else◌}
use Rattle.std.specs.Prelude.{◌==◌}
use Rattle.std.specs.List.{list_all}
use Rattle.std.proofs.lemmas.Bool.{and_from}
use Rattle.std.proofs.lemmas.Bool.Decides.{nat_tests}
use Rattle.hart_words.specs.declared.privilege.Mode.{Mode}
use Rattle.hart_words.specs.declared.privilege.Access.{Access}
use Rattle.hart_words.specs.declared.privilege.PmpEntry.{PmpEntry}
use Rattle.csr_file.specs.declared.csrs.Csrs.{Csrs}
use Rattle.csr_file.specs.Registers.{pmp_entries_of}
use Rattle.pmp_check.specs.declared.region.Region.{Region}
use Rattle.pmp_check.specs.Protection.{matching_of, region_by_matching, region_of, covers_some, covers_all}
use Rattle.pmp_check.specs.Protection.{entry_permits, is_machine, is_allowed_after, is_allowed}

abbrev pub IsUnset : PmpEntry → Type 0
IsUnset entry = entry.cfg ≡ 0

abbrev pub nothing : Region
nothing = record { first = 0; past = 0 }

covers_none : (pa len : ℕ) → nat_lt (max 0 pa) (min 0 (pa + len)) ≡ false
covers_none pa len = grind (arith, nat_tests)

off : (before : ℕ) (entry : PmpEntry) → entry.cfg ≡ 0 → region_of before entry ≡ nothing
unfolding region_of
off before entry is = ap (λ cfg. region_by_matching (matching_of cfg) before entry.addr) is

is_zero : (a : ℕ) → (a == 0) ≡ true → a ≡ 0
is_zero a same = grind (arith, nat_tests)

both : (a b : Bool) → (a && b) ≡ true → (a ≡ true) × (b ≡ true)
both true b are = (refl, are)
both false b are = cc

allowed_after : (entries : List PmpEntry) (before : ℕ) (mode : Mode) (pa len : ℕ) (access : Access)
    → list_all (λ entry. entry.cfg == 0) entries ≡ true
    → is_allowed_after before entries mode pa len access ≡ is_machine mode
unfolding is_allowed_after
allowed_after [] before mode pa len access all = refl
allowed_after (entry ∷ entries) before mode pa len access all =
    let unset = both (entry.cfg == 0) (list_all (λ one. one.cfg == 0) entries) all in
    let region = region_of before entry in
    let rest = is_allowed_after entry.addr entries mode pa len access in
    let none : covers_some region pa len ≡ false =
    ap (λ r. covers_some r pa len) (off before entry (is_zero entry.cfg unset.0)) ∙ covers_none pa len in
    let P : Bool → Type 0 =
    λ b. (if b then (covers_all region pa len && entry_permits entry.cfg mode access) else rest)
    ≡ is_machine mode in
    subst P (sym none) (allowed_after entries entry.addr mode pa len access unset.1)

-- the first of them are not configured either
first_unset : (n : ℕ) (entries : List PmpEntry) → list_all (λ entry. entry.cfg == 0) entries ≡ true
    → list_all (λ entry. entry.cfg == 0) (take n entries) ≡ true
first_unset zero entries all = refl
first_unset (suc n) [] all = refl
first_unset (suc n) (entry ∷ entries) all =
    let unset = both (entry.cfg == 0) (list_all (λ one. one.cfg == 0) entries) all in
    and_from (entry.cfg == 0) (list_all (λ one. one.cfg == 0) (take n entries)) unset.0
    (first_unset n entries unset.1)

-- then M has access
machine_by : (entries : List PmpEntry) (mode : Mode) (pa len : ℕ) (access : Access)
    → list_all (λ entry. entry.cfg == 0) entries ≡ true → is_machine mode ≡ true
    → is_allowed entries mode pa len access ≡ true
unfolding is_allowed
machine_by [] mode pa len access all machine = refl
machine_by (entry ∷ entries) mode pa len access all machine =
    allowed_after (entry ∷ entries) 0 mode pa len access all ∙ machine

pub machine_allowed : (csrs : Csrs) (mode : Mode) (pa len : ℕ) (access : Access)
    → list_all (λ entry. entry.cfg == 0) csrs.entries ≡ true → is_machine mode ≡ true
    → is_allowed (pmp_entries_of csrs) mode pa len access ≡ true
machine_allowed csrs mode pa len access all machine =
    machine_by (pmp_entries_of csrs) mode pa len access (first_unset _ csrs.entries all) machine

-- and another mode where there are no entries
none_there : (entry : PmpEntry) (entries : List PmpEntry) → (length (entry ∷ entries) == 0) ≡ false
none_there entry entries = grind (arith, nat_tests)

others_by : (entries : List PmpEntry) (mode : Mode) (pa len : ℕ) (access : Access)
    → list_all (λ entry. entry.cfg == 0) entries ≡ true → is_machine mode ≡ false
    → is_allowed entries mode pa len access ≡ (length entries == 0)
unfolding is_allowed
others_by [] mode pa len access all other = refl
others_by (entry ∷ entries) mode pa len access all other =
    allowed_after (entry ∷ entries) 0 mode pa len access all ∙ other ∙ sym (none_there entry entries)

pub others_allowed : (csrs : Csrs) (mode : Mode) (pa len : ℕ) (access : Access)
    → list_all (λ entry. entry.cfg == 0) csrs.entries ≡ true → is_machine mode ≡ false
    → is_allowed (pmp_entries_of csrs) mode pa len access ≡ (length (pmp_entries_of csrs) == 0)
others_allowed csrs mode pa len access all other =
    others_by (pmp_entries_of csrs) mode pa len access (first_unset _ csrs.entries all) other

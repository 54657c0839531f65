-- No row of another funct3 or quadrant is met.
use Rattle.std.proofs.Common.{◌≡◌, ◌∙◌, ℕ, zero, suc, ◌+◌, ◌≤◌, ◌<◌, ◌/◌, ◌%◌, Bool, true, false, ◌&&◌, List, [], ◌∷◌}
use Rattle.std.proofs.Common.{ap, arith, refl, sym, bit_and, ◌==◌, get_or, drop, option_map}
use Rattle.std.specs.Prelude.{find, nat_lt, not, if◌then◌else◌, Option, Some}
use Rattle.std.proofs.lemmas.Nat.{and_assoc}
use Rattle.std.proofs.lemmas.Bool.{eqb-true, and_parts, ltb-false, ltb-true, false_from_ne_true}
use Rattle.rv_compressed.specs.declared.patterns.Pattern.{Pattern}
use Rattle.rv_compressed.specs.declared.patterns.TheConstants.{FIRST_ROWS, GROUP, PATTERNS}
use Rattle.rv_compressed.specs.Patterns.{holds, meets}
use Rattle.rv_compressed.specs.Table.{encoding_of, expansion_by}

-- the first row of those bits
abbrev first_of : ℕ → ℕ
first_of group = get_or FIRST_ROWS (group / 2048 + group % 4) 0

-- each row fixes the bits of its group, and stands at its group's first row or after it
abbrev are_placed : ℕ → List Pattern → Bool
are_placed i [] = true
are_placed i (row ∷ rows) =
    (bit_and row.mask GROUP == GROUP) && (not (nat_lt i (first_of (bit_and row.bits GROUP))) && are_placed (suc i) rows)

not_less : (a b : ℕ) (test : Bool) → test ≡ nat_lt a b → not test ≡ true → b ≤ a
not_less a b true is h = absurd cc
not_less a b false is h = ltb-false a b (sym is)

-- the group of a parcel that a row is met by is the row's
same_group : (row : Pattern) (parcel : ℕ) → bit_and row.mask GROUP ≡ GROUP → meets row parcel ≡ true
    → bit_and parcel GROUP ≡ bit_and row.bits GROUP
same_group row parcel fixed met =
    let here : bit_and parcel row.mask ≡ row.bits =
    eqb-true _ _ (and_parts (bit_and parcel row.mask == row.bits) (holds row.condition parcel) met).0 in
    ap (λ m. bit_and parcel m) (sym fixed) ∙ sym (and_assoc GROUP parcel row.mask) ∙ ap (λ m. bit_and m GROUP) here

passed_over : {found : Option Pattern} (test : Bool) (row : Pattern) → test ≡ false
    → found ≡ (if test then Some row else found)
passed_over true row is = absurd cc
passed_over false row is = refl

skips : (rows : List Pattern) (i more parcel : ℕ) → first_of (bit_and parcel GROUP) ≡ i + more
    → are_placed i rows ≡ true → find (λ row. meets row parcel) (drop more rows) ≡ find (λ row. meets row parcel) rows
skips rows i zero parcel is placed = refl
skips [] i (suc more) parcel is placed = refl
skips (row ∷ rows) i (suc more) parcel is placed =
    let parts = and_parts (bit_and row.mask GROUP == GROUP) _ placed in
    let fixed : bit_and row.mask GROUP ≡ GROUP = eqb-true _ _ parts.0 in
    let rest = and_parts (not (nat_lt i (first_of (bit_and row.bits GROUP)))) (are_placed (suc i) rows) parts.1 in
    let not_before : first_of (bit_and row.bits GROUP) ≤ i = not_less i _ _ refl rest.0 in
    let other : meets row parcel ≡ false =
    false_from_ne_true (meets row parcel) (λ met.
    let first : first_of (bit_and parcel GROUP) ≡ first_of (bit_and row.bits GROUP) =
    ap first_of (same_group row parcel fixed met) in
    omega arith) in
    skips rows (suc i) more parcel (omega arith) rest.1 ∙ passed_over (meets row parcel) row other

pub same_expansion : (parcel first : ℕ) → first ≡ first_of (bit_and parcel GROUP)
    → expansion_by (drop first PATTERNS) parcel ≡ expansion_by PATTERNS parcel
unfolding expansion_by
same_expansion parcel first is =
    ap (option_map (λ (row : Pattern). encoding_of row.op parcel)) (skips PATTERNS 0 first parcel (omega arith) refl)

-- and as many rows
abbrev all_within : List ℕ → Bool
all_within [] = true
all_within (first ∷ rest) = nat_lt first 33 && all_within rest

within : (firsts : List ℕ) (i : ℕ) → all_within firsts ≡ true → get_or firsts i 0 ≤ 32
within [] i all = omega arith
within (first ∷ rest) zero all =
    let below : first < 33 = ltb-true first 33 (and_parts (nat_lt first 33) (all_within rest) all).0 in
    omega arith
within (first ∷ rest) (suc i) all = within rest i (and_parts (nat_lt first 33) (all_within rest) all).1

pub first_small : (i : ℕ) → get_or FIRST_ROWS i 0 ≤ 32
first_small i = within FIRST_ROWS i refl

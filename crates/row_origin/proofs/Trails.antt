-- The last row of a trail that passes a test.
use Rattle.std.proofs.Common.{◌≡◌, ℕ, zero, suc, ◌+◌, ◌<◌, ◌≤◌, Bool, true, false, refl, sym, ap, ◌∙◌}
use Rattle.std.proofs.Common.{subst, arith, ◌^◌, if◌then◌else◌, [], ◌∷◌, ◌++◌, length, Option, Some, None, option_map}
use Rattle.std.specs.Prelude.{IfSome}
use Rattle.std.specs.Option.{option_or}
use Rattle.row_origin.specs.Places.{as_row, laid_over}
use Rattle.row_origin.specs.Trails.{IsLastRow, RowFacts, Trail, last_row, passes, row_passes}
use Rattle.row_origin.proofs.Blocks.{some_row}

-- what is found of rows after one, with that one
with_first : (test : RowFacts → Bool) (first : Option RowFacts) (trail : Trail) (found : Option ℕ)
    → IsLastRow test trail found → (b : Bool) → passes test first ≡ b
    → IsLastRow test (first ∷ trail) (option_or (option_map suc found) (if b then Some 1 else None))
with_first test first trail None none true is = (is, later)
  where
    later : (row : ℕ) → 1 < row → row_passes test (first ∷ trail) row ≡ false
    later zero above = refl
    later (suc zero) above = absurd (omega (arith, above))
    later (suc (suc index)) above = none (suc index)
with_first test first trail None none false is = all
  where
    all : (row : ℕ) → row_passes test (first ∷ trail) row ≡ false
    all zero = refl
    all (suc zero) = is
    all (suc (suc index)) = none (suc index)
with_first test first trail (Some zero) last b is = let never : false ≡ true = last.0 in cc
with_first test first trail (Some (suc place)) last b is = (last.0, later)
  where
    later : (row : ℕ) → suc (suc place) < row → row_passes test (first ∷ trail) row ≡ false
    later zero above = refl
    later (suc zero) above = absurd (omega (arith, above))
    later (suc (suc index)) above = last.1 (suc index) (omega (arith, above))

pub last_row_is_last : (test : RowFacts → Bool) (trail : Trail) → IsLastRow test trail (last_row test trail)
unfolding last_row
last_row_is_last test [] = none
  where
    none : (row : ℕ) → row_passes test [] row ≡ false
    none zero = refl
    none (suc index) = refl
last_row_is_last test (first ∷ trail) =
    with_first test first trail (last_row test trail) (last_row_is_last test trail) (passes test first) refl

-- it is one of the trail's
one_counted : (n : ℕ) (found : Option ℕ) (b : Bool) → IfSome found (λ row. row ≤ n)
    → IfSome (option_or (option_map suc found) (if b then Some 1 else None)) (λ row. row ≤ suc n)
one_counted n None true below = omega arith
one_counted n None false below = tt
one_counted n (Some row) b below = omega (arith, below)

pub last_row_counted : (test : RowFacts → Bool) (trail : Trail)
    → IfSome (last_row test trail) (λ row. row ≤ length trail)
unfolding last_row
last_row_counted test [] = tt
last_row_counted test (first ∷ trail) =
    one_counted (length trail) (last_row test trail) (passes test first) (last_row_counted test trail)

-- over rows and more rows
from_none : (found : Option ℕ) → found ≡ laid_over 0 found None
from_none None = refl
from_none (Some row) = ap Some (omega arith)

one_before : (n : ℕ) (later earlier first : Option ℕ)
    → option_or (option_map suc (laid_over n later earlier)) first
    ≡ laid_over (suc n) later (option_or (option_map suc earlier) first)
one_before n None earlier first = refl
one_before n (Some row) earlier first = ap Some (omega arith)

pub last_row_appended : (test : RowFacts → Bool) (before after : Trail)
    → last_row test (before ++ after) ≡ laid_over (length before) (last_row test after) (last_row test before)
unfolding last_row
last_row_appended test [] after = from_none (last_row test after)
last_row_appended test (first ∷ before) after =
    ap (λ found. option_or (option_map suc found) (if passes test first then Some 1 else None))
    (last_row_appended test before after)
    ∙ one_before (length before) (last_row test after) (last_row test before)
    (if passes test first then Some 1 else None)

-- a row that is not valid is counted
pub last_row_of_none : (test : RowFacts → Bool) (trail : Trail)
    → last_row test (trail ++ None ∷ []) ≡ last_row test trail
unfolding last_row
last_row_of_none test trail = last_row_appended test trail (None ∷ [])

-- a row is added
pub last_row_added : (test : RowFacts → Bool) (facts : RowFacts) (trail : Trail) (row : ℕ) (old new : Option ℕ)
    → old ≡ last_row test trail → length trail + 1 ≡ row → new ≡ (if test facts then as_row row else old)
    → new ≡ last_row test (trail ++ Some facts ∷ [])
unfolding last_row
last_row_added test facts trail row old new was is then_ =
    then_ ∙ by (test facts) refl ∙ sym (last_row_appended test trail (Some facts ∷ []))
  where
    by : (b : Bool) → test facts ≡ b
        → (if test facts then as_row row else old)
        ≡ laid_over (length trail) (if test facts then Some 1 else None) (last_row test trail)
    by true holds = rw (holds, some_row row (omega (arith, is)), ← is) refl
    by false fails = rw (fails, was) refl

-- rows that are laid over others
pub last_row_laid : (test : RowFacts → Bool) (before after : Trail) (base : ℕ) (old later new : Option ℕ)
    → old ≡ last_row test before → later ≡ last_row test after → base ≡ length before
    → new ≡ laid_over base later old → new ≡ last_row test (before ++ after)
last_row_laid test before after base old later new was is from then_ =
    then_ ∙ rw (was, is, from) (sym (last_row_appended test before after))

-- a row that is found can be counted on from a base
pub row_counts : (test : RowFacts → Bool) (trail : Trail) (base row : ℕ) → last_row test trail ≡ Some row
    → base + length trail < 2 ^ 64 → base + row < 2 ^ 64
row_counts test trail base row found fits =
    let below : row ≤ length trail =
    subst (λ f. IfSome f (λ r. r ≤ length trail)) found (last_row_counted test trail) in
    omega (arith, below, fits)

-- Numbers of pages, in order.
use Rattle.std.proofs.Common.{◌≡◌, ℕ, ◌<◌, ◌≤◌, Bool, true, false, List, ◌∷◌, Option, Some, None, refl, sym}
use Rattle.std.proofs.Common.{ap, ◌∙◌, subst, inl, inr, arith, nat_cmp, Bor, option_copied}
use Rattle.std.specs.Prelude.{◌==◌, ◌||◌, cond, if◌then◌else◌}
use Rattle.std.specs.Ordering.{is_eq, is_gt}
use Rattle.std.specs.declared.cmp.Ordering.TheVariants.{Less}
use Rattle.std.specs.Option.{IfSome}
use Rattle.std.specs.BTreeMap.{is_at}
use Rattle.std.specs.BTreeSet.{BTreeSet, contains, IsKeyRangeOf}
use Rattle.std.specs.List.{list_any}
use Rattle.std.specs.Map.Iter.{TakesFirst, deref}
use Rattle.std.specs.declared.ops.Bound.TheVariants.{Included, Excluded}
use Rattle.std.proofs.lemmas.Bool.{cases_eq}
use Rattle.std.proofs.lemmas.Bool.Decides.{nat_tests}
use Rattle.image_text.proofs.Pages.{is_eq_same, is_eq_other, eq_same, eq_other}
use Rattle.page_image.specs.declared.page_numbers.TheConstants.{PAGES}
use Rattle.page_image.specs.PageNumbers.{Skips}

-- a number that is put among others
pub number_put : (before after : ℕ → Bool) (key : ℕ)
    → ((q : ℕ) → after q ≡ cond (is_eq (nat_cmp key q)) true (before q))
    → (q : ℕ) → after q ≡ (if q == key then true else before q)
number_put before after key puts q = elim (cases_eq q key) [
  | inl same ↦ rw (same, eq_same key) (puts key ∙ rw (is_eq_same key) refl)
  | inr apart ↦
      rw (eq_other q key apart) (puts q ∙ rw (is_eq_other key q (λ e. apart (sym e))) refl)
]

not_among : (b : Bool) → (b ≡ true → ⊥) → b ≡ false
not_among true never = absurd (never refl)
not_among false never = refl

from_start : (least q : ℕ) → least ≤ q → is_gt (nat_cmp least q) ≡ false
from_start least q low = grind (arith, nat_tests)

start_from : (least q : ℕ) → is_gt (nat_cmp least q) ≡ false → least ≤ q
start_from least q low = grind (arith, nat_tests)

up_to_end : (q most : ℕ) → q < most → nat_cmp q most ≡ Less
up_to_end q most high = grind (arith, nat_tests)

end_up_to : (q most : ℕ) → nat_cmp q most ≡ Less → q < most
end_up_to q most high = grind (arith, nat_tests)

-- the first key of a range is the first from its start on
pub first_of_range : (set : BTreeSet ℕ) (least : ℕ) (found later : List ℕ) (result : Option (Bor ℕ))
    → TakesFirst deref found result later
    → IsKeyRangeOf nat_cmp (Included least) (Excluded PAGES) set found
    → Skips (λ q. contains nat_cmp set q ≡ false) least (option_copied result)
first_of_range set least found later None takes range =
    λ q low high. range.5 takes.0 q (from_start least q low, up_to_end q PAGES high)
first_of_range set least found later (Some number) takes range =
    let at : IsKeyRangeOf nat_cmp (Included least) (Excluded PAGES) set (number.now ∷ later) =
    subst (IsKeyRangeOf nat_cmp (Included least) (Excluded PAGES) set) takes range in
    let high : number.now < PAGES = end_up_to number.now PAGES at.1.0.1 in (
      start_from least number.now at.1.0.0,
      high,
      λ q low below. not_among (contains nat_cmp set q) (λ has.
          let first : number.now ≤ q = start_from number.now q
          (at.2 q (from_start least q low, up_to_end q PAGES (omega (arith, below, high))) has) in
          omega (arith, first, below)),
    )

pub first_is_there : (set : BTreeSet ℕ) (least : ℕ) (found later : List ℕ) (result : Option (Bor ℕ))
    → TakesFirst deref found result later
    → IsKeyRangeOf nat_cmp (Included least) (Excluded PAGES) set found
    → IfSome (option_copied result) (λ q. contains nat_cmp set q ≡ true)
first_is_there set least found later None takes range = tt
first_is_there set least found later (Some number) takes range =
    let at : IsKeyRangeOf nat_cmp (Included least) (Excluded PAGES) set (number.now ∷ later) =
    subst (IsKeyRangeOf nat_cmp (Included least) (Excluded PAGES) set) takes range in
    at.1.1

or_true : (b : Bool) → (b || true) ≡ true
or_true true = refl
or_true false = refl

-- of numbers that are put one after the other among others, those that are put and those that are left are all
pub one_more : (before after : ℕ → Bool) (key : ℕ) (rest later : List ℕ) (all : ℕ → Bool)
    → ((q : ℕ) → after q ≡ (if q == key then true else before q)) → rest ≡ key ∷ later
    → ((q : ℕ) → (list_any (is_at (nat_cmp q)) rest || before q) ≡ all q)
    → (q : ℕ) → (list_any (is_at (nat_cmp q)) later || after q) ≡ all q
one_more before after key rest later all puts is so_far q = elim (cases_eq q key) [
  | inl same ↦
      let found : list_any (is_at (nat_cmp key)) rest ≡ true =
      ap (list_any (is_at (nat_cmp key))) is ∙ rw (is_eq_same key) refl in
      rw (same, puts key, eq_same key)
      (or_true (list_any (is_at (nat_cmp key)) later) ∙ sym (ap (λ b. b || before key) found) ∙ so_far key)
  | inr apart ↦
      rw (puts q, eq_other q key apart)
      (ap (λ b. b || before q) (sym (ap (list_any (is_at (nat_cmp q))) is ∙ rw (is_eq_other q key apart) refl)) ∙ so_far q)
]

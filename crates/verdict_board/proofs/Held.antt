-- What a seat keeps over the steps.
use Rattle.std.proofs.Common.{◌≡◌, ℕ, ◌+◌, ◌<◌, ◌≤◌, min, Bool, true, false, ◌||◌, nat_le, nat_lt, List, [], ◌∷◌, ◌++◌}
use Rattle.std.proofs.Common.{length, refl, sym, ap, subst, ◌∙◌, arith, length-append}
use Rattle.std.proofs.lemmas.Bool.Decides.{nat_tests}
use Rattle.board_core.specs.Bags.{Has, Names, as_number, count, is_numbered}
use Rattle.board_core.proofs.Bags.{count-append, count_push, equal_if, some_counted}
use Rattle.verdict_board.specs.declared.view.View.{View}
use Rattle.verdict_board.specs.Seats.{Posts}
use Rattle.verdict_board.specs.Views.{view_after_draw, is_done, is_past, joined_views, lead, view_after_post}

-- a draw of n or more ends the draws of a seat
pub drew_done : (view now : View) (number : ℕ) (past : Bool) → now ≡ view_after_draw view number
    → is_done view ≡ false → nat_le view.segments number ≡ past → past ≡ is_done now
drew_done view now number past is not_done test =
    let P : View → Type 0 = λ v. past ≡ is_done v in
    subst P (sym is) (by past test ∙ sym (ap (λ k. nat_lt 0 k) counted_is))
  where
    none : count (is_past view.segments) view.draws ≡ 0
    none = let test : nat_lt 0 (count (is_past view.segments) view.draws) ≡ false = not_done in grind (arith, nat_tests)

    counted_is : count (is_past view.segments) (view.draws ++ (lead view, number) ∷ [])
        ≡ as_number (nat_le view.segments number)
    counted_is = count_push (is_past view.segments) view.draws (lead view, number) ∙ omega (arith, none)

    by : (past : Bool) → nat_le view.segments number ≡ past → past ≡ nat_lt 0 (as_number (nat_le view.segments number))
    by true is = ap (λ b. nat_lt 0 (as_number b)) (sym is)
    by false is = ap (λ b. nat_lt 0 (as_number b)) (sym is)

any_of : (a b : ℕ) → (nat_lt 0 a || nat_lt 0 b) ≡ nat_lt 0 (a + b)
any_of a b = by (nat_lt 0 a) (nat_lt 0 b) (nat_lt 0 (a + b)) refl refl refl
  where
    by : (one other all : Bool) → nat_lt 0 a ≡ one → nat_lt 0 b ≡ other → nat_lt 0 (a + b) ≡ all → (one || other) ≡ all
    by true other true x y z = refl
    by true other false x y z = absurd (grind (arith, nat_tests))
    by false true true x y z = refl
    by false true false x y z = absurd (grind (arith, nat_tests))
    by false false true x y z = absurd (grind (arith, nat_tests))
    by false false false x y z = refl

-- two seats as one are done where one of them is
pub joined_done : (one other : View) → one.segments ≡ other.segments
    → (is_done one || is_done other) ≡ is_done (joined_views one other)
joined_done one other same =
    let theirs : count (is_past other.segments) other.draws ≡ count (is_past one.segments) other.draws =
    ap (λ n. count (is_past n) other.draws) (sym same) in
    ap (λ k. nat_lt 0 (count (is_past one.segments) one.draws) || nat_lt 0 k) theirs
    ∙ any_of (count (is_past one.segments) one.draws) (count (is_past one.segments) other.draws)
    ∙ ap (λ k. nat_lt 0 k) (sym (count-append (is_past one.segments) one.draws other.draws))

pub joined_live : (one other : View) → 0 < length one.numbers → 0 < length (joined_views one other).numbers
joined_live one other live = omega (arith, live, length-append one.numbers other.numbers)

-- who drew the segment
pub drawer : (draws : List (ℕ × ℕ)) (segment : ℕ) → Names draws segment → (number : ℕ) × Has draws (number, segment)
drawer draws segment names =
    let found = some_counted (is_numbered segment) draws names in
    let is : found.0.1 ≡ segment = equal_if found.0.1 segment found.2 in
    (found.0.0, let P : ℕ → Type 0 = λ s. Has draws (found.0.0, s) in subst P is found.1)

-- what a post comes to, where the second word was `found`
pub record IsPosted (segment : ℕ) (before now : View) : Type 0 where
  pub posts : Posts segment before now
  pub within : now.least ≤ segment
  pub falls : now.least ≤ before.least

pub post_seen : (before now : View) (number segment found : ℕ) → Has before.draws (number, segment)
    → now ≡ view_after_post before number segment (min found segment) → found ≤ before.least
    → IsPosted segment before now
post_seen before now number segment found has is low =
    let least_is : now.least ≡ min found segment = ap (λ view. view.least) is in
    record {
      posts = (number, has, is ∙ ap (view_after_post before number segment) (sym least_is));
      within = omega (arith, least_is);
      falls = omega (arith, least_is, low);
    }

-- What the rule comes to, on the two words and the views alone.
use Rattle.std.specs.Prelude.{◌≡◌, ◌⊎◌, ℕ, ◌+◌, ◌≤◌, ◌<◌, ◌==◌, nat_lt, List, [], length, slice_index}
use mathlib.Core.Option.{some}
use lib.ListN.{get_elem?}
use Rattle.verdict_board.specs.declared.view.View.{View}
use Rattle.board_core.specs.Bags.{Has, Names, as_number, count}
use Rattle.board_core.specs.Sound.{AreDrawn, IsLeast}
use Rattle.verdict_board.specs.Views.{DrewBelow, is_past}
use Rattle.verdict_board.specs.Rule.{AreOwn, all_of, draws_of, view_numbers, posts_of}

-- it has done nothing
pub record IsIdle (view : View) : Type 0 where
  pub no_draws : view.draws ≡ []
  pub no_posts : view.posts ≡ []
  pub no_looks : view.looks ≡ []

-- the number is n, or that of a post of some view
abbrev pub IsSeen : ℕ → List View → ℕ → Type 0
IsSeen n views number = (number ≡ n) ⊎ Names (all_of posts_of views) number

-- of a view that stands for a number
pub record HasSeen (n least : ℕ) (views : List View) (view : View) : Type 0 where
  -- the least that it has seen is no less than the second word, and is n or a post
  pub least_low : least ≤ view.least
  pub least_is : IsSeen n views view.least
  -- each answer of its looks is n or a post, and none is below what it has seen
  pub looks_are : (look : ℕ × ℕ) → Has view.looks look → IsSeen n views look.1 × (view.least ≤ look.1)
  -- none of its posts is below what it has seen
  pub posts_high : (post : ℕ × ℕ) → Has view.posts post → view.least ≤ post.1

-- of each view
pub record IsOrderly (n least : ℕ) (views : List View) (view : View) : Type 0 where
  -- its pairs name its own numbers
  pub own_draws : AreOwn view.numbers view.draws
  pub own_posts : AreOwn view.numbers view.posts
  pub own_looks : AreOwn view.numbers view.looks
  -- without a number it has done nothing
  pub spent : length view.numbers ≡ 0 → IsIdle view
  -- its posts are segments that it drew
  pub drawn : AreDrawn n view.draws view.posts
  pub seen : 0 < length view.numbers → HasSeen n least views view
  -- it has drawn n or more once at most for each of its numbers
  pub few_past : count (is_past n) view.draws ≤ length view.numbers

-- of the words and all views
pub record FollowsRule (n seats : ℕ) (words : List ℕ) (views : List View) : Type 0 where
  -- each number of a seat stands in one view, once
  pub numbers_once : (number : ℕ) →
      count (λ one. one == number) (all_of view_numbers views) ≡ as_number (nat_lt number seats)
  -- each number below the first word was drawn once over all views, and no other was
  pub draws_once : DrewBelow (slice_index words 0) (all_of draws_of views)
  -- the second word is the least posted, or n
  pub least_is : IsLeast n (all_of posts_of views) (slice_index words 1)
  -- the first word passes n by one at most for each seat
  pub few_drawn : slice_index words 0 ≤ n + seats
  pub each : (place : ℕ) (view : View) → get_elem? views place ≡ some view →
      IsOrderly n (slice_index words 1) views view

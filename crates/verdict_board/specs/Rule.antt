-- What holds of the two words and of all views, between any two steps.
use Rattle.std.specs.Prelude.{◌≡◌, ◌⊎◌, ℕ, ◌<◌, ◌≤◌, ◌^◌, ◌==◌, List, [], ◌∷◌, ◌++◌, length}
use mathlib.Core.Option.{some}
use lib.ListN.{get_elem?}
use Rattle.verdict_board.specs.declared.view.View.{View}
use Rattle.board_core.specs.declared.event.Event.{Event}
use Rattle.board_core.specs.Bags.{Has, Names, SameBag, count}
use Rattle.board_core.specs.Machine.{Machine, looks, machine_at_start, machine_after_events}
use Rattle.board_core.specs.Sound.{AreDrawn}
use Rattle.verdict_board.specs.Views.{is_past, numbers_below}

-- the lists that views have, one after another
abbrev pub all_of : {X : Type 0} → (View → List X) → List View → List X
all_of part [] = []
all_of part (view ∷ views) = part view ++ all_of part views

abbrev pub draws_of : View → List (ℕ × ℕ)
draws_of view = view.draws

abbrev pub posts_of : View → List (ℕ × ℕ)
posts_of view = view.posts

abbrev pub looks_of : View → List (ℕ × ℕ)
looks_of view = view.looks

abbrev pub view_numbers : View → List ℕ
view_numbers view = view.numbers

-- the number is one of these
abbrev pub HasNumber : List ℕ → ℕ → Type 0
HasNumber numbers number = 0 < count (λ one. one == number) numbers

-- the pairs name these numbers alone
abbrev pub AreOwn : List ℕ → List (ℕ × ℕ) → Type 0
AreOwn numbers pairs = (pair : ℕ × ℕ) → Has pairs pair → HasNumber numbers pair.0

-- what a view that stands for a number knows of the machine
pub record Knows (n seats : ℕ) (machine : Machine) (view : View) : Type 0 where
  pub segments_is : view.segments ≡ n
  pub seats_is : view.seats ≡ seats
  pub least_low : machine.least ≤ view.least
  pub least_is : (view.least ≡ n) ⊎ Names machine.posts view.least
  pub looks_high : (look : ℕ × ℕ) → Has view.looks look → view.least ≤ look.1
  pub posts_high : (post : ℕ × ℕ) → Has view.posts post → view.least ≤ post.1

-- how a view stands to the machine
pub record Fits (n seats : ℕ) (machine : Machine) (view : View) : Type 0 where
  pub own_draws : AreOwn view.numbers view.draws
  pub own_posts : AreOwn view.numbers view.posts
  pub own_looks : AreOwn view.numbers view.looks
  pub drawn : AreDrawn n view.draws view.posts
  pub few_past : count (is_past n) view.draws ≤ length view.numbers
  pub knows : 0 < length view.numbers → Knows n seats machine view

-- the words and the views show the machine, and what looks were answered
pub record Mirrors (n seats : ℕ) (machine : Machine) (answers : List (ℕ × ℕ))
    (words : List ℕ) (views : List View) : Type 0 where
  pub words_are : words ≡ machine.next ∷ machine.least ∷ []
  pub draws_are : SameBag machine.draws (all_of draws_of views)
  pub posts_are : SameBag machine.posts (all_of posts_of views)
  pub looks_are : SameBag answers (all_of looks_of views)
  pub numbers_are : SameBag (numbers_below seats) (all_of view_numbers views)
  pub fit : (place : ℕ) (view : View) → get_elem? views place ≡ some view → Fits n seats machine view

-- the words and the views are those of a run of the machine
abbrev pub Shows : ℕ → ℕ → List Event → List ℕ → List View → Type 0
Shows n seats events words views =
    Mirrors n seats (machine_after_events (machine_at_start n) events) (looks (machine_at_start n) events) words views

-- the rule: there is such a run
pub record Kept (n seats : ℕ) (words : List ℕ) (views : List View) : Type 0 where
  pub few_segments : n < 2 ^ 32
  pub few_seats : seats ≤ 64
  pub events : List Event
  pub shows : Shows n seats events words views

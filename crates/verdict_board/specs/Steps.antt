-- Each step of the board as an event of the machine: what words and views show before it, and after it.
use Rattle.std.specs.Prelude.{◌≡◌, ◌≢◌, ℕ, ◌+◌, ◌<◌, false, min, List, [], ◌∷◌, ◌++◌, length, set}
use mathlib.Core.Option.{some}
use lib.ListN.{get_elem?}
use Rattle.board_core.specs.declared.event.Answer.{Answer}
use Rattle.board_core.specs.declared.event.Answer.TheVariants.{Drew, Least}
use Rattle.board_core.specs.declared.event.Event.{Event}
use Rattle.board_core.specs.declared.event.Event.TheVariants.{Claim, Look, Post}
use Rattle.board_core.specs.Bags.{Has}
use Rattle.board_core.specs.Machine.{answer_of, machine_at_start, machine_after_events}
use Rattle.verdict_board.specs.declared.view.View.{View}
use Rattle.verdict_board.specs.Points.{IsIdle}
use Rattle.verdict_board.specs.Rule.{Shows}
use Rattle.verdict_board.specs.Views.{cut_first, cut_rest, view_after_draw, fresh_view, is_done, joined_views, lead}
use Rattle.verdict_board.specs.Views.{view_after_look}
use Rattle.verdict_board.specs.Views.{numbers_below, view_after_post, spent_view}

-- the two words and the views at some moment, and events that led there
pub record BoardMoment : Type 0 where
  pub segments : ℕ
  pub seats : ℕ
  pub events : List Event
  pub next : ℕ
  pub least : ℕ
  pub views : List View

-- the words and the views are what the events leave
abbrev pub IsTrueTo : BoardMoment → Type 0
IsTrueTo moment = Shows moment.segments moment.seats moment.events (moment.next ∷ moment.least ∷ []) moment.views

-- one view of such a moment, which stands for a number
pub record IsViewAt (moment : BoardMoment) (place : ℕ) (view : View) : Type 0 where
  pub shows : IsTrueTo moment
  pub exists : get_elem? moment.views place ≡ some view
  pub live : 0 < length view.numbers

-- what the machine answers an event then
abbrev pub answer_at : BoardMoment → Event → Answer
answer_at moment event = answer_of (machine_after_events (machine_at_start moment.segments) moment.events) event

-- at first nothing has happened
abbrev pub OpeningShows : Type 0
OpeningShows = (n seats : ℕ) → IsTrueTo record {
  segments = n;
  seats = seats;
  events = [];
  next = 0;
  least = n;
  views = fresh_view n seats (numbers_below seats) ∷ [];
}

-- the first word rises by one, and the view draws what it was
abbrev pub after_claim : BoardMoment → ℕ → View → BoardMoment
after_claim moment place view = record moment {
  events = moment.events ++ Claim (lead view) ∷ [];
  next = moment.next + 1;
  views = set moment.views place (view_after_draw view moment.next);
}

-- that is a claim, and the machine answers the same
abbrev pub ClaimIsEvent : Type 0
ClaimIsEvent = (moment : BoardMoment) (place : ℕ) (view : View) → IsViewAt moment place view → is_done view ≡ false
    → IsTrueTo (after_claim moment place view) × (answer_at moment (Claim (lead view)) ≡ Drew moment.next)

-- the second word answers the view's look
abbrev pub after_look : BoardMoment → ℕ → View → BoardMoment
after_look moment place view = record moment {
  events = moment.events ++ Look (lead view) ∷ [];
  views = set moment.views place (view_after_look view moment.least);
}

-- that is a look, and the machine answers the same
abbrev pub LookIsEvent : Type 0
LookIsEvent = (moment : BoardMoment) (place : ℕ) (view : View) → IsViewAt moment place view
    → IsTrueTo (after_look moment place view) × (answer_at moment (Look (lead view)) ≡ Least moment.least)

-- the second word becomes the lesser of itself and a segment that the view drew, and the view has seen it so
abbrev pub after_post : BoardMoment → ℕ → View → ℕ → ℕ → BoardMoment
after_post moment place view number segment = record moment {
  events = moment.events ++ Post number segment ∷ [];
  least = min moment.least segment;
  views = set moment.views place (view_after_post view number segment (min moment.least segment));
}

-- that is a post
abbrev pub PostIsEvent : Type 0
PostIsEvent = (moment : BoardMoment) (place : ℕ) (view : View) (number segment : ℕ) → IsViewAt moment place view
    → Has view.draws (number, segment) → segment < moment.segments
    → IsTrueTo (after_post moment place view number segment)

-- a seat that has done nothing is cut in two: no event
abbrev pub SplitIsNone : Type 0
SplitIsNone = (moment : BoardMoment) (place : ℕ) (view : View) → IsViewAt moment place view
    → IsIdle view → view.least ≡ moment.segments
    → IsTrueTo (record moment { views = set moment.views place (cut_rest view) ++ cut_first view ∷ [] })

-- a seat is joined to another, and is spent: no event
abbrev pub JoinIsNone : Type 0
JoinIsNone = (moment : BoardMoment) (place elsewhere : ℕ) (view other : View)
    → IsViewAt moment place view → IsViewAt moment elsewhere other → elsewhere ≢ place
    → IsTrueTo (record moment { views = set (set moment.views place (joined_views view other)) elsewhere spent_view })

-- What one worker, or several whose seats were joined, did so far.
use Rattle.std.specs.Prelude.{◌≡◌, ℕ, ◌+◌, ◌<◌, ◌&&◌, ◌==◌, List, [], ◌∷◌, ◌++◌, All, length}
use Rattle.board_core.specs.Bags.{as_number, count, is_numbered}
use Rattle.segment_judge.specs.declared.found.Found.{Found}
use Rattle.segment_judge.specs.declared.found.What.{What}
use Rattle.segment_judge.specs.declared.judged.Judged.{Judged as JudgedSegment}
use Rattle.verdict_board.specs.declared.view.View.{View}
use Rattle.verdict_board.specs.declared.seat.Seat.{Seat}
use Rattle.verdict_board.specs.declared.board.Board.{Board}
use Rattle.verdict_board.specs.Seats.{IsAt, view_of}
use Rattle.verdict_board.specs.Views.{fresh_view, is_past, lead}
use Rattle.segment_workers.specs.declared.work.Work.{Work}
use Rattle.segment_workers.specs.declared.work.Worker.{Worker}
use Rattle.segment_workers.specs.Runs.{AreFoundBy, ArePosted, IsSeenSo, is_end, is_found_of}

-- a seat of one number that has done nothing
pub record IsFreshSeat (n : ℕ) (board : Board) (seat : Seat) : Type 0 where
  pub at : IsAt board seat
  pub number : ℕ
  pub view_is : view_of seat ≡ fresh_view n (view_of seat).seats (number ∷ [])

abbrev pub seat_of : Worker → Seat
seat_of worker = worker.seat

-- of each segment that was drawn one thing was found, lawfully, and what ends the trace was posted
pub record Accounts {M : Type 0} (IsLawful : Found (JudgedSegment M) → Type 0) (n : ℕ) (view : View)
    (founds : List (Found (JudgedSegment M))) : Type 0 where
  pub lawful : All IsLawful founds
  pub each : (number : ℕ) → number < n → count (is_found_of number) founds ≡ count (is_numbered number) view.draws
  pub by : AreFoundBy view view.looks founds
  pub posted : ArePosted founds view.posts

-- looking at a segment that was drawn, and judging it or not, leads from one view to another
pub record FindsSo {M : Type 0} (before now : View) (segment : ℕ) (what : What (JudgedSegment M)) : Type 0 where
  pub draws_are : now.draws ≡ before.draws
  pub least : ℕ
  pub looks_are : now.looks ≡ before.looks ++ (lead now, least) ∷ []
  pub posts_are : (number : ℕ) → count (is_numbered number) now.posts
      ≡ count (is_numbered number) before.posts + as_number ((segment == number) && is_end what)
  pub so : IsSeenSo least segment what

-- so many workers of a board, whose seats are one, and which found no segment left
pub record HaveDone {M : Type 0} (IsLawful : Found (JudgedSegment M) → Type 0) (n seats done : ℕ) (board : Board)
    (work : Work M) : Type 0 where
  pub at : IsAt board work.seat
  pub done_is : length (view_of work.seat).numbers ≡ done
  pub seats_is : (view_of work.seat).seats ≡ seats
  pub passed : 0 < count (is_past n) (view_of work.seat).draws
  pub accounts : Accounts IsLawful n (view_of work.seat) work.founds.items

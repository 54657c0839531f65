-- Segments judged side by side by workers at a board: what was found of them, and what the seat of all workers has of
-- it.
use Rattle.std.specs.Prelude.{◌≡◌, ℕ, ◌<◌, ◌≤◌, Bool, true, false, ◌&&◌, ◌==◌, nat_lt, List, [], ◌∷◌}
use Rattle.board_core.specs.Bags.{Has, Names, SameBag, as_number, count, is_numbered}
use Rattle.rvfi_rows.specs.declared.verdict.Verdict.{Verdict}
use Rattle.rvfi_rows.specs.declared.verdict.Verdict.TheVariants.{Agrees, Differs, Refused}
use Rattle.segment_judge.specs.declared.found.Found.{Found}
use Rattle.segment_judge.specs.declared.found.What.{What}
use Rattle.segment_judge.specs.declared.found.What.TheVariants.{Judged, Skipped}
use Rattle.segment_judge.specs.declared.judged.Judged.{Judged as JudgedSegment}
use Rattle.verdict_board.specs.declared.view.View.{View}
use Rattle.verdict_board.specs.declared.seat.Seat.{Seat}
use Rattle.verdict_board.specs.declared.board.Board.{Board}
use Rattle.verdict_board.specs.Seats.{AreOpened}

-- all the seats of a board for n segments, just as it was opened with them
pub record AreAllSeats (n : ℕ) (board : Board) (seats : List Seat) : Type 0 where
  pub count : ℕ
  pub at_least_1 : 1 ≤ count
  pub at_most_64 : count ≤ 64
  pub opened : AreOpened n count board seats

-- it was found of the segment of this number
abbrev pub is_found_of : {V : Type 0} → ℕ → Found V → Bool
is_found_of number found = found.seg == number

-- each segment below n was found once, and no other
abbrev pub FoundBelow : {V : Type 0} → ℕ → List (Found V) → Type 0
FoundBelow n founds = (number : ℕ) → count (is_found_of number) founds ≡ as_number (nat_lt number n)

-- each segment below n was drawn, once
abbrev pub DrewEach : ℕ → List (ℕ × ℕ) → Type 0
DrewEach n draws = (number : ℕ) → number < n → count (is_numbered number) draws ≡ 1

-- a difference or a refusal ends the trace
abbrev pub ends_trace : Verdict → Bool
ends_trace (Agrees rows valid) = false
ends_trace (Differs row difference) = true
ends_trace (Refused row fault) = true

-- the segment was judged so
abbrev pub is_end : {M : Type 0} → What (JudgedSegment M) → Bool
is_end (Judged judged) = ends_trace judged.verdict
is_end (Skipped least) = false

abbrev pub is_end_of : {M : Type 0} → ℕ → Found (JudgedSegment M) → Bool
is_end_of number found = is_found_of number found && is_end found.what

-- a segment was posted as often as it was found to end the trace
abbrev pub ArePosted : {M : Type 0} → List (Found (JudgedSegment M)) → List (ℕ × ℕ) → Type 0
ArePosted founds posts = (number : ℕ) → count (is_numbered number) posts ≡ count (is_end_of number) founds

-- a look was answered by no less than the number of a judged segment, and by less than that of a skipped one, which
-- names the answer
abbrev pub IsSeenSo : {V : Type 0} → ℕ → ℕ → What V → Type 0
IsSeenSo least number (Judged judged) = number ≤ least
IsSeenSo least number (Skipped seen) = (seen ≡ least) × (least < number)

-- the worker that made this look drew the segment, and found this of it by the look's answer
pub record IsFoundBy {V : Type 0} (view : View) (look : ℕ × ℕ) (found : Found V) : Type 0 where
  pub drew : Has view.draws (look.0, found.seg)
  pub so : IsSeenSo look.1 found.seg found.what

-- each by the look at its place
abbrev pub AreFoundBy : {V : Type 0} → View → List (ℕ × ℕ) → List (Found V) → Type 0
AreFoundBy view [] [] = Unit {0}
AreFoundBy view (look ∷ looks) (found ∷ founds) = IsFoundBy view look found × AreFoundBy view looks founds
AreFoundBy view looks founds = ⊥

-- each was found by a look of its own, and no other look was made
pub record HaveOwnLooks {V : Type 0} (view : View) (founds : List (Found V)) : Type 0 where
  pub own : List (ℕ × ℕ)
  pub are : SameBag own view.looks
  pub each : AreFoundBy view own founds

-- a segment is skipped for one that was posted
abbrev pub IsSkippedFor : {V : Type 0} → List (ℕ × ℕ) → What V → Type 0
IsSkippedFor posts (Judged judged) = Unit {0}
IsSkippedFor posts (Skipped least) = Names posts least

abbrev pub HasReason : {V : Type 0} → List (ℕ × ℕ) → Found V → Type 0
HasReason posts found = IsSkippedFor posts found.what

-- What was found of segments as a board's events leave it, in the words of those who join the verdicts.
use Rattle.std.specs.Prelude.{◌≡◌, ℕ, Bool, List, All, length, map}
use Rattle.board_core.specs.declared.event.Event.{Event}
use Rattle.board_core.specs.Bags.{SameBag}
use Rattle.board_core.specs.Machine.{looks, machine_at_start, machine_after_events}
use Rattle.hart_words.specs.declared.span.Span.{Span}
use Rattle.hart_words.specs.Memory.{Bytes}
use Rattle.rvfi_rows.specs.declared.segment.Segment.{Segment}
use Rattle.rvfi_rows.specs.Columns.{TraceColumns}
use Rattle.rvfi_rows.specs.Rows.{RowReading}
use Rattle.rvfi_rows.specs.Segments.{segment_lines}
use Rattle.hart_set.specs.declared.set.HartSet.{HartSet}
use Rattle.hart_step.specs.declared.state.Core.{Core}
use Rattle.hart_step.specs.HartSets.{SetState, set_state_of}
use Rattle.boundary_guess.specs.Guesses.{guesses_of}
use Rattle.segment_judge.specs.declared.found.Found.{Found}
use Rattle.segment_judge.specs.declared.judged.Judged.{Judged}
use Rattle.segment_judge.specs.Founds.{IsLawfulFound}
use Rattle.segment_judge.specs.Judgements.{by_set}
use Rattle.verdict_board.specs.declared.view.View.{View}
use Rattle.verdict_board.specs.Seats.{LeavesAll}
use Rattle.verdict_join.specs.Founds.{Leaves}
use Rattle.verdict_join.specs.Joining.{found_of, rows_of_segment}
use Rattle.segment_workers.specs.Runs.{ArePosted, FoundBelow, HasReason, HaveOwnLooks}

-- what a run was given, whether histories were to be kept, and what came of it: what was found, and the view of the seat of all workers
pub record WorkerRun (M : Type 0) : Type 0 where
  pub keeps_history : Bool
  pub columns : TraceColumns
  pub segments : List Segment
  pub guesses : List (HartSet Core M)
  pub founds : List (Found (Judged M))
  pub view : View

-- what `run` promises of it
pub record IsPromised {M : Type 0} (bytes_of : M → Bytes) (ram_of : M → Span) (ran : WorkerRun M) : Type 0 where
  pub one_each : length ran.guesses ≡ length ran.segments
  pub lawful : All (IsLawfulFound ran.keeps_history bytes_of ram_of ran.columns ran.segments ran.guesses) ran.founds
  pub once : FoundBelow (length ran.segments) ran.founds
  pub by : HaveOwnLooks ran.view ran.founds
  pub reasons : All (HasReason ran.view.posts) ran.founds
  pub posted : ArePosted ran.founds ran.view.posts

-- events leave what was found, as the definitions have it
abbrev pub LeavesFounds : {M : Type 0} → (M → Bytes) → WorkerRun M → List Event → Type 0
LeavesFounds bytes_of ran events =
    let rows : List (List RowReading) = map (rows_of_segment ran.columns) ran.segments in
    let states : List SetState = map (set_state_of bytes_of) ran.guesses in
    Leaves by_set rows states (length ran.segments) events (map (found_of rows states) ran.founds)

-- a view with the draws, posts and looks of the machine after events, in place of its own
abbrev pub view_by_events : ℕ → List Event → View → View
view_by_events n events view = record view {
  draws = (machine_after_events (machine_at_start n) events).draws;
  posts = (machine_after_events (machine_at_start n) events).posts;
  looks = looks (machine_at_start n) events;
}

-- these are the events of a run: the machine after them has just the draws, posts and looks of the seat of all workers,
-- and all that `run` promises of what was found holds by these; so they leave what was found
pub record AreEventsOf {M : Type 0} (bytes_of : M → Bytes) (ram_of : M → Span) (ran : WorkerRun M)
    (events : List Event) : Type 0 where
  pub draws_are : SameBag (machine_after_events (machine_at_start (length ran.segments)) events).draws ran.view.draws
  pub posts_are : SameBag (machine_after_events (machine_at_start (length ran.segments)) events).posts ran.view.posts
  pub looks_are : SameBag (looks (machine_at_start (length ran.segments)) events) ran.view.looks
  pub promised : IsPromised bytes_of ram_of (record ran { view = view_by_events (length ran.segments) events ran.view })
  pub leave : LeavesFounds bytes_of ran events

-- the events by which the closing of the board explains the view are those of the run
abbrev pub EventsLeaveFounds : {M : Type 0} → (M → Bytes) → (M → Span) → WorkerRun M → Type 0
EventsLeaveFounds bytes_of ram_of ran =
    (drawn least : ℕ) (closed : LeavesAll (length ran.segments) ran.view drawn least)
    → AreEventsOf bytes_of ram_of ran closed.events

-- a run was given the guesses that rows let one make from a state on
abbrev pub IsGuessedFrom : {M : Type 0} → (M → Bytes) → SetState → WorkerRun M → Type 0
IsGuessedFrom bytes_of start ran =
    map (set_state_of bytes_of) ran.guesses ≡ guesses_of start ran.columns (map segment_lines ran.segments)

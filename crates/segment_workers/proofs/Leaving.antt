-- What was found, as events leave it.
use Rattle.std.proofs.Common.{◌≡◌, ℕ, ◌<◌, List, length, map, slice_get, Option, Some, None, refl, sym, ◌∙◌, arith}
use Rattle.std.proofs.Common.{inl, inr}
use Rattle.std.proofs.lemmas.List.{length-map}
use Rattle.std.proofs.lemmas.List.Elements.{All-map, All-weaker}
use Rattle.std.proofs.lemmas.Option.{slice_get_cases}
use Rattle.board_core.specs.declared.event.Event.{Event}
use Rattle.board_core.specs.Bags.{Has, SameBag, as_number, is_numbered, is_pair}
use Rattle.board_core.specs.Machine.{looks, machine_at_start, machine_after_events}
use Rattle.hart_words.specs.declared.span.Span.{Span}
use Rattle.hart_words.specs.Memory.{Bytes}
use Rattle.rvfi_rows.specs.Rows.{RowReading}
use Rattle.hart_step.specs.HartSets.{SetState, set_state_of}
use Rattle.segment_judge.specs.declared.found.What.{What}
use Rattle.segment_judge.specs.declared.found.What.TheVariants.{Judged, Skipped}
use Rattle.segment_judge.specs.declared.judged.Judged.{Judged as JudgedSegment}
use Rattle.segment_judge.specs.Judgements.{by_set}
use Rattle.verdict_board.specs.declared.view.View.{View}
use Rattle.verdict_join.specs.Founds.{IsLeftBy, WasFoundSo}
use Rattle.verdict_join.specs.Joining.{finding, found_of, rows_of_segment}
use Rattle.verdict_join.proofs.Findings.{found_theirs}
use Rattle.verdict_join.proofs.Lawful.{IsTheirFinding}
use Rattle.segment_workers.specs.Laws.{EventsLeaveFounds, IsPromised, LeavesFounds, WorkerRun, view_by_events}
use Rattle.segment_workers.specs.Runs.{HasReason, IsSkippedFor}
use Rattle.segment_workers.proofs.Accounts.{IsSeenBySome, found_by_some, found_stays}

-- below its length a list has an element
no_none : {X : Type 0} (xs : List X) (i : ℕ) → i < length xs → slice_get xs i ≡ None → ⊥
no_none xs i low none =
    elim (slice_get_cases xs i).1 [ inl at ↦ (let is = at.2 in cc) | inr past ↦ omega (arith, past.0, low) ]

-- what one bag has the other has
pub has_same : (one other : List (ℕ × ℕ)) → SameBag one other → (pair : ℕ × ℕ) → Has other pair → Has one pair
has_same one other same pair has = omega (arith, has, same (λ x. as_number (is_pair pair x)))

module _ {M : Type 0} (rows : List (List RowReading)) (states : List SetState) (view : View) (n : ℕ)
    (events : List Event)
    (looks_same : SameBag (looks (machine_at_start n) events) view.looks) where
  found_so : (worker number : ℕ) (what : What (JudgedSegment M)) → number < length rows → number < length states
      → IsSeenBySome view worker number what
      → IsTheirFinding by_set rows states number (finding (slice_get rows number) (slice_get states number) what)
      → WasFoundSo by_set rows states n events worker number
      (finding (slice_get rows number) (slice_get states number) what)
  found_so worker number (Skipped least) row state seen theirs =
      (seen.0, has_same (looks (machine_at_start n) events) view.looks looks_same (worker, least) seen.1)
  found_so worker number (Judged judged) row state seen theirs =
      by (slice_get rows number) (slice_get states number) refl refl theirs
    where
      by : (mine : Option (List RowReading)) (guess : Option SetState) → slice_get rows number ≡ mine
          → slice_get states number ≡ guess
          → IsTheirFinding by_set rows states number (finding mine guess (Judged judged))
          → WasFoundSo by_set rows states n events worker number (finding mine guess (Judged judged))
      by None guess no_row at theirs = absurd (no_none rows number row no_row)
      by (Some mine) None here no_state theirs = absurd (no_none states number state no_state)
      by (Some mine) (Some guess) here at theirs = theirs

-- what run promises of a view holds of the events that have its draws, posts and looks
by_events : {M : Type 0} (bytes_of : M → Bytes) (ram_of : M → Span) (ran : WorkerRun M) (events : List Event)
    → let n : ℕ = length ran.segments in
    SameBag (machine_after_events (machine_at_start n) events).draws ran.view.draws
    → SameBag (machine_after_events (machine_at_start n) events).posts ran.view.posts
    → SameBag (looks (machine_at_start n) events) ran.view.looks
    → IsPromised bytes_of ram_of ran
    → IsPromised bytes_of ram_of (record ran { view = view_by_events n events ran.view })
by_events {M} bytes_of ram_of ran events draws_are posts_are looks_are promised =
    let n = length ran.segments in
    let now = view_by_events n events ran.view in
    record {
      one_each = promised.one_each;
      lawful = promised.lawful;
      once = promised.once;
      by =
          record {
            own = promised.by.own;
            are = λ h. promised.by.are h ∙ sym (looks_are h);
            each =
                found_stays ran.view now (has_same now.draws ran.view.draws draws_are) promised.by.own ran.founds
                promised.by.each;
          };
      reasons =
          All-weaker (HasReason ran.view.posts) (HasReason now.posts) (λ found. reason found.what) ran.founds
          promised.reasons;
      posted = λ number. posts_are (λ post. as_number (is_numbered number post)) ∙ promised.posted number;
    }
  where
    reason : (what : What (JudgedSegment M)) → IsSkippedFor ran.view.posts what
        → IsSkippedFor (machine_after_events (machine_at_start (length ran.segments)) events).posts what
    reason (Judged judged) named = tt
    reason (Skipped least) named = omega (arith, named, posts_are (λ post. as_number (is_numbered least post)))

leaves_founds : {M : Type 0} (bytes_of : M → Bytes) (ram_of : M → Span) (ran : WorkerRun M) (events : List Event)
    → let n : ℕ = length ran.segments in
    SameBag (machine_after_events (machine_at_start n) events).draws ran.view.draws
    → SameBag (looks (machine_at_start n) events) ran.view.looks → IsPromised bytes_of ram_of ran
    → LeavesFounds bytes_of ran events
leaves_founds {M} bytes_of ram_of ran events draws_are looks_are promised =
    let rows : List (List RowReading) = map (rows_of_segment ran.columns) ran.segments in
    let states : List SetState = map (set_state_of bytes_of) ran.guesses in
    let n = length ran.segments in
    let rows_many : length rows ≡ n = length-map ran.segments (rows_of_segment ran.columns) in
    let states_many : length states ≡ n = length-map ran.guesses (set_state_of bytes_of) ∙ promised.one_each in
    All-map (IsLeftBy by_set rows states n events) (found_of rows states) ran.founds (λ k d low.
    let lawful = promised.lawful k d low in
    let by = found_by_some ran.view ran.founds promised.by k d low in
    record {
      below = lawful.below;
      worker = by.worker;
      drew = has_same (machine_after_events (machine_at_start n) events).draws ran.view.draws draws_are _ by.drew;
      so =
          found_so rows states ran.view n events looks_are by.worker _ _ (omega (arith, lawful.below, rows_many))
          (omega (arith, lawful.below, states_many)) by.so
          (found_theirs ran.keeps_history bytes_of ram_of ran.columns ran.segments ran.guesses _ lawful);
    })

pub events_leave_founds : {M : Type 0} (bytes_of : M → Bytes) (ram_of : M → Span) (ran : WorkerRun M)
    → IsPromised bytes_of ram_of ran → EventsLeaveFounds bytes_of ram_of ran
events_leave_founds bytes_of ram_of ran promised drawn least closed = record {
  draws_are = closed.draws_are;
  posts_are = closed.posts_are;
  looks_are = closed.looks_are;
  promised = by_events bytes_of ram_of ran closed.events closed.draws_are closed.posts_are closed.looks_are promised;
  leave = leaves_founds bytes_of ram_of ran closed.events closed.draws_are closed.looks_are promised;
}

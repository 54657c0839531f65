-- The join of segments has the verdict on all lines.
use Rattle.std.proofs.Common.{◌≡◌, ℕ, List, length, map, sym, ap, ◌∙◌, subst, All}
use Rattle.std.specs.List.{flat_map}
use Rattle.std.proofs.lemmas.List.{length-map}
use Rattle.board_core.specs.declared.event.Event.{Event}
use Rattle.hart_words.specs.Memory.{Bytes}
use Rattle.rvfi_rows.specs.declared.segment.Segment.{Segment}
use Rattle.rvfi_rows.specs.Columns.{TraceColumns}
use Rattle.rvfi_rows.specs.Rows.{RowReading, rows_of}
use Rattle.rvfi_rows.specs.Segments.{segment_lines}
use Rattle.hart_set.specs.declared.set.HartSet.{HartSet}
use Rattle.hart_step.specs.declared.state.Core.{Core}
use Rattle.hart_step.specs.HartSets.{set_state_of}
use Rattle.hart_step.specs.HartSets.{SetState}
use Rattle.boundary_guess.specs.Pieces.{lines_of_pieces}
use Rattle.boundary_guess.specs.Guesses.{guesses_of}
use Rattle.segment_judge.specs.declared.found.Found.{Found}
use Rattle.segment_judge.specs.Judgements.{Judgement, by_set}
use Rattle.verdict_join.specs.Founds.{candidates}
use Rattle.verdict_join.specs.Joins.{Candidate, Sameness, joined}
use Rattle.verdict_join.specs.Laws.{HasVerdict, IsLawfulCandidate, TellsApart, rows_through}
use Rattle.verdict_join.proofs.Walks.{joins_any_guesses}
use Rattle.judge_run.specs.Events.{AnyEvents, pieces_rows}
use Rattle.verdict_join.proofs.Coded.{through}
use Rattle.verdict_join.proofs.Lawful.{candidates_rows, guess_for_each, left_lawful, pieces_read}

over_rows : (start : SetState) (segments : List (Candidate (List Core))) (same : Sameness (List Core)) (rows : List RowReading)
    → TellsApart same → All (IsLawfulCandidate by_set) segments → rows_through segments ≡ rows
    → HasVerdict by_set start rows (joined by_set same segments start)
over_rows start segments same rows tells lawful is =
    subst (λ rows. HasVerdict by_set start rows (joined by_set same segments start)) is
    (joins_any_guesses by_set same segments start tells lawful)

pub any_events : (start : SetState) (columns : TraceColumns) (pieces : List (List (List ℕ))) (guesses : List SetState)
    (events : List Event) (founds : List (Found (Judgement (List Core))))
    → AnyEvents start columns pieces guesses events founds
any_events start columns pieces guesses events founds one_each left same tells =
    let rows = pieces_rows columns pieces in
    let enough : length guesses ≡ length rows = one_each ∙ sym (length-map pieces (rows_of columns)) in
    over_rows start (candidates rows guesses founds) same (rows_of columns (lines_of_pieces pieces)) tells
    (left_lawful by_set rows guesses (length pieces) events founds left)
    (candidates_rows 0 rows guesses founds enough ∙ pieces_read columns pieces)

-- there is a guess for each segment
pub guesses_for_each : {M : Type 0} (bytes_of : M → Bytes) (start : SetState) (columns : TraceColumns)
    (segments : List Segment) (guesses : List (HartSet Core M))
    → map (set_state_of bytes_of) guesses ≡ guesses_of start columns (map segment_lines segments)
    → length guesses ≡ length segments
guesses_for_each bytes_of start columns segments guesses is =
    sym (length-map guesses (set_state_of bytes_of)) ∙ ap length is
    ∙ guess_for_each start columns (map segment_lines segments) ∙ length-map segments segment_lines

-- the lines of segments that were read are as before
pub same_lines : (one other : List Segment) → map segment_lines one ≡ map segment_lines other
    → flat_map segment_lines one ≡ flat_map segment_lines other
same_lines one other same = through one ∙ ap lines_of_pieces same ∙ sym (through other)

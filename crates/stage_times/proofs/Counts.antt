-- How many lines a window has.
use Rattle.std.proofs.Common.{◌≡◌, ℕ, ◌≤◌, List, length, map, arith, sym, ap, ◌∙◌}
use Rattle.std.specs.List.{flat_map}
use Rattle.std.proofs.lemmas.List.{length-map}
use Rattle.hart_words.specs.Memory.{Bytes}
use Rattle.hart_set.specs.declared.set.HartSet.{HartSet}
use Rattle.hart_step.specs.declared.state.Core.{Core}
use Rattle.hart_step.specs.HartSets.{SetState, set_state_of}
use Rattle.boundary_guess.specs.Pieces.{lines_of_pieces}
use Rattle.boundary_guess.specs.Guesses.{guesses_of}
use Rattle.rvfi_rows.specs.Columns.{TraceColumns}
use Rattle.rvfi_rows.specs.declared.segment.Segment.{Segment}
use Rattle.rvfi_rows.specs.Segments.{segment_lines}
use Rattle.trace_lines.specs.declared.piece.Ending.{Ending}
use Rattle.trace_lines.specs.declared.piece.Ending.TheVariants.{End, More, TooLarge, TooLong}
use Rattle.trace_lines.specs.Pieces.{FitsEnding}
use Rattle.verdict_join.proofs.Coded.{through}
use Rattle.verdict_join.proofs.Lawful.{guess_for_each}

-- no more lines are taken than are asked for
pub fits_most : (ending : Ending) (asked count : ℕ) → FitsEnding ending asked count → count ≤ asked
fits_most More asked count fits = omega (arith, fits)
fits_most End asked count fits = omega (arith, fits)
fits_most TooLarge asked count fits = omega (arith, fits)
fits_most (TooLong line) asked count fits = omega (arith, fits)

-- there is a guess for each segment
pub guess_for_each_segment : {M : Type 0} (bytes_of : M → Bytes) (start : SetState) (columns : TraceColumns)
    (segments : List Segment) (guesses : List (HartSet Core M))
    → map (set_state_of bytes_of) guesses ≡ guesses_of start columns (map segment_lines segments)
    → length guesses ≡ length segments
guess_for_each_segment bytes_of start columns segments guesses is =
    sym (length-map guesses (set_state_of bytes_of)) ∙ ap length is
    ∙ guess_for_each start columns (map segment_lines segments) ∙ length-map segments segment_lines

-- segments that were read have as many lines as before
pub as_many_lines : (one other : List Segment) → map segment_lines one ≡ map segment_lines other
    → length (flat_map segment_lines one) ≡ length (flat_map segment_lines other)
as_many_lines one other same = ap length (through one ∙ ap lines_of_pieces same ∙ sym (through other))

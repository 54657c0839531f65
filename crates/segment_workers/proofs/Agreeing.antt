-- Each segment of a trace that agrees is judged.
use Rattle.std.proofs.Common.{◌≡◌, List, map, sym, ap, ◌∙◌, subst}
use Rattle.hart_words.specs.declared.span.Span.{Span}
use Rattle.hart_words.specs.Memory.{Bytes}
use Rattle.rvfi_rows.specs.Rows.{RowReading, rows_of}
use Rattle.rvfi_rows.specs.Segments.{segment_lines}
use Rattle.hart_step.specs.HartSets.{SetState, set_state_of}
use Rattle.segment_judge.specs.Judgements.{by_set}
use Rattle.verdict_join.specs.Founds.{candidates}
use Rattle.verdict_join.specs.Guessed.{AgreesFrom, guessed_candidates}
use Rattle.verdict_join.specs.Joining.{candidates_of, found_of, rows_of_segment}
use Rattle.verdict_join.specs.Laws.{AreJudgedInTurn, EachIsJudged}
use Rattle.verdict_join.proofs.Agreement.{agreeing_are_judged}
use Rattle.verdict_join.proofs.Coded.{read_twice}
use Rattle.segment_workers.specs.Laws.{IsGuessedFrom, IsPromised, WorkerRun}
use Rattle.segment_workers.proofs.Turns.{segments_judged_in_turn}

pub each_judged : {M : Type 0} (bytes_of : M → Bytes) (ram_of : M → Span) (ran : WorkerRun M) (start : SetState)
    → IsPromised bytes_of ram_of ran → IsGuessedFrom bytes_of start ran
    → AgreesFrom start ran.columns (map segment_lines ran.segments)
    → EachIsJudged (candidates_of bytes_of ran.columns ran.segments ran.guesses ran.founds)
each_judged bytes_of ram_of ran start promised guessed agrees =
    let rows : List (List RowReading) = map (rows_of_segment ran.columns) ran.segments in
    let states : List SetState = map (set_state_of bytes_of) ran.guesses in
    let founds = map (found_of rows states) ran.founds in
    let pieces = map segment_lines ran.segments in
    let same : candidates rows states founds ≡ guessed_candidates start ran.columns pieces founds =
    ap (λ read. candidates read states founds) (read_twice ran.columns ran.segments)
    ∙ ap (λ guesses. candidates (map (rows_of ran.columns) pieces) guesses founds) guessed in
    let judged = segments_judged_in_turn bytes_of ram_of ran promised in
    subst EachIsJudged (sym same) (agreeing_are_judged start ran.columns pieces founds agrees
    (subst (AreJudgedInTurn by_set) same judged))

-- The outcome of a told trace.
use Rattle.std.proofs.Common.{◌≡◌, ℕ, suc, Bool, true, List, [], ◌∷◌, length, drop, nat_le, Option, Some, None, IsSome, Ok}
use Rattle.std.proofs.Common.{Err, refl, sym, ap, subst, ◌∙◌, arith, string_bytes}
use Rattle.std.proofs.lemmas.Bool.{le-leb}
use Rattle.outside_ports.specs.Faults.{MissesWhere}
use Rattle.outside_ports.specs.Ports.{Files, file_of, IsThere, IsMissing}
use Rattle.judge_words.specs.Job.{JobView}
use Rattle.trace_lines.specs.declared.piece.Piece.{Piece}
use Rattle.trace_lines.specs.declared.piece.Ending.{Ending}
use Rattle.trace_lines.specs.declared.piece.LineError.{LineError}
use Rattle.trace_lines.specs.declared.piece.LineError.TheVariants as lines
use Rattle.trace_lines.specs.Errors.{is_read_fault}
use Rattle.trace_lines.specs.declared.line_taker.LineTaker.{LineTaker}
use Rattle.trace_lines.specs.Lines.{RemainingLines, file_lines}
use Rattle.trace_lines.specs.Pieces.{piece_view, front_of, back_of}
use Rattle.trace_lines.specs.Takers.{Opens, TakesWhereKnown, remaining_lines_of, lines_left_after}
use Rattle.rvfi_rows.specs.Columns.{TraceColumns}
use Rattle.rvfi_rows.specs.Rows.{RowReading, rows_of}
use Rattle.trace_report.specs.declared.outcome.Outcome.{Outcome}
use Rattle.hart_step.specs.HartSets.{set_state_of}
use Rattle.hart_step.specs.HartSets.{SetState}
use Rattle.hart_step.specs.declared.state.Core.{Core}
use Rattle.judge_run.specs.declared.answer.Answer.{Answer}
use Rattle.judge_run.specs.declared.stop.Stop.{Stop}
use Rattle.judge_run.specs.declared.stop.Stop.TheVariants.{Known, ReadFault, NoMemory}
use Rattle.hart_words.specs.Memory.{Bytes}
use Rattle.row_origin.specs.Histories.{HistoryView, IsKept, history_of}
use Rattle.segment_judge.specs.Histories.{history_at, history_from, trail_from}
use Rattle.segment_judge.proofs.Histories.{history_told}
use Rattle.segment_judge.specs.Judgements.{by_set}
use Rattle.segment_judge.specs.Laws.{Conclusion, conclusion_from}
use Rattle.judge_run.specs.declared.progress.Progress.{Progress}
use Rattle.judge_run.specs.declared.progress.TraceEnd.{TraceEnd}
use Rattle.judge_run.specs.Parts.{IsEndTold, end_after, end_in, end_of, position_of}
use Rattle.judge_run.proofs.Passing.{counted_from_none}
use Rattle.judge_run.specs.PartHistories.{IsHistoryTold, history_in}
use Rattle.judge_run.specs.Answer.{asks_origins, AnswerView, RowsEnd, Step, answer_with, columns_in, lines_answer, ruling_at_end}
use Rattle.judge_run.specs.Answer.{trace_answer}
use Rattle.judge_run.specs.Stops.{MeantBy, MeantWhereKnown, MissesStop, LacksFile, line_stop}

-- the first line of the front is that of all lines
columns_of_front : (job : JobView) (lines : List (List ℕ)) (ending : Ending)
    → columns_in job (front_of 1 (record { lines = lines; ending = ending }))
    ≡ columns_in job (record { lines = lines; ending = ending })
unfolding columns_in front_of
columns_of_front job [] ending = refl
columns_of_front job (header ∷ rows) ending =
    let some : nat_le 1 (suc (length rows)) ≡ true = le-leb 1 (suc (length rows)) (omega arith) in
    rw some refl

first_columns : (job : JobView) (left first : RemainingLines) → first ≡ front_of 1 left
    → columns_in job left ≡ columns_in job first
first_columns job left first front =
    sym (columns_of_front job left.lines left.ending) ∙ ap (λ view. columns_in job view) (sym front)

-- no row was judged yet, and the harts is where the run starts
pub record IsAtStart {M : Type 0} (bytes_of : M → Bytes) (start : SetState) (progress : Progress M) : Type 0 where
  pub state : set_state_of bytes_of progress.harts ≡ start
  pub rows : progress.counts.rows ≡ 0
  pub valid : progress.counts.valid ≡ 0

-- what rows did up to the verdict on them, as the trail of all of them tells it
abbrev rows_told : SetState → List RowReading → HistoryView
rows_told start rows = history_at (trail_from start rows) (conclusion_from by_set start rows).verdict

-- what the first line and then the others come to, from the start
lines_give : {M : Type 0} {bytes_of : M → Bytes} {start : SetState} {first : RemainingLines} {columns : TraceColumns}
    (job : JobView) (left : RemainingLines) (progress : Progress M) → first ≡ front_of 1 left
    → columns_in job first ≡ Ok columns → IsAtStart bytes_of start progress
    → lines_answer job start left
    ≡ Ok (answer_with job (end_after job columns (position_of bytes_of progress) (back_of 1 left))
    (rows_told start (rows_of columns (drop 1 left.lines))))
unfolding lines_answer end_after back_of
lines_give {M} {bytes_of} {start} {first} {columns} job left progress front named at_start =
    let here : columns_in job left ≡ Ok columns = first_columns job left first front ∙ named in
    let judged : Conclusion (List Core) = conclusion_from by_set start (rows_of columns (drop 1 left.lines)) in
    rw (here, at_start.state, at_start.rows, at_start.valid)
    (ap
    (λ whole. Ok (answer_with job (record { ruling = ruling_at_end job left.ending whole; state = judged.end })
    (rows_told start (rows_of columns (drop 1 left.lines)))))
    (sym (counted_from_none judged.verdict)))

lines_stop : (job : JobView) (start : SetState) (left first : RemainingLines) (stop : Option Outcome)
    → first ≡ front_of 1 left → columns_in job first ≡ Err stop → lines_answer job start left ≡ Err stop
unfolding lines_answer
lines_stop job start left first stop front stopped =
    let here : columns_in job left ≡ Err stop = first_columns job left first front ∙ stopped in
    rw here refl

-- where a text is there, the trace is that text
text_decides : (job : JobView) (start : SetState) (trace : Option (List ℕ)) (text : List ℕ) (answer : Step AnswerView)
    → trace ≡ Some text → lines_answer job start (file_lines job.max_trace text) ≡ answer
    → trace_answer job start trace ≡ answer
unfolding trace_answer
text_decides job start trace text answer here is = rw here is

-- a taker that was opened has all lines left
all_left : (job : JobView) (name file : List ℕ) (taker : LineTaker) → Opens name job.max_trace taker
    → remaining_lines_of file taker ≡ file_lines job.max_trace file
all_left job name file taker opens =
    ap (λ cursor. lines_left_after taker.most file cursor) opens.cursor ∙ ap (λ most. file_lines most file) opens.most

-- the first line of a trace was taken, by a taker that was opened
pub record TakesHeader (files : Option Files) (name : List ℕ) (job : JobView) (taker : LineTaker) (first : Piece)
    (after : LineTaker) : Type 0 where
  pub opens : Opens name job.max_trace taker
  pub file_exists : IsThere files (string_bytes taker.name)
  pub takes : TakesWhereKnown (file_of files (string_bytes taker.name)) 1 taker first after

-- a file whose header was taken is there
is_there : {name : List ℕ} {job : JobView} {taker : LineTaker} {first : Piece} (files : Option Files)
    (after : LineTaker) → TakesHeader files name job taker first after → IsMissing files (string_bytes after.name) → ⊥
is_there None after header missing = missing
is_there {taker = taker} {first = first} (Some files) after header missing =
    of (files (string_bytes taker.name)) refl header.file_exists header.takes
  where
    of : (file : Option (List ℕ)) → files (string_bytes taker.name) ≡ file → IsSome file
        → TakesWhereKnown file 1 taker first after → ⊥
    of None e is one = absurd cc
    of (Some file) e is one =
        let again : files (string_bytes after.name) ≡ Some file =
        ap (λ text. files (string_bytes text)) one.name ∙ e in
        cc

-- what is left after the first line does what the trail of all rows tells
rows_are_told : {M : Type 0} {start : SetState} (bytes_of : M → Bytes) (columns : TraceColumns) (file : List ℕ)
    (progress : Progress M) (left : RemainingLines) → IsAtStart bytes_of start progress
    → remaining_lines_of file progress.taker ≡ back_of 1 left
    → history_in columns bytes_of file progress ≡ rows_told start (rows_of columns (drop 1 left.lines))
unfolding back_of conclusion_from
rows_are_told {start = start} bytes_of columns file progress left at_start back =
    ap (λ (rest : RemainingLines). history_from (set_state_of bytes_of progress.harts) (rows_of columns rest.lines)) back
    ∙ ap (λ state. history_from state (rows_of columns (drop 1 left.lines))) at_start.state
    ∙ history_told (rows_of columns (drop 1 left.lines)) start

-- what the rest of a told file comes to, after its first line
pub trace_told : {M : Type 0} {bytes_of : M → Bytes} {name : List ℕ} {job : JobView} {start : SetState}
    {taker : LineTaker} {first : Piece} {columns : TraceColumns} (files : Option Files) (progress : Progress M)
    (end : TraceEnd M) (given : AnswerView) → TakesHeader files name job taker first progress.taker
    → columns_in job (piece_view first) ≡ Ok columns → IsAtStart bytes_of start progress
    → IsEndTold job columns bytes_of (file_of files (string_bytes progress.taker.name)) progress end
    → IsKept (asks_origins job.command) (history_of []) progress.history
    → IsHistoryTold (asks_origins job.command) columns bytes_of (file_of files (string_bytes progress.taker.name))
    progress end
    → ((history : HistoryView) → IsKept (asks_origins job.command) history end.history
    → given ≡ answer_with job (end_of job bytes_of end) history)
    → MeantWhereKnown files (λ given. given) (Ok given) (λ files. trace_answer job start (files name))
trace_told None progress end given header named reset gives none kept seen = tt
trace_told {M} {bytes_of} {name} {job} {start} {taker} {first} {columns} (Some files) progress end given header named
    reset gives none kept seen = of (files (string_bytes taker.name)) refl header.file_exists header.takes
  where
    asks : Bool
    asks = asks_origins job.command

    of : (file : Option (List ℕ)) → files (string_bytes taker.name) ≡ file → IsSome file
        → TakesWhereKnown file 1 taker first progress.taker
        → trace_answer job start (files name) ≡ Ok given
    of None e is one = absurd cc
    of (Some file) e is one =
        let here : files name ≡ Some file = ap files (sym header.opens.name) ∙ e in
        let again : files (string_bytes progress.taker.name) ≡ Some file =
        ap (λ text. files (string_bytes text)) one.name ∙ e in
        let whole : end_of job bytes_of end ≡ end_in job columns bytes_of file progress =
        subst (λ file. IsEndTold job columns bytes_of file progress end) again gives in
        let all : remaining_lines_of file taker ≡ file_lines job.max_trace file =
        all_left job name file taker header.opens in
        let front : piece_view first ≡ front_of 1 (file_lines job.max_trace file) = one.taken ∙ ap (front_of 1) all in
        let back : remaining_lines_of file progress.taker ≡ back_of 1 (file_lines job.max_trace file) =
        one.left ∙ ap (back_of 1) all in
        let rows = rows_of columns (drop 1 (file_lines job.max_trace file).lines) in
        let told : history_in columns bytes_of file progress ≡ rows_told start rows =
        rows_are_told bytes_of columns file progress (file_lines job.max_trace file) reset back in
        let all_kept = (subst (λ file. IsHistoryTold asks columns bytes_of file progress end) again kept) [] none
        reset.rows in
        let seen_so = seen (rows_told start rows) (subst (λ view. IsKept asks view end.history) told all_kept) in
        text_decides job start (files name) file (Ok given) here
        (lines_give job (file_lines job.max_trace file) progress front named reset
        ∙ ap (λ left. Ok (answer_with job (end_after job columns (position_of bytes_of progress) left)
        (rows_told start rows))) (sym back)
        ∙ ap (λ (end : RowsEnd). Ok (answer_with job end (rows_told start rows))) (sym whole)
        ∙ sym (ap (λ (given : AnswerView). Ok given) seen_so))

-- what is meant by a view is meant by what it shows
pub seen_as : {X Y : Type 0} (view : X → Y) (x : X) (y : Y) (files : Option Files) (meant : Files → Step Y)
    → view x ≡ y → MeantWhereKnown files (λ y. y) (Ok y) meant → MeantWhereKnown files view (Ok x) meant
seen_as view x y None meant same is = tt
seen_as {X} {Y} view x y (Some files) meant same is = is ∙ ap (λ (y : Y). Ok y) (sym same)

-- a header that stops the run
pub trace_stops : {X : Type 0} {name : List ℕ} {job : JobView} {taker after : LineTaker} {first : Piece}
    (view : X → AnswerView) (files : Option Files) (start : SetState) (stop : Stop)
    → TakesHeader files name job taker first after
    → MeantBy {X = TraceColumns} {Y = TraceColumns} (λ columns. columns) (Err stop) (columns_in job (piece_view first))
    → MeantWhereKnown files view (Err stop) (λ files. trace_answer job start (files name))
trace_stops view None start stop header meant = tt
trace_stops view (Some files) start ReadFault header meant = tt
trace_stops view (Some files) start NoMemory header meant = tt
trace_stops {X} {name} {job} {taker} {after} {first} view (Some files) start (Known outcome) header meant =
    of (files (string_bytes taker.name)) refl header.file_exists header.takes
  where
    of : (file : Option (List ℕ)) → files (string_bytes taker.name) ≡ file → IsSome file
        → TakesWhereKnown file 1 taker first after → trace_answer job start (files name) ≡ Err (Some outcome)
    of None e is one = absurd cc
    of (Some file) e is one =
        let here : files name ≡ Some file = ap files (sym header.opens.name) ∙ e in
        let front : piece_view first ≡ front_of 1 (file_lines job.max_trace file) =
        one.taken ∙ ap (front_of 1) (all_left job name file taker header.opens) in
        text_decides job start (files name) file (Err (Some outcome)) here
        (lines_stop job start (file_lines job.max_trace file) (piece_view first) (Some outcome) front meant)

-- a file that was there once is there later
pub still_there : (known_files : Option Files) (taker middle : LineTaker) (first : Piece)
    → IsThere known_files (string_bytes taker.name)
    → TakesWhereKnown (file_of known_files (string_bytes taker.name)) 1 taker first middle
    → IsThere known_files (string_bytes middle.name)
still_there None taker middle first is one = tt
still_there (Some files) taker middle first is one = of (files (string_bytes taker.name)) refl is one
  where
    of : (file : Option (List ℕ)) → files (string_bytes taker.name) ≡ file → IsSome file
        → TakesWhereKnown file 1 taker first middle → IsSome (files (string_bytes middle.name))
    of None e is one = absurd cc
    of (Some file) e is one =
        let again : files (string_bytes middle.name) ≡ Some file =
        ap (λ text. files (string_bytes text)) one.name ∙ e in
        subst IsSome (sym again) refl

-- and is not missed
pub not_missed : (known_files : Option Files) (name : List ℕ) → IsThere known_files name → IsMissing known_files name
    → ⊥
not_missed None name is missing = missing
not_missed (Some files) name is missing = cc

-- a file that is missed is one that the trace lacks
pub trace_lacks : (known_files : Option Files) (name : List ℕ) (job : JobView) (start : SetState)
    → IsMissing known_files name → LacksFile known_files (λ files. trace_answer job start (files name))
unfolding trace_answer
trace_lacks None name job start missing = missing
trace_lacks (Some files) name job start missing = rw missing refl

-- a failed call for lines misses what the trace lacks
pub lines_missed : (error : LineError) (known_files : Option Files) (name : List ℕ) (meant : Files → Step AnswerView)
    (before now : ℕ) → (IsMissing known_files name → LacksFile known_files meant)
    → MissesWhere (is_read_fault error) known_files name before now
    → MissesStop {X = Answer} (Err (line_stop error)) known_files meant before now
lines_missed lines.ReadFault known_files name meant before now lacks misses = λ rise. lacks (misses rise)
lines_missed lines.NoMemory known_files name meant before now lacks misses = misses

-- a read that fails after the header was taken misses no file
pub later_missed : {name : List ℕ} {job : JobView} {taker : LineTaker} {first : Piece} {after : LineTaker}
    (error : LineError) (files : Option Files) (meant : Files → Step AnswerView) (before now : ℕ)
    → TakesHeader files name job taker first after
    → MissesWhere (is_read_fault error) files (string_bytes after.name) before now
    → MissesStop {X = Answer} (Err (line_stop error)) files meant before now
later_missed {after = after} error files meant before now header misses =
    lines_missed error files (string_bytes after.name) meant before now
    (λ missing. absurd (is_there files after header missing)) misses

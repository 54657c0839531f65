-- The answer to words that ask for a made trace.
use Rattle.std.proofs.Common.{◌≡◌, ◌∙◌, ◌≤◌, ◌^◌, ◌+◌, ◌*◌, ℕ, false, List, ◌∷◌, length, nat_lt, Option, Some, None, Ok, refl}
use Rattle.std.proofs.Common.{ap, ap₂, arith}
use Rattle.std.proofs.lemmas.Bool.{le-ltb}
use Rattle.std.specs.Prelude.{replicate, unwrap_or}
use Rattle.outside_ports.specs.Ports.{Files}
use Rattle.judge_words.specs.Job.{IsMadeJob, JobView, job_of}
use Rattle.judge_words.specs.declared.job.Command.{Command}
use Rattle.hart_words.specs.declared.choices.Choices.{Choices}
use Rattle.hart_words.specs.Choices.{plain_choices}
use Rattle.hart_words.specs.Memory.{Bytes}
use Rattle.judge_words.specs.declared.values.TheConstants.{FIRST_PC}
use Rattle.judge_words.specs.declared.job.Command.TheVariants.{Make}
use Rattle.judge_words.proofs.MadeJobs.{made_plain}
use Rattle.trace_maker.specs.Texts.{made_image, made_trace}
use Rattle.image_text.specs.Image.{image_of}
use Rattle.trace_lines.specs.declared.piece.Ending.TheVariants.{End}
use Rattle.trace_lines.specs.Lines.{RemainingLines, file_lines}
use Rattle.rvfi_rows.specs.declared.verdict.Verdict.{Verdict}
use Rattle.rvfi_rows.specs.declared.verdict.Verdict.TheVariants.{Agrees}
use Rattle.rvfi_rows.specs.Columns.{TraceColumns, header_columns}
use Rattle.rvfi_rows.specs.Rows.{RowReading, rows_of}
use Rattle.trace_report.specs.declared.outcome.Ruling.{Ruling}
use Rattle.trace_report.specs.declared.outcome.Ruling.TheVariants as rulings
use Rattle.csr_file.specs.declared.profile.CsrProfile.{CsrProfile}
use Rattle.csr_file.specs.Profiles.{plain_profile}
use Rattle.hart_step.specs.Cores.{core_at_reset, core_at_reset_of}
use Rattle.hart_step.specs.declared.state.Core.{Core}
use Rattle.hart_step.specs.HartSets.{SetState}
use Rattle.row_origin.specs.Histories.{HistoryView}
use Rattle.segment_judge.specs.Histories.{history_at, trail_from}
use Rattle.segment_judge.specs.Judgements.{by_hart, by_set, judgement_of}
use Rattle.segment_judge.specs.Laws.{Conclusion, conclusion_from}
use Rattle.segment_judge.proofs.Alone.{judges_alone, rows_first}
use Rattle.made_runs.specs.Laws.{MadeRunAgrees}
use Rattle.made_runs.specs.Lines.{made_left, made_lines}
use Rattle.made_runs.specs.Shows.{header_line, made_columns, trace_columns}
use Rattle.made_runs.specs.States.{IsMadeMap}
use Rattle.made_runs.proofs.ImageTexts.{image_len}
use Rattle.made_runs.proofs.MadeTexts.{texts_agree}
use Rattle.made_runs.proofs.TraceLines.{trace_len}
use Rattle.judge_run.specs.Answer.{AnswerView, answer, answer_by_line, answer_of_step, answer_step_of, columns_in}
use Rattle.judge_run.specs.Answer.{image_in, is_elf, is_saved, job_answer, lines_answer, made_of, outcome_of}
use Rattle.judge_run.specs.Answer.{asks_origins, origins_if, ruling_at_end, start_at, start_in, start_of, state_written, text_start, trace_answer}
use Rattle.judge_run.specs.Answer.{trace_in}

-- an image that is not too long and has no fault
start_is : (job : JobView) (text : List ℕ) (image : ℕ → Option ℕ) → length text ≤ job.max_image
    → (is_elf text ≡ false) × (is_saved text ≡ false) → image_of job.map.ram text ≡ Ok image
    → start_of job (Some text) ≡ Ok (start_at job image FIRST_PC)
unfolding start_of start_in
start_is job text image fits plain read =
    let under : nat_lt job.max_image (length text) ≡ false = le-ltb job.max_image (length text) fits in
    rw (under, plain.0, plain.1) (ap (text_start job) read)

-- the text that is made is no ELF file and no saved state
made_is_text : (number : ℕ) → (is_elf (made_image number) ≡ false) × (is_saved (made_image number) ≡ false)
unfolding made_image
made_is_text number = (refl, refl)

-- no state is written of what is made
made_by_line : (job : JobView) (number rows : ℕ) (ruling : Ruling) (state : Option SetState) (history : HistoryView)
    → job.command ≡ Make number rows
    → ◌≡◌ {A = AnswerView}
    (record {
      outcome = outcome_of job ruling;
      state = state_written job.command ruling state;
      origins = origins_if (asks_origins job.command) history;
    })
    (answer_by_line (outcome_of job ruling))
made_by_line job number rows ruling state history made =
    ap
    (λ (command : Command (List ℕ)). record {
      outcome = outcome_of job ruling;
      state = state_written command ruling state;
      origins = origins_if (asks_origins command) history;
    }) made

-- the columns of what is made, as the job has them
abbrev job_columns : JobView → TraceColumns
job_columns job = record { named = made_columns; harts = job.harts }

-- a trace whose lines are a header and rows
lines_are : {number count : ℕ} (job : JobView) (start : SetState) (rows : List (List ℕ)) (verdict : Verdict)
    → job.command ≡ Make number count → header_columns header_line ≡ Ok made_columns
    → (conclusion_from by_set start (rows_of (job_columns job) rows)).verdict ≡ verdict
    → lines_answer job start (record { lines = header_line ∷ rows; ending = End })
    ≡ Ok (answer_by_line (outcome_of job (ruling_at_end job End verdict)))
unfolding lines_answer columns_in
lines_are {number} {count} job start rows verdict made named is =
    let judged : Conclusion (List Core) = conclusion_from by_set start (rows_of (job_columns job) rows) in
    rw named
    (ap (λ (given : AnswerView). Ok given)
    (made_by_line job number count (ruling_at_end job End judged.verdict) judged.end
    (history_at (trail_from start (rows_of (job_columns job) rows)) judged.verdict) made)
    ∙ ap (λ verdict. Ok (answer_by_line (outcome_of job (ruling_at_end job End verdict)))) is)

trace_is : (job : JobView) (start : SetState) (text : List ℕ) (left : RemainingLines)
    → file_lines job.max_trace text ≡ left
    → trace_answer job start (Some text) ≡ lines_answer job start left
unfolding trace_answer
trace_is job start text left is = ap (lines_answer job start) is

-- the image, then the trace
both_are : (job : JobView) (image trace : Option (List ℕ)) (start : SetState) → start_of job image ≡ Ok start
    → job_answer job image trace ≡ trace_answer job start trace
unfolding job_answer
both_are job image trace start read = rw read refl

-- the words, then image and trace
pub words_ask : (words : List (List ℕ)) (files : Files) (job : JobView) → job_of words ≡ Some job
    → answer words files ≡ answer_of_step (job_answer job (image_in job.command files) (trace_in job.command files))
unfolding answer answer_step_of
words_ask words files job asked = rw asked refl

-- the verdict on what is made by so many harts, with these settings
verdict_by : JobView → (ℕ → Option ℕ) → List RowReading → CsrProfile → Option ℕ → Choices → ℕ → Verdict
verdict_by job bytes readings profile pc choices harts =
    (judgement_of by_set (replicate harts (core_at_reset_of profile (unwrap_or pc FIRST_PC) job.map choices)) readings
    (λ a. unwrap_or (bytes a) 0)).verdict

-- the verdict on what is made, from where it starts: that of its one harts alone
verdict_is : (job : JobView) (number rows : ℕ) (bytes : ℕ → Option ℕ) → job.profile ≡ plain_profile → job.pc ≡ None
    → job.choices ≡ plain_choices → job.harts ≡ 1
    → (judgement_of by_hart (core_at_reset FIRST_PC job.map plain_choices)
    (rows_of trace_columns (made_lines number rows)) (λ a. unwrap_or (bytes a) 0)).verdict ≡ Agrees rows rows
    → (conclusion_from by_set (start_at job bytes FIRST_PC)
    (rows_of (job_columns job) (made_lines number rows))).verdict ≡ Agrees rows rows
unfolding conclusion_from verdict_by core_at_reset
verdict_is job number rows bytes profile pc choices one is =
    let lines = made_lines number rows in
    let readings = rows_of trace_columns lines in
    let core = core_at_reset FIRST_PC job.map plain_choices in
    let memory : Bytes = λ a. unwrap_or (bytes a) 0 in
    ap (λ harts. verdict_by job bytes (rows_of (record { named = made_columns; harts = harts }) lines) job.profile job.pc
    job.choices job.harts) one
    ∙ ap (verdict_by job bytes readings job.profile job.pc job.choices) one
    ∙ ap (λ profile. verdict_by job bytes readings profile job.pc job.choices 1) profile
    ∙ ap₂ (λ pc choices. verdict_by job bytes readings plain_profile pc choices 1) pc choices
    ∙ ap (λ judgement. judgement.verdict) (judges_alone readings core memory (rows_first trace_columns lines refl))
    ∙ is

-- the texts that are made agree
job_agrees : (job : JobView) (number rows : ℕ) → job.command ≡ Make number rows → IsMadeJob job number rows
    → job_answer job (Some (made_image number)) (Some (made_trace number rows))
    ≡ Ok (answer_by_line (outcome_of job (rulings.Verdict (Agrees rows rows))))
job_agrees job number rows made plain =
    let few : rows ≤ 2 ^ 18 = plain.within_most_rows in
    let most_image : job.max_image ≡ 2 ^ 30 = plain.max_image in
    let most_trace : job.max_trace ≡ 2 ^ 40 = plain.max_trace in
    let image_short : length (made_image number) ≡ 82 = image_len number in
    let trace_short : length (made_trace number rows) ≤ 110 + 179 * rows = trace_len number rows (omega arith) in
    let image_fits : length (made_image number) ≤ job.max_image = omega arith in
    let trace_fits : length (made_trace number rows) ≤ job.max_trace = omega arith in
    let is : IsMadeMap job.map = record { base = plain.base; size = plain.size } in
    let run : MadeRunAgrees job.map number rows job.max_trace =
    texts_agree job.map number rows job.max_trace is (omega arith) trace_fits in
    let start : SetState = start_at job run.image.bytes FIRST_PC in
    both_are job (Some (made_image number)) (Some (made_trace number rows)) start
    (start_is job (made_image number) run.image.bytes image_fits (made_is_text number) run.image.image)
    ∙ trace_is job start (made_trace number rows) (made_left number rows) run.lines
    ∙ lines_are job start (made_lines number rows) (Agrees rows rows) made run.columns
    (verdict_is job number rows run.image.bytes plain.profile plain.pc plain.choices plain.harts run.verdict)

pub made_agree : (words : List (List ℕ)) (job : JobView) (files : Files) (number rows : ℕ) → job_of words ≡ Some job
    → job.command ≡ Make number rows
    → answer words files
    ≡ Some
    (answer_by_line
    (record { made = Some (record { number = number; rows = rows }); ruling = rulings.Verdict (Agrees rows rows) }))
made_agree words job files number rows asked made =
    words_ask words files job asked
    ∙ ap (λ (command : Command (List ℕ)). answer_of_step
    (job_answer job (image_in command files) (trace_in command files))) made
    ∙ ap answer_of_step (job_agrees job number rows made (made_plain words job number rows asked made))
    ∙ ap (λ (command : Command (List ℕ)). Some
    (answer_by_line (record { made = made_of command; ruling = rulings.Verdict (Agrees rows rows) }))) made

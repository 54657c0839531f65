-- The answer of a run: what the words, the image and the trace come to.
use Rattle.std.specs.Prelude.{ℕ, Bool, nat_lt, ◌==◌, ◌&&◌, if◌then◌else◌, List, [], ◌∷◌, drop, length, slice_index}
use Rattle.std.specs.Prelude.{Option}
use Rattle.std.specs.Prelude.{true, false, Some, None, is_some, map, option_and_then, replicate, Result, Ok, Err, unwrap_or}
use Rattle.std.specs.List.{starts_with}
use Rattle.outside_ports.specs.Ports.{Files}
use Rattle.judge_words.specs.Job.{JobView, job_of}
use Rattle.judge_words.specs.declared.values.TheConstants.{FIRST_PC}
use Rattle.judge_words.specs.declared.job.Command.{Command}
use Rattle.judge_words.specs.declared.job.Command.TheVariants.{Judge, Make}
use Rattle.judge_words.specs.declared.job.Product.TheVariants.{Origins, State}
use Rattle.trace_maker.specs.Texts.{made_image, made_trace}
use Rattle.elf_image.specs.declared.fault.ElfFault.{ElfFault}
use Rattle.elf_image.specs.Image.{elf_of}
use Rattle.image_text.specs.declared.fault.ImageFault.{ImageFault}
use Rattle.image_text.specs.Image.{image_of}
use Rattle.trace_lines.specs.declared.piece.Ending.{Ending}
use Rattle.trace_lines.specs.declared.piece.Ending.TheVariants as endings
use Rattle.trace_lines.specs.Lines.{RemainingLines, file_lines}
use Rattle.rvfi_rows.specs.declared.fault.HeaderFault.{HeaderFault}
use Rattle.rvfi_rows.specs.declared.verdict.Verdict.{Verdict}
use Rattle.rvfi_rows.specs.declared.verdict.Verdict.TheVariants.{Agrees, Differs, Refused}
use Rattle.rvfi_rows.specs.Columns.{ColumnList, TraceColumns, header_columns}
use Rattle.rvfi_rows.specs.Rows.{rows_of}
use Rattle.hart_words.specs.Results.{◌>>=◌}
use Rattle.trace_report.specs.declared.outcome.Made.{Made}
use Rattle.trace_report.specs.declared.outcome.Outcome.{Outcome}
use Rattle.trace_report.specs.declared.outcome.Ruling.{Ruling}
use Rattle.trace_report.specs.declared.outcome.Ruling.TheVariants as rulings
use Rattle.trace_report.specs.Report.{report_with}
use Rattle.hart_words.specs.Memory.{Bytes}
use Rattle.hart_step.specs.declared.state.Core.{Core}
use Rattle.hart_step.specs.Cores.{core_at_reset_of}
use Rattle.hart_step.specs.HartSets.{SetState}
use Rattle.row_origin.specs.Histories.{HistoryView, origins_in_history}
use Rattle.row_origin.specs.Origins.{OriginsView}
use Rattle.segment_judge.specs.Histories.{history_at, trail_from}
use Rattle.segment_judge.specs.Judgements.{by_set}
use Rattle.segment_judge.specs.Laws.{Conclusion, conclusion_from}
use Rattle.state_text.specs.declared.fault.StateFault.{StateFault}
use Rattle.state_text.specs.Lines.{version_line}
use Rattle.state_text.specs.Texts.{saved_text, state_in}

-- what a run comes to: an outcome, the state whose text is written in place of the outcome's line, where one is, and the
-- origins whose lines follow that line, where they are asked for
pub record AnswerView : Type 0 where
  pub outcome : Outcome
  pub state : Option SetState
  pub origins : Option OriginsView

-- the bytes that are written: the outcome's line with those of origins, or the text of the state
abbrev pub bytes_by : Outcome → Option OriginsView → Option SetState → List ℕ
bytes_by outcome origins None = report_with outcome origins
bytes_by outcome origins (Some state) = saved_text state.core state.bytes

abbrev pub answer_bytes : AnswerView → List ℕ
answer_bytes answer = bytes_by answer.outcome answer.origins answer.state

-- an answer by its parts
abbrev pub answer_of : Outcome → Option SetState → Option OriginsView → AnswerView
answer_of outcome state origins = record { outcome = outcome; state = state; origins = origins }

-- an outcome with its line, and those of origins
abbrev pub answer_by_lines : Outcome → Option OriginsView → AnswerView
answer_by_lines outcome origins = answer_of outcome None origins

abbrev pub answer_by_line : Outcome → AnswerView
answer_by_line outcome = answer_by_lines outcome None

-- a step towards the answer: its value, or the outcome at once, or nothing where a file is missing
abbrev pub Step : Type 0 → Type 0
Step A = Result A (Option Outcome)

-- a text that has to be there
abbrev pub required_text : Option (List ℕ) → Step (List ℕ)
required_text None = Err None
required_text (Some text) = Ok text

-- the texts of a command's image and of its trace: files, where they are there, or what is made
abbrev pub image_in : Command (List ℕ) → Files → Option (List ℕ)
image_in (Judge image trace product) files = files image
image_in (Make number rows) files = Some (made_image number)

abbrev pub trace_in : Command (List ℕ) → Files → Option (List ℕ)
trace_in (Judge image trace product) files = files trace
trace_in (Make number rows) files = Some (made_trace number rows)

-- the two numbers of what is made
abbrev pub made_of : {N : Type 0} → Command N → Option Made
made_of (Judge image trace product) = None
made_of (Make number rows) = Some (record { number = number; rows = rows })

-- a ruling on a job
abbrev pub outcome_of : JobView → Ruling → Outcome
outcome_of job ruling = record { made = made_of job.command; ruling = ruling }

abbrev pub required_job : Option JobView → Step JobView
required_job None = Err (Some (record { made = None; ruling = rulings.NoJob }))
required_job (Some job) = Ok job

-- where a run starts: so many harts at reset as the words say, over the image, and 0 elsewhere; the first pc is the one
-- that the words give, or else the image's
abbrev pub start_at : JobView → (ℕ → Option ℕ) → ℕ → SetState
start_at job bytes pc = record {
  core = replicate job.harts (core_at_reset_of job.profile (unwrap_or job.pc pc) job.map job.choices);
  bytes = λ address. unwrap_or (bytes address) 0;
}

-- a Verilog text has no first pc of its own
abbrev pub text_start : JobView → Result (ℕ → Option ℕ) ImageFault → Step SetState
text_start job (Err fault) = Err (Some (outcome_of job (rulings.ImageFault fault)))
text_start job (Ok bytes) = Ok (start_at job bytes FIRST_PC)

-- an ELF file has its entry point
abbrev pub elf_start : JobView → Result ((ℕ → Option ℕ) × ℕ) ElfFault → Step SetState
elf_start job (Err fault) = Err (Some (outcome_of job (rulings.ElfFault fault)))
elf_start job (Ok image) = Ok (start_at job image.0 image.1)

-- a hart that begins where the words say, or else where it stands
abbrev pub core_from : Option ℕ → Core → Core
core_from pc core = record core { pc = unwrap_or pc core.pc }

-- a saved state has harts and their memory; a pc that the words give is that of every hart
abbrev pub saved_start : JobView → Result (List Core × Bytes) StateFault → Step SetState
saved_start job (Err fault) = Err (Some (outcome_of job (rulings.StateFault fault)))
saved_start job (Ok saved) = Ok (record { core = map (core_from job.pc) saved.0; bytes = saved.1 })

-- the first four bytes are those of an ELF file
abbrev pub is_elf : List ℕ → Bool
is_elf image =
    (slice_index image 0 == 0x7f) && (slice_index image 1 == 0x45)
    && (slice_index image 2 == 0x4c) && (slice_index image 3 == 0x46)

-- the first line is that of a saved state
abbrev pub is_saved : List ℕ → Bool
is_saved image = starts_with (λ a b. a == b) image version_line

-- an image is an ELF file or a saved state by its first bytes, and else a Verilog text
abbrev pub image_start : JobView → List ℕ → Step SetState
image_start job image =
    if is_elf image then elf_start job (elf_of job.map.ram image)
    else if is_saved image then saved_start job (state_in job.profile job.map job.choices job.harts image)
    else text_start job (image_of job.map.ram image)

-- an image of too many bytes is refused before anything else in it
unfoldable pub start_in : JobView → List ℕ → Step SetState
start_in job image =
    if nat_lt job.max_image (length image) then Err (Some (outcome_of job (rulings.ImageTooLarge job.max_image)))
    else image_start job image

unfoldable pub start_of : JobView → Option (List ℕ) → Step SetState
start_of job image = do
  bytes ← required_text image
  start_in job bytes

-- a trace without a line; the lines of a whole text never end in `More` (trace_lines says so in
-- `laws::pieces_are_the_file`), so its cases here and below never come
abbrev pub without_header : JobView → Ending → Ruling
without_header job (endings.TooLong line) = rulings.TooLong line
without_header job endings.TooLarge = rulings.TraceTooLarge job.max_trace
without_header job endings.End = rulings.NoHeader
without_header job endings.More = rulings.NoHeader

-- rows that agree stand only where the whole trace was read
abbrev pub ruling_at_end : JobView → Ending → Verdict → Ruling
ruling_at_end job (endings.TooLong line) (Agrees rows valid) = rulings.TooLong line
ruling_at_end job endings.TooLarge (Agrees rows valid) = rulings.TraceTooLarge job.max_trace
ruling_at_end job endings.End (Agrees rows valid) = rulings.Verdict (Agrees rows valid)
ruling_at_end job endings.More (Agrees rows valid) = rulings.Verdict (Agrees rows valid)
ruling_at_end job ending (Differs row difference) = rulings.Verdict (Differs row difference)
ruling_at_end job ending (Refused row fault) = rulings.Verdict (Refused row fault)

abbrev pub as_columns : JobView → Result ColumnList HeaderFault → Step TraceColumns
as_columns job (Err fault) = Err (Some (outcome_of job (rulings.HeaderFault fault)))
as_columns job (Ok columns) = Ok (record { named = columns; harts = job.harts })

-- the columns that the first line names; where there is no line, the ending decides
unfoldable pub columns_in : JobView → RemainingLines → Step TraceColumns
columns_in job left = by_first left.lines
  where
    by_first : List (List ℕ) → Step TraceColumns
    by_first [] = Err (Some (outcome_of job (without_header job left.ending)))
    by_first (header ∷ rows) = as_columns job (header_columns header)

-- what all rows come to: the ruling on them, and the state after them where they agree
pub record RowsEnd : Type 0 where
  pub ruling : Ruling
  pub state : Option SetState

-- the same of what was judged, where the trace ends so
abbrev pub rows_end : JobView → Ending → Conclusion (List Core) → RowsEnd
rows_end job ending judged = record { ruling = ruling_at_end job ending judged.verdict; state = judged.end }

-- the state that is written: the last one, where the words ask for it and the ruling is that the rows agree
abbrev pub state_written : {N : Type 0} → Command N → Ruling → Option SetState → Option SetState
state_written (Judge image trace State) (rulings.Verdict (Agrees rows valid)) state = state
state_written command ruling state = None

-- the words ask who wrote what a row that differs read
abbrev pub asks_origins : {N : Type 0} → Command N → Bool
asks_origins (Judge image trace Origins) = true
asks_origins command = false

-- who wrote what the differing row read, where it is asked for
abbrev pub origins_if : Bool → HistoryView → Option OriginsView
origins_if true history = origins_in_history history
origins_if false history = None

-- the answer by what the rows come to and what they did
abbrev pub answer_with : JobView → RowsEnd → HistoryView → AnswerView
answer_with job end history = record {
  outcome = outcome_of job end.ruling;
  state = state_written job.command end.ruling end.state;
  origins = origins_if (asks_origins job.command) history;
}

-- The first line is the header, each other a row. Rows step their harts in order, from the start, and each is compared
-- with what its hart did. The origins of a row that differs are those that the rows before it leave, each from the last
-- row that wrote it.
unfoldable pub lines_answer : JobView → SetState → RemainingLines → Step AnswerView
lines_answer job start left = do
  columns ← columns_in job left
  let rows = rows_of columns (drop 1 left.lines)
  let judged = conclusion_from by_set start rows
  Ok (answer_with job (rows_end job left.ending judged) (history_at (trail_from start rows) judged.verdict))

unfoldable pub trace_answer : JobView → SetState → Option (List ℕ) → Step AnswerView
trace_answer job start trace = do
  text ← required_text trace
  lines_answer job start (file_lines job.max_trace text)

-- the image, then the trace
unfoldable pub job_answer : JobView → Option (List ℕ) → Option (List ℕ) → Step AnswerView
job_answer job image trace = do
  start ← start_of job image
  trace_answer job start trace

-- words, then image and trace
unfoldable pub answer_step_of : List (List ℕ) → Files → Step AnswerView
answer_step_of words files = do
  job ← required_job (job_of words)
  job_answer job (image_in job.command files) (trace_in job.command files)

abbrev pub answer_of_step : Step AnswerView → Option AnswerView
answer_of_step (Ok answer) = Some answer
answer_of_step (Err None) = None
answer_of_step (Err (Some outcome)) = Some (answer_by_line outcome)

-- the answer to these words over these files; none where a file that it takes is missing
unfoldable pub answer : List (List ℕ) → Files → Option AnswerView
answer words files = answer_of_step (answer_step_of words files)

-- the words ask for a made trace, and so for no file
abbrev pub is_made : List (List ℕ) → Bool
is_made words = is_some (option_and_then (λ job. made_of job.command) (job_of words))

-- What the reference hart makes of made rows.
use Rattle.std.specs.Prelude.{◌≡◌, ℕ, ◌+◌, ◌*◌, ◌<◌, ◌≤◌, ◌^◌, List, length, Option, Ok, unwrap_or}
use Rattle.hart_words.specs.declared.map.Map.{Map}
use Rattle.hart_words.specs.Memory.{Bytes}
use Rattle.hart_words.specs.Choices.{plain_choices}
use Rattle.rvfi_rows.specs.Columns.{header_columns}
use Rattle.rvfi_rows.specs.Rows.{rows_of}
use Rattle.rvfi_rows.specs.declared.verdict.Verdict.{Verdict}
use Rattle.rvfi_rows.specs.declared.verdict.Verdict.TheVariants.{Agrees}
use Rattle.hart_step.specs.Cores.{core_at_reset}
use Rattle.segment_judge.specs.Judgements.{by_hart, judgement_of}
use Rattle.trace_lines.specs.Lines.{file_lines}
use Rattle.trace_maker.specs.Texts.{made_trace}
use Rattle.made_runs.specs.Images.{IsMadeImage}
use Rattle.made_runs.specs.Lines.{made_left, made_lines}
use Rattle.made_runs.specs.Shows.{header_line, made_columns, made_readings, trace_columns}
use Rattle.made_runs.specs.States.{HasImage, IsMadeMap}

-- the hart, by the choices that stand where none is said, agrees with so many rows, each of them valid, from reset on
abbrev pub MadeRowsAgree : Map → (number rows : ℕ) → Bytes → Type 0
MadeRowsAgree map number rows bytes =
    IsMadeMap map → HasImage number bytes → rows < 2 ^ 64
    → (judgement_of by_hart (core_at_reset 0x80000000 map plain_choices) (made_readings number rows) bytes).verdict
    ≡ Agrees rows rows

-- a map and a memory that the law is about
pub record MadeState (number : ℕ) : Type 0 where
  pub map : Map
  pub bytes : Bytes
  pub is_map : IsMadeMap map
  pub has_image : HasImage number bytes

-- the trace's lines are its header and its rows', and nothing else, where all of it is read
abbrev pub MadeLinesStand : (number rows most : ℕ) → Type 0
MadeLinesStand number rows most =
    rows ≤ 2 ^ 64 → length (made_trace number rows) ≤ most
    → file_lines most (made_trace number rows) ≡ made_left number rows

-- the trace is no longer than this
abbrev pub MadeTraceIsShort : (number rows : ℕ) → Type 0
MadeTraceIsShort number rows = rows ≤ 2 ^ 64 → length (made_trace number rows) ≤ 110 + 179 * rows

-- the rows' lines show the rows' values
abbrev pub MadeLinesReadBack : (number rows : ℕ) → Type 0
MadeLinesReadBack number rows =
    rows ≤ 2 ^ 64 → rows_of trace_columns (made_lines number rows) ≡ made_readings number rows

-- the verdict of such a hart on lines of a made trace, from reset on over the bytes of an image
abbrev pub verdict_on_lines : Map → (ℕ → Option ℕ) → List (List ℕ) → Verdict
verdict_on_lines map image lines =
    let memory : Bytes = λ address. unwrap_or (image address) 0 in
    let readings = rows_of trace_columns lines in
    (judgement_of by_hart (core_at_reset 0x80000000 map plain_choices) readings memory).verdict

-- from the two texts to the verdict: the image, the header and the rows after it
pub record MadeRunAgrees (map : Map) (number rows most : ℕ) : Type 0 where
  pub image : IsMadeImage map number
  pub lines : file_lines most (made_trace number rows) ≡ made_left number rows
  pub columns : header_columns header_line ≡ Ok made_columns
  pub verdict : verdict_on_lines map image.bytes (made_lines number rows) ≡ Agrees rows rows

-- this holds where RAM is that of the image and all of the trace is read
abbrev pub MadeTextsAgree : Map → (number rows most : ℕ) → Type 0
MadeTextsAgree map number rows most =
    IsMadeMap map → rows < 2 ^ 64 → length (made_trace number rows) ≤ most
    → MadeRunAgrees map number rows most

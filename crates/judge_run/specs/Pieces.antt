-- A trace that is judged in pieces, each by a run of its own that begins from the state that the one before it wrote.
use Rattle.std.specs.Prelude.{◌≡◌, ℕ, ◌<◌, ◌≤◌, List, ◌∷◌, ◌++◌, length, Option, Some, None, Ok}
use Rattle.judge_words.specs.Job.{JobView}
use Rattle.trace_lines.specs.declared.piece.Ending.{Ending}
use Rattle.trace_lines.specs.declared.piece.Ending.TheVariants.{End}
use Rattle.trace_lines.specs.Lines.{file_lines}
use Rattle.rvfi_rows.specs.declared.verdict.Verdict.TheVariants.{Agrees}
use Rattle.rvfi_rows.specs.Columns.{TraceColumns, header_columns}
use Rattle.rvfi_rows.specs.Rows.{rows_of}
use Rattle.hart_step.specs.declared.state.Core.{Core}
use Rattle.hart_step.specs.HartSets.{SetState}
use Rattle.segment_judge.specs.Histories.{history_at, trail_from}
use Rattle.segment_judge.specs.Judgements.{by_set, verdict_after_rows}
use Rattle.segment_judge.specs.Laws.{Conclusion, conclusion_from}
use Rattle.state_text.specs.Texts.{saved_text}
use Rattle.judge_run.specs.Answer.{AnswerView, answer_with, job_answer, rows_end, start_of}
use Rattle.judge_run.specs.Ends.{IsReadBack}

-- A run whose rows agree, and which writes the state after them; and a trace that goes on after its own, under the same
-- header. There is a hart, as in every job.
pub record IsFirstPiece (first : JobView) (image : Option (List ℕ)) (trace header : List ℕ) (lines : List (List ℕ))
    (saved : SetState) : Type 0 where
  pub some : 0 < first.harts
  pub start : SetState
  pub starts : start_of first image ≡ Ok start
  pub file : file_lines first.max_trace trace ≡ record { lines = header ∷ lines; ending = End }
  pub given : AnswerView
  pub judged : job_answer first image (Some trace) ≡ Ok given
  pub writes : given.state ≡ Some saved
  pub back : IsReadBack saved

-- a run that begins from what was saved: it has the same profile, map, choices and number of harts, is given no first
-- pc, and takes the text
pub record BeginsFrom (first : JobView) (saved : SetState) (second : JobView) : Type 0 where
  pub profile : second.profile ≡ first.profile
  pub map : second.map ≡ first.map
  pub choices : second.choices ≡ first.choices
  pub harts : second.harts ≡ first.harts
  pub pc : second.pc ≡ None
  pub room : length (saved_text saved.core saved.bytes) ≤ second.max_image

-- what rows come to, after so many others, and so many valid ones among these
abbrev pub counted_on : ℕ → ℕ → Conclusion (List Core) → Conclusion (List Core)
counted_on rows valid judged = record { verdict = verdict_after_rows rows valid judged.verdict; end = judged.end }

-- The second run over a trace is what all rows come to from where the first began, less the first's rows and, after
-- `agrees`, less its valid ones. Where its trace ends otherwise than at the end of the file, that stands in place of an
-- agreement, as in every run. The rows that its origins name are its own, and what the first run wrote is where they
-- begin.
pub record GoesOn (second : JobView) (start saved : SetState) (trace header : List ℕ) (lines more : List (List ℕ))
    (ending : Ending) : Type 0 where
  pub columns : TraceColumns
  pub named : header_columns header ≡ Ok columns.named
  pub harts : columns.harts ≡ second.harts
  pub rows : ℕ
  pub valid : ℕ
  pub agreed : (conclusion_from by_set start (rows_of columns lines)).verdict ≡ Agrees rows valid
  pub later : Conclusion (List Core)
  pub all : conclusion_from by_set start (rows_of columns (lines ++ more)) ≡ counted_on rows valid later
  pub answered : job_answer second (Some (saved_text saved.core saved.bytes)) (Some trace)
      ≡ Ok (answer_with second (rows_end second ending later)
      (history_at (trail_from saved (rows_of columns more)) later.verdict))

-- however long the pieces are
abbrev pub RunsGoOn : (first second : JobView) → Option (List ℕ) → (trace after header : List ℕ)
    → (lines more : List (List ℕ)) → Ending → SetState → Type 0
RunsGoOn first second image trace after header lines more ending saved =
    (piece : IsFirstPiece first image trace header lines saved) → BeginsFrom first saved second
    → file_lines second.max_trace after ≡ record { lines = header ∷ more; ending = ending }
    → GoesOn second piece.start saved after header lines more ending

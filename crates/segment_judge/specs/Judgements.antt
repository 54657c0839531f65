-- What rows come to, one after another, from a state on: the verdict on them. The state is that of harts, or of one, or
-- another that rows are judged by, one at a time.
use Rattle.std.specs.Prelude.{ℕ, ◌+◌, List, [], ◌∷◌, ◌++◌, Option, Some, None, Ok, Err}
use Rattle.hart_words.specs.declared.signal.Difference.{Difference}
use Rattle.hart_words.specs.Actions.{Action, Run, mapped}
use Rattle.hart_words.specs.Memory.{Bytes, after_writes}
use Rattle.hart_words.specs.Signals.{Shown}
use Rattle.rvfi_rows.specs.declared.verdict.Verdict.{Verdict}
use Rattle.rvfi_rows.specs.declared.verdict.Verdict.TheVariants.{Agrees, Differs, Refused}
use Rattle.rvfi_rows.specs.Meanings.{Gave}
use Rattle.rvfi_rows.specs.Rows.{RowReading}
use Rattle.hart_step.specs.declared.state.Core.{Core}
use Rattle.hart_step.specs.Steps.{step_of}
use Rattle.hart_step.specs.HartSets.{set_step_of}
use Rattle.row_compare.specs.Difference.{difference_of}
use Rattle.read_footprint.specs.Footprints.{Accesses}

-- what a valid row came to: the state after it, and its first difference, if it has one
pub record RowJudgement (C : Type 0) : Type 0 where
  pub next : C
  pub difference : Option Difference

-- how a valid row is judged from a state
abbrev pub Judging : Type 0 → Type 0
Judging C = C → Shown → Action (RowJudgement C)

-- what a row came to by a step: it is compared with what the hart did
abbrev pub row_judgement_of : {C : Type 0} → Shown → Gave C → RowJudgement C
row_judgement_of shown gave = record { next = gave.next; difference = difference_of gave.expected shown }

-- by the reference harts: the row's is stepped
unfoldable pub by_set : Judging (List Core)
by_set cores shown = mapped (row_judgement_of shown) (set_step_of cores shown)

-- by one reference hart, whatever the row says of its hart
unfoldable pub by_hart : Judging Core
by_hart core shown = mapped (row_judgement_of shown) (step_of core shown)

-- what rows come to: the verdict, the state after them where they agree, and what each valid one touched in memory,
-- one that differs too
pub record Judgement (C : Type 0) : Type 0 where
  pub verdict : Verdict
  pub end : Option C
  pub accesses : List Accesses

-- rows are numbered from 1: a verdict after so many others, and so many valid ones among these
abbrev pub verdict_after_rows : ℕ → ℕ → Verdict → Verdict
verdict_after_rows rows valid (Agrees more others) = Agrees (rows + more) (valid + others)
verdict_after_rows rows valid (Differs row difference) = Differs (rows + row) difference
verdict_after_rows rows valid (Refused row fault) = Refused (rows + row) fault

-- what all come to, by the first row, which agrees, and the others
abbrev pub judgement_after_row : {C : Type 0} → ℕ → List Accesses → Judgement C → Judgement C
judgement_after_row valid accesses rest = record {
  verdict = verdict_after_rows 1 valid rest.verdict;
  end = rest.end;
  accesses = accesses ++ rest.accesses;
}

abbrev pub accesses_by : {A : Type 0} → Run A → Accesses
accesses_by run = record { reads = run.reads; wrote = run.wrote }

-- a row that differs is the last
abbrev pub by_difference : {C : Type 0} → Option Difference → Accesses → Judgement C → Judgement C
by_difference (Some difference) accesses rest =
    record { verdict = Differs 1 difference; end = None; accesses = accesses ∷ [] }
by_difference None accesses rest = judgement_after_row 1 (accesses ∷ []) rest

-- a refused row is the last, and one that is not valid counts, and changes nothing
unfoldable pub judgement_of : {C : Type 0} → Judging C → C → List RowReading → Bytes → Judgement C
judgement_of judging core [] bytes = record { verdict = Agrees 0 0; end = Some core; accesses = [] }
judgement_of judging core (Err fault ∷ rows) bytes = record { verdict = Refused 1 fault; end = None; accesses = [] }
judgement_of judging core (Ok None ∷ rows) bytes = judgement_after_row 0 [] (judgement_of judging core rows bytes)
judgement_of judging core (Ok (Some shown) ∷ rows) bytes =
    let run = (judging core shown).run bytes in
    by_difference run.value.difference (accesses_by run)
    (judgement_of judging run.value.next rows (after_writes run.wrote bytes))

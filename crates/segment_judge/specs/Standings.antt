-- How far rows were judged, and what a row makes of that.
use Rattle.std.specs.Prelude.{◌≡◌, ℕ, List, [], ◌∷◌, ◌++◌, Option, Some, None, Ok, Err}
use Rattle.rvfi_rows.specs.declared.verdict.Verdict.{Verdict}
use Rattle.rvfi_rows.specs.Rows.{RowReading}
use Rattle.hart_step.specs.declared.state.Core.{Core}
use Rattle.hart_step.specs.HartSets.{SetState, set_step_of}
use Rattle.read_footprint.specs.Footprints.{Accesses}
use Rattle.segment_judge.specs.Judgements.{Judgement, by_set, verdict_after_rows, accesses_by}
use Rattle.segment_judge.specs.Laws.{judgement_from}

-- how far rows were judged: the state, how many rows and valid ones there were, and what these touched
pub record Standing : Type 0 where
  pub state : SetState
  pub rows : ℕ
  pub valid : ℕ
  pub accesses : List Accesses

-- the judgement of all rows, by what was judged before and the rows that are left
unfoldable pub judgement_after : Standing → List RowReading → Judgement (List Core)
judgement_after before rows =
    let rest = judgement_from by_set before.state rows in
    record {
      verdict = verdict_after_rows before.rows before.valid rest.verdict;
      end = rest.end;
      accesses = before.accesses ++ rest.accesses;
    }

-- what a row touches
abbrev pub accesses_at : SetState → RowReading → List Accesses
accesses_at state (Err fault) = []
accesses_at state (Ok None) = []
accesses_at state (Ok (Some shown)) = accesses_by ((set_step_of state.core shown).run state.bytes) ∷ []

-- a row either ends the judgement with a verdict, or leaves the rest of the rows to be judged
abbrev pub judgement_or : Option Verdict → Standing → List RowReading → Judgement (List Core)
judgement_or (Some verdict) now rows = record { verdict = verdict; end = None; accesses = now.accesses }
judgement_or None now rows = judgement_after now rows

abbrev pub RowGives : Standing → RowReading → Option Verdict → Standing → Type 0
RowGives before row end now =
    (rows : List RowReading) → judgement_after before (row ∷ rows) ≡ judgement_or end now rows

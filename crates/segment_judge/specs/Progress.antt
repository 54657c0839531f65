-- How far a segment was judged, and what a row makes of that.
use Rattle.std.specs.Prelude.{◌≡◌, Bool, List, [], ◌∷◌, ◌++◌, length, Option, Some, None}
use Rattle.hart_words.specs.declared.span.Span.{Span}
use Rattle.hart_words.specs.Memory.{Bytes, after_writes}
use Rattle.rvfi_rows.specs.declared.verdict.Verdict.{Verdict}
use Rattle.rvfi_rows.specs.Rows.{RowReading}
use Rattle.hart_step.specs.HartSets.{SetCanStep, SetState, set_state_of}
use Rattle.read_footprint.specs.Footprints.{Accesses, writes_of}
use Rattle.read_footprint.specs.Sets.{IsFootprintOf, LiesInRam}
use Rattle.row_origin.specs.Histories.{HistoryView, IsKept, history_after, history_of}
use Rattle.row_origin.specs.Trails.{RowFacts, Trail}
use Rattle.segment_judge.specs.declared.progress.Progress.{Progress}
use Rattle.segment_judge.specs.Histories.{history_after_row, history_from}
use Rattle.segment_judge.specs.Standings.{RowGives, Standing, accesses_at}

-- where rows touched this before
abbrev pub standing : {M : Type 0} → (M → Bytes) → Progress M → List Accesses → Standing
standing bytes progress accesses = record {
  state = set_state_of bytes progress.harts;
  rows = progress.counts.rows;
  valid = progress.counts.valid;
  accesses = accesses;
}

-- a row is judged, after rows that touched this
pub record JudgesRow {M : Type 0} (bytes_of : M → Bytes) (before now : Progress M) (row : RowReading)
    (end : Option Verdict) (accesses : List Accesses) : Type 0 where
  pub gives : RowGives (standing bytes_of before accesses) row end
      (standing bytes_of now (accesses ++ accesses_at (set_state_of bytes_of before.harts) row))
  pub footprint : IsFootprintOf before.footprint accesses
      → IsFootprintOf now.footprint (accesses ++ accesses_at (set_state_of bytes_of before.harts) row)
  pub bytes : bytes_of now.harts.mem
      ≡ after_writes (writes_of (accesses_at (set_state_of bytes_of before.harts) row)) (bytes_of before.harts.mem)

-- the next row may be judged: the harts can step, and all that was read or written is RAM
pub record CanJudge {M : Type 0} (ram_of : M → Span) (progress : Progress M) : Type 0 where
  pub can_step : SetCanStep ram_of progress.harts
  pub within : LiesInRam (ram_of progress.harts.mem) progress.footprint

-- after a row that does not end the judgement the history goes on, and one that ends it ends the history
abbrev pub HistoryGoesOn : Option Verdict → SetState → SetState → RowReading → Trail → HistoryView → Type 0
HistoryGoesOn None before now row trail view =
    (facts : Option RowFacts) × ((view ≡ history_of (trail ++ facts ∷ []))
    × ((rows : List RowReading) → history_from before (row ∷ rows) ≡ history_after_row facts (history_from now rows)))
HistoryGoesOn (Some verdict) before now row trail view =
    (rows : List RowReading) → history_after trail (history_from before (row ∷ rows)) ≡ view

pub record Notes {M : Type 0} (bytes_of : M → Bytes) (origin : Bool) (before now : Progress M) (row : RowReading)
    (end : Option Verdict) (trail : Trail) : Type 0 where
  pub view : HistoryView
  pub kept : IsKept origin view now.history
  pub goes : HistoryGoesOn end (set_state_of bytes_of before.harts) (set_state_of bytes_of now.harts) row trail view

-- a row is noted, after rows that did this
abbrev pub NotesRow : {M : Type 0} → (M → Bytes) → Bool → Progress M → Progress M → RowReading → Option Verdict → Trail
    → Type 0
NotesRow bytes_of origin before now row end trail =
    IsKept origin (history_of trail) before.history → length trail ≡ before.counts.rows
    → Notes bytes_of origin before now row end trail

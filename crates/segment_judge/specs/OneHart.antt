-- A trace of one hart.
use Rattle.std.specs.Prelude.{◌≡◌, ℕ, List, [], ◌∷◌, Some, None, Ok, Err, option_map}
use Rattle.hart_words.specs.Memory.{Bytes}
use Rattle.rvfi_rows.specs.Columns.{TraceColumns}
use Rattle.rvfi_rows.specs.Rows.{RowReading, hart_of, rows_of}
use Rattle.hart_step.specs.declared.state.Core.{Core}
use Rattle.segment_judge.specs.Judgements.{Judgement, by_hart, by_set, judgement_of}

-- each valid row is of hart 0: so it is of every row that is read for one hart
unfoldable pub AreOfFirst : List RowReading → Type 0
AreOfFirst [] = Unit {0}
AreOfFirst (Err fault ∷ rows) = AreOfFirst rows
AreOfFirst (Ok None ∷ rows) = AreOfFirst rows
AreOfFirst (Ok (Some shown) ∷ rows) = (hart_of shown ≡ 0) × AreOfFirst rows

-- a judgement by one hart, as one by a set of it alone
abbrev pub judgement_alone : Judgement Core → Judgement (List Core)
judgement_alone judgement = record {
  verdict = judgement.verdict;
  end = option_map (λ core. core ∷ []) judgement.end;
  accesses = judgement.accesses;
}

-- with one hart the set is the hart: rows come to what they come to by that hart
abbrev pub OneHartJudgesAlone : Core → List RowReading → Bytes → Type 0
OneHartJudgesAlone core rows bytes =
    AreOfFirst rows
    → judgement_of by_set (core ∷ []) rows bytes ≡ judgement_alone (judgement_of by_hart core rows bytes)

-- rows that are read for one hart are all of it
abbrev pub RowsAreOfFirst : TraceColumns → List (List ℕ) → Type 0
RowsAreOfFirst columns lines = columns.harts ≡ 1 → AreOfFirst (rows_of columns lines)

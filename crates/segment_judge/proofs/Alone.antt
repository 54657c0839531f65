-- A trace of one hart: the set is the hart, and each row that is read is of it.
use Rattle.std.proofs.Common.{◌≡◌, ℕ, Bool, true, false, List, [], ◌∷◌, ◌++◌, map, Option, Some, None, Result, Ok, Err}
use Rattle.std.proofs.Common.{refl, ap, ◌∙◌, arith}
use Rattle.std.specs.Prelude.{if◌then◌else◌, nat_lt}
use Rattle.std.proofs.lemmas.Bool.{ltb-true}
use Rattle.hart_words.specs.declared.signal.Difference.{Difference}
use Rattle.hart_words.specs.Actions.{Run, mapped}
use Rattle.hart_words.specs.Memory.{Bytes, after_writes}
use Rattle.hart_words.specs.Results.{◌>>=◌}
use Rattle.hart_words.specs.Signals.{Shown}
use Rattle.rvfi_rows.specs.declared.fault.RowFault.{RowFault}
use Rattle.rvfi_rows.specs.declared.fault.RowFault.TheVariants.{NoHart}
use Rattle.rvfi_rows.specs.Columns.{TraceColumns, port_numbers}
use Rattle.rvfi_rows.specs.Rows.{RowReading, hart_of, row_at_port, row_of_fields, row_of_line, row_of_present, rows_of}
use Rattle.hart_set.specs.Laws.{set_run}
use Rattle.hart_set.proofs.SetLaws.{one_alone}
use Rattle.hart_step.specs.declared.state.Core.{Core}
use Rattle.hart_step.specs.Meanings.{core_meaning}
use Rattle.read_footprint.specs.Footprints.{Accesses}
use Rattle.segment_judge.specs.Judgements.{Judgement, RowJudgement, accesses_by, by_difference, by_hart, by_set}
use Rattle.segment_judge.specs.Judgements.{judgement_of, row_judgement_of}
use Rattle.segment_judge.specs.OneHart.{AreOfFirst, OneHartJudgesAlone, RowsAreOfFirst, judgement_alone}

-- ---- the set of one hart is the hart

-- a row of one hart, as one of a set of it alone
abbrev row_alone : Run (RowJudgement Core) → Run (RowJudgement (List Core))
row_alone run = record {
  value = record { next = run.value.next ∷ []; difference = run.value.difference };
  reads = run.reads;
  wrote = run.wrote;
}

judged_alone : (core : Core) (shown : Shown) (bytes : Bytes) → hart_of shown ≡ 0
    → (by_set (core ∷ []) shown).run bytes ≡ row_alone ((by_hart core shown).run bytes)
unfolding by_set by_hart mapped
judged_alone core shown bytes first =
    ap (λ done. record {
      value = row_judgement_of shown done.value;
      reads = done.reads;
      wrote = done.wrote;
    })
    (ap (λ number. set_run core_meaning (core ∷ []) shown number bytes) first
    ∙ one_alone core_meaning core shown bytes)

joined_alone : (difference : Option Difference) (accesses : Accesses) (rest : Judgement Core)
    → by_difference difference accesses (judgement_alone rest)
    ≡ judgement_alone (by_difference difference accesses rest)
joined_alone (Some difference) accesses rest = refl
joined_alone None accesses rest = refl

pub judges_alone : (rows : List RowReading) (core : Core) (bytes : Bytes) → OneHartJudgesAlone core rows bytes
unfolding judgement_of AreOfFirst
judges_alone [] core bytes of_first = refl
judges_alone (Err fault ∷ rows) core bytes of_first = refl
judges_alone (Ok None ∷ rows) core bytes of_first = rw (judges_alone rows core bytes of_first) refl
judges_alone (Ok (Some shown) ∷ rows) core bytes of_first =
    let run = (by_hart core shown).run bytes in
    let now = after_writes run.wrote bytes in
    ap (λ done. by_difference done.value.difference (accesses_by done)
    (judgement_of by_set done.value.next rows (after_writes done.wrote bytes)))
    (judged_alone core shown bytes of_first.0)
    ∙ ap (λ rest. by_difference run.value.difference (accesses_by run) rest)
    (judges_alone rows run.value.next now of_first.1)
    ∙ joined_alone run.value.difference (accesses_by run) (judgement_of by_hart run.value.next rows now)

-- ---- rows that are read for one hart

abbrev IsOfFirst : RowReading → Type 0
IsOfFirst (Err fault) = Unit {0}
IsOfFirst (Ok None) = Unit {0}
IsOfFirst (Ok (Some shown)) = hart_of shown ≡ 0

first_and_others : (row : RowReading) (rows : List RowReading) → IsOfFirst row → AreOfFirst rows
    → AreOfFirst (row ∷ rows)
unfolding AreOfFirst
first_and_others (Err fault) rows here later = later
first_and_others (Ok None) rows here later = later
first_and_others (Ok (Some shown)) rows here later = (here, later)

present_first : (shown : Shown) (harts : ℕ) (is_there : Bool) → harts ≡ 1 → nat_lt (hart_of shown) harts ≡ is_there
    → IsOfFirst (if is_there then Ok (Some shown) else Err NoHart)
present_first shown harts true one there = omega (arith, ltb-true (hart_of shown) harts there, one)
present_first shown harts false one there = tt

read_first : (harts : ℕ) (row : Result (Option Shown) RowFault) → harts ≡ 1
    → IsOfFirst (row >>= λ found. row_of_present harts found)
read_first harts (Err fault) one = tt
read_first harts (Ok None) one = tt
read_first harts (Ok (Some shown)) one = present_first shown harts (nat_lt (hart_of shown) harts) one refl

fields_first : (columns : TraceColumns) (has_return : Bool) (fields : List (List ℕ)) (port : ℕ) → columns.harts ≡ 1
    → IsOfFirst (row_of_fields columns has_return fields port)
unfolding row_of_fields
fields_first columns has_return fields port one =
    read_first columns.harts (row_at_port columns.named has_return fields port) one

row_first : (columns : TraceColumns) (line : List ℕ) (port : ℕ) → columns.harts ≡ 1
    → IsOfFirst (row_of_line columns line port)
unfolding row_of_line
row_first columns line port one = fields_first columns _ _ port one

line_first : (columns : TraceColumns) (line : List ℕ) (ports : List ℕ) (rows : List RowReading) → columns.harts ≡ 1
    → AreOfFirst rows → AreOfFirst (map (row_of_line columns line) ports ++ rows)
line_first columns line [] rows one later = later
line_first columns line (port ∷ ports) rows one later =
    first_and_others (row_of_line columns line port) (map (row_of_line columns line) ports ++ rows)
    (row_first columns line port one) (line_first columns line ports rows one later)

pub rows_first : (columns : TraceColumns) (lines : List (List ℕ)) → RowsAreOfFirst columns lines
unfolding rows_of AreOfFirst
rows_first columns [] one = tt
rows_first columns (line ∷ lines) one =
    line_first columns line (port_numbers columns.named) (rows_of columns lines) one (rows_first columns lines one)

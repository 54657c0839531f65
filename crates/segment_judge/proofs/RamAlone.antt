-- A judgement touches RAM alone.
use Rattle.std.proofs.Common.{◌≡◌, ℕ, inl, inr, true, List, [], ◌∷◌, Option, Some, None, Ok, Err, sym, ◌∙◌, subst, All}
use Rattle.std.proofs.lemmas.Bool.{and_parts, or_cases}
use Rattle.std.proofs.lemmas.List.Concat.{flat_map-cons}
use Rattle.std.proofs.lemmas.List.Elements.{All-append, All-cons, All-head, All-nil, All-tail}
use Rattle.hart_words.specs.declared.signal.Difference.{Difference}
use Rattle.hart_words.specs.declared.span.Span.{Span}
use Rattle.hart_words.specs.Actions.{mapped}
use Rattle.hart_words.specs.Memory.{Bytes, after_writes}
use Rattle.hart_words.specs.Signals.{Shown}
use Rattle.hart_words.specs.Spans.{is_in}
use Rattle.rvfi_rows.specs.Rows.{RowReading}
use Rattle.hart_step.specs.declared.state.Core.{Core}
use Rattle.hart_step.specs.HartSets.{SetState}
use Rattle.read_footprint.specs.declared.footprint.Footprint.{Footprint}
use Rattle.read_footprint.specs.Footprints.{Accesses, footprint_of, writes_of}
use Rattle.read_footprint.specs.Sets.{IsFootprintOf, LiesInRam, has_address}
use Rattle.read_footprint.proofs.Rows.{footprint_joined, one_row_read}
use Rattle.segment_judge.specs.declared.judged.Judged.{Judged}
use Rattle.segment_judge.specs.Judgements.{Judgement, by_difference, by_set, judgement_of, accesses_by}
use Rattle.segment_judge.specs.Laws.{judgement_from}
use Rattle.segment_judge.specs.Ram.{FootprintLiesInRam, HaveRam, IsInRam, TouchesRamAlone}
use Rattle.segment_judge.proofs.SetSteps.{row_keeps_ram, row_lies}
use Rattle.segment_judge.proofs.Within.{WriteLies, read_in, written_in}

-- a row, and the others after it
row_and_others : (ram : Span) (difference : Option Difference) (accesses : Accesses) (rest : Judgement (List Core))
    → IsInRam ram accesses → All (IsInRam ram) rest.accesses
    → All (IsInRam ram) (by_difference difference accesses rest).accesses
row_and_others ram (Some difference) accesses rest here later =
    All-cons (IsInRam ram) accesses [] here (All-nil (IsInRam ram))
row_and_others ram None accesses rest here later = All-cons (IsInRam ram) accesses rest.accesses here later

judged_in_ram : (ram : Span) (cores : List Core) (shown : Shown) (bytes : Bytes) → HaveRam ram cores
    → IsInRam ram (accesses_by ((by_set cores shown).run bytes))
unfolding by_set mapped
judged_in_ram ram cores shown bytes all =
    let lies = row_lies ram cores shown bytes all in record { reads = lies.reads; writes = lies.writes }

judged_keeps_ram : (ram : Span) (cores : List Core) (shown : Shown) (bytes : Bytes) → HaveRam ram cores
    → HaveRam ram ((by_set cores shown).run bytes).value.next
unfolding by_set mapped
judged_keeps_ram ram cores shown bytes all = row_keeps_ram ram cores shown bytes all

pub touches_ram_alone : (rows : List RowReading) (ram : Span) (cores : List Core) (bytes : Bytes)
    → TouchesRamAlone ram cores rows bytes
unfolding judgement_of
touches_ram_alone [] ram cores bytes all = All-nil (IsInRam ram)
touches_ram_alone (Err fault ∷ rows) ram cores bytes all = All-nil (IsInRam ram)
touches_ram_alone (Ok None ∷ rows) ram cores bytes all = touches_ram_alone rows ram cores bytes all
touches_ram_alone (Ok (Some shown) ∷ rows) ram cores bytes all =
    let run = (by_set cores shown).run bytes in
    let now = after_writes run.wrote bytes in
    row_and_others ram run.value.difference (accesses_by run) (judgement_of by_set run.value.next rows now)
    (judged_in_ram ram cores shown bytes all)
    (touches_ram_alone rows ram run.value.next now (judged_keeps_ram ram cores shown bytes all))

-- ---- what is noted of it

footprint_in : (ram : Span) (rows : List Accesses) → All (IsInRam ram) rows → (address : ℕ)
    → has_address (footprint_of rows) address ≡ true → is_in ram address ≡ true
unfolding footprint_of
footprint_in ram [] all address is = cc
footprint_in ram (row ∷ rows) all address is =
    elim (or_cases _ _ (sym (footprint_joined (row ∷ []) rows address) ∙ is)) [
      | inl here ↦ read_in ram row.reads address (All-head (IsInRam ram) row rows all).reads
          (sym (one_row_read row address) ∙ here)
      | inr later ↦ footprint_in ram rows (All-tail (IsInRam ram) row rows all) address (and_parts _ _ later).0
    ]

writes_in : (ram : Span) (rows : List Accesses) → All (IsInRam ram) rows → All (WriteLies ram) (writes_of rows)
writes_in ram [] all = All-nil (WriteLies ram)
writes_in ram (row ∷ rows) all =
    subst (All (WriteLies ram)) (sym (flat_map-cons (λ (accesses : Accesses). accesses.wrote) row rows))
    (All-append (WriteLies ram) row.wrote (writes_of rows) (All-head (IsInRam ram) row rows all).writes
    (writes_in ram rows (All-tail (IsInRam ram) row rows all)))

noted_within : (ram : Span) (footprint : Footprint) (accesses : List Accesses) → IsFootprintOf footprint accesses
    → All (IsInRam ram) accesses → LiesInRam ram footprint
noted_within ram footprint accesses of_them all = record {
  read = λ address is. footprint_in ram accesses all address (sym (of_them.read address) ∙ is);
  wrote = λ address is. written_in ram (writes_of accesses) address (writes_in ram accesses all)
      (sym (of_them.wrote address) ∙ is);
}

pub lies_in_ram : {M : Type 0} (bytes_of : M → Bytes) (ram : Span) (start : SetState) (rows : List RowReading)
    (judged : Judged M) → FootprintLiesInRam bytes_of ram start rows judged
lies_in_ram bytes_of ram start rows judged all is =
    noted_within ram judged.footprint (judgement_from by_set start rows).accesses is.footprint
    (touches_ram_alone rows ram start.core start.bytes all)

-- Judgements over memories that agree on what they read.
use Rattle.std.proofs.Common.{◌≡◌, true, List, [], ◌∷◌, Option, Some, None, Ok, Err, refl, ap, ◌∙◌}
use Rattle.hart_words.specs.declared.signal.Difference.{Difference}
use Rattle.hart_words.specs.Actions.{Run}
use Rattle.hart_words.specs.Memory.{Bytes, AgreeOn, after_writes}
use Rattle.rvfi_rows.specs.Rows.{RowReading}
use Rattle.read_footprint.specs.Footprints.{agree, footprint_of}
use Rattle.read_footprint.proofs.Agreement.{first_reads_alike, goes_on, written_is_moved}
use Rattle.segment_judge.specs.Judgements.{Judgement, Judging, RowJudgement, by_difference, judgement_of, accesses_by}
use Rattle.segment_judge.specs.Laws.{FramedByFootprint}

-- a valid row, and the judgement of the rows after it
abbrev joined_with : {C : Type 0} → Run (RowJudgement C) → Judgement C → Judgement C
joined_with run rest = by_difference run.value.difference (accesses_by run) rest

pub reads_agree : {C : Type 0} (run : Run (RowJudgement C)) (rest : Judgement C) (one other : Bytes)
    → agree one other (footprint_of (joined_with run rest).accesses) ≡ true → AgreeOn run.reads one other
reads_agree run rest one other = by run.value.difference
  where
    by : (difference : Option Difference)
        → agree one other (footprint_of (by_difference difference (accesses_by run) rest).accesses) ≡ true
        → AgreeOn run.reads one other
    by None agrees = first_reads_alike one other (accesses_by run) rest.accesses agrees
    by (Some difference) agrees = first_reads_alike one other (accesses_by run) [] agrees

pub rest_agrees : {C : Type 0} (run : Run (RowJudgement C)) (rest : Judgement C) (one other : Bytes)
    → agree one other (footprint_of (joined_with run rest).accesses) ≡ true → run.value.difference ≡ None
    → agree (after_writes run.wrote one) (after_writes run.wrote other) (footprint_of rest.accesses) ≡ true
rest_agrees run rest one other agrees is = goes_on one other (accesses_by run) rest.accesses (rw is at agrees)

same_joined : {C : Type 0} (run : Run (RowJudgement C)) (first rest : Judgement C)
    → (run.value.difference ≡ None → rest ≡ first) → joined_with run rest ≡ joined_with run first
same_joined run first rest same = by run.value.difference refl
  where
    by : (difference : Option Difference) → run.value.difference ≡ difference
        → by_difference difference (accesses_by run) rest ≡ by_difference difference (accesses_by run) first
    by None is = ap (λ judgement. by_difference None (accesses_by run) judgement) (same is)
    by (Some difference) is = refl

same_judgement : {C : Type 0} (judging : Judging C) (core : C) (rows : List RowReading) (one other : Bytes)
    → agree one other (footprint_of (judgement_of judging core rows one).accesses) ≡ true
    → judgement_of judging core rows other ≡ judgement_of judging core rows one
unfolding judgement_of
same_judgement judging core [] one other agrees = refl
same_judgement judging core (Err fault ∷ rows) one other agrees = refl
same_judgement judging core (Ok None ∷ rows) one other agrees =
    rw (same_judgement judging core rows one other agrees) refl
same_judgement judging core (Ok (Some shown) ∷ rows) one other agrees =
    let run = (judging core shown).run one in
    let rest = judgement_of judging run.value.next rows (after_writes run.wrote one) in
    let same = (judging core shown).framed one other (reads_agree run rest one other agrees) in
    ap (λ now. joined_with now (judgement_of judging now.value.next rows (after_writes now.wrote other))) same
    ∙ same_joined run rest (judgement_of judging run.value.next rows (after_writes run.wrote other))
    (λ is. same_judgement judging run.value.next rows (after_writes run.wrote one) (after_writes run.wrote other)
    (rest_agrees run rest one other agrees is))

pub framed : {C : Type 0} (judging : Judging C) (core : C) (rows : List RowReading) (one other : Bytes)
    → FramedByFootprint judging core rows one other
framed judging core rows one other agrees = record {
  same = same_judgement judging core rows one other agrees;
  moves = written_is_moved one other (judgement_of judging core rows one).accesses;
}

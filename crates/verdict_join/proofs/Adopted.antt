-- What is adopted, and what is not.
use Rattle.std.proofs.Common.{◌≡◌, Bool, true, List, [], ◌∷◌, Option, Some, option_map, sym, ap, ◌∙◌}
use Rattle.std.proofs.Common.{arith, subst}
use Rattle.std.specs.Prelude.{◌&&◌}
use Rattle.std.specs.Borrow.{Bor}
use Rattle.std.proofs.lemmas.List.Elements.{All-head}
use Rattle.hart_words.specs.declared.span.Span.{Span}
use Rattle.hart_words.specs.Memory.{Bytes}
use Rattle.rvfi_rows.specs.Rows.{RowReading}
use Rattle.hart_set.specs.Calls.{CanStep}
use Rattle.hart_step.specs.declared.state.Core.{Core}
use Rattle.hart_step.specs.Cores.{IsSound}
use Rattle.hart_step.specs.HartSets.{SetState}
use Rattle.hart_step.specs.Meanings.{core_meaning}
use Rattle.read_footprint.specs.Footprints.{Accesses, agree, footprint_of}
use Rattle.read_footprint.specs.Sets.{IsFootprintOf}
use Rattle.segment_judge.specs.declared.judged.Judged.{Judged as JudgedSegment}
use Rattle.segment_judge.specs.Judged.{IsJudgement}
use Rattle.segment_judge.specs.Judgements.{by_set}
use Rattle.segment_judge.specs.Laws.{judgement_from}
use Rattle.verdict_join.specs.Joins.{Sameness, adopted_judgement_from, adopted_judgement_if}
use Rattle.verdict_join.specs.Laws.{miss}
use Rattle.verdict_join.specs.Walks.{IsMissedAs}

-- harts that are the same are over the same RAM: that of the first one's map
pub same_ram : {one other : Span} (cores others : List Core) → cores ≡ others → CanStep core_meaning IsSound one cores
    → CanStep core_meaning IsSound other others → one ≡ other
same_ram {one = one} {other = other} cores others same can can_other =
    over cores can (subst (CanStep core_meaning IsSound other) (sym same) can_other)
  where
    over : (harts : List Core) → CanStep core_meaning IsSound one harts → CanStep core_meaning IsSound other harts
        → one ≡ other
    over [] can can_other = absurd (omega (arith, can.some))
    over (core ∷ harts) can can_other =
        All-head (λ (core : Core). one ≡ core.map.ram) core harts can.maps
        ∙ sym (All-head (λ (core : Core). other ≡ core.map.ram) core harts can_other.maps)

pub none_missed : {M : Type 0} {rows : List RowReading} {found : Option (Bor (JudgedSegment M))}
    {judged : Bor (JudgedSegment M)} {met : Bool} (bytes_of : M → Bytes) (same : Sameness (List Core))
    (guess now : SetState) → found ≡ Some judged → met ≡ true → IsJudgement bytes_of guess rows judged.now
    → ((accesses : List Accesses) → IsFootprintOf judged.now.footprint accesses
    → met ≡ (same guess.core now.core && agree guess.bytes now.bytes (footprint_of accesses)))
    → IsMissedAs same guess now rows found (Some judged)
none_missed {rows = rows} bytes_of same guess now is holds judgement meets =
    let theirs = judgement_from by_set guess rows in
    let same_test = sym (meets theirs.accesses judgement.footprint) ∙ holds in
    let none : miss (adopted_judgement_from same guess now (Some theirs)) ≡ 0 =
    ap (λ test. miss (adopted_judgement_if test theirs)) same_test in
    ap (λ found. miss (adopted_judgement_from same guess now (option_map (λ any. theirs) found))) is ∙ none

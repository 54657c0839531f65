use Rattle.std.proofs.Common.{◌≡◌, ◌+◌, All, arith, subst, suc, sym, take}
use Rattle.std.proofs.Math.Seq.{take-suc}
use Rattle.std.proofs.lemmas.List.{take_all}
use Rattle.std.proofs.lemmas.List.Elements.{All-push}
use Rattle.hart_step.specs.Harts.{CoreHoldsWords}
use Rattle.hart_step.proofs.words.hold_core_words.Goals as goal

pub loop-core-preserved : goal.loop-core-preserved
loop-core-preserved c =
    let cores = c.args.cores.now in
    let one_more : suc c.loop-core.core-index ≡ c.loop-core.core-index + 1 = omega arith in
    let front = take-suc cores c.loop-core.core-index _ c.loop-core-test.true in
    let all =
    All-push CoreHoldsWords (take c.loop-core.core-index cores) _ c.loop-core.invariant
    (subst CoreHoldsWords c.core-item.is c.core_holds_words.ensures) in
    subst (λ count. All CoreHoldsWords (take count cores)) one_more (subst (All CoreHoldsWords) (sym front) all)

pub returns : goal.returns
returns c =
    subst (All CoreHoldsWords)
    (take_all c.loop-core.core-index c.args.cores.now (omega (arith, c.loop-core-test.false))) c.loop-core.invariant

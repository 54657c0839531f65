use Rattle.std.proofs.Common.{◌≡◌, ◌≤◌, ◌∙◌, arith}
use Rattle.hart_set.proofs.Filled.{all_copied, one_copied}
use Rattle.hart_set.proofs.set.HartSet.reset.Goals as goal

pub loop-preserved : goal.loop-preserved
loop-preserved g c =
    let one : 1 ≤ c.loop.counter = omega (arith, c.loop.auto.counter) in
    c.in_ok-push.ensures.items
    ∙ one_copied c.args.core c.in_ok-copy.field-0 c.loop.counter c.loop.cores.items one c.loop.invariant
    c.in_ok-copy.ensures

pub returns-clause-cores : goal.returns-clause-cores
returns-clause-cores g c =
    let one : 1 ≤ c.loop.counter = omega (arith, c.loop.auto.counter) in
    let all : c.loop.counter ≡ c.args.harts =
    omega (arith, c.loop.auto.counter, c.loop.auto.counter-end, c.loop-test.false, c.requires) in
    c.in_ok-push-2.ensures.items
    ∙ all_copied c.args.core c.loop.counter c.args.harts c.loop.cores.items one all c.loop.invariant

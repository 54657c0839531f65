use Rattle.std.proofs.Common.{◌*◌, ◌^◌, ◌∙◌, arith}
use Rattle.rv_float.proofs.Aligned.{powers}
use Rattle.rv_float.proofs.Roots.{chosen_second, chosen_third}
use Rattle.rv_float.proofs.quotients.number_root.Goals as goal

pub returns-then-x : goal.returns-then-x
returns-then-x c =
    let x = c.args.x in
    c.invalid.ensures ∙ chosen_second (x.m * 2 ^ x.k) x.negative _ _ _
    (powers x.m x.k (omega (arith, c.if-x-eq0.false))) c.if-x.true

pub returns-else-x : goal.returns-else-x
returns-else-x c =
    let x = c.args.x in
    c.finite_root.ensures
    ∙ chosen_third (x.m * 2 ^ x.k) x.negative _ _ _ (powers x.m x.k (omega (arith, c.if-x-eq0.false))) c.if-x.false

use Rattle.std.proofs.Common.{ℕ, ◌*◌, ◌^◌, ap, ◌∙◌, arith}
use Rattle.float_rounding.specs.Rounding.{rounded}
use Rattle.rv_float.proofs.Dividing.{quotient_rounds, quotient_stands}
use Rattle.rv_float.proofs.quotients.nonzero_quotient.Goals as goal

pub returns : goal.returns
returns c =
    let a = c.args in
    let one = c.word-a in
    let other = c.word-b in
    c.round.ensures
    ∙ quotient_rounds a.format a.mode a.negative a.x.m a.x.k a.y.m a.y.k one.result.0 one.result.1 other.result.0
    other.result.1
    c.unit_exponent.result c.with_sticky-q.result one.ensures other.ensures c.requires.y_some
    (quotient_stands one.result.0 other.result.0 c.from-n.result c.from-d.result c.with_sticky-q.result
    c.from-n.ensures c.from-d.ensures
    one.ensures.most (omega (arith, other.ensures.least)) c.with_sticky-q.ensures)
    ∙ ap (λ (u : ℕ). rounded a.format a.mode a.negative (a.x.m * 2 ^ a.x.k * 2 ^ u) (a.y.m * 2 ^ a.y.k))
    c.unit_exponent.ensures

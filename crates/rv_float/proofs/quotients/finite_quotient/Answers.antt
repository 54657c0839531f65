use Rattle.std.proofs.Common.{ℕ, ◌*◌, ◌^◌, ap, ◌∙◌, sym, arith}
use Rattle.float_rounding.specs.Formats.{unit_exponent}
use Rattle.float_rounding.specs.Rounding.{rounded}
use Rattle.rv_float.proofs.Aligned.{powers, no_power}
use Rattle.float_rounding.proofs.Rounds.{zero_value}
use Rattle.rv_float.proofs.quotients.finite_quotient.Goals as goal

pub returns-then-x-eq0 : goal.returns-then-x-eq0
returns-then-x-eq0 c =
    let a = c.args in
    c.round.ensures
    ∙ zero_value a.format a.mode a.negative 1 (a.y.m * 2 ^ a.y.k) (omega arith) (powers a.y.m a.y.k c.requires)
    ∙ ap (λ (n : ℕ). rounded a.format a.mode a.negative n (a.y.m * 2 ^ a.y.k))
    (sym (no_power (a.x.m * 2 ^ a.x.k) (unit_exponent a.format) (no_power a.x.m a.x.k c.if-x-eq0.true)))

use Rattle.std.proofs.Common.{ℕ, ◌^◌, subst, sym, refl, arith}
use Rattle.float_rounding.specs.Sticky.{StandsFor}
use Rattle.rv_float.proofs.Sticky.{shifted_out}
use Rattle.rv_float.proofs.sums.jam.Goals as goal

pub returns-else-digits-lt128 : goal.returns-else-digits-lt128
returns-else-digits-lt128 c =
    subst (λ (n : ℕ). StandsFor n (2 ^ c.args.digits) c.args.m) (sym c.with_sticky-else-digits-lt128.ensures)
    (shifted_out c.args.m c.args.digits _ c.if-digits-lt128.false (omega arith) refl)

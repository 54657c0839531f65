use Rattle.std.proofs.Common.{arith, ◌∙◌, sym, ap}
use mir.Val.{bool_byte}
use Rattle.float_rounding.proofs.Rounds.{exact_is}
use Rattle.float_rounding.proofs.Digits.{sum_fits, code_bits, up_fits}
use Rattle.float_rounding.proofs.rounding.magnitude.Goals as goal

pub overflow_add-result : goal.overflow_add-result
overflow_add-result c =
    let t = c.take-taken in
    omega (
      arith,
      sum_fits c.from.result c.args.p t.result.lower 0 (omega (arith, c.from.ensures, t.ensures.scale)) c.requires.few
          t.ensures.small (omega arith),
    )

pub overflow_add-result-2 : goal.overflow_add-result-2
overflow_add-result-2 c =
    let t = c.take-taken in
    omega (
      arith,
      sum_fits c.from.result c.args.p t.result.lower c.from-2.result (omega (arith, c.from.ensures, t.ensures.scale))
          c.requires.few t.ensures.small (up_fits _ _ c.from-2.ensures),
    )

pub returns-clause-bits : goal.returns-clause-bits
returns-clause-bits c =
    let a = c.args in
    let t = c.take-taken in
    code_bits a.p a.mode a.negative _ _ t.result.k t.result.lower t.result.place c.from.result c.from-2.result
    t.ensures.cut c.requires.few c.from.ensures
    (c.from-2.ensures ∙ ap bool_byte c.goes_up-up.ensures)

pub returns-clause-exact : goal.returns-clause-exact
returns-clause-exact c =
    let t = c.take-taken in
    c.is_at_lower.ensures ∙ sym (exact_is _ _ _ t.result.k t.result.lower t.result.place t.ensures.cut)

use Rattle.std.proofs.Common.{◌≡◌, ℕ, ap, ◌∙◌, sym, arith, ◌*◌, ◌^◌}
use Rattle.std.proofs.Math.Pow.{pow_pos}
use Rattle.float_rounding.specs.Rounding.{rounded}
use Rattle.float_rounding.proofs.Rounds.{zero_rounds, by_code}
use Rattle.float_rounding.proofs.Digits.{limit_is}
use Rattle.float_rounding.proofs.rounding.round.Goals as goal

pub returns-then-x-eq0 : goal.returns-then-x-eq0
returns-then-x-eq0 c =
    let a = c.args in
    let x = a.x in
    let none : 0 ≡ x.significand * 2 ^ x.raised =
    omega (arith, ap (λ (n : ℕ). n * 2 ^ x.raised) c.if-x-eq0.true) in
    c.packed.ensures ∙ sym (zero_rounds a.format a.mode a.negative (2 ^ x.lowered) (pow_pos x.lowered))
    ∙ ap (λ (n : ℕ). rounded a.format a.mode a.negative n (2 ^ x.lowered)) none

pub returns : goal.returns
returns c =
    let a = c.args in
    let p = c.fraction_bits-p in
    let here = c.magnitude-here in
    c.packed-2.ensures
    ∙ by_code a.format a.mode a.negative p.result a.x.significand a.x.raised (2 ^ a.x.lowered) here.result.bits
    c.magnitude-twice.result.bits _ here.result.exact
    p.ensures here.ensures.bits here.ensures.exact c.magnitude-twice.ensures.bits
    (limit_is a.format p.result p.ensures)

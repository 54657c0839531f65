use Rattle.std.proofs.Common.{ℕ, ◌*◌, ◌^◌, ap, ◌∙◌, arith, false}
use Rattle.std.specs.Float.Ieee.{root_twice}
use Rattle.float_rounding.specs.Rounding.{rounded}
use Rattle.rv_float.proofs.Roots.{root_code, room_some, large_unit}
use Rattle.rv_float.proofs.quotients.finite_root.Goals as goal

pub overflow_sub-shift : goal.overflow_sub-shift
overflow_sub-shift c = room_some c.args.x.m c.from-m.result _ c.from-m.ensures c.requires c.args.x.m_fits

pub returns : goal.returns
returns c =
    let a = c.args in
    let r = c.isqrt-r in
    c.round.ensures
    ∙ root_code a.format a.mode a.x.m c.from-m.result a.x.k c.unit_exponent.result r.result c.from.result
    c.from-m.ensures c.requires a.x.m_fits
    (omega (arith, large_unit a.format, c.unit_exponent.ensures)) r.ensures.square_le r.ensures.next_square_gt
    c.from.ensures
    ∙ ap (λ (u : ℕ). rounded a.format a.mode false (root_twice (a.x.m * 2 ^ a.x.k * 2 ^ u)) 2) c.unit_exponent.ensures

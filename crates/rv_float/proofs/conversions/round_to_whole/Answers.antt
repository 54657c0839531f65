use Rattle.std.proofs.Common.{arith, ◌∙◌, ap}
use mir.Val.{bool_byte}
use Rattle.rv_float.proofs.Wholes.{whole_down, whole_none, whole_up, whole_far}
use Rattle.rv_float.proofs.conversions.round_to_whole.Goals as goal

pub returns-then-k-unit : goal.returns-then-k-unit
returns-then-k-unit c =
    let a = c.args in
    whole_down a.mode a.negative a.m a.k a.unit c.cut-lower.result.0 c.from.result c.cut-lower.result.1
    c.is_at_lower.result c.if-k-unit.true
    c.cut-lower.ensures.0 c.cut-lower.ensures.1 (c.from.ensures ∙ ap bool_byte c.goes_up-up.ensures)
    c.is_at_lower.ensures

pub returns-then-m-eq0 : goal.returns-then-m-eq0
returns-then-m-eq0 c = whole_none c.args.mode c.args.negative c.args.m c.args.k c.args.unit (omega arith)
    c.if-m-eq0.true

pub returns-then-k-unit-lt64 : goal.returns-then-k-unit-lt64
returns-then-k-unit-lt64 c = whole_up c.args.mode c.args.negative c.args.m c.args.k c.args.unit (omega arith)
    c.requires (omega arith)

pub returns : goal.returns
returns c = whole_far c.args.mode c.args.negative c.args.m c.args.k c.args.unit (omega arith) (omega arith)
    (omega arith)

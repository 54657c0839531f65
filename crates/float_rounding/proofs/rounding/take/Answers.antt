use Rattle.std.proofs.Common.{arith}
use Rattle.float_rounding.proofs.Digits.{take_up, take_down, recut}
use Rattle.float_rounding.proofs.rounding.take.Goals as goal

pub returns-then-dropped-e-clause-cut : goal.returns-then-dropped-e-clause-cut
returns-then-dropped-e-clause-cut c =
    let a = c.args in
    let k = c.saturating_sub-k in
    (take_up a.p a.m a.e a.c k.result c.requires.some (omega arith) (omega (arith, k.ensures)) c.requires.few
    c.if-dropped-e.true).0

pub returns-then-dropped-e-clause-small : goal.returns-then-dropped-e-clause-small
returns-then-dropped-e-clause-small c =
    let a = c.args in
    let k = c.saturating_sub-k in
    (take_up a.p a.m a.e a.c k.result c.requires.some (omega arith) (omega (arith, k.ensures)) c.requires.few
    c.if-dropped-e.true).1

pub returns-clause-cut : goal.returns-clause-cut
returns-clause-cut c =
    let a = c.args in
    let k = c.saturating_sub-k in
    recut _ _ _ _ _ _ _ _
    (take_down a.p a.m a.e a.c k.result c.requires.some (omega arith) (omega (arith, k.ensures))
    c.if-dropped-e.false).0
    c.cut-lower.ensures.0 c.cut-lower.ensures.1

pub returns-clause-small : goal.returns-clause-small
returns-clause-small c =
    let a = c.args in
    let k = c.saturating_sub-k in
    rw c.cut-lower.ensures.0
    ((take_down a.p a.m a.e a.c k.result c.requires.some (omega arith) (omega (arith, k.ensures))
    c.if-dropped-e.false).1)

use Rattle.std.proofs.Common.{◌∙◌, sym, arith}
use Rattle.rv_float.proofs.Aligned.{aligned_like, aligned_above, aligned_under, aligned_level}
use Rattle.rv_float.proofs.sums.aligned_sum.Goals as goal

pub returns-else-unlike : goal.returns-else-unlike
returns-else-unlike c =
    let a = c.args in
    c.round-else-unlike.ensures
    ∙ aligned_like a.format a.mode a.x.negative a.y.negative a.x.m a.x.e a.y.m a.y.e a.c c.jam-small.result a.x.high
    a.y.high
    c.requires.order c.jam-small.ensures (sym c.unlike.ensures ∙ c.if-unlike.false)

pub returns-then-x-small : goal.returns-then-x-small
returns-then-x-small c =
    let a = c.args in
    c.round.ensures
    ∙ aligned_under a.format a.mode a.x.negative a.y.negative a.x.m a.x.e a.y.m a.y.e a.c c.jam-small.result a.x.high
    a.y.high
    c.requires.order c.jam-small.ensures (sym c.unlike.ensures ∙ c.if-unlike.true) c.if-x-small.true

pub returns-then-small-x : goal.returns-then-small-x
returns-then-small-x c =
    let a = c.args in
    c.round-then-small-x.ensures
    ∙ aligned_above a.format a.mode a.x.negative a.y.negative a.x.m a.x.e a.y.m a.y.e a.c c.jam-small.result a.x.high
    a.y.high
    c.requires.order c.jam-small.ensures (sym c.unlike.ensures ∙ c.if-unlike.true) c.if-small-x.true

pub returns-else-small-x : goal.returns-else-small-x
returns-else-small-x c =
    let a = c.args in
    rw c.is_down.ensures at c.round-else-small-x.ensures
    ∙ aligned_level a.format a.mode a.x.negative a.y.negative a.x.m a.x.e a.y.m a.y.e a.c c.jam-small.result a.x.high
    a.y.high
    c.requires.order c.jam-small.ensures (sym c.unlike.ensures ∙ c.if-unlike.true) (omega arith)

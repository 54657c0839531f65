use Rattle.std.proofs.Common.{◌∙◌, ◌*◌, ◌^◌}
use Rattle.rv_float.proofs.Aligned.{normal_sum, turned}
use Rattle.rv_float.proofs.sums.nonzero_sum.Goals as goal

pub returns-else-i-j : goal.returns-else-i-j
returns-else-i-j c =
    let a = c.args in
    c.aligned_sum-else-i-j.ensures
    ∙ normal_sum a.format a.mode a.x.negative a.y.negative a.x.m a.x.e c.normal-a.result.0 c.normal-a.result.1 a.y.m
    a.y.e c.normal-b.result.0 c.normal-b.result.1
    a.c c.normal-a.ensures c.normal-b.ensures

pub returns-then-i-j : goal.returns-then-i-j
returns-then-i-j c =
    let a = c.args in
    c.aligned_sum.ensures
    ∙ normal_sum a.format a.mode a.y.negative a.x.negative a.y.m a.y.e c.normal-b.result.0 c.normal-b.result.1 a.x.m
    a.x.e c.normal-a.result.0 c.normal-a.result.1
    a.c c.normal-b.ensures c.normal-a.ensures
    ∙ turned a.format a.mode a.y.negative (a.y.m * 2 ^ a.y.e) a.x.negative (a.x.m * 2 ^ a.x.e) (2 ^ a.c)

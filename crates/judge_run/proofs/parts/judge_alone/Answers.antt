use Rattle.std.proofs.Common.{refl}
use Rattle.judge_run.proofs.Settled.{one_segment, settled_alone}
use Rattle.judge_run.proofs.parts.judge_alone.Goals as goal

pub returns-clause-settled : goal.returns-clause-settled
returns-clause-settled g c =
    let judging = c.in_ok-verdict.ensures in
    settled_alone c.args.segment.now _ refl refl refl judging.judged judging.usable

pub returns-clause-history : goal.returns-clause-history
returns-clause-history g c = rw (one_segment c.args.segment.now) c.in_ok-verdict.ensures.history

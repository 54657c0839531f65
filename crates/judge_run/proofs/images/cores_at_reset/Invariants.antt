use Rattle.std.proofs.Common.{◌≡◌, replicate}
use Rattle.judge_run.proofs.images.cores_at_reset.Given as goal

abbrev pub invariant-loop : goal.invariant-loop
invariant-loop l = l.cores.items ≡ replicate l.counter l.core

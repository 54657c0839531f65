use Rattle.std.proofs.Common.{◌≡◌, ◌-◌, replicate}
use Rattle.hart_set.proofs.set.HartSet.reset.Given as goal

-- a copy for each number from 1 on
abbrev pub invariant-loop : goal.invariant-loop
invariant-loop g l = l.cores.items ≡ replicate (l.counter - 1) l.core

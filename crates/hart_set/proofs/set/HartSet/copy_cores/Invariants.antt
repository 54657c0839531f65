use Rattle.std.proofs.Common.{◌≡◌, take}
use Rattle.hart_set.proofs.set.HartSet.copy_cores.Given as goal

-- the first harts are there again
abbrev pub invariant-loop-core : goal.invariant-loop-core
invariant-loop-core g l = l.cores.items ≡ take l.core-index l.self.cores.items

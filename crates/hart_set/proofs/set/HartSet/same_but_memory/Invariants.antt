use Rattle.std.proofs.Common.{◌≡◌, take}
use Rattle.hart_set.proofs.set.HartSet.same_but_memory.Given as goal

-- the first harts are the same
abbrev pub invariant-loop-number : goal.invariant-loop-number
invariant-loop-number g l = take l.number l.self.cores.items ≡ take l.number l.other.cores.items

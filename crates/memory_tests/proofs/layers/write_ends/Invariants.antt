use Rattle.std.proofs.Common.{◌≡◌}
use Rattle.memory_tests.proofs.layers.write_ends.Given as goal

-- RAM stays where it is
abbrev pub invariant-loop-k : goal.invariant-loop-k
invariant-loop-k g l = g.M.PhysMem.ram l.mem ≡ g.M.PhysMem.ram l.initial.mem

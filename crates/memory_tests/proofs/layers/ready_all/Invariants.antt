use Rattle.std.proofs.Common.{◌≡◌}
use Rattle.memory_tests.proofs.layers.ready_all.Given as goal

-- RAM stays where it is
abbrev pub invariant-loop-pa : goal.invariant-loop-pa
invariant-loop-pa g l = g.M.PhysMem.ram l.mem ≡ g.M.PhysMem.ram l.initial.mem

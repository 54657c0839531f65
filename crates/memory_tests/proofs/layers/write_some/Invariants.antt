use Rattle.std.proofs.Common.{◌≡◌}
use Rattle.memory_tests.proofs.layers.write_some.Given as goal

-- RAM stays where it is
abbrev pub invariant-loop-turn : goal.invariant-loop-turn
invariant-loop-turn g l = g.M.PhysMem.ram l.mem ≡ g.M.PhysMem.ram l.initial.mem

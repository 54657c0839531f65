use Rattle.std.proofs.Common.{◌≡◌}
use Rattle.segment_tests.proofs.judging.memory.Given as goal

abbrev pub invariant-numbers : goal.invariant-numbers
invariant-numbers l = l.mem.ram ≡ l.ram

use Rattle.std.proofs.Common.{◌≡◌}
use Rattle.segment_tests.proofs.joining.memory.Given as goal

abbrev pub invariant-program : goal.invariant-program
invariant-program l = l.mem.ram ≡ l.ram

abbrev pub invariant-numbers : goal.invariant-numbers
invariant-numbers l = l.mem.ram ≡ l.ram

use Rattle.std.proofs.Common.{◌≡◌}
use Rattle.segment_tests.proofs.guesses.memory.Given as goal

abbrev pub invariant-program : goal.invariant-program
invariant-program l = l.mem.ram ≡ l.ram

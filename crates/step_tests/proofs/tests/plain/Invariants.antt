use Rattle.std.proofs.Common.{◌≡◌}
use Rattle.step_tests.proofs.tests.plain.Given as goal

abbrev pub invariant-bytes : goal.invariant-bytes
invariant-bytes l = l.mem.ram ≡ l.ram

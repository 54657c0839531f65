use Rattle.csr_file.specs.Legal.{IsLegal}
use Rattle.step_tests.proofs.modes.write_all.Given as goal

abbrev pub invariant-writes : goal.invariant-writes
invariant-writes l = IsLegal l.csrs

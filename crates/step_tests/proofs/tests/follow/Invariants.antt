use Rattle.hart_step.specs.HartSets.{SetCanStep}
use Rattle.step_tests.proofs.tests.follow.Given as goal

abbrev pub invariant-rows : goal.invariant-rows
invariant-rows g l = SetCanStep g.M.PhysMem.ram l.hart

use Rattle.hart_step.specs.HartSets.{SetCanStep}
use Rattle.segment_tests.proofs.guesses.follow.Given as goal

abbrev pub invariant-rows : goal.invariant-rows
invariant-rows l = SetCanStep (λ mem. mem.ram) l.harts

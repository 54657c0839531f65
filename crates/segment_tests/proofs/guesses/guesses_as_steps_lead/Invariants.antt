use Rattle.hart_step.specs.HartSets.{SetCanStep}
use Rattle.segment_tests.proofs.guesses.guesses_as_steps_lead.Given as goal

abbrev pub invariant-found : goal.invariant-found
invariant-found g l = SetCanStep (λ mem. mem.ram) l.harts

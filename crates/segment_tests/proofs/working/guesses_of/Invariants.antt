use Rattle.std.specs.List.{All}
use Rattle.hart_step.specs.HartSets.{SetCanStep}
use Rattle.segment_tests.proofs.working.guesses_of.Given as goal

abbrev pub invariant-guesses : goal.invariant-guesses
invariant-guesses l = All (SetCanStep (λ mem. mem.ram)) l.guesses.items

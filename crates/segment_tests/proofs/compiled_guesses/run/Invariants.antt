use Rattle.hart_step.specs.HartSets.{SetCanStep}
use Rattle.page_layers.specs.Memories.{layered_ram}
use Rattle.segment_tests.proofs.compiled_guesses.run.Given as goal

abbrev pub invariant-rows : goal.invariant-rows
invariant-rows l = SetCanStep layered_ram l.harts

use Rattle.hart_step.specs.HartSets.{SetCanStep}
use Rattle.page_layers.specs.Memories.{layered_ram}
use Rattle.segment_tests.proofs.compiled_guesses.hold_true.Given as goal

abbrev pub invariant-found : goal.invariant-found
invariant-found g l = SetCanStep layered_ram l.harts

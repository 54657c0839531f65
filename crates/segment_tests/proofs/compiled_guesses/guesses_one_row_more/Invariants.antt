use Rattle.hart_step.specs.HartSets.{SetCanStep}
use Rattle.page_layers.specs.Memories.{layered_ram}
use Rattle.segment_tests.proofs.compiled_guesses.guesses_one_row_more.Given as goal

abbrev pub invariant-rows : goal.invariant-rows
invariant-rows g l = SetCanStep layered_ram l.harts

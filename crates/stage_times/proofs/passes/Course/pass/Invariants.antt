use Rattle.hart_step.specs.HartSets.{SetCanStep}
use Rattle.page_layers.specs.Memories.{layered_ram}
use Rattle.stage_times.proofs.passes.Course.pass.Given as goal

abbrev pub invariant-windows : goal.invariant-windows
invariant-windows g l = SetCanStep layered_ram l.walk.harts

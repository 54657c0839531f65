use Rattle.std.proofs.Common.{◌≡◌}
use Rattle.page_layers.specs.Memories.{layered_ram}
use Rattle.memory_tests.proofs.layers.layers_hold_many_blocks.Given as goal

-- RAM stays where it is
abbrev pub invariant-loop-round : goal.invariant-loop-round
invariant-loop-round g l = layered_ram l.mem ≡ l.ram

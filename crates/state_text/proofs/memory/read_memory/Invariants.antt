use Rattle.std.proofs.Common.{◌+◌, length}
use Rattle.state_text.specs.Memory.{memory_in, memory_of}
use Rattle.state_text.specs.Views.{remaining_of}
use Rattle.state_text.proofs.Walks.{GoesOn, AreInside}
use Rattle.state_text.proofs.memory.read_memory.Given as goal

abbrev pub invariant-blocks-2 : goal.invariant-blocks-2
invariant-blocks-2 l = record {
  walk :
      GoesOn l.ram (memory_in l.ram (length l.fn.remaining.text.now + 1) 0 (λ _. 0) (remaining_of l.fn.remaining)) l.least
      (memory_of l.pieces) (remaining_of l.remaining);
  inside : AreInside l.ram l.pieces;
}

abbrev pub decreases-blocks-2 : goal.decreases-blocks-2
decreases-blocks-2 l = length l.remaining.text.now

use Rattle.std.proofs.Common.{◌<◌, ◌≤◌, ◌+◌, ℕ}
use Rattle.page_layers.specs.Memories.{IsSameBlock}
use Rattle.page_layers.proofs.layered.Layered.same_blocks.Given as goal

-- the first k blocks are the same
abbrev pub invariant-loop-k : goal.invariant-loop-k
invariant-loop-k l = (number : ℕ) → l.first ≤ number → number < l.first + l.k → IsSameBlock l.self l.other number

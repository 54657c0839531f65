use Rattle.std.proofs.Common.{◌<◌, ◌≤◌, ◌+◌, ℕ}
use Rattle.page_layers.specs.Memories.{IsZeroBlock, layered_bytes}
use Rattle.page_layers.proofs.layered.Layered.is_zero_page.Given as goal

-- the first k blocks are zero
abbrev pub invariant-loop-k : goal.invariant-loop-k
invariant-loop-k l = (number : ℕ) → l.first ≤ number → number < l.first + l.k
    → IsZeroBlock (layered_bytes l.self) number

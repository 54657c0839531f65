use Rattle.std.proofs.Common.{◌≡◌, ◌+◌, ◌-◌, ◌<◌, ◌≤◌, ◌^◌, ℕ}
use Rattle.hart_words.specs.Memory.{number_at}
use Rattle.page_layers.proofs.numbers.number_of.Given as goal

-- the bytes from the k-th on were read
abbrev pub invariant-loop-k : goal.invariant-loop-k
invariant-loop-k g l = record {
  number : l.number ≡ number_at (g.B.ByteAt.bytes l.bytes) (l.pa + l.k) (l.len - l.k);
  small : l.number < 256 ^ (l.len - l.k);
  within : l.k ≤ l.len;
  each : (at : ℕ) → l.pa + l.k ≤ at → at < l.pa + l.len → g.B.ByteAt.bytes l.bytes at < 256;
}

abbrev pub decreases-loop-k : goal.decreases-loop-k
decreases-loop-k g l = l.k

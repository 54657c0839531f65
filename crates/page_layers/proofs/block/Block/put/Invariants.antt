use Rattle.std.proofs.Common.{◌≡◌, ◌/◌, ◌^◌, ℕ}
use Rattle.hart_words.specs.Memory.{bytes_after_store}
use Rattle.page_layers.specs.Blocks.{block_byte}
use Rattle.page_layers.proofs.block.Block.put.Given as goal

-- the first k bytes were put
abbrev pub invariant-loop-k : goal.invariant-loop-k
invariant-loop-k l = record {
  bytes : (at : ℕ) → at / 64 ≡ l.pa / 64
      → block_byte l.self at ≡ bytes_after_store l.pa l.k l.value (block_byte l.initial.self) at;
  rest : l.rest ≡ l.value / 256 ^ l.k;
}

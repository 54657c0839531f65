use Rattle.std.proofs.Common.{◌≡◌, ◌+◌, ◌<◌, ℕ, true}
use Rattle.page_layers.specs.Memories.{map_bytes, map_has_byte}
use Rattle.page_layers.proofs.map_mem.MapMemByteMem.admit.Given as goal

-- the first k addresses of the page have a byte
abbrev pub invariant-loop-k : goal.invariant-loop-k
invariant-loop-k l = record {
  bytes : map_bytes l.self ≡ map_bytes l.initial.self;
  held : (j : ℕ) → j < l.k → map_has_byte l.self (l.first + j) ≡ true;
  keeps : (at : ℕ) → map_has_byte l.initial.self at ≡ true → map_has_byte l.self at ≡ true;
  ram : l.self.ram ≡ l.initial.self.ram;
}

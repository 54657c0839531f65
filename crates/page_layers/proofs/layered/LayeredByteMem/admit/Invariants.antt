use Rattle.std.proofs.Common.{◌≡◌, ◌+◌, ◌<◌, ℕ, true}
use Rattle.page_layers.specs.Memories.{layered_bytes, layered_ram, owns}
use Rattle.page_layers.proofs.layered.LayeredByteMem.admit.Given as goal

-- the first k blocks of the page are its own
abbrev pub invariant-loop-k : goal.invariant-loop-k
invariant-loop-k l = record {
  bytes : layered_bytes l.self ≡ layered_bytes l.initial.self;
  owned : (j : ℕ) → j < l.k → owns l.self (l.first + j) ≡ true;
  keeps : (block : ℕ) → owns l.initial.self block ≡ true → owns l.self block ≡ true;
  ram : layered_ram l.self ≡ layered_ram l.initial.self;
}

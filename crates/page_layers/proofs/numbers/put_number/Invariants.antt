use Rattle.std.proofs.Common.{◌≡◌, ◌/◌, ◌^◌, ℕ}
use Rattle.hart_words.specs.Memory.{bytes_after_store}
use Rattle.page_layers.proofs.numbers.put_number.Given as goal

-- the first k bytes were put
abbrev pub invariant-loop-k : goal.invariant-loop-k
invariant-loop-k g l = record {
  bytes : g.M.ByteMem.bytes l.mem ≡ bytes_after_store l.pa l.k l.value (g.M.ByteMem.bytes l.initial.mem);
  ram : g.M.ByteMem.ram l.mem ≡ g.M.ByteMem.ram l.initial.mem;
  rest : l.rest ≡ l.value / 256 ^ l.k;
  admits : (page : ℕ) → g.M.ByteMem.admits l.initial.mem page → g.M.ByteMem.admits l.mem page;
}

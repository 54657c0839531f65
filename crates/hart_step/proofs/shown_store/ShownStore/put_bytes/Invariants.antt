use Rattle.std.proofs.Common.{◌≡◌}
use Rattle.hart_step.specs.PlainRows.{AreReady, bytes_put}
use Rattle.hart_step.proofs.shown_store.ShownStore.put_bytes.Given as goal

abbrev pub invariant-loop-number : goal.invariant-loop-number
invariant-loop-number g l = record {
  ready : AreReady (g.M.PhysMem.is_ready l.mem) l.ram l.self 8;
  bytes : g.M.PhysMem.bytes l.mem ≡ bytes_put l.ram l.self l.number (g.M.PhysMem.bytes l.fn.mem);
  ram : g.M.PhysMem.ram l.mem ≡ g.M.PhysMem.ram l.fn.mem;
}

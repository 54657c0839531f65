use Rattle.std.proofs.Common.{◌≡◌}
use Rattle.hart_step.specs.PlainRows.{AreReady}
use Rattle.hart_step.proofs.shown_store.ShownStore.ready.Given as goal

abbrev pub invariant-loop-number : goal.invariant-loop-number
invariant-loop-number g l = record {
  ready : AreReady (g.M.PhysMem.is_ready l.mem) l.ram l.self l.number;
  bytes : g.M.PhysMem.bytes l.mem ≡ g.M.PhysMem.bytes l.fn.mem;
  ram : g.M.PhysMem.ram l.mem ≡ g.M.PhysMem.ram l.fn.mem;
}

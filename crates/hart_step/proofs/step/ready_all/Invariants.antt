use Rattle.std.proofs.Common.{◌≡◌, take}
use Rattle.hart_step.specs.Changes.{AreReady}
use Rattle.hart_step.proofs.step.ready_all.Given as goal

abbrev pub invariant-loop-write : goal.invariant-loop-write
invariant-loop-write g l = record {
  ready : AreReady (g.M.PhysMem.is_ready l.mem) (take l.write-index l.writes);
  bytes : g.M.PhysMem.bytes l.mem ≡ g.M.PhysMem.bytes l.fn.mem;
  ram : g.M.PhysMem.ram l.mem ≡ g.M.PhysMem.ram l.fn.mem;
}

use Rattle.std.proofs.Common.{◌≡◌, drop}
use Rattle.hart_words.specs.Memory.{after_writes}
use Rattle.hart_step.specs.Changes.{AreReady}
use Rattle.hart_step.proofs.step.write_ready.Given as goal

abbrev pub invariant-loop-write : goal.invariant-loop-write
invariant-loop-write g l = record {
  ready : AreReady (g.M.PhysMem.is_ready l.mem) l.writes;
  bytes : after_writes (drop l.write-index l.writes) (g.M.PhysMem.bytes l.mem)
      ≡ after_writes l.writes (g.M.PhysMem.bytes l.fn.mem);
  ram : g.M.PhysMem.ram l.mem ≡ g.M.PhysMem.ram l.fn.mem;
}

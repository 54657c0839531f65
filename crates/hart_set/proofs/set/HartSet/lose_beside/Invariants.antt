use Rattle.std.proofs.Common.{◌≡◌, ◌++◌, drop, length, take}
use Rattle.std.specs.Prelude.{slice_get, Some}
use Rattle.rvfi_rows.specs.Meanings.{lost_by}
use Rattle.hart_set.specs.Sets.{gone_on}
use Rattle.hart_set.proofs.set.HartSet.lose_beside.Given as goal

-- the first harts are as all will be, the others as they were
abbrev pub invariant-loop-other : goal.invariant-loop-other
invariant-loop-other g l = record {
  cores : (core : _) → slice_get l.fn.self.cores.items l.number ≡ Some core
      → l.self.cores.items
      ≡ take l.other (gone_on (lost_by g.C.CoreStep.meaning l.writes) l.number core l.fn.self.cores.items)
      ++ drop l.other l.fn.self.cores.items;
  as_many : length l.self.cores.items ≡ length l.fn.self.cores.items;
  mem : l.self.mem ≡ l.fn.self.mem;
}

use Rattle.std.proofs.Common.{◌≡◌, drop}
use Rattle.rvfi_rows.specs.Meanings.{lost_by}
use Rattle.hart_set.proofs.set.HartSet.lose.Given as goal

-- what the writes that are left take from the hart now, all of them take from it at first
abbrev pub invariant-loop-write : goal.invariant-loop-write
invariant-loop-write g l =
    let m = g.C.CoreStep.meaning in lost_by m (drop l.write-index l.writes) l.core ≡ lost_by m l.writes l.fn.core

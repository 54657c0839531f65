use Rattle.std.proofs.Common.{◌≡◌, length, take}
use Rattle.rvfi_rows.specs.Kept.{AreFoundAt}
use Rattle.rvfi_rows.proofs.positions.positions_of.Given as goal

-- the first signals are found
abbrev pub invariant-loop-place : goal.invariant-loop-place
invariant-loop-place l = (length l.positions ≡ 111) × AreFoundAt (take l.place l.signals) l.positions

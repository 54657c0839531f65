use Rattle.std.proofs.Common.{◌≡◌, ℕ, ◌≤◌, ◌&&◌, if◌then◌else◌}
use Rattle.std.specs.Prelude.{nat_le, nat_lt}
use Rattle.row_origin.specs.Places.{as_row, row_in}
use Rattle.row_origin.proofs.block.Block.fill.Given as goal

-- the places up to this one were filled
abbrev pub invariant-loop-place : goal.invariant-loop-place
invariant-loop-place l = record {
  from : l.from ≤ l.place;
  rows : (q : ℕ)
      → row_in l.self q
      ≡ (if nat_le l.from q && nat_lt q l.place then as_row l.row else row_in l.fn.self q);
}

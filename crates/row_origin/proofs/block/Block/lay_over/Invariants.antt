use Rattle.std.proofs.Common.{◌≡◌, ℕ}
use Rattle.row_origin.specs.Places.{row_in}
use Rattle.row_origin.proofs.Blocks.{laid_up_to}
use Rattle.row_origin.proofs.block.Block.lay_over.Given as goal

-- the rows up to this place were put over the others
abbrev pub invariant-loop-place : goal.invariant-loop-place
invariant-loop-place l = (q : ℕ) → row_in l.self q ≡ laid_up_to l.base l.place l.later l.fn.self q

use Rattle.std.proofs.Common.{arith, ap, ◌∙◌, ◌==◌, if◌then◌else◌}
use Rattle.row_origin.specs.Places.{as_row, row_in}
use Rattle.row_origin.proofs.Blocks.{filled_more, none_filled}
use Rattle.row_origin.proofs.block.Block.fill.Goals as goal

pub loop-place-init : goal.loop-place-init
loop-place-init c = record {
  from = omega arith;
  rows = λ q. none_filled c.args.from q (as_row c.args.row) (row_in c.args.self.now q);
}

pub loop-place-preserved : goal.loop-place-preserved
loop-place-preserved c = record {
  from = omega (arith, c.loop-place.invariant.from);
  rows =
      λ q. c.set.ensures q
      ∙ ap (λ old. if c.loop-place.place == q then as_row c.args.row else old) (c.loop-place.invariant.rows q)
      ∙ filled_more c.args.from c.loop-place.place q (as_row c.args.row) (row_in c.args.self.now q)
      c.loop-place.invariant.from;
}

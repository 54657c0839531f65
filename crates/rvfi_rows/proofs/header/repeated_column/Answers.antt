use Rattle.std.proofs.Common.{true, false}
use Rattle.rvfi_rows.proofs.Steps.{repeated_column-next, repeated_column-end}
use Rattle.rvfi_rows.proofs.header.repeated_column.Goals as goal

pub returns-then-stands : goal.returns-then-stands
returns-then-stands c =
    repeated_column-next c.args.columns.now c.loop-index.index true _ c.loop-index-test.true
    (rw c.if-stands.true at c.stands.ensures) c.loop-index.invariant

pub loop-index-preserved : goal.loop-index-preserved
loop-index-preserved c =
    repeated_column-next c.args.columns.now c.loop-index.index false _ c.loop-index-test.true
    (rw c.if-stands.false at c.stands.ensures) c.loop-index.invariant

pub returns : goal.returns
returns c = repeated_column-end c.args.columns.now c.loop-index.index _ c.loop-index-test.false c.loop-index.invariant

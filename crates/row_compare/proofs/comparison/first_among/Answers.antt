use Rattle.rvfi_rows.specs.Cells.{shown_in}
use Rattle.row_compare.proofs.Among.{among-next, among-end}
use Rattle.row_compare.proofs.comparison.first_among.Goals as goal

pub returns-in-Some : goal.returns-in-Some
returns-in-Some c =
    among-next c.args.retired.now (shown_in c.args.row.now) c.args.entries.now c.loop-index.index _
    c.loop-index-test.true c.in-Some.ensures c.loop-index.invariant

pub loop-index-preserved : goal.loop-index-preserved
loop-index-preserved c =
    among-next c.args.retired.now (shown_in c.args.row.now) c.args.entries.now c.loop-index.index _
    c.loop-index-test.true c.in_default.ensures c.loop-index.invariant

pub returns : goal.returns
returns c =
    among-end c.args.retired.now (shown_in c.args.row.now) c.args.entries.now c.loop-index.index _
    c.loop-index-test.false c.loop-index.invariant

use Rattle.std.proofs.Common.{refl}
use Rattle.rvfi_rows.proofs.Standing.{shows_no_more, shows_there}
use Rattle.rvfi_rows.specs.Cells.{values_of}
use Rattle.rvfi_rows.proofs.kept_row.KeptRow.shown.Goals as goal

pub returns-then-self-index-eq1 : goal.returns-then-self-index-eq1
returns-then-self-index-eq1 c =
    let row = c.args.self.now in
    (shows_there row.signals.now row.positions.now row.values.now row.bits c.args.signal row.theirs row.found
    row.as_many c.index-index.ensures.value c.from.ensures refl c.if-self-index-eq1.true).1

pub returns-else-self-index-eq1 : goal.returns-else-self-index-eq1
returns-else-self-index-eq1 c =
    let row = c.args.self.now in
    shows_no_more (values_of row.signals.now row.values.now) row.bits c.args.signal c.index-index.ensures.value
    c.if-self-index-eq1.false

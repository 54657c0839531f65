use Rattle.rvfi_rows.proofs.ShownBits.{is_shown, is_hidden}
use Rattle.rvfi_rows.proofs.row.Row.shown.Goals as goal

pub returns-then-self-index-eq1 : goal.returns-then-self-index-eq1
returns-then-self-index-eq1 c =
    is_shown c.args.self.now c.args.signal c.index-index.result c.from.result c.index-index.ensures.value
    c.from.ensures c.if-self-index-eq1.true

pub returns-else-self-index-eq1 : goal.returns-else-self-index-eq1
returns-else-self-index-eq1 c =
    is_hidden c.args.self.now c.args.signal c.index-index.result c.index-index.ensures.value c.if-self-index-eq1.false

use Rattle.std.proofs.Common.{◌<◌, length, arith}
use Rattle.rvfi_rows.specs.Columns.{column_of}
use Rattle.rvfi_rows.proofs.Steps.{named-next, found_within}
use Rattle.rvfi_rows.proofs.header.columns_named.Goals as goal
use Rattle.rvfi_rows.proofs.header.columns_named.Goals.{in-Some+in_ok-push, in_default}

pub loop-index-preserved : goal.loop-index-preserved
loop-index-preserved c =
    let within : c.loop-index.index < length c.args.fields.now = omega arith in
    elim c.match-get.branch [
      | in-Some+in_ok-push w ↦
          rw (w.columns-is, w.in_ok-push.ensures.items, w.column_named.ensures)
          (named-next column_of c.args.fields.now c.loop-index.index w.in-Some.field.now c.loop-index.columns.items
          within w.in-Some.ensures c.loop-index.invariant)
      | in_default w ↦ absurd (found_within c.args.fields.now c.loop-index.index within w.in_default.ensures)
    ]

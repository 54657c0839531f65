use Rattle.std.proofs.Common.{subst, sym}
use Rattle.rvfi_rows.specs.Kept.{HasSignalsOf}
use Rattle.rvfi_rows.proofs.NextRow.{reads_first, lines-next}
use Rattle.rvfi_rows.proofs.lines.read_rows_in.Goals as goal

pub lines-preserved : goal.lines-preserved
lines-preserved c = (
  subst (HasSignalsOf c.args.columns.now.named) (sym c.push_line.ensures.signals) c.lines.invariant.0,
  lines-next c.args.columns.now _
      (reads_first c.lines.reader c.lines.fields c.in-Some.read c.next.new.self c.next.new.fields
      (rw c.in-Some.is at c.in_ok-read.ensures.read)) c.in_ok-push_line.ensures.pushed c.lines.invariant.1,
)

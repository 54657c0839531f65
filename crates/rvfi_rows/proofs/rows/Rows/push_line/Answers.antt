use Rattle.std.proofs.Common.{◌∙◌, subst, sym}
use Rattle.rvfi_rows.specs.Kept.{HasSignalsOf}
use Rattle.rvfi_rows.specs.Readings.{readings_in}
use Rattle.rvfi_rows.specs.Rows.{row_of_fields}
use Rattle.rvfi_rows.proofs.PortRows.{rows-next}
use Rattle.rvfi_rows.proofs.rows.Rows.push_line.Goals as goal

pub loop-port-preserved : goal.loop-port-preserved
loop-port-preserved c =
    let signals = c.loop-port.self.signals.items in
    let has : HasSignalsOf c.args.columns.now.named signals =
    subst (HasSignalsOf c.args.columns.now.named) (sym c.loop-port.invariant.signals) c.requires in
    record {
      signals = c.push.ensures.signals ∙ c.loop-port.invariant.signals;
      rows =
          rows-next (row_of_fields c.args.columns.now c.args.has_return c.args.fields.now) c.loop-port.port
          (readings_in c.args.self.now) (readings_in c.loop-port.self) _ c.in_ok-push.ensures.pushed
          (c.kept_of-kept.ensures.reading signals has) c.loop-port.invariant.rows;
    }

pub push-requires : goal.push-requires
push-requires c =
    c.kept_of-kept.ensures.theirs c.loop-port.self.signals.items
    (subst (HasSignalsOf c.args.columns.now.named) (sym c.loop-port.invariant.signals) c.requires)

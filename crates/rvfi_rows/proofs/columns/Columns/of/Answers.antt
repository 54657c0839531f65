use Rattle.rvfi_rows.specs.Columns.{port_columns}
use Rattle.rvfi_rows.specs.Placed.{placed_from}
use Rattle.rvfi_rows.proofs.PortRows.{known-next}
use Rattle.rvfi_rows.proofs.columns.Columns.of.Goals as goal

pub loop-port-preserved : goal.loop-port-preserved
loop-port-preserved c =
    known-next c.loop-port.ports.items (λ port. placed_from 0 (port_columns port c.args.columns.items)) c.loop-port.port
    c.in_ok-of_port.field-0 c.in_ok-push.ensures.items
    (rw c.deref-in-loop-port.ensures.value at c.in_ok-of_port.ensures) c.loop-port.invariant

use Rattle.std.proofs.Common.{◌≡◌, take}
use Rattle.rvfi_rows.specs.Columns.{port_columns}
use Rattle.rvfi_rows.specs.Placed.{placed_from}
use Rattle.rvfi_rows.proofs.port_columns.PortColumns.of_port.Given as goal

-- the columns before the place that are the port's stand there
abbrev pub invariant-loop-place : goal.invariant-loop-place
invariant-loop-place l = l.placed.items ≡ placed_from 0 (port_columns l.port (take l.place l.columns))

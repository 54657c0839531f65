use Rattle.std.proofs.Common.{◌≡◌, map}
use Rattle.std.specs.List.{range_with_len}
use Rattle.rvfi_rows.specs.Columns.{port_columns}
use Rattle.rvfi_rows.specs.Placed.{placed_from}
use Rattle.rvfi_rows.proofs.columns.Columns.of.Given as goal

-- the known columns of the first ports stand there
abbrev pub invariant-loop-port : goal.invariant-loop-port
invariant-loop-port l =
    map (λ known. known.placed.items) l.ports.items
    ≡ map (λ port. placed_from 0 (port_columns port l.columns.items)) (range_with_len 0 l.port)

use Rattle.std.proofs.Common.{◌≡◌, map, take}
use Rattle.rvfi_rows.proofs.port_columns.cells_of.Given as goal

abbrev pub invariant-loop-index : goal.invariant-loop-index
invariant-loop-index l = map (λ cell. cell.placed) l.cells.items ≡ take l.index l.placed

use Rattle.std.proofs.Common.{◌≡◌, map, take}
use Rattle.rvfi_rows.specs.Columns.{column_of}
use Rattle.rvfi_rows.proofs.header.columns_named.Given as goal

abbrev pub invariant-loop-index : goal.invariant-loop-index
invariant-loop-index l = l.columns.items ≡ map column_of (take l.index l.fields)

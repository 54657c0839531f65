use Rattle.std.proofs.Common.{◌≡◌, [], take, drop}
use Rattle.rvfi_rows.specs.Columns.{first_repeated}
use Rattle.rvfi_rows.proofs.header.repeated_column.Given as goal

abbrev pub invariant-loop-index : goal.invariant-loop-index
invariant-loop-index l = first_repeated (take l.index l.columns) (drop l.index l.columns) ≡ first_repeated [] l.columns

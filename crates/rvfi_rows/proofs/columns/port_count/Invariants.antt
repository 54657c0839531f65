use Rattle.std.proofs.Common.{◌≡◌, drop}
use Rattle.std.specs.Prelude.{max}
use Rattle.rvfi_rows.specs.Columns.{highest_port}
use Rattle.rvfi_rows.proofs.columns.port_count.Given as goal

-- the highest so far and that of the columns that are left are that of all
abbrev pub invariant-loop-index : goal.invariant-loop-index
invariant-loop-index l = max l.highest (highest_port (drop l.index l.columns)) ≡ highest_port l.columns

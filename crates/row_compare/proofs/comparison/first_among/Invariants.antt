use Rattle.std.proofs.Common.{◌≡◌, drop}
use Rattle.rvfi_rows.specs.Cells.{shown_in}
use Rattle.row_compare.specs.Difference.{first_among}
use Rattle.row_compare.proofs.comparison.first_among.Given as goal

abbrev pub invariant-loop-index : goal.invariant-loop-index
invariant-loop-index l =
    first_among l.retired (shown_in l.row) (drop l.index l.entries) ≡ first_among l.retired (shown_in l.row) l.entries

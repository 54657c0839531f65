use Rattle.std.proofs.Common.{◌≡◌, ◌*◌, ◌/◌, ◌^◌, drop}
use Rattle.std.specs.Option.{is_none}
use Rattle.rvfi_rows.specs.Cells.{shown_in}
use Rattle.row_compare.specs.Difference.{first_among}
use Rattle.row_compare.specs.declared.comparison.TheConstants.{REGISTERS}
use Rattle.row_compare.proofs.Registers.{entries_of}
use Rattle.row_compare.proofs.comparison.csrs_agree.Given as goal

-- the bits are those of the registers from this one on, and whether these agree is whether all do
abbrev pub invariant-loop-index : goal.invariant-loop-index
invariant-loop-index l =
    (l.bits ≡ l.initial.bits / 2 ^ (4 * l.index))
    × (is_none (first_among l.retired (shown_in l.row) (entries_of (drop l.index REGISTERS)))
    ≡ is_none (first_among l.retired (shown_in l.row) (entries_of REGISTERS)))

use Rattle.std.proofs.Common.{◌≡◌, drop}
use Rattle.rvfi_rows.proofs.Values.{put_at}
use Rattle.rvfi_rows.proofs.row.Row.take_values.Given as goal

-- with the values that are left, the row has those of all indices
abbrev pub invariant-loop-index : goal.invariant-loop-index
invariant-loop-index l =
    (l.self.shown ≡ l.bits)
    × (put_at (drop l.index l.places) (drop l.index l.values) l.self.values
    ≡ put_at l.places l.values l.fn.self.values)

use Rattle.std.proofs.Common.{◌≡◌, ◌≤◌, ◌+◌, ◌++◌, length, map, take, vec_capacity, vec_len}
use Rattle.std.specs.Prelude.{slice_index}
use Rattle.rvfi_rows.proofs.row.Row.put_values.Given as goal

-- the values at the indices before were put after the others, and there is room for the rest
abbrev pub invariant-loop-place : goal.invariant-loop-place
invariant-loop-place l =
    (l.values.items ≡ l.fn.values.items
    ++ map (λ place. slice_index l.self.values place) (take l.place-index l.places))
    × (vec_len l.values + length l.places ≤ vec_capacity l.values + l.place-index)

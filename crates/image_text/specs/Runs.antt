-- Bytes that are put one after another.
use Rattle.std.specs.Prelude.{ℕ, ◌-◌, if◌then◌else◌, List, length, slice_index, Option, Some}
use Rattle.hart_words.specs.Memory.{is_within}

-- a map of bytes with values from an address on
abbrev pub with_bytes : (ℕ → Option ℕ) → ℕ → List ℕ → ℕ → Option ℕ
with_bytes bytes address values at =
    if is_within address (length values) at then Some (slice_index values (at - address)) else bytes at

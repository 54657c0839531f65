-- Counts of zeros and ones, by the list of a number's bits.
-- From the Bit-Manipulation ISA-extensions, "Zbb: Basic bit-manipulation".
use Rattle.std.specs.Prelude.{ℕ, zero, suc, ◌/◌, ◌%◌, List, [], ◌∷◌, ◌==◌}
use Rattle.std.specs.Int.{bit_at}
use Rattle.std.specs.List.{prefix_len, count_by}

-- the low bits of a number, as many as are asked for, the lowest first
unfoldable pub bits_low_first : ℕ → ℕ → List ℕ
bits_low_first zero x = []
bits_low_first (suc count) x = x % 2 ∷ bits_low_first count (x / 2)

-- the same bits, the highest first
unfoldable pub bits_high_first : ℕ → ℕ → List ℕ
bits_high_first zero x = []
bits_high_first (suc count) x = bit_at x count ∷ bits_high_first count x

-- how many zeros stand before the first 1, from the highest bit down; all bits where there is no 1
abbrev pub zeros_above : ℕ → ℕ → ℕ
zeros_above width x = prefix_len (λ bit. bit == 0) (bits_high_first width x)

-- how many zeros stand before the first 1, from the lowest bit up
abbrev pub zeros_below : ℕ → ℕ → ℕ
zeros_below width x = prefix_len (λ bit. bit == 0) (bits_low_first width x)

-- how many bits are 1
abbrev pub population : ℕ → ℕ → ℕ
population width x = count_by (λ bit. bit == 1) (bits_low_first width x)

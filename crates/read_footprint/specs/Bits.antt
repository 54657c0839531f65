-- Bits of a number.
use Rattle.std.specs.Prelude.{ℕ, Bool, ◌==◌}
use Rattle.std.specs.Int.{bit_at}

-- the bit at a place is set
abbrev pub has_bit : ℕ → ℕ → Bool
has_bit bits place = bit_at bits place == 1

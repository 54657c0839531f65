-- Rotations of a word of so many bits, by division and remainder.
-- From the Bit-Manipulation ISA-extensions, "Zbb: Basic bit-manipulation".
use Rattle.std.specs.Prelude.{ℕ, ◌+◌, ◌-◌, ◌*◌, ◌/◌, ◌%◌, ◌^◌}

-- the upper `amount` bits come below the others
abbrev pub rotated_left : ℕ → ℕ → ℕ → ℕ
rotated_left width x amount = x % 2 ^ (width - amount) * 2 ^ amount + x / 2 ^ (width - amount)

-- the lower `amount` bits come above the others
abbrev pub rotated_right : ℕ → ℕ → ℕ → ℕ
rotated_right width x amount = x % 2 ^ amount * 2 ^ (width - amount) + x / 2 ^ amount

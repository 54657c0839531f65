-- Counts of faults, kept in 64 bits: at their last value they stay.
use Rattle.std.specs.Prelude.{ℕ, ◌+◌, ◌-◌, ◌^◌, ◌≤◌, min}

-- the count after one more
abbrev pub count_after_one : ℕ → ℕ
count_after_one before = min (before + 1) (2 ^ 64 - 1)

-- a count is greater than it was, or stands at its last value
abbrev pub Rose : ℕ → ℕ → Type 0
Rose before now = count_after_one before ≤ now

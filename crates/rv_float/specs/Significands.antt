-- Significands with their highest digit in a set place, and the odd ones that stand for what lost digits.
use Rattle.std.specs.Prelude.{◌≡◌, ℕ, ◌+◌, ◌*◌, ◌/◌, ◌%◌, ◌^◌, ◌<◌, ◌≤◌, Bool, if◌then◌else◌}

-- a quotient, odd where something was lost
abbrev pub with_sticky : ℕ → Bool → ℕ
with_sticky kept lost = if lost then kept / 2 * 2 + 1 else kept

-- a number of 126 digits, the lowest two of them 0
pub record IsHigh (m : ℕ) : Type 0 where
  pub least : 2 ^ 125 ≤ m
  pub most : m < 2 ^ 126
  pub low : m % 4 ≡ 0

-- the same number with a power that is 128 more
pub record IsNormalOf (m e n j : ℕ) : Type 0 where
  pub high : IsHigh n
  pub same : n * 2 ^ j ≡ m * 2 ^ (e + 128)
  pub power : j < e + 128

-- a number of 64 digits that is m with a power that is 64 more
pub record IsWordOf (m k n j : ℕ) : Type 0 where
  pub least : 2 ^ 63 ≤ n
  pub most : n < 2 ^ 64
  pub same : n * 2 ^ j ≡ m * 2 ^ (k + 64)
  pub power : j ≤ k + 64

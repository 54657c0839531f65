-- Significands that stand for a number: the number itself, or an odd one where digits were lost.
use Rattle.std.specs.Prelude.{◌≡◌, ℕ, ◌+◌, ◌*◌, ◌%◌, ◌^◌, ◌<◌, ◌≤◌, ◌⊎◌}

-- m is odd, and less than 1 off num / u
abbrev pub IsNear : ℕ → ℕ → ℕ → Type 0
IsNear m u num = (m % 2 ≡ 1) × (m * u < num + u) × (num < m * u + u)

-- m is num / u, or is odd and less than 1 off it
abbrev pub StandsFor : ℕ → ℕ → ℕ → Type 0
StandsFor m u num = (m * u ≡ num) ⊎ IsNear m u num

-- the same, with two digits more than rounding keeps
abbrev pub Rounds : ℕ → ℕ → ℕ → ℕ → Type 0
Rounds p m u num = (m * u ≡ num) ⊎ (IsNear m u num × (2 ^ (p + 2) ≤ m))

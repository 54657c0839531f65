-- How a fraction is cut for rounding.
use Rattle.std.specs.Prelude.{◌≡◌, ℕ, ◌*◌, ◌/◌, ◌%◌, ◌^◌}
use Rattle.float_rounding.specs.declared.format.Place.{Place}
use Rattle.float_rounding.specs.Rounding.{place_of, scale}

-- a fraction whose scale, quotient and place are known
pub record IsCut (p num den k lower : ℕ) (place : Place) : Type 0 where
  pub scales : scale p num den ≡ k
  pub lowers : num / (den * 2 ^ k) ≡ lower
  pub places : place_of (num % (den * 2 ^ k)) (den * 2 ^ k) ≡ place

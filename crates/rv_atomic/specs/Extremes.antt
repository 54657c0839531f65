-- What the minima and maxima are, in the words of the Unprivileged ISA's chapter "A Extension for Atomic Instructions":
-- one of both numbers, and none of them is less, or greater.
use Rattle.std.specs.Prelude.{◌≡◌, ℕ, ◌≤◌, ◌≤ℤ◌, ◌⊎◌}
use Rattle.rv_decode.specs.declared.operation.Width.{Width}
use Rattle.rv_decode.specs.declared.operation.AmoOp.TheVariants.{Amomin, Amomax, Amominu, Amomaxu}
use Rattle.rv_atomic.specs.Operations.{signed_at, combination_of}

-- it is one of both
abbrev pub IsEither : ℕ → ℕ → ℕ → Type 0
IsEither x y chosen = (chosen ≡ x) ⊎ (chosen ≡ y)

-- the four of them, on two numbers of a width
pub record AreExtremes (width : Width) (x y : ℕ) : Type 0 where
  pub min_either : IsEither x y (combination_of Amomin width x y)
  pub min_first : signed_at width (combination_of Amomin width x y) ≤ℤ signed_at width x
  pub min_second : signed_at width (combination_of Amomin width x y) ≤ℤ signed_at width y
  pub max_either : IsEither x y (combination_of Amomax width x y)
  pub max_first : signed_at width x ≤ℤ signed_at width (combination_of Amomax width x y)
  pub max_second : signed_at width y ≤ℤ signed_at width (combination_of Amomax width x y)
  pub minu_either : IsEither x y (combination_of Amominu width x y)
  pub minu_first : combination_of Amominu width x y ≤ x
  pub minu_second : combination_of Amominu width x y ≤ y
  pub maxu_either : IsEither x y (combination_of Amomaxu width x y)
  pub maxu_first : x ≤ combination_of Amomaxu width x y
  pub maxu_second : y ≤ combination_of Amomaxu width x y

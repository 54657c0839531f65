-- Quotients and square roots.
use Rattle.std.specs.Prelude.{ℕ, ◌*◌, ◌^◌, ◌==◌, Bool, true, false, ◌||◌, if◌then◌else◌}
use Rattle.std.specs.Float.Ieee.{root_twice}
use Rattle.float_rounding.specs.declared.format.Format.{Format}
use Rattle.float_rounding.specs.declared.format.RoundingMode.{RoundingMode}
use Rattle.float_rounding.specs.declared.format.Outcome.{Outcome}
use Rattle.float_rounding.specs.Flags.{nothing, division_by_zero}
use Rattle.float_rounding.specs.Formats.{Value, finite, infinite, quiet, signaling, value_of, infinity, unit_exponent}
use Rattle.float_rounding.specs.Rounding.{rounded, signed}
use Rattle.rv_float.specs.Arithmetic.{unlike, invalid, infinite_result, nan_result, signals}

abbrev pub zero_result : Format → Bool → Outcome
zero_result f negative = record { bits = signed f negative 0; flags = nothing }

-- a finite number over zero
abbrev pub over_zero : Format → Bool → Outcome
over_zero f negative = record { bits = signed f negative (infinity f); flags = division_by_zero }

abbrev pub quotient_of : Format → RoundingMode → Value → Value → Outcome
quotient_of f mode (finite s a) (finite t b) =
    if b == 0
    then (if a == 0 then invalid f else over_zero f (unlike s t))
    else rounded f mode (unlike s t) (a * 2 ^ unit_exponent f) b
quotient_of f mode (finite s a) (infinite t) = zero_result f (unlike s t)
quotient_of f mode (infinite s) (finite t b) = infinite_result f (unlike s t)
quotient_of f mode (infinite s) (infinite t) = invalid f
quotient_of f mode x y = nan_result f (signals x || signals y)

-- FDIV
unfoldable pub divided : Format → RoundingMode → ℕ → ℕ → Outcome
divided f mode a b = quotient_of f mode (value_of f a) (value_of f b)

-- the root of so many units: twice the root where that is whole, else the odd number between twice its neighbours.
-- These
-- are so many digits that no number of the format, and none half-way between two, lies between the root and what is
-- rounded
abbrev pub root_of : Format → RoundingMode → Value → Outcome
root_of f mode (finite s a) =
    if a == 0 then zero_result f s
    else (if s then invalid f else rounded f mode false (root_twice (a * 2 ^ unit_exponent f)) 2)
root_of f mode (infinite s) = if s then invalid f else infinite_result f false
root_of f mode quiet = nan_result f false
root_of f mode signaling = nan_result f true

-- FSQRT
unfoldable pub rooted : Format → RoundingMode → ℕ → Outcome
rooted f mode a = root_of f mode (value_of f a)

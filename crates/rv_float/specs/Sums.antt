-- Sums, and the fused multiply-add.
use Rattle.std.specs.Prelude.{ℕ, ◌+◌, ◌-◌, ◌*◌, ◌^◌, ◌==◌, nat_lt, Bool, true, false, not, ◌||◌, if◌then◌else◌}
use Rattle.float_rounding.specs.declared.format.Format.{Format}
use Rattle.float_rounding.specs.declared.format.RoundingMode.{RoundingMode}
use Rattle.float_rounding.specs.declared.format.RoundingMode.TheVariants.{NearestEven, TowardZero, Down, Up}
use Rattle.float_rounding.specs.declared.format.RoundingMode.TheVariants.{NearestMaxMagnitude}
use Rattle.float_rounding.specs.declared.format.Outcome.{Outcome}
use Rattle.float_rounding.specs.Formats.{Value, finite, infinite, quiet, signaling, value_of, unit_exponent}
use Rattle.float_rounding.specs.Rounding.{rounded}
use Rattle.rv_float.specs.Arithmetic.{unlike, invalid, infinite_result, nan_result, signals}

abbrev pub is_down : RoundingMode → Bool
is_down NearestEven = false
is_down TowardZero = false
is_down Down = true
is_down Up = false
is_down NearestMaxMagnitude = false

-- the sum of two numbers, so many units over a denominator. Where two of unlike signs leave nothing, it is positive
-- zero, and negative zero where rounding is down
abbrev pub sum_of : Format → RoundingMode → Bool → ℕ → Bool → ℕ → ℕ → Outcome
sum_of f mode s a t b den =
    if unlike s t
    then (if nat_lt a b then rounded f mode t (b - a) den
    else (if nat_lt b a then rounded f mode s (a - b) den
    else rounded f mode (is_down mode) 0 den))
    else rounded f mode s (a + b) den

abbrev pub total_of : Format → RoundingMode → Value → Value → Outcome
total_of f mode (finite s a) (finite t b) = sum_of f mode s a t b 1
total_of f mode (finite s a) (infinite t) = infinite_result f t
total_of f mode (infinite s) (finite t b) = infinite_result f s
total_of f mode (infinite s) (infinite t) = if unlike s t then invalid f else infinite_result f s
total_of f mode x y = nan_result f (signals x || signals y)

abbrev pub negated : Value → Value
negated (finite s a) = finite (not s) a
negated (infinite s) = infinite (not s)
negated quiet = quiet
negated signaling = signaling

-- FADD and FSUB
unfoldable pub added : Format → RoundingMode → ℕ → ℕ → Outcome
added f mode a b = total_of f mode (value_of f a) (value_of f b)

unfoldable pub subtracted : Format → RoundingMode → ℕ → ℕ → Outcome
subtracted f mode a b = total_of f mode (value_of f a) (negated (value_of f b))

-- an exact product: so many squares of units, or infinite, or zero times infinity, or of a NaN
pub data Product : Type 0 where
  exactly : Bool → ℕ → Product
  endless : Bool → Product
  undefined : Product
  unordered : Product

abbrev pub exact_product : Value → Value → Product
exact_product (finite s a) (finite t b) = exactly (unlike s t) (a * b)
exact_product (finite s a) (infinite t) = if a == 0 then undefined else endless (unlike s t)
exact_product (infinite s) (finite t b) = if b == 0 then undefined else endless (unlike s t)
exact_product (infinite s) (infinite t) = endless (unlike s t)
exact_product x y = unordered

-- a product and an addend, rounded once. Zero times infinity is invalid even beside a quiet NaN
abbrev pub fused_of : Format → RoundingMode → Bool → Product → Value → Outcome
fused_of f mode signal (exactly s a) (finite t b) = sum_of f mode s a t (b * 2 ^ unit_exponent f)
    (2 ^ unit_exponent f)
fused_of f mode signal (exactly s a) (infinite t) = infinite_result f t
fused_of f mode signal (endless s) (finite t b) = infinite_result f s
fused_of f mode signal (endless s) (infinite t) = if unlike s t then invalid f else infinite_result f s
fused_of f mode signal undefined z = invalid f
fused_of f mode signal p z = nan_result f signal

-- x * y + z. FMADD is this of three operands. FMSUB negates the addend, FNMSUB the first factor, FNMADD both
unfoldable pub fused : Format → RoundingMode → Value → Value → Value → Outcome
fused f mode x y z = fused_of f mode (signals x || (signals y || signals z)) (exact_product x y) z

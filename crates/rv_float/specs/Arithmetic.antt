-- The operations, on values.
use Rattle.std.specs.Prelude.{ℕ, ◌+◌, ◌-◌, ◌*◌, ◌^◌, ◌==◌, Bool, true, false, not, ◌||◌, if◌then◌else◌}
use Rattle.float_rounding.specs.declared.format.Format.{Format}
use Rattle.float_rounding.specs.declared.format.RoundingMode.{RoundingMode}
use Rattle.float_rounding.specs.declared.format.Outcome.{Outcome}
use Rattle.float_rounding.specs.Flags.{nothing, invalid_operation}
use Rattle.float_rounding.specs.Formats.{Value, finite, infinite, quiet, signaling, value_of, fraction_bits, infinity}
use Rattle.float_rounding.specs.Formats.{unit_exponent}
use Rattle.float_rounding.specs.Rounding.{rounded, signed}

-- the sign of a product: negative where one factor is, and the other is not
abbrev pub unlike : Bool → Bool → Bool
unlike false negative = negative
unlike true negative = not negative

-- the canonical NaN: positive, quiet, with no further bit
abbrev pub canonical_nan : Format → ℕ
canonical_nan f = infinity f + 2 ^ (fraction_bits f - 1)

-- an operation that has no result
abbrev pub invalid : Format → Outcome
invalid f = record { bits = canonical_nan f; flags = invalid_operation }

abbrev pub infinite_result : Format → Bool → Outcome
infinite_result f negative = record { bits = signed f negative (infinity f); flags = nothing }

-- an operation on a NaN: invalid where one signals
abbrev pub nan_result : Format → Bool → Outcome
nan_result f signals = record { bits = canonical_nan f; flags = if signals then invalid_operation else nothing }

abbrev pub signals : Value → Bool
signals (finite negative units) = false
signals (infinite negative) = false
signals quiet = false
signals signaling = true

abbrev pub product_of : Format → RoundingMode → Value → Value → Outcome
product_of f mode (finite s a) (finite t b) = rounded f mode (unlike s t) (a * b) (2 ^ unit_exponent f)
product_of f mode (finite s a) (infinite t) = if a == 0 then invalid f else infinite_result f (unlike s t)
product_of f mode (infinite s) (finite t b) = if b == 0 then invalid f else infinite_result f (unlike s t)
product_of f mode (infinite s) (infinite t) = infinite_result f (unlike s t)
product_of f mode x y = nan_result f (signals x || signals y)

-- FMUL
unfoldable pub multiplied : Format → RoundingMode → ℕ → ℕ → Outcome
multiplied f mode a b = product_of f mode (value_of f a) (value_of f b)

-- Minima and maxima.
use Rattle.std.specs.Prelude.{ℕ, Bool, false, not, ◌&&◌, ◌||◌, if◌then◌else◌}
use Rattle.float_rounding.specs.declared.format.Format.{Format}
use Rattle.float_rounding.specs.declared.format.Outcome.{Outcome}
use Rattle.float_rounding.specs.declared.format.Flags.{Flags}
use Rattle.float_rounding.specs.Flags.{nothing, invalid_operation}
use Rattle.float_rounding.specs.Formats.{Value, finite, infinite, quiet, signaling, value_of}
use Rattle.rv_float.specs.declared.choices.Extreme.{Extreme}
use Rattle.rv_float.specs.declared.choices.Extreme.TheVariants.{Least, Greatest}
use Rattle.rv_float.specs.Arithmetic.{canonical_nan, signals}
use Rattle.rv_float.specs.Comparisons.{is_below, is_nan}

abbrev pub is_negative : Value → Bool
is_negative (finite s a) = s
is_negative (infinite s) = s
is_negative quiet = false
is_negative signaling = false

-- here minus zero comes before plus zero
abbrev pub comes_first : Value → Value → Bool
comes_first x y = is_below x y || (not (is_below y x) && is_negative x)

abbrev pub takes_first : Extreme → Value → Value → Bool
takes_first Least x y = comes_first x y
takes_first Greatest x y = not (comes_first x y)

-- invalid only where a NaN signals
abbrev pub choice_flags : Value → Value → Flags
choice_flags x y = if signals x || signals y then invalid_operation else nothing

-- of two numbers the lesser or the greater, else the operand that is a number, else the canonical NaN
abbrev pub chosen_of : Format → Extreme → Value → Value → ℕ → ℕ → Outcome
chosen_of f extreme x y a b = record {
  bits =
      if is_nan x then (if is_nan y then canonical_nan f else b)
      else (if is_nan y then a else (if takes_first extreme x y then a else b));
  flags = choice_flags x y;
}

-- FMIN and FMAX
unfoldable pub minimum : Format → ℕ → ℕ → Outcome
minimum f a b = chosen_of f Least (value_of f a) (value_of f b) a b

unfoldable pub maximum : Format → ℕ → ℕ → Outcome
maximum f a b = chosen_of f Greatest (value_of f a) (value_of f b) a b

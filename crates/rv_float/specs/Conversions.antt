-- Conversions between formats, and from and to integers.
use Rattle.std.specs.Prelude.{◌≡◌, ◌≤◌, ◌⊎◌, ℕ, ◌+◌, ◌-◌, ◌*◌, ◌/◌, ◌%◌, ◌^◌, ◌==◌, nat_le, Bool, true, false, not}
use Rattle.std.specs.Prelude.{◌&&◌, if◌then◌else◌}
use Rattle.float_rounding.specs.declared.format.Format.{Format}
use Rattle.float_rounding.specs.declared.format.RoundingMode.{RoundingMode}
use Rattle.float_rounding.specs.declared.format.Outcome.{Outcome}
use Rattle.rv_float.specs.declared.integers.IntegerKind.{IntegerKind}
use Rattle.rv_float.specs.declared.integers.IntegerKind.TheVariants.{Word, UnsignedWord, Long, UnsignedLong}
use Rattle.float_rounding.specs.Flags.{invalid_operation, imprecision}
use Rattle.float_rounding.specs.Formats.{Value, finite, infinite, quiet, signaling, value_of, unit_exponent}
use Rattle.float_rounding.specs.Rounding.{rounded, goes_up, place_of, is_at_lower}
use Rattle.rv_float.specs.Arithmetic.{infinite_result, nan_result}

-- a value of the format f in the format g
abbrev pub converted_value : Format → Format → RoundingMode → Value → Outcome
converted_value f g mode (finite s a) = rounded g mode s (a * 2 ^ unit_exponent g) (2 ^ unit_exponent f)
converted_value f g mode (infinite s) = infinite_result g s
converted_value f g mode quiet = nan_result g false
converted_value f g mode signaling = nan_result g true

-- FCVT.S.D and FCVT.D.S
unfoldable pub converted : Format → Format → RoundingMode → ℕ → Outcome
converted f g mode a = converted_value f g mode (value_of f a)

-- the bits of an integer
abbrev pub width : IntegerKind → ℕ
width Word = 32
width UnsignedWord = 32
width Long = 64
width UnsignedLong = 64

abbrev pub is_signed : IntegerKind → Bool
is_signed Word = true
is_signed UnsignedWord = false
is_signed Long = true
is_signed UnsignedLong = false

-- the integer in the low bits of a register: whether it is negative, and its magnitude
abbrev pub is_negative_integer : IntegerKind → ℕ → Bool
is_negative_integer kind register = is_signed kind && register / 2 ^ (width kind - 1) % 2 == 1

abbrev pub integer_size : IntegerKind → ℕ → ℕ
integer_size kind register =
    if is_negative_integer kind register then 2 ^ width kind - register % 2 ^ width kind else register % 2 ^ width
    kind

-- FCVT from an integer
unfoldable pub from_integer : Format → RoundingMode → IntegerKind → ℕ → Outcome
from_integer f mode kind register =
    rounded f mode (is_negative_integer kind register) (integer_size kind register * 2 ^ unit_exponent f) 1

-- the whole number that a number is rounded to, and whether it was one
abbrev pub whole_of : RoundingMode → Bool → ℕ → ℕ → ℕ
whole_of mode negative num den =
    let lower = num / den in
    lower + (if goes_up mode negative (lower % 2 == 1) (place_of (num % den) den) then 1 else 0)

abbrev pub is_whole : ℕ → ℕ → Bool
is_whole num den = is_at_lower (place_of (num % den) den)

-- the greatest magnitude of an integer with a sign
abbrev pub limit : IntegerKind → Bool → ℕ
limit Word negative = if negative then 2 ^ 31 else 2 ^ 31 - 1
limit UnsignedWord negative = if negative then 0 else 2 ^ 32 - 1
limit Long negative = if negative then 2 ^ 63 else 2 ^ 63 - 1
limit UnsignedLong negative = if negative then 0 else 2 ^ 64 - 1

-- a signed magnitude modulo 2 to the width
abbrev pub residue_of : IntegerKind → Bool → ℕ → ℕ
residue_of kind negative magnitude =
    if negative then (2 ^ width kind - magnitude) % 2 ^ width kind else magnitude % 2 ^ width kind

-- what 64 bits hold of so many: the highest is repeated, of an unsigned word too
abbrev pub extended : IntegerKind → ℕ → ℕ
extended kind bits = if bits / 2 ^ (width kind - 1) % 2 == 1 then 2 ^ 64 - 2 ^ width kind + bits else bits

abbrev pub integer_bits : IntegerKind → Bool → ℕ → ℕ
integer_bits kind negative magnitude = extended kind (residue_of kind negative magnitude)

-- what is out of range gives the limit of its sign
abbrev pub saturated : IntegerKind → Bool → Outcome
saturated kind negative =
    record { bits = integer_bits kind negative (limit kind negative); flags = invalid_operation }

-- FCVT to an integer. A NaN gives the greatest one
abbrev pub integer_of : Format → RoundingMode → IntegerKind → Value → Outcome
integer_of f mode kind (finite s a) =
    let whole = whole_of mode s a (2 ^ unit_exponent f) in
    if nat_le whole (limit kind s)
    then record {
      bits = integer_bits kind s whole;
      flags = imprecision (not (is_whole a (2 ^ unit_exponent f))) false;
    }
    else saturated kind s
integer_of f mode kind (infinite s) = saturated kind s
integer_of f mode kind quiet = saturated kind false
integer_of f mode kind signaling = saturated kind false

unfoldable pub to_integer : Format → RoundingMode → IntegerKind → ℕ → Outcome
to_integer f mode kind a = integer_of f mode kind (value_of f a)

-- what the code has of a whole number: it, or where it is beyond 64 bits another one that is
pub record IsWholeOf (mode : RoundingMode) (negative : Bool) (num den size : ℕ) (exact : Bool) : Type 0 where
  pub value : (size ≡ whole_of mode negative num den) ⊎ ((2 ^ 64 ≤ size) × (2 ^ 64 ≤ whole_of mode negative num den))
  pub same : exact ≡ is_whole num den

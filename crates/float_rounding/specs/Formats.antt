-- The two binary interchange formats. A format's unit is its least positive number; every finite number is a whole
-- number of units. The bits below the sign count the magnitudes upwards, one by one: zero, the subnormal numbers,
-- the normal ones, infinity, NaNs.
use Rattle.std.specs.Prelude.{ℕ, ◌+◌, ◌-◌, ◌*◌, ◌/◌, ◌%◌, ◌^◌, ◌==◌, nat_lt, Bool, if◌then◌else◌}
use Rattle.float_rounding.specs.declared.format.Format.{Format}
use Rattle.float_rounding.specs.declared.format.Format.TheVariants.{Single, Double}

-- how many bits the fraction has
abbrev pub fraction_bits : Format → ℕ
fraction_bits Single = 23
fraction_bits Double = 52

-- the exponent field of infinities and NaNs: all ones
abbrev pub infinity_field : Format → ℕ
infinity_field Single = 255
infinity_field Double = 2047

-- the unit is 2 to the power of minus this
abbrev pub unit_exponent : Format → ℕ
unit_exponent Single = 149
unit_exponent Double = 1074

-- the bits of positive infinity; also the place of the sign is above them
abbrev pub infinity : Format → ℕ
infinity f = infinity_field f * 2 ^ fraction_bits f

-- what the sign bit is worth
abbrev pub sign_bit : Format → ℕ
sign_bit Single = 2 ^ 31
sign_bit Double = 2 ^ 63

-- how many units a magnitude is, by its bits: the fraction alone where the exponent field is 0, else with the
-- leading one, times 2 to the power of the field less 1
abbrev pub units_at : ℕ → ℕ → ℕ
units_at p bits = if nat_lt bits (2 ^ p) then bits else (2 ^ p + bits % 2 ^ p) * 2 ^ (bits / 2 ^ p - 1)

-- what a value is
pub data Value : Type 0 where
  finite : Bool → ℕ → Value  -- negative, and so many units
  infinite : Bool → Value
  quiet : Value
  signaling : Value

-- the value of a magnitude's bits
abbrev pub magnitude_value : Format → Bool → ℕ → Value
magnitude_value f negative bits =
    if nat_lt bits (infinity f)
    then finite negative (units_at (fraction_bits f) bits)
    else (if bits == infinity f then infinite negative
    else (if bits / 2 ^ (fraction_bits f - 1) % 2 == 1 then quiet else signaling))

unfoldable pub value_of : Format → ℕ → Value
value_of f bits = magnitude_value f (bits / sign_bit f % 2 == 1) (bits % sign_bit f)

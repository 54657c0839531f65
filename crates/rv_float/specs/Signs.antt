-- Sign moves, and single numbers in registers of 64 bits.
use Rattle.std.specs.Prelude.{ℕ, ◌+◌, ◌-◌, ◌*◌, ◌/◌, ◌%◌, ◌^◌, ◌==◌, Bool, not, if◌then◌else◌}
use Rattle.float_rounding.specs.declared.format.Format.{Format}
use Rattle.float_rounding.specs.declared.format.Format.TheVariants.{Single}
use Rattle.float_rounding.specs.Formats.{sign_bit}
use Rattle.rv_float.specs.Arithmetic.{canonical_nan, unlike}

-- the sign bit, whatever the other bits are
abbrev pub is_negative_bits : Format → ℕ → Bool
is_negative_bits f bits = bits / sign_bit f % 2 == 1

abbrev pub with_sign : Format → Bool → ℕ → ℕ
with_sign f negative bits = if negative then sign_bit f + bits % sign_bit f else bits % sign_bit f

-- FSGNJ, FSGNJN and FSGNJX
abbrev pub sign_copied : Format → ℕ → ℕ → ℕ
sign_copied f a b = with_sign f (is_negative_bits f b) a

abbrev pub opposite_copied : Format → ℕ → ℕ → ℕ
opposite_copied f a b = with_sign f (not (is_negative_bits f b)) a

abbrev pub signs_multiplied : Format → ℕ → ℕ → ℕ
signs_multiplied f a b = with_sign f (unlike (is_negative_bits f a) (is_negative_bits f b)) a

-- a NaN box: the upper 32 bits are all ones
abbrev pub boxed : ℕ → ℕ
boxed bits = (2 ^ 32 - 1) * 2 ^ 32 + bits % 2 ^ 32

abbrev pub unboxed : ℕ → ℕ
unboxed register = if register / 2 ^ 32 == 2 ^ 32 - 1 then register % 2 ^ 32 else canonical_nan Single

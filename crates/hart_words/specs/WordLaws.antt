-- What holds of sign extensions, products and quotients, in the words of the Unprivileged ISA's chapters "RV64I Base
-- Integer Instruction Set" and "M Extension for Integer Multiplication and Division".
use Rattle.std.specs.Prelude.{◌≡◌, ◌≢◌, ℕ, ◌+◌, ◌-◌, ◌*◌, ◌%◌, ◌^◌, ◌<◌, ◌≤◌, ◌⊎◌, ℤ, pos, ◌+ℤ◌, ◌*ℤ◌, ◌≤ℤ◌}
use Rattle.std.specs.Prelude.{unsigned_abs}
use Rattle.std.specs.Int.{w64, cast_signed}
use Rattle.hart_words.specs.Words.{high_signed, high_mixed, high_unsigned, quotient_signed, quotient_unsigned}
use Rattle.hart_words.specs.Words.{remainder_signed, remainder_unsigned, sign_extended}

-- the signed value of a word
abbrev pub value : ℕ → ℤ
value x = cast_signed w64 x

-- the dividend is quotient times divisor plus remainder; the remainder is smaller than the divisor, and has the
-- dividend's sign or is 0
pub record IsSignedDivision (a b quotient remainder : ℤ) : Type 0 where
  pub whole : quotient *ℤ b +ℤ remainder ≡ a
  pub smaller : unsigned_abs remainder < unsigned_abs b
  pub not_negative : pos 0 ≤ℤ a → pos 0 ≤ℤ remainder
  pub not_positive : a ≤ℤ pos 0 → remainder ≤ℤ pos 0

-- signed division does so for every divisor but 0, unless it overflows: where the least number is divided by -1
abbrev pub DividesSigned : Type 0
DividesSigned =
    (a b : ℕ) → a < 2 ^ 64 → b < 2 ^ 64 → 0 < b → (b ≡ 2 ^ 64 - 1 → a ≢ 2 ^ 63)
    → IsSignedDivision (value a) (value b) (value (quotient_signed w64 a b)) (value (remainder_signed w64 a b))

-- unsigned division does so for every divisor but 0
abbrev pub DividesUnsigned : Type 0
DividesUnsigned =
    (a b : ℕ) → 0 < b → (quotient_unsigned w64 a b * b + remainder_unsigned a b ≡ a) × (remainder_unsigned a b < b)

-- a divisor of 0 gives all ones, which is -1, as quotient, and the dividend as remainder
pub record DividesByZero (a : ℕ) : Type 0 where
  pub signed_quotient : quotient_signed w64 a 0 ≡ 2 ^ 64 - 1
  pub signed_remainder : remainder_signed w64 a 0 ≡ a
  pub unsigned_quotient : quotient_unsigned w64 a 0 ≡ 2 ^ 64 - 1
  pub unsigned_remainder : remainder_unsigned a 0 ≡ a

-- the least number divided by -1 gives the least number, and leaves 0
abbrev pub Overflows : Type 0
Overflows = (quotient_signed w64 (2 ^ 63) (2 ^ 64 - 1) ≡ 2 ^ 63) × (remainder_signed w64 (2 ^ 63) (2 ^ 64 - 1) ≡ 0)

-- the high half over the low half, which is the product modulo 2 ^ 64 whatever the signs, is the product
pub record HasHalves (a b : ℕ) : Type 0 where
  pub signed : value (high_signed a b) *ℤ pos (2 ^ 64) +ℤ pos (a * b % 2 ^ 64) ≡ value a *ℤ value b
  pub mixed : value (high_mixed a b) *ℤ pos (2 ^ 64) +ℤ pos (a * b % 2 ^ 64) ≡ value a *ℤ pos b
  pub unsigned : high_unsigned a b * 2 ^ 64 + a * b % 2 ^ 64 ≡ a * b

-- the extension has the number's low bits, and all its bits from the sign bit up are equal: all 0, or all 1
pub record IsExtension (count x extended : ℕ) : Type 0 where
  pub same : extended % 2 ^ count ≡ x % 2 ^ count
  pub equal : (extended < 2 ^ (count - 1)) ⊎ (2 ^ 64 - 2 ^ (count - 1) ≤ extended)
  pub fits : extended < 2 ^ 64

-- sign extension gives that for every count of bits from 1 to 64
abbrev pub ExtendsSigns : Type 0
ExtendsSigns = (count x : ℕ) → 1 ≤ count → count ≤ 64 → IsExtension count x (sign_extended count x)

-- Arithmetic on words: whole numbers, read as signed or unsigned, and taken modulo a power of two. From the
-- Unprivileged ISA's chapters "RV64I Base Integer Instruction Set" and "M Extension for Integer Multiplication and
-- Division".
use Rattle.std.specs.Prelude.{ℕ, ◌-◌, ◌*◌, ◌/◌, ◌%◌, ◌^◌, ◌==◌, nat_lt, if◌then◌else◌, ℤ, pos, ◌-ℤ◌, ◌*ℤ◌, unsigned_abs}
use Rattle.std.specs.Int.{Width, w64, cast_signed, int_div_euclid, int_rem_euclid}
use Rattle.std.specs.Int.RustNames.{int_div, int_rem}
use mir.Val.{bits}

-- a bit field of a word: so many bits, from a bit on
abbrev pub bit_field : ℕ → ℕ → ℕ → ℕ
bit_field first count word = word / 2 ^ first % 2 ^ count

-- a whole number modulo 2 to the width
abbrev pub residue : Width → ℤ → ℕ
residue w z = unsigned_abs (int_rem_euclid z (pos (2 ^ bits w)))

-- a number of so many bits as a signed one: less 2 ^ count where its highest bit is set
abbrev pub signed_of : ℕ → ℕ → ℤ
signed_of count number = if nat_lt number (2 ^ (count - 1)) then pos number else pos number -ℤ pos (2 ^ count)

-- the low bits of a number as a signed one, modulo 2 ^ 64
unfoldable pub sign_extended : ℕ → ℕ → ℕ
sign_extended count x = residue w64 (signed_of count (x % 2 ^ count))

-- MULH: the upper 64 bits of the product of two signed numbers
unfoldable pub high_signed : ℕ → ℕ → ℕ
high_signed a b = residue w64 (int_div_euclid (cast_signed w64 a *ℤ cast_signed w64 b) (pos (2 ^ 64)))

-- MULHSU: the same, the second number unsigned
unfoldable pub high_mixed : ℕ → ℕ → ℕ
high_mixed a b = residue w64 (int_div_euclid (cast_signed w64 a *ℤ pos b) (pos (2 ^ 64)))

-- MULHU: the same, both unsigned
unfoldable pub high_unsigned : ℕ → ℕ → ℕ
high_unsigned a b = a * b / 2 ^ 64

-- DIV: signed, rounded towards zero; all ones where the divisor is 0
unfoldable pub quotient_signed : Width → ℕ → ℕ → ℕ
quotient_signed w a b = if b == 0 then 2 ^ bits w - 1 else residue w (int_div (cast_signed w a) (cast_signed w b))

-- DIVU
unfoldable pub quotient_unsigned : Width → ℕ → ℕ → ℕ
quotient_unsigned w a b = if b == 0 then 2 ^ bits w - 1 else a / b

-- REM: the remainder has the dividend's sign, and is the dividend where the divisor is 0
unfoldable pub remainder_signed : Width → ℕ → ℕ → ℕ
remainder_signed w a b = if b == 0 then a else residue w (int_rem (cast_signed w a) (cast_signed w b))

-- REMU
unfoldable pub remainder_unsigned : ℕ → ℕ → ℕ
remainder_unsigned a b = if b == 0 then a else a % b

-- What each instruction of bit manipulation computes: one equation a name, on whole numbers.
-- From the Bit-Manipulation ISA-extensions, "Zba: Address generation", "Zbb: Basic bit-manipulation" and "Zbs:
-- Single-bit instructions".
use Rattle.std.specs.Prelude.{ℕ, ◌+◌, ◌*◌, ◌/◌, ◌%◌, ◌^◌, ◌==◌, nat_lt, int_lt, if◌then◌else◌, map, reverse}
use Rattle.std.specs.Prelude.{bit_and, bit_or, bit_xor}
use Rattle.std.specs.Int.{w64, bit_not, cast_signed, to_le_bytes, from_le_bytes}
use Rattle.hart_words.specs.Words.{sign_extended}
use Rattle.rv_decode.specs.declared.operation.BitsOp.{BitsOp}
use Rattle.rv_decode.specs.declared.operation.BitsOp.TheVariants.{Sh1add, Sh2add, Sh3add, AddUw, Sh1addUw, Sh2addUw}
use Rattle.rv_decode.specs.declared.operation.BitsOp.TheVariants.{Sh3addUw, SlliUw, Andn, Orn, Xnor, Clz, Clzw, Ctz}
use Rattle.rv_decode.specs.declared.operation.BitsOp.TheVariants.{Ctzw, Cpop, Cpopw, Max, Maxu, Min, Minu, SextB, SextH}
use Rattle.rv_decode.specs.declared.operation.BitsOp.TheVariants.{ZextH, Rol, Rolw, Ror, Rorw, OrcB, Rev8, Bclr, Bext}
use Rattle.rv_decode.specs.declared.operation.BitsOp.TheVariants.{Binv, Bset}
use Rattle.rv_bits.specs.Counts.{zeros_above, zeros_below, population}
use Rattle.rv_bits.specs.Rotations.{rotated_left, rotated_right}

-- the low 32 bits
abbrev pub low : ℕ → ℕ
low x = x % 2 ^ 32

-- a number shifted left by so many bits, and another added, modulo 2 ^ 64
abbrev pub shifted_sum : ℕ → ℕ → ℕ → ℕ
shifted_sum x amount addend = (x * 2 ^ amount + addend) % 2 ^ 64

-- the greater of two signed numbers
abbrev pub greater_signed : ℕ → ℕ → ℕ
greater_signed a b = if int_lt (cast_signed w64 a) (cast_signed w64 b) then b else a

-- the lesser
abbrev pub lesser_signed : ℕ → ℕ → ℕ
lesser_signed a b = if int_lt (cast_signed w64 a) (cast_signed w64 b) then a else b

-- a byte with every bit set where any is
abbrev pub filled_byte : ℕ → ℕ
filled_byte byte = if byte == 0 then 0 else 0xff

-- the bit that the low 6 bits of the second operand name, alone
abbrev pub selected_bit : ℕ → ℕ
selected_bit b = 2 ^ (b % 64)

-- by instruction, rs1's value, and the value of rs2 or the shift amount
unfoldable pub bits_result : BitsOp → ℕ → ℕ → ℕ
bits_result Sh1add a b = shifted_sum a 1 b
bits_result Sh2add a b = shifted_sum a 2 b
bits_result Sh3add a b = shifted_sum a 3 b
bits_result AddUw a b = shifted_sum (low a) 0 b
bits_result Sh1addUw a b = shifted_sum (low a) 1 b
bits_result Sh2addUw a b = shifted_sum (low a) 2 b
bits_result Sh3addUw a b = shifted_sum (low a) 3 b
bits_result SlliUw a b = low a * 2 ^ (b % 64) % 2 ^ 64
bits_result Andn a b = bit_and a (bit_not w64 b)
bits_result Orn a b = bit_or a (bit_not w64 b)
bits_result Xnor a b = bit_not w64 (bit_xor a b)
bits_result Clz a b = zeros_above 64 a
bits_result Clzw a b = zeros_above 32 (low a)
bits_result Ctz a b = zeros_below 64 a
bits_result Ctzw a b = zeros_below 32 (low a)
bits_result Cpop a b = population 64 a
bits_result Cpopw a b = population 32 (low a)
bits_result Max a b = greater_signed a b
bits_result Maxu a b = if nat_lt a b then b else a
bits_result Min a b = lesser_signed a b
bits_result Minu a b = if nat_lt a b then a else b
bits_result SextB a b = sign_extended 8 a
bits_result SextH a b = sign_extended 16 a
bits_result ZextH a b = a % 2 ^ 16
bits_result Rol a b = rotated_left 64 a (b % 64)
bits_result Rolw a b = sign_extended 32 (rotated_left 32 (low a) (b % 32))
bits_result Ror a b = rotated_right 64 a (b % 64)
bits_result Rorw a b = sign_extended 32 (rotated_right 32 (low a) (b % 32))
bits_result OrcB a b = from_le_bytes w64 (map filled_byte (to_le_bytes w64 a))
bits_result Rev8 a b = from_le_bytes w64 (reverse (to_le_bytes w64 a))
bits_result Bclr a b = bit_and a (bit_not w64 (selected_bit b))
bits_result Bext a b = a / selected_bit b % 2
bits_result Binv a b = bit_xor a (selected_bit b)
bits_result Bset a b = bit_or a (selected_bit b)

-- The atomic memory operations: what memory gets, one equation a name, on whole numbers.
-- From the Unprivileged ISA's chapter "A Extension for Atomic Instructions".
use Rattle.std.specs.Prelude.{ℕ, ◌+◌, ◌%◌, ◌^◌, min, max, ℤ, int_lt, if◌then◌else◌, bit_and, bit_or, bit_xor}
use Rattle.std.specs.Int.{w32, w64, cast_signed}
use Rattle.hart_words.specs.AccessSizes.{bits_of}
use Rattle.rv_decode.specs.Widths.{size_of}
use Rattle.rv_decode.specs.declared.operation.Width.{Width}
use Rattle.rv_decode.specs.declared.operation.Width.TheVariants.{Word, Doubleword}
use Rattle.rv_decode.specs.declared.operation.AmoOp.{AmoOp}
use Rattle.rv_decode.specs.declared.operation.AmoOp.TheVariants.{Amoswap, Amoadd, Amoxor, Amoand, Amoor, Amomin, Amomax}
use Rattle.rv_decode.specs.declared.operation.AmoOp.TheVariants.{Amominu, Amomaxu}

-- the bits that an instruction of a width works on
abbrev pub width_bits : Width → ℕ
width_bits width = bits_of (size_of width)

-- a number of so many bits as a signed one
abbrev pub signed_at : Width → ℕ → ℤ
signed_at Word x = cast_signed w32 x
signed_at Doubleword x = cast_signed w64 x

-- what memory held, combined with the register's value, both of the width's bits
unfoldable pub combination_of : AmoOp → Width → ℕ → ℕ → ℕ
combination_of Amoswap width x y = y
combination_of Amoadd width x y = (x + y) % 2 ^ width_bits width
combination_of Amoxor width x y = bit_xor x y
combination_of Amoand width x y = bit_and x y
combination_of Amoor width x y = bit_or x y
combination_of Amomin width x y = if int_lt (signed_at width y) (signed_at width x) then y else x
combination_of Amomax width x y = if int_lt (signed_at width x) (signed_at width y) then y else x
combination_of Amominu width x y = min x y
combination_of Amomaxu width x y = max x y

-- the low bits of both, combined
unfoldable pub amo_of : AmoOp → Width → ℕ → ℕ → ℕ
amo_of op width old b = combination_of op width (old % 2 ^ width_bits width) (b % 2 ^ width_bits width)

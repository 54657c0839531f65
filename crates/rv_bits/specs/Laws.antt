-- What holds of the instructions, in the words of the Bit-Manipulation ISA-extensions, "Zbb: Basic bit-manipulation".
use Rattle.std.specs.Prelude.{◌≡◌, ℕ, ◌+◌, ◌-◌, ◌^◌, ◌<◌, ◌≤◌, ◌≤ℤ◌, ◌⊎◌}
use Rattle.std.specs.Int.{w64, bit_not, cast_signed, ◌∣◌}
use Rattle.hart_words.specs.Words.{sign_extended}
use Rattle.rv_decode.specs.declared.operation.BitsOp.{BitsOp}
use Rattle.rv_decode.specs.declared.operation.BitsOp.TheVariants.{Clz, Clzw, Ctz, Ctzw, Cpop, Max, Maxu, Min, Minu}
use Rattle.rv_decode.specs.declared.operation.BitsOp.TheVariants.{Rol, Rolw, Ror, Rorw, Rev8}
use Rattle.rv_bits.specs.Results.{bits_result}

-- operands of 64 bits give a result of 64 bits
abbrev pub ResultsFit : Type 0
ResultsFit = (op : BitsOp) (a b : ℕ) → a < 2 ^ 64 → b < 2 ^ 64 → bits_result op a b < 2 ^ 64

-- CLZ brackets a value that is not 0 between powers of two
abbrev pub LeadingZerosBracket : Type 0
LeadingZerosBracket =
    (a b : ℕ) → 0 < a → a < 2 ^ 64 → (2 ^ (63 - bits_result Clz a b) ≤ a) × (a < 2 ^ (64 - bits_result Clz a b))

-- 2 to the power of CTZ divides a value that is not 0, and no greater power of two does
abbrev pub TrailingZerosDivide : Type 0
TrailingZerosDivide =
    (a b : ℕ) → 0 < a → a < 2 ^ 64
    → (2 ^ bits_result Ctz a b ∣ a) × ((power : ℕ) → 2 ^ power ∣ a → power ≤ bits_result Ctz a b)

-- the number of zeros in 0 is that of the bits
abbrev pub ZeroHasAllZeros : Type 0
ZeroHasAllZeros =
    (b : ℕ) → (bits_result Clz 0 b ≡ 64) × (bits_result Ctz 0 b ≡ 64)
    × (bits_result Clzw 0 b ≡ 32) × (bits_result Ctzw 0 b ≡ 32)

-- the ones of a value and those of its complement are all bits
abbrev pub OnesAndZerosAreAll : Type 0
OnesAndZerosAreAll = (a b : ℕ) → a < 2 ^ 64 → bits_result Cpop a b + bits_result Cpop (bit_not w64 a) b ≡ 64

-- a rotation to one side and then to the other, by the same amount, gives the value
abbrev pub RotationsUndo : Type 0
RotationsUndo =
    (a b : ℕ) → a < 2 ^ 64
    → (bits_result Ror (bits_result Rol a b) b ≡ a) × (bits_result Rol (bits_result Ror a b) b ≡ a)

-- of the low 32 bits, it gives these as a signed number
abbrev pub WordRotationsUndo : Type 0
WordRotationsUndo =
    (a b : ℕ)
    → (bits_result Rorw (bits_result Rolw a b) b ≡ sign_extended 32 a)
    × (bits_result Rolw (bits_result Rorw a b) b ≡ sign_extended 32 a)

-- a value whose bytes are reversed twice is as it was
abbrev pub ReversalsUndo : Type 0
ReversalsUndo = (a b c : ℕ) → a < 2 ^ 64 → bits_result Rev8 (bits_result Rev8 a b) c ≡ a

-- two numbers are two others, in this order or the other
abbrev pub AreBoth : ℕ → ℕ → ℕ → ℕ → Type 0
AreBoth x y a b = ((x ≡ a) × (y ≡ b)) ⊎ ((x ≡ b) × (y ≡ a))

-- MIN and MAX are the two operands, in their order as signed numbers
abbrev pub SignedOrder : Type 0
SignedOrder =
    (a b : ℕ) → AreBoth (bits_result Min a b) (bits_result Max a b) a b
    × (cast_signed w64 (bits_result Min a b) ≤ℤ cast_signed w64 (bits_result Max a b))

-- MINU and MAXU in their order as unsigned ones
abbrev pub UnsignedOrder : Type 0
UnsignedOrder =
    (a b : ℕ) → AreBoth (bits_result Minu a b) (bits_result Maxu a b) a b
    × (bits_result Minu a b ≤ bits_result Maxu a b)

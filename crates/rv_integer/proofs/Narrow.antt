-- What is sign-extended from 32 bits hangs on these alone.
use Rattle.std.proofs.Common.{◌≡◌, ℕ, ◌+◌, ◌-◌, ◌*◌, ◌%◌, ◌^◌, arith, ap, refl, sym}
use Rattle.std.proofs.lemmas.Nat.{mul-mod}
use Rattle.std.proofs.Math.Nat.{mod-mod}
use Rattle.hart_words.proofs.Extended.{extends_signs}
use Rattle.rv_decode.specs.declared.operation.RegisterWordOp.TheVariants.{Addw, Subw, Sllw, Srlw, Sraw, Mulw, Divw}
use Rattle.rv_decode.specs.declared.operation.RegisterWordOp.TheVariants.{Divuw, Remw, Remuw}
use Rattle.rv_decode.specs.declared.operation.ImmediateWordOp.TheVariants.{Addiw, Slliw, Srliw, Sraiw}
use Rattle.rv_integer.specs.Results.{immediate_word_result, register_word_result}
use Rattle.rv_bits.specs.Results.{low}
use Rattle.rv_integer.specs.WordForms.{RegisterWordsAreWords, ImmediateWordsAreWords, RegisterWordsIgnoreUpperBits}
use Rattle.rv_integer.specs.WordForms.{ImmediateWordsIgnoreUpperBits}
use Rattle.std.specs.Int.{w64}
use Rattle.hart_words.specs.Words.{sign_extended, residue, signed_of}

same_low : (x y : ℕ) → x % 2 ^ 32 ≡ y % 2 ^ 32 → sign_extended 32 x ≡ sign_extended 32 y
unfolding sign_extended
same_low x y e = ap (λ l. residue w64 (signed_of 32 l)) e

pub narrowed : (x : ℕ) → sign_extended 32 (x % 2 ^ 64) ≡ sign_extended 32 x
narrowed x = same_low (x % 2 ^ 64) x (omega arith)

pub narrowed_word : (x : ℕ) → sign_extended 32 (x % 2 ^ 32) ≡ sign_extended 32 x
narrowed_word x = same_low (x % 2 ^ 32) x (omega arith)

-- what is sign-extended once is so for good
twice : (x : ℕ) → sign_extended 32 (sign_extended 32 x) ≡ sign_extended 32 x
twice x = same_low (sign_extended 32 x) x (extends_signs 32 x (omega arith) (omega arith)).same

low_low : (x : ℕ) → low (low x) ≡ low x
low_low x = mod-mod x (2 ^ 32)

low_amount : (x : ℕ) → low x % 32 ≡ x % 32
low_amount x = omega arith

pub register_words : RegisterWordsAreWords
unfolding register_word_result
register_words Addw a b = twice _
register_words Subw a b = twice _
register_words Sllw a b = twice _
register_words Srlw a b = twice _
register_words Sraw a b = twice _
register_words Mulw a b = twice _
register_words Divw a b = twice _
register_words Divuw a b = twice _
register_words Remw a b = twice _
register_words Remuw a b = twice _

pub immediate_words : ImmediateWordsAreWords
unfolding immediate_word_result
immediate_words Addiw a imm = twice _
immediate_words Slliw a imm = twice _
immediate_words Srliw a imm = twice _
immediate_words Sraiw a imm = twice _

pub registers_ignore : RegisterWordsIgnoreUpperBits
unfolding register_word_result
registers_ignore Addw a b fits = same_low (low a + low b) (a + b) (omega arith)
registers_ignore Subw a b fits = same_low (low a + (2 ^ 64 - low b)) (a + (2 ^ 64 - b)) (omega arith)
registers_ignore Sllw a b fits = rw (low_low a, low_amount b) refl
registers_ignore Srlw a b fits = rw (low_low a, low_amount b) refl
registers_ignore Sraw a b fits = rw (low_low a, low_amount b) refl
registers_ignore Mulw a b fits = same_low (low a * low b) (a * b) (sym (mul-mod a b (2 ^ 32)))
registers_ignore Divw a b fits = rw (low_low a, low_low b) refl
registers_ignore Divuw a b fits = rw (low_low a, low_low b) refl
registers_ignore Remw a b fits = rw (low_low a, low_low b) refl
registers_ignore Remuw a b fits = rw (low_low a, low_low b) refl

pub immediates_ignore : ImmediateWordsIgnoreUpperBits
unfolding immediate_word_result
immediates_ignore Addiw a imm = same_low (low a + imm) (a + imm) (omega arith)
immediates_ignore Slliw a imm = rw (low_low a) refl
immediates_ignore Srliw a imm = rw (low_low a) refl
immediates_ignore Sraiw a imm = rw (low_low a) refl

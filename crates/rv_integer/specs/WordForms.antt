-- What holds of every operation on 32 bits, in the words of the Unprivileged ISA's chapter "RV64I Base Integer
-- Instruction Set":
-- it ignores the upper 32 bits of its inputs, and always produces a 32-bit signed value, sign-extended to 64 bits.
use Rattle.std.specs.Prelude.{◌≡◌, ℕ, ◌^◌, ◌<◌}
use Rattle.hart_words.specs.Words.{sign_extended}
use Rattle.rv_decode.specs.declared.operation.ImmediateWordOp.{ImmediateWordOp}
use Rattle.rv_decode.specs.declared.operation.RegisterWordOp.{RegisterWordOp}
use Rattle.rv_integer.specs.Results.{immediate_word_result, register_word_result}
use Rattle.rv_bits.specs.Results.{low}

-- the number is the sign extension of its low 32 bits
abbrev pub IsWord : ℕ → Type 0
IsWord x = sign_extended 32 x ≡ x

-- every result is a word
abbrev pub RegisterWordsAreWords : Type 0
RegisterWordsAreWords = (op : RegisterWordOp) (a b : ℕ) → IsWord (register_word_result op a b)

-- with an immediate too
abbrev pub ImmediateWordsAreWords : Type 0
ImmediateWordsAreWords = (op : ImmediateWordOp) (a imm : ℕ) → IsWord (immediate_word_result op a imm)

-- the low 32 bits of the sources give the result
abbrev pub RegisterWordsIgnoreUpperBits : Type 0
RegisterWordsIgnoreUpperBits =
    (op : RegisterWordOp) (a b : ℕ) → b < 2 ^ 64 → register_word_result op (low a) (low b) ≡ register_word_result op a b

-- with an immediate too
abbrev pub ImmediateWordsIgnoreUpperBits : Type 0
ImmediateWordsIgnoreUpperBits =
    (op : ImmediateWordOp) (a imm : ℕ) → immediate_word_result op (low a) imm ≡ immediate_word_result op a imm

-- What instructions compute of words are words, and they go on at even addresses.
use Rattle.std.proofs.Common.{◌≡◌, ℕ, ◌+◌, ◌-◌, ◌*◌, ◌/◌, ◌%◌, ◌^◌, ◌<◌, ◌≤◌, ◌==◌, Bool, true, false, nat_lt, bit_and}
use Rattle.std.proofs.Common.{if◌then◌else◌, arith, lit<, ℤ, pos, negsuc}
use Rattle.std.specs.Prelude.{int_lt}
use Rattle.std.specs.Int.{cast_signed, int_div_euclid, w64}
use Rattle.std.specs.Int.RustNames.{int_div, int_rem}
use Rattle.std.proofs.Math.Nat.{div-le_self, mod-le}
use Rattle.std.proofs.lemmas.Nat.{and_le_l, div_below, mul-lt, or_lt, shr_le, xor_lt}
use Rattle.hart_words.specs.Words.{high_mixed, high_signed, high_unsigned, quotient_signed, quotient_unsigned}
use Rattle.hart_words.specs.Words.{remainder_signed, remainder_unsigned, residue, sign_extended}
use Rattle.hart_words.proofs.Extended.{extends_signs}
use Rattle.rv_decode.specs.declared.operation.Op.{Op}
use Rattle.rv_decode.specs.declared.operation.Op.TheVariants as ops
use Rattle.rv_decode.specs.declared.operation.LoadOp.{LoadOp}
use Rattle.rv_decode.specs.declared.operation.LoadOp.TheVariants as loads
use Rattle.rv_decode.specs.declared.operation.ImmediateOp.{ImmediateOp}
use Rattle.rv_decode.specs.declared.operation.ImmediateOp.TheVariants as immediates
use Rattle.rv_decode.specs.declared.operation.ImmediateWordOp.{ImmediateWordOp}
use Rattle.rv_decode.specs.declared.operation.ImmediateWordOp.TheVariants as immediate_words
use Rattle.rv_decode.specs.declared.operation.RegisterOp.{RegisterOp}
use Rattle.rv_decode.specs.declared.operation.RegisterOp.TheVariants as registers
use Rattle.rv_decode.specs.declared.operation.RegisterWordOp.{RegisterWordOp}
use Rattle.rv_decode.specs.declared.operation.RegisterWordOp.TheVariants as register_words
use Rattle.rv_decode.specs.declared.patterns.Form.{Form}
use Rattle.rv_decode.specs.declared.patterns.Form.TheVariants as forms
use Rattle.rv_decode.specs.Fields.{operation_of}
use Rattle.rv_decode.proofs.Even.{even_of_13, even_of_21}
use Rattle.rv_bits.proofs.Fits.{results_fit}
use Rattle.rv_integer.specs.declared.int_result.IntResult.{IntResult}
use Rattle.rv_integer.specs.declared.int_result.IntResult.TheVariants as results
use Rattle.rv_integer.specs.declared.int_result.SystemRequest.{SystemRequest}
use Rattle.rv_integer.specs.declared.int_result.SystemRequest.TheVariants as system
use Rattle.rv_integer.specs.Results.{result_of, immediate_result, immediate_word_result, register_result}
use Rattle.rv_integer.specs.Results.{register_word_result, is_taken, load_of, wrapped_sum}

-- ---- numbers

residue_word : (z : ℤ) → residue w64 z < 2 ^ 64
residue_word (pos a) = omega arith
residue_word (negsuc a) = omega arith

pub extended_word : (count x : ℕ) → 1 ≤ count → count ≤ 64 → sign_extended count x < 2 ^ 64
extended_word count x some few = (extends_signs count x some few).fits

word_32 : (x : ℕ) → sign_extended 32 x < 2 ^ 64
word_32 x = extended_word 32 x (omega arith) (omega arith)

flag_word : (test : Bool) → (if test then 1 else 0) < 2 ^ 64
flag_word true = lit< tt
flag_word false = lit< tt

choice_word : (test : Bool) (a b : ℕ) → a < 2 ^ 64 → b < 2 ^ 64 → (if test then a else b) < 2 ^ 64
choice_word true a b one other = one
choice_word false a b one other = other

wrapped : (x : ℕ) → x % 2 ^ 64 < 2 ^ 64
wrapped x = omega arith

no_more : (x a : ℕ) → x ≤ a → a < 2 ^ 64 → x < 2 ^ 64
no_more x a less small = omega (arith, less, small)

high_half : (a b : ℕ) → a < 2 ^ 64 → b < 2 ^ 64 → a * b / 2 ^ 64 < 2 ^ 64
high_half a b one other = div_below (a * b) (2 ^ 64) (2 ^ 64) (lit< tt) (mul-lt a b (2 ^ 64) (2 ^ 64) one other)

register_word : (op : RegisterOp) (a b : ℕ) → a < 2 ^ 64 → b < 2 ^ 64 → register_result op a b < 2 ^ 64
unfolding register_result high_signed high_mixed high_unsigned quotient_signed quotient_unsigned remainder_signed
    remainder_unsigned
register_word registers.Add a b one other = wrapped (a + b)
register_word registers.Sub a b one other = wrapped (a + (2 ^ 64 - b))
register_word registers.Sll a b one other = wrapped (a * 2 ^ (b % 64))
register_word registers.Slt a b one other = flag_word (int_lt (cast_signed w64 a) (cast_signed w64 b))
register_word registers.Sltu a b one other = flag_word (nat_lt a b)
register_word registers.Xor a b one other = xor_lt 64 a b one other
register_word registers.Srl a b one other = no_more (a / 2 ^ (b % 64)) a (shr_le a (b % 64)) one
register_word registers.Sra a b one other = residue_word (int_div_euclid (cast_signed w64 a) (pos (2 ^ (b % 64))))
register_word registers.Or a b one other = or_lt 64 a b one other
register_word registers.And a b one other = no_more (bit_and a b) a (and_le_l a b) one
register_word registers.Mul a b one other = wrapped (a * b)
register_word registers.Mulh a b one other = residue_word _
register_word registers.Mulhsu a b one other = residue_word _
register_word registers.Mulhu a b one other = high_half a b one other
register_word registers.Div a b one other =
    choice_word (b == 0) (2 ^ 64 - 1) (residue w64 (int_div (cast_signed w64 a) (cast_signed w64 b))) (lit< tt)
    (residue_word (int_div (cast_signed w64 a) (cast_signed w64 b)))
register_word registers.Divu a b one other =
    choice_word (b == 0) (2 ^ 64 - 1) (a / b) (lit< tt) (no_more (a / b) a (div-le_self a b) one)
register_word registers.Rem a b one other =
    choice_word (b == 0) a (residue w64 (int_rem (cast_signed w64 a) (cast_signed w64 b))) one
    (residue_word (int_rem (cast_signed w64 a) (cast_signed w64 b)))
register_word registers.Remu a b one other = choice_word (b == 0) a (a % b) one (no_more (a % b) a (mod-le a b) one)

register_word_word : (op : RegisterWordOp) (a b : ℕ) → register_word_result op a b < 2 ^ 64
unfolding register_word_result
register_word_word register_words.Addw a b = word_32 _
register_word_word register_words.Subw a b = word_32 _
register_word_word register_words.Sllw a b = word_32 _
register_word_word register_words.Srlw a b = word_32 _
register_word_word register_words.Sraw a b = word_32 _
register_word_word register_words.Mulw a b = word_32 _
register_word_word register_words.Divw a b = word_32 _
register_word_word register_words.Divuw a b = word_32 _
register_word_word register_words.Remw a b = word_32 _
register_word_word register_words.Remuw a b = word_32 _

immediate_word : (op : ImmediateOp) (a imm : ℕ) → a < 2 ^ 64 → imm < 2 ^ 64 → immediate_result op a imm < 2 ^ 64
unfolding immediate_result
immediate_word immediates.Addi a imm one other = wrapped (a + imm)
immediate_word immediates.Slti a imm one other = flag_word (int_lt (cast_signed w64 a) (cast_signed w64 imm))
immediate_word immediates.Sltiu a imm one other = flag_word (nat_lt a imm)
immediate_word immediates.Xori a imm one other = xor_lt 64 a imm one other
immediate_word immediates.Ori a imm one other = or_lt 64 a imm one other
immediate_word immediates.Andi a imm one other = no_more (bit_and a imm) a (and_le_l a imm) one
immediate_word immediates.Slli a imm one other = wrapped (a * 2 ^ (imm % 64))
immediate_word immediates.Srli a imm one other = no_more (a / 2 ^ (imm % 64)) a (shr_le a (imm % 64)) one
immediate_word immediates.Srai a imm one other =
    residue_word (int_div_euclid (cast_signed w64 a) (pos (2 ^ (imm % 64))))

immediate_word_word : (op : ImmediateWordOp) (a imm : ℕ) → immediate_word_result op a imm < 2 ^ 64
unfolding immediate_word_result
immediate_word_word immediate_words.Addiw a imm = word_32 _
immediate_word_word immediate_words.Slliw a imm = word_32 _
immediate_word_word immediate_words.Srliw a imm = word_32 _
immediate_word_word immediate_words.Sraiw a imm = word_32 _

-- ---- operands

-- immediates are words, and offsets even
abbrev pub HasOperands : Op → Type 0
HasOperands (ops.Lui rd imm) = imm < 2 ^ 64
HasOperands (ops.Jal rd offset) = offset % 2 ≡ 0
HasOperands (ops.Branch op rs1 rs2 offset) = offset % 2 ≡ 0
HasOperands (ops.Immediate op rd rs1 imm) = imm < 2 ^ 64
HasOperands (ops.CsrImmediate op rd imm csr) = imm < 2 ^ 64
HasOperands (ops.BitsImmediate op rd rs1 imm) = imm < 2 ^ 64
HasOperands _ = Unit {0}

short_field : (word : ℕ) → word / 2 ^ 15 % 2 ^ 5 < 2 ^ 64
short_field word = omega arith

shift_field : (word : ℕ) → word / 2 ^ 20 % 2 ^ 6 < 2 ^ 64
shift_field word = omega arith

short_shift : (word : ℕ) → word / 2 ^ 20 % 2 ^ 5 < 2 ^ 64
short_shift word = omega arith

even_b : (a b c d : ℕ) → (a * 2 ^ 12 + b * 2 ^ 11 + c * 2 ^ 5 + d * 2 ^ 1) % 2 ≡ 0
even_b a b c d = omega arith

even_j : (a b c d : ℕ) → (a * 2 ^ 20 + b * 2 ^ 12 + c * 2 ^ 11 + d * 2 ^ 1) % 2 ≡ 0
even_j a b c d = omega arith

pub operands_by_form : (form : Form) (word : ℕ) → HasOperands (operation_of form word)
operands_by_form forms.Lui word = extended_word 32 _ (omega arith) (omega arith)
operands_by_form forms.Auipc word = tt
operands_by_form forms.Jal word =
    even_of_21 _
    (even_j (word / 2 ^ 31 % 2 ^ 1) (word / 2 ^ 12 % 2 ^ 8) (word / 2 ^ 20 % 2 ^ 1) (word / 2 ^ 21 % 2 ^ 10))
operands_by_form forms.Jalr word = tt
operands_by_form (forms.Branch op) word =
    even_of_13 _ (even_b (word / 2 ^ 31 % 2 ^ 1) (word / 2 ^ 7 % 2 ^ 1) (word / 2 ^ 25 % 2 ^ 6) (word / 2 ^ 8 % 2 ^ 4))
operands_by_form (forms.Load op) word = tt
operands_by_form (forms.Store op) word = tt
operands_by_form (forms.Immediate op) word = extended_word 12 _ (omega arith) (omega arith)
operands_by_form (forms.Shift op) word = shift_field word
operands_by_form (forms.ImmediateWord op) word = tt
operands_by_form (forms.ShiftWord op) word = tt
operands_by_form (forms.Register op) word = tt
operands_by_form (forms.RegisterWord op) word = tt
operands_by_form (forms.BitsRegister op) word = tt
operands_by_form (forms.BitsShift op) word = shift_field word
operands_by_form (forms.BitsShiftWord op) word = short_shift word
operands_by_form (forms.BitsUnary op) word = tt
operands_by_form forms.Fence word = tt
operands_by_form forms.FenceI word = tt
operands_by_form forms.Ecall word = tt
operands_by_form forms.Ebreak word = tt
operands_by_form forms.Mret word = tt
operands_by_form forms.Sret word = tt
operands_by_form forms.Wfi word = tt
operands_by_form forms.SfenceVma word = tt
operands_by_form (forms.Csr op) word = tt
operands_by_form (forms.CsrImmediate op) word = short_field word
operands_by_form (forms.LoadReserved width) word = tt
operands_by_form (forms.StoreConditional width) word = tt
operands_by_form (forms.Amo op width) word = tt

-- ---- results

abbrev pub IsEvenWord : ℕ → Type 0
IsEvenWord pc = (pc < 2 ^ 64) × (pc % 2 ≡ 0)

abbrev pub AsksWords : SystemRequest → Type 0
AsksWords (system.Csr request) = request.operand < 2 ^ 64
AsksWords _ = Unit {0}

-- values, addresses and operands are words, and the hart goes on at an even one
abbrev pub IsOfWords : IntResult → Type 0
IsOfWords (results.Value value) = value < 2 ^ 64
IsOfWords (results.Jump link target) = (link < 2 ^ 64) × IsEvenWord target
IsOfWords (results.Continue next_pc) = IsEvenWord next_pc
IsOfWords (results.Access request) = request.address < 2 ^ 64
IsOfWords (results.System request) = AsksWords request

even_sum : (a b : ℕ) → a % 2 ≡ 0 → b % 2 ≡ 0 → IsEvenWord ((a + b) % 2 ^ 64)
even_sum a b one other = (omega arith, omega (arith, one, other))

halved : (x : ℕ) → x < 2 ^ 64 → IsEvenWord (x / 2 * 2)
halved x small = (omega (arith, small), omega arith)

branch_even : (taken : Bool) (one other : ℕ) → IsEvenWord one → IsEvenWord other
    → IsEvenWord (if taken then one else other)
branch_even true one other a b = a
branch_even false one other a b = b

load_words : (op : LoadOp) (address : ℕ) → address < 2 ^ 64 → IsOfWords (load_of op address)
load_words loads.Lb address small = small
load_words loads.Lh address small = small
load_words loads.Lw address small = small
load_words loads.Ld address small = small
load_words loads.Lbu address small = small
load_words loads.Lhu address small = small
load_words loads.Lwu address small = small

-- the values of the operands are words, pc and the length of the instruction are even
pub record AreOperands (a b pc len : ℕ) : Type 0 where
  pub first_fits : a < 2 ^ 64
  pub second_fits : b < 2 ^ 64
  pub pc_even : pc % 2 ≡ 0
  pub len_even : len % 2 ≡ 0

pub computed_words : (op : Op) (a b pc len : ℕ) → HasOperands op → AreOperands a b pc len
    → IsOfWords (result_of op a b pc len)
unfolding result_of
computed_words (ops.Lui rd imm) a b pc len has are = has
computed_words (ops.Auipc rd imm) a b pc len has are = wrapped (pc + imm)
computed_words (ops.Jal rd offset) a b pc len has are =
    (wrapped (pc + len), even_sum pc offset are.pc_even has)
computed_words (ops.Jalr rd rs1 offset) a b pc len has are =
    (wrapped (pc + len), halved (wrapped_sum a offset) (wrapped (a + offset)))
computed_words (ops.Branch op rs1 rs2 offset) a b pc len has are =
    branch_even (is_taken op a b) (wrapped_sum pc offset) (wrapped_sum pc len) (even_sum pc offset are.pc_even has)
    (even_sum pc len are.pc_even are.len_even)
computed_words (ops.Load op rd rs1 offset) a b pc len has are =
    load_words op (wrapped_sum a offset) (wrapped (a + offset))
computed_words (ops.Store op rs1 rs2 offset) a b pc len has are = wrapped (a + offset)
computed_words (ops.Immediate op rd rs1 imm) a b pc len has are = immediate_word op a imm are.first_fits has
computed_words (ops.ImmediateWord op rd rs1 imm) a b pc len has are = immediate_word_word op a imm
computed_words (ops.Register op rd rs1 rs2) a b pc len has are = register_word op a b are.first_fits are.second_fits
computed_words (ops.RegisterWord op rd rs1 rs2) a b pc len has are = register_word_word op a b
computed_words (ops.BitsRegister op rd rs1 rs2) a b pc len has are =
    results_fit op a b are.first_fits are.second_fits
computed_words (ops.BitsImmediate op rd rs1 imm) a b pc len has are = results_fit op a imm are.first_fits has
computed_words (ops.BitsUnary op rd rs1) a b pc len has are = results_fit op a 0 are.first_fits (lit< tt)
computed_words ops.Fence a b pc len has are = even_sum pc len are.pc_even are.len_even
computed_words ops.FenceI a b pc len has are = even_sum pc len are.pc_even are.len_even
computed_words ops.Ecall a b pc len has are = tt
computed_words ops.Ebreak a b pc len has are = tt
computed_words ops.Mret a b pc len has are = tt
computed_words ops.Sret a b pc len has are = tt
computed_words ops.Wfi a b pc len has are = tt
computed_words (ops.SfenceVma rs1 rs2) a b pc len has are = tt
computed_words (ops.Csr op rd rs1 csr) a b pc len has are = are.first_fits
computed_words (ops.CsrImmediate op rd imm csr) a b pc len has are = has
computed_words (ops.LoadReserved width rd rs1) a b pc len has are = are.first_fits
computed_words (ops.StoreConditional width rd rs1 rs2) a b pc len has are = are.first_fits
computed_words (ops.Amo op width rd rs1 rs2) a b pc len has are = are.first_fits

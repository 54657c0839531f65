-- What each instruction computes or asks for: one equation a name, on whole numbers.
-- From the Unprivileged ISA's chapters "RV32I Base Integer Instruction Set", "RV64I Base Integer Instruction Set", "M
-- Extension for Integer Multiplication and Division", "A Extension for Atomic Instructions" and "Zicsr Extension for
-- Control and Status Register (CSR) Instructions", and the Privileged Architecture's "Machine-Level ISA" and
-- "Supervisor-Level ISA". The equations of bit manipulation are those of rv_bits.
use Rattle.rv_bits.specs.Results.{low}
use Rattle.std.specs.Prelude.{ℕ, ◌+◌, ◌-◌, ◌*◌, ◌/◌, ◌%◌, ◌^◌, Bool, true, false, not, ◌==◌, nat_lt, pos, int_lt}
use Rattle.std.specs.Prelude.{if◌then◌else◌, bit_and, bit_or, bit_xor}
use Rattle.std.specs.Int.{w32, w64, cast_signed, int_div_euclid}
use Rattle.hart_words.specs.declared.access_size.AccessSize.{AccessSize}
use Rattle.hart_words.specs.declared.access_size.AccessSize.TheVariants.{Byte, Halfword, Word, Doubleword}
use Rattle.hart_words.specs.AccessSizes.{bits_of}
use Rattle.hart_words.specs.Words.{residue, sign_extended, high_signed, high_mixed, high_unsigned, quotient_signed}
use Rattle.hart_words.specs.Words.{quotient_unsigned, remainder_signed, remainder_unsigned}
use Rattle.rv_decode.specs.declared.operation.Op.{Op}
use Rattle.rv_decode.specs.declared.operation.Op.TheVariants as ops
use Rattle.rv_decode.specs.declared.operation.BranchOp.{BranchOp}
use Rattle.rv_decode.specs.declared.operation.BranchOp.TheVariants as branches
use Rattle.rv_decode.specs.declared.operation.LoadOp.{LoadOp}
use Rattle.rv_decode.specs.declared.operation.LoadOp.TheVariants as loads
use Rattle.rv_decode.specs.declared.operation.StoreOp.{StoreOp}
use Rattle.rv_decode.specs.declared.operation.StoreOp.TheVariants as stores
use Rattle.rv_decode.specs.declared.operation.ImmediateOp.{ImmediateOp}
use Rattle.rv_decode.specs.declared.operation.ImmediateOp.TheVariants as immediates
use Rattle.rv_decode.specs.declared.operation.ImmediateWordOp.{ImmediateWordOp}
use Rattle.rv_decode.specs.declared.operation.ImmediateWordOp.TheVariants as immediate_words
use Rattle.rv_decode.specs.declared.operation.RegisterOp.{RegisterOp}
use Rattle.rv_decode.specs.declared.operation.RegisterOp.TheVariants as registers
use Rattle.rv_decode.specs.declared.operation.RegisterWordOp.{RegisterWordOp}
use Rattle.rv_decode.specs.declared.operation.RegisterWordOp.TheVariants as register_words
use Rattle.rv_decode.specs.declared.operation.Width.{Width}
use Rattle.rv_decode.specs.declared.operation.CsrOp.{CsrOp}
use Rattle.rv_decode.specs.declared.operation.CsrOp.TheVariants as csr_ops
use Rattle.rv_decode.specs.Widths.{size_of}
use Rattle.rv_bits.specs.Results.{bits_result}
use Rattle.rv_integer.specs.declared.int_result.IntResult.{IntResult}
use Rattle.rv_integer.specs.declared.int_result.IntResult.TheVariants as results
use Rattle.rv_integer.specs.declared.int_result.SystemRequest.TheVariants as system
use Rattle.rv_integer.specs.declared.int_result.MemoryOp.{MemoryOp}
use Rattle.rv_integer.specs.declared.int_result.MemoryOp.TheVariants as memory_ops

-- a sum modulo 2 ^ 64
abbrev pub wrapped_sum : ℕ → ℕ → ℕ
wrapped_sum a b = (a + b) % 2 ^ 64

-- a difference modulo 2 ^ 64
abbrev pub wrapped_difference : ℕ → ℕ → ℕ
wrapped_difference a b = (a + (2 ^ 64 - b)) % 2 ^ 64

-- 1 where the first is less than the second as signed numbers, else 0
abbrev pub is_less_signed : ℕ → ℕ → ℕ
is_less_signed a b = if int_lt (cast_signed w64 a) (cast_signed w64 b) then 1 else 0

-- the same as unsigned numbers
abbrev pub is_less_unsigned : ℕ → ℕ → ℕ
is_less_unsigned a b = if nat_lt a b then 1 else 0

-- a left shift by the low 6 bits of the second: times a power of two
abbrev pub left_shift : ℕ → ℕ → ℕ
left_shift a b = a * 2 ^ (b % 64) % 2 ^ 64

-- a right shift by them: divided by the power, and rounded down
abbrev pub right_shift : ℕ → ℕ → ℕ
right_shift a b = a / 2 ^ (b % 64)

-- the same on a signed number
abbrev pub signed_right_shift : ℕ → ℕ → ℕ
signed_right_shift a b = residue w64 (int_div_euclid (cast_signed w64 a) (pos (2 ^ (b % 64))))

-- a left shift of the low 32 bits, by the low 5 bits of the second; the 32 bits of the result are extended
abbrev pub left_shift_word : ℕ → ℕ → ℕ
left_shift_word a b = sign_extended 32 (low a * 2 ^ (b % 32))

-- a right shift so
abbrev pub right_shift_word : ℕ → ℕ → ℕ
right_shift_word a b = sign_extended 32 (low a / 2 ^ (b % 32))

-- a right shift so, on a signed number
abbrev pub signed_right_shift_word : ℕ → ℕ → ℕ
signed_right_shift_word a b =
    sign_extended 32 (residue w32 (int_div_euclid (cast_signed w32 (low a)) (pos (2 ^ (b % 32)))))

-- whether a branch is taken
unfoldable pub is_taken : BranchOp → ℕ → ℕ → Bool
is_taken branches.Beq a b = a == b
is_taken branches.Bne a b = not (a == b)
is_taken branches.Blt a b = int_lt (cast_signed w64 a) (cast_signed w64 b)
is_taken branches.Bge a b = not (int_lt (cast_signed w64 a) (cast_signed w64 b))
is_taken branches.Bltu a b = nat_lt a b
is_taken branches.Bgeu a b = not (nat_lt a b)

-- a register's value with an immediate
unfoldable pub immediate_result : ImmediateOp → ℕ → ℕ → ℕ
immediate_result immediates.Addi a imm = wrapped_sum a imm
immediate_result immediates.Slti a imm = is_less_signed a imm
immediate_result immediates.Sltiu a imm = is_less_unsigned a imm
immediate_result immediates.Xori a imm = bit_xor a imm
immediate_result immediates.Ori a imm = bit_or a imm
immediate_result immediates.Andi a imm = bit_and a imm
immediate_result immediates.Slli a imm = left_shift a imm
immediate_result immediates.Srli a imm = right_shift a imm
immediate_result immediates.Srai a imm = signed_right_shift a imm

-- the same on 32 bits
unfoldable pub immediate_word_result : ImmediateWordOp → ℕ → ℕ → ℕ
immediate_word_result immediate_words.Addiw a imm = sign_extended 32 (a + imm)
immediate_word_result immediate_words.Slliw a imm = left_shift_word a imm
immediate_word_result immediate_words.Srliw a imm = right_shift_word a imm
immediate_word_result immediate_words.Sraiw a imm = signed_right_shift_word a imm

-- two registers' values
unfoldable pub register_result : RegisterOp → ℕ → ℕ → ℕ
register_result registers.Add a b = wrapped_sum a b
register_result registers.Sub a b = wrapped_difference a b
register_result registers.Sll a b = left_shift a b
register_result registers.Slt a b = is_less_signed a b
register_result registers.Sltu a b = is_less_unsigned a b
register_result registers.Xor a b = bit_xor a b
register_result registers.Srl a b = right_shift a b
register_result registers.Sra a b = signed_right_shift a b
register_result registers.Or a b = bit_or a b
register_result registers.And a b = bit_and a b
register_result registers.Mul a b = a * b % 2 ^ 64
register_result registers.Mulh a b = high_signed a b
register_result registers.Mulhsu a b = high_mixed a b
register_result registers.Mulhu a b = high_unsigned a b
register_result registers.Div a b = quotient_signed w64 a b
register_result registers.Divu a b = quotient_unsigned w64 a b
register_result registers.Rem a b = remainder_signed w64 a b
register_result registers.Remu a b = remainder_unsigned a b

-- the same on 32 bits
unfoldable pub register_word_result : RegisterWordOp → ℕ → ℕ → ℕ
register_word_result register_words.Addw a b = sign_extended 32 (a + b)
register_word_result register_words.Subw a b = sign_extended 32 (a + (2 ^ 64 - b))
register_word_result register_words.Sllw a b = left_shift_word a b
register_word_result register_words.Srlw a b = right_shift_word a b
register_word_result register_words.Sraw a b = signed_right_shift_word a b
register_word_result register_words.Mulw a b = sign_extended 32 (a * b)
register_word_result register_words.Divw a b = sign_extended 32 (quotient_signed w32 (low a) (low b))
register_word_result register_words.Divuw a b = sign_extended 32 (quotient_unsigned w32 (low a) (low b))
register_word_result register_words.Remw a b = sign_extended 32 (remainder_signed w32 (low a) (low b))
register_word_result register_words.Remuw a b = sign_extended 32 (remainder_unsigned (low a) (low b))

-- an access to memory: an address, a size, and what is done with the bytes
abbrev pub access_at : ℕ → AccessSize → MemoryOp → IntResult
access_at address size op = results.Access (record { address = address; size = size; op = op })

-- a load of a size, and whether it is sign-extended
abbrev pub load_of : LoadOp → ℕ → IntResult
load_of loads.Lb address = access_at address Byte (memory_ops.Load true)
load_of loads.Lh address = access_at address Halfword (memory_ops.Load true)
load_of loads.Lw address = access_at address Word (memory_ops.Load true)
load_of loads.Ld address = access_at address Doubleword (memory_ops.Load true)
load_of loads.Lbu address = access_at address Byte (memory_ops.Load false)
load_of loads.Lhu address = access_at address Halfword (memory_ops.Load false)
load_of loads.Lwu address = access_at address Word (memory_ops.Load false)

-- a store's size
abbrev pub size_of_store : StoreOp → AccessSize
size_of_store stores.Sb = Byte
size_of_store stores.Sh = Halfword
size_of_store stores.Sw = Word
size_of_store stores.Sd = Doubleword

-- the low bits, as many as an access has
abbrev pub low_bits : AccessSize → ℕ → ℕ
low_bits size x = x % 2 ^ bits_of size

-- a store of the low bits
abbrev pub store_of : StoreOp → ℕ → ℕ → IntResult
store_of op address b = access_at address (size_of_store op) (memory_ops.Store (low_bits (size_of_store op) b))

-- a conditional store of them
abbrev pub store_conditional_of : Width → ℕ → ℕ → IntResult
store_conditional_of width address b =
    access_at address (size_of width) (memory_ops.StoreConditional (low_bits (size_of width) b))

-- whether a form reads the register: a write form with x0 as destination does not
abbrev pub is_csr_read : CsrOp → ℕ → Bool
is_csr_read csr_ops.Write rd = not (rd == 0)
is_csr_read csr_ops.Set rd = true
is_csr_read csr_ops.Clear rd = true

-- whether it writes it: a set or clear form with x0 as rs1, or 0 as immediate, does not
abbrev pub is_csr_written : CsrOp → ℕ → Bool
is_csr_written csr_ops.Write source = true
is_csr_written csr_ops.Set source = not (source == 0)
is_csr_written csr_ops.Clear source = not (source == 0)

-- an access to a control and status register, with rs1's number or the immediate, and the operand
abbrev pub csr_access_of : CsrOp → ℕ → ℕ → ℕ → ℕ → IntResult
csr_access_of op rd source operand csr = results.System (system.Csr (record {
  address = csr;
  op = op;
  operand = operand;
  reads = is_csr_read op rd;
  writes = is_csr_written op source;
}))

-- by instruction, its sources' values, its address and its length
unfoldable pub result_of : Op → ℕ → ℕ → ℕ → ℕ → IntResult
result_of (ops.Lui rd imm) a b pc len = results.Value imm
result_of (ops.Auipc rd imm) a b pc len = results.Value (wrapped_sum pc imm)
result_of (ops.Jal rd offset) a b pc len = results.Jump (wrapped_sum pc len) (wrapped_sum pc offset)
result_of (ops.Jalr rd rs1 offset) a b pc len =
    results.Jump (wrapped_sum pc len) (wrapped_sum a offset / 2 * 2)
result_of (ops.Branch op rs1 rs2 offset) a b pc len =
    results.Continue (if is_taken op a b then wrapped_sum pc offset else wrapped_sum pc len)
result_of (ops.Load op rd rs1 offset) a b pc len = load_of op (wrapped_sum a offset)
result_of (ops.Store op rs1 rs2 offset) a b pc len = store_of op (wrapped_sum a offset) b
result_of (ops.Immediate op rd rs1 imm) a b pc len = results.Value (immediate_result op a imm)
result_of (ops.ImmediateWord op rd rs1 imm) a b pc len = results.Value (immediate_word_result op a imm)
result_of (ops.Register op rd rs1 rs2) a b pc len = results.Value (register_result op a b)
result_of (ops.RegisterWord op rd rs1 rs2) a b pc len = results.Value (register_word_result op a b)
result_of (ops.BitsRegister op rd rs1 rs2) a b pc len = results.Value (bits_result op a b)
result_of (ops.BitsImmediate op rd rs1 imm) a b pc len = results.Value (bits_result op a imm)
result_of (ops.BitsUnary op rd rs1) a b pc len = results.Value (bits_result op a 0)
result_of ops.Fence a b pc len = results.Continue (wrapped_sum pc len)
result_of ops.FenceI a b pc len = results.Continue (wrapped_sum pc len)
result_of ops.Ecall a b pc len = results.System system.EnvironmentCall
result_of ops.Ebreak a b pc len = results.System system.Breakpoint
result_of ops.Mret a b pc len = results.System system.MachineReturn
result_of ops.Sret a b pc len = results.System system.SupervisorReturn
result_of ops.Wfi a b pc len = results.System system.WaitForInterrupt
result_of (ops.SfenceVma rs1 rs2) a b pc len = results.System system.TranslationFence
result_of (ops.Csr op rd rs1 csr) a b pc len = csr_access_of op rd rs1 a csr
result_of (ops.CsrImmediate op rd imm csr) a b pc len = csr_access_of op rd imm imm csr
result_of (ops.LoadReserved width rd rs1) a b pc len = access_at a (size_of width) memory_ops.LoadReserved
result_of (ops.StoreConditional width rd rs1 rs2) a b pc len = store_conditional_of width a b
result_of (ops.Amo op width rd rs1 rs2) a b pc len = access_at a (size_of width) (memory_ops.Amo op width b)

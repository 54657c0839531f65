-- What a 32-bit word means: the row of the instruction table that it meets.
-- From the Unprivileged ISA's chapter "RV32/64G Instruction Set Listings" and the Privileged Architecture's "RISC-V
-- Privileged Instruction Set Listings", and for bit manipulation (Zba, Zbb, Zbs) from the Bit-Manipulation
-- ISA-extensions: a row gives the opcode (bits 6:0), funct3 (14:12), and funct7 (31:25), funct6 (31:26), funct5 (31:27)
-- or funct12 (31:20).
use Rattle.std.specs.Prelude.{ℕ, Bool, true, false, List, [], ◌∷◌, ◌++◌, Option, option_map, find, bit_and, ◌==◌}
use Rattle.std.specs.Prelude.{if◌then◌else◌}
use Rattle.rv_decode.specs.declared.operation.Op.{Op}
use Rattle.rv_decode.specs.declared.operation.BranchOp.TheVariants.{Beq, Bne, Blt, Bge, Bltu, Bgeu}
use Rattle.rv_decode.specs.declared.operation.LoadOp.TheVariants.{Lb, Lh, Lw, Ld, Lbu, Lhu, Lwu}
use Rattle.rv_decode.specs.declared.operation.StoreOp.TheVariants.{Sb, Sh, Sw, Sd}
use Rattle.rv_decode.specs.declared.operation.ImmediateOp.TheVariants.{Addi, Slti, Sltiu, Xori, Ori, Andi, Slli, Srli}
use Rattle.rv_decode.specs.declared.operation.ImmediateOp.TheVariants.{Srai}
use Rattle.rv_decode.specs.declared.operation.ImmediateWordOp.TheVariants.{Addiw, Slliw, Srliw, Sraiw}
use Rattle.rv_decode.specs.declared.operation.RegisterOp.TheVariants.{Add, Sub, Sll, Slt, Sltu, Xor, Srl, Sra, Or, And}
use Rattle.rv_decode.specs.declared.operation.RegisterOp.TheVariants.{Mul, Mulh, Mulhsu, Mulhu, Div, Divu, Rem, Remu}
use Rattle.rv_decode.specs.declared.operation.RegisterWordOp.TheVariants.{Addw, Subw, Sllw, Srlw, Sraw, Mulw, Divw}
use Rattle.rv_decode.specs.declared.operation.RegisterWordOp.TheVariants.{Divuw, Remw, Remuw}
use Rattle.rv_decode.specs.declared.operation.BitsOp.TheVariants.{Sh1add, Sh2add, Sh3add, AddUw, Sh1addUw, Sh2addUw}
use Rattle.rv_decode.specs.declared.operation.BitsOp.TheVariants.{Sh3addUw, SlliUw, Andn, Orn, Xnor, Clz, Clzw, Ctz}
use Rattle.rv_decode.specs.declared.operation.BitsOp.TheVariants.{Ctzw, Cpop, Cpopw, Max, Maxu, Min, Minu, SextB, SextH}
use Rattle.rv_decode.specs.declared.operation.BitsOp.TheVariants.{ZextH, Rol, Rolw, Ror, Rorw, OrcB, Rev8, Bclr, Bext}
use Rattle.rv_decode.specs.declared.operation.BitsOp.TheVariants.{Binv, Bset}
use Rattle.rv_decode.specs.declared.operation.CsrOp.TheVariants.{Write, Set, Clear}
use Rattle.rv_decode.specs.declared.operation.Width.TheVariants.{Word, Doubleword}
use Rattle.rv_decode.specs.declared.operation.AmoOp.TheVariants.{Amoswap, Amoadd, Amoxor, Amoand, Amoor, Amomin, Amomax}
use Rattle.rv_decode.specs.declared.operation.AmoOp.TheVariants.{Amominu, Amomaxu}
use Rattle.rv_decode.specs.declared.patterns.Form.TheVariants.{Lui, Auipc, Jal, Jalr, Branch, Load, Store, Immediate}
use Rattle.rv_decode.specs.declared.patterns.Form.TheVariants.{Shift, ImmediateWord, ShiftWord, Register, RegisterWord}
use Rattle.rv_decode.specs.declared.patterns.Form.TheVariants.{BitsRegister, BitsShift, BitsShiftWord, BitsUnary, Fence}
use Rattle.rv_decode.specs.declared.patterns.Form.TheVariants.{FenceI, Ecall, Ebreak, Mret, Sret, Wfi, SfenceVma, Csr}
use Rattle.rv_decode.specs.declared.patterns.Form.TheVariants.{CsrImmediate, LoadReserved, StoreConditional, Amo}
use Rattle.rv_decode.specs.declared.patterns.Pattern.{Pattern}
use Rattle.rv_decode.specs.Patterns.{by_opcode, by_funct3, by_funct5, by_funct5_and_rs2, by_funct6, by_funct7}
use Rattle.rv_decode.specs.Patterns.{by_funct7_and_rd, by_funct7_and_rs2, by_funct12, by_word}
use Rattle.rv_decode.specs.Fields.{operation_of}

-- LUI: the opcode alone
abbrev pub lui_rows : List Pattern
lui_rows = by_opcode 0x37 Lui ∷ []

-- AUIPC
abbrev pub auipc_rows : List Pattern
auipc_rows = by_opcode 0x17 Auipc ∷ []

-- JAL
abbrev pub jal_rows : List Pattern
jal_rows = by_opcode 0x6f Jal ∷ []

-- JALR
abbrev pub jalr_rows : List Pattern
jalr_rows = by_funct3 0x67 0 Jalr ∷ []

-- BRANCH
abbrev pub branch_rows : List Pattern
branch_rows =
    by_funct3 0x63 0 (Branch Beq) ∷
    by_funct3 0x63 1 (Branch Bne) ∷
    by_funct3 0x63 4 (Branch Blt) ∷
    by_funct3 0x63 5 (Branch Bge) ∷
    by_funct3 0x63 6 (Branch Bltu) ∷
    by_funct3 0x63 7 (Branch Bgeu) ∷ []

-- LOAD
abbrev pub load_rows : List Pattern
load_rows =
    by_funct3 0x03 0 (Load Lb) ∷
    by_funct3 0x03 1 (Load Lh) ∷
    by_funct3 0x03 2 (Load Lw) ∷
    by_funct3 0x03 3 (Load Ld) ∷
    by_funct3 0x03 4 (Load Lbu) ∷
    by_funct3 0x03 5 (Load Lhu) ∷
    by_funct3 0x03 6 (Load Lwu) ∷ []

-- STORE
abbrev pub store_rows : List Pattern
store_rows =
    by_funct3 0x23 0 (Store Sb) ∷
    by_funct3 0x23 1 (Store Sh) ∷
    by_funct3 0x23 2 (Store Sw) ∷
    by_funct3 0x23 3 (Store Sd) ∷ []

-- OP_IMM; a shift's amount has 6 bits
abbrev pub op_imm_rows : List Pattern
op_imm_rows =
    by_funct3 0x13 0 (Immediate Addi) ∷
    by_funct3 0x13 2 (Immediate Slti) ∷
    by_funct3 0x13 3 (Immediate Sltiu) ∷
    by_funct3 0x13 4 (Immediate Xori) ∷
    by_funct3 0x13 6 (Immediate Ori) ∷
    by_funct3 0x13 7 (Immediate Andi) ∷
    by_funct6 0x13 1 0x00 (Shift Slli) ∷
    by_funct6 0x13 5 0x00 (Shift Srli) ∷
    by_funct6 0x13 5 0x10 (Shift Srai) ∷ []

-- OP_IMM with bit manipulation; a shift's amount and a bit's number have 6 bits
abbrev pub op_imm_bits_rows : List Pattern
op_imm_bits_rows =
    by_funct12 0x13 1 0x600 (BitsUnary Clz) ∷
    by_funct12 0x13 1 0x601 (BitsUnary Ctz) ∷
    by_funct12 0x13 1 0x602 (BitsUnary Cpop) ∷
    by_funct12 0x13 1 0x604 (BitsUnary SextB) ∷
    by_funct12 0x13 1 0x605 (BitsUnary SextH) ∷
    by_funct6 0x13 1 0x12 (BitsShift Bclr) ∷
    by_funct6 0x13 1 0x1a (BitsShift Binv) ∷
    by_funct6 0x13 1 0x0a (BitsShift Bset) ∷
    by_funct6 0x13 5 0x18 (BitsShift Ror) ∷
    by_funct6 0x13 5 0x12 (BitsShift Bext) ∷
    by_funct12 0x13 5 0x287 (BitsUnary OrcB) ∷
    by_funct12 0x13 5 0x6b8 (BitsUnary Rev8) ∷ []

-- OP_IMM_32; a shift's amount has 5 bits
abbrev pub op_imm_32_rows : List Pattern
op_imm_32_rows =
    by_funct3 0x1b 0 (ImmediateWord Addiw) ∷
    by_funct7 0x1b 1 0x00 (ShiftWord Slliw) ∷
    by_funct7 0x1b 5 0x00 (ShiftWord Srliw) ∷
    by_funct7 0x1b 5 0x20 (ShiftWord Sraiw) ∷ []

-- OP_IMM_32 with bit manipulation; the shift amount of SLLI.UW has 6 bits
abbrev pub op_imm_32_bits_rows : List Pattern
op_imm_32_bits_rows =
    by_funct6 0x1b 1 0x02 (BitsShift SlliUw) ∷
    by_funct12 0x1b 1 0x600 (BitsUnary Clzw) ∷
    by_funct12 0x1b 1 0x601 (BitsUnary Ctzw) ∷
    by_funct12 0x1b 1 0x602 (BitsUnary Cpopw) ∷
    by_funct7 0x1b 5 0x30 (BitsShiftWord Rorw) ∷ []

-- OP
abbrev pub op_rows : List Pattern
op_rows =
    by_funct7 0x33 0 0x00 (Register Add) ∷
    by_funct7 0x33 0 0x20 (Register Sub) ∷
    by_funct7 0x33 1 0x00 (Register Sll) ∷
    by_funct7 0x33 2 0x00 (Register Slt) ∷
    by_funct7 0x33 3 0x00 (Register Sltu) ∷
    by_funct7 0x33 4 0x00 (Register Xor) ∷
    by_funct7 0x33 5 0x00 (Register Srl) ∷
    by_funct7 0x33 5 0x20 (Register Sra) ∷
    by_funct7 0x33 6 0x00 (Register Or) ∷
    by_funct7 0x33 7 0x00 (Register And) ∷
    by_funct7 0x33 0 0x01 (Register Mul) ∷
    by_funct7 0x33 1 0x01 (Register Mulh) ∷
    by_funct7 0x33 2 0x01 (Register Mulhsu) ∷
    by_funct7 0x33 3 0x01 (Register Mulhu) ∷
    by_funct7 0x33 4 0x01 (Register Div) ∷
    by_funct7 0x33 5 0x01 (Register Divu) ∷
    by_funct7 0x33 6 0x01 (Register Rem) ∷
    by_funct7 0x33 7 0x01 (Register Remu) ∷ []

-- OP with bit manipulation
abbrev pub op_bits_rows : List Pattern
op_bits_rows =
    by_funct7 0x33 2 0x10 (BitsRegister Sh1add) ∷
    by_funct7 0x33 4 0x10 (BitsRegister Sh2add) ∷
    by_funct7 0x33 6 0x10 (BitsRegister Sh3add) ∷
    by_funct7 0x33 7 0x20 (BitsRegister Andn) ∷
    by_funct7 0x33 6 0x20 (BitsRegister Orn) ∷
    by_funct7 0x33 4 0x20 (BitsRegister Xnor) ∷
    by_funct7 0x33 4 0x05 (BitsRegister Min) ∷
    by_funct7 0x33 5 0x05 (BitsRegister Minu) ∷
    by_funct7 0x33 6 0x05 (BitsRegister Max) ∷
    by_funct7 0x33 7 0x05 (BitsRegister Maxu) ∷
    by_funct7 0x33 1 0x30 (BitsRegister Rol) ∷
    by_funct7 0x33 5 0x30 (BitsRegister Ror) ∷
    by_funct7 0x33 1 0x24 (BitsRegister Bclr) ∷
    by_funct7 0x33 5 0x24 (BitsRegister Bext) ∷
    by_funct7 0x33 1 0x34 (BitsRegister Binv) ∷
    by_funct7 0x33 1 0x14 (BitsRegister Bset) ∷ []

-- OP_32
abbrev pub op_32_rows : List Pattern
op_32_rows =
    by_funct7 0x3b 0 0x00 (RegisterWord Addw) ∷
    by_funct7 0x3b 0 0x20 (RegisterWord Subw) ∷
    by_funct7 0x3b 1 0x00 (RegisterWord Sllw) ∷
    by_funct7 0x3b 5 0x00 (RegisterWord Srlw) ∷
    by_funct7 0x3b 5 0x20 (RegisterWord Sraw) ∷
    by_funct7 0x3b 0 0x01 (RegisterWord Mulw) ∷
    by_funct7 0x3b 4 0x01 (RegisterWord Divw) ∷
    by_funct7 0x3b 5 0x01 (RegisterWord Divuw) ∷
    by_funct7 0x3b 6 0x01 (RegisterWord Remw) ∷
    by_funct7 0x3b 7 0x01 (RegisterWord Remuw) ∷ []

-- OP_32 with bit manipulation; ZEXT.H has 0 for rs2
abbrev pub op_32_bits_rows : List Pattern
op_32_bits_rows =
    by_funct7 0x3b 0 0x04 (BitsRegister AddUw) ∷
    by_funct7_and_rs2 0x3b 4 0x04 0 (BitsUnary ZextH) ∷
    by_funct7 0x3b 2 0x10 (BitsRegister Sh1addUw) ∷
    by_funct7 0x3b 4 0x10 (BitsRegister Sh2addUw) ∷
    by_funct7 0x3b 6 0x10 (BitsRegister Sh3addUw) ∷
    by_funct7 0x3b 1 0x30 (BitsRegister Rolw) ∷
    by_funct7 0x3b 5 0x30 (BitsRegister Rorw) ∷ []

-- MISC_MEM; the other fields of a fence are ignored
abbrev pub misc_mem_rows : List Pattern
misc_mem_rows =
    by_funct3 0x0f 0 Fence ∷
    by_funct3 0x0f 1 FenceI ∷ []

-- SYSTEM
abbrev pub system_rows : List Pattern
system_rows =
    by_word 0x00000073 Ecall ∷
    by_word 0x00100073 Ebreak ∷
    by_word 0x10200073 Sret ∷
    by_word 0x30200073 Mret ∷
    by_word 0x10500073 Wfi ∷
    by_funct7_and_rd 0x73 0 0x09 0 SfenceVma ∷
    by_funct3 0x73 1 (Csr Write) ∷
    by_funct3 0x73 2 (Csr Set) ∷
    by_funct3 0x73 3 (Csr Clear) ∷
    by_funct3 0x73 5 (CsrImmediate Write) ∷
    by_funct3 0x73 6 (CsrImmediate Set) ∷
    by_funct3 0x73 7 (CsrImmediate Clear) ∷ []

-- AMO; aq and rl are ignored
abbrev pub amo_rows : List Pattern
amo_rows =
    by_funct5 0x2f 2 0x00 (Amo Amoadd Word) ∷
    by_funct5 0x2f 2 0x01 (Amo Amoswap Word) ∷
    by_funct5_and_rs2 0x2f 2 0x02 0 (LoadReserved Word) ∷
    by_funct5 0x2f 2 0x03 (StoreConditional Word) ∷
    by_funct5 0x2f 2 0x04 (Amo Amoxor Word) ∷
    by_funct5 0x2f 2 0x08 (Amo Amoor Word) ∷
    by_funct5 0x2f 2 0x0c (Amo Amoand Word) ∷
    by_funct5 0x2f 2 0x10 (Amo Amomin Word) ∷
    by_funct5 0x2f 2 0x14 (Amo Amomax Word) ∷
    by_funct5 0x2f 2 0x18 (Amo Amominu Word) ∷
    by_funct5 0x2f 2 0x1c (Amo Amomaxu Word) ∷
    by_funct5 0x2f 3 0x00 (Amo Amoadd Doubleword) ∷
    by_funct5 0x2f 3 0x01 (Amo Amoswap Doubleword) ∷
    by_funct5_and_rs2 0x2f 3 0x02 0 (LoadReserved Doubleword) ∷
    by_funct5 0x2f 3 0x03 (StoreConditional Doubleword) ∷
    by_funct5 0x2f 3 0x04 (Amo Amoxor Doubleword) ∷
    by_funct5 0x2f 3 0x08 (Amo Amoor Doubleword) ∷
    by_funct5 0x2f 3 0x0c (Amo Amoand Doubleword) ∷
    by_funct5 0x2f 3 0x10 (Amo Amomin Doubleword) ∷
    by_funct5 0x2f 3 0x14 (Amo Amomax Doubleword) ∷
    by_funct5 0x2f 3 0x18 (Amo Amominu Doubleword) ∷
    by_funct5 0x2f 3 0x1c (Amo Amomaxu Doubleword) ∷ []

-- an opcode, the low 7 bits of a word, and its rows
pub record Opcode : Type 0 where
  pub code : ℕ
  pub rows : List Pattern

-- the opcode map
unfoldable pub opcodes : List Opcode
opcodes =
    record { code = 0x37; rows = lui_rows } ∷
    record { code = 0x17; rows = auipc_rows } ∷
    record { code = 0x6f; rows = jal_rows } ∷
    record { code = 0x67; rows = jalr_rows } ∷
    record { code = 0x63; rows = branch_rows } ∷
    record { code = 0x03; rows = load_rows } ∷
    record { code = 0x23; rows = store_rows } ∷
    record { code = 0x13; rows = op_imm_rows } ∷
    record { code = 0x1b; rows = op_imm_32_rows } ∷
    record { code = 0x33; rows = op_rows } ∷
    record { code = 0x3b; rows = op_32_rows } ∷
    record { code = 0x0f; rows = misc_mem_rows } ∷
    record { code = 0x73; rows = system_rows } ∷
    record { code = 0x2f; rows = amo_rows } ∷ []

-- the opcodes that bit manipulation gives further rows
unfoldable pub bits_opcodes : List Opcode
bits_opcodes =
    record { code = 0x13; rows = op_imm_bits_rows } ∷
    record { code = 0x1b; rows = op_imm_32_bits_rows } ∷
    record { code = 0x33; rows = op_bits_rows } ∷
    record { code = 0x3b; rows = op_32_bits_rows } ∷ []

-- the opcode map, with the further rows or without them
abbrev pub opcodes_with : Bool → List Opcode
opcodes_with true = opcodes ++ bits_opcodes
opcodes_with false = opcodes

-- the rows of all opcodes
abbrev pub all_rows : List Opcode → List Pattern
all_rows [] = []
all_rows (opcode ∷ more) = opcode.rows ++ all_rows more

-- the rows of one opcode
abbrev pub rows_of_opcode : List Opcode → ℕ → List Pattern
rows_of_opcode [] code = []
rows_of_opcode (opcode ∷ more) code = if opcode.code == code then opcode.rows else rows_of_opcode more code

-- the word meets the row
abbrev pub meets : Pattern → ℕ → Bool
meets row word = bit_and word row.mask == row.bits

-- the instruction of the row that the word meets
unfoldable pub decoded_op_by : List Pattern → ℕ → Option Op
decoded_op_by rows word = option_map (λ row. operation_of row.form word) (find (λ row. meets row word) rows)

-- the instruction of the row of the table that the word meets
unfoldable pub decoded_op_of : ℕ → Option Op
decoded_op_of word = decoded_op_by (all_rows opcodes) word

-- the same where bit manipulation may be there
unfoldable pub decoded_op_with : ℕ → Bool → Option Op
decoded_op_with word bits = decoded_op_by (all_rows (opcodes_with bits)) word

-- The fields of a 32-bit word and its immediates.
-- From the Unprivileged ISA's chapters on RV32I ("Base Instruction Formats", "Immediate Encoding Variants") and on
-- control and status register instructions.
use Rattle.std.specs.Prelude.{ℕ, ◌+◌, ◌*◌, ◌^◌}
use Rattle.hart_words.specs.Words.{bit_field, sign_extended}
use Rattle.rv_decode.specs.declared.operation.Op.{Op}
use Rattle.rv_decode.specs.declared.operation.Op.TheVariants as ops
use Rattle.rv_decode.specs.declared.patterns.Form.{Form}
use Rattle.rv_decode.specs.declared.patterns.Form.TheVariants as forms

-- a bit field, moved to start at another bit: so many bits from a bit on, and where to
abbrev pub field_at : ℕ → ℕ → ℕ → ℕ → ℕ
field_at first count to word = bit_field first count word * 2 ^ to

-- bits 31:20
abbrev pub immediate_i : ℕ → ℕ
immediate_i word = sign_extended 12 (bit_field 20 12 word)

-- bits 31:25 are bits 11:5, bits 11:7 are bits 4:0
abbrev pub immediate_s : ℕ → ℕ
immediate_s word = sign_extended 12 (field_at 25 7 5 word + bit_field 7 5 word)

-- bit 31 is bit 12, bit 7 is bit 11, bits 30:25 are bits 10:5, bits 11:8 are bits 4:1
abbrev pub immediate_b : ℕ → ℕ
immediate_b word =
    sign_extended 13 (field_at 31 1 12 word + field_at 7 1 11 word + field_at 25 6 5 word + field_at 8 4 1 word)

-- bits 31:12 are its bits 31:12
abbrev pub immediate_u : ℕ → ℕ
immediate_u word = sign_extended 32 (field_at 12 20 12 word)

-- bit 31 is bit 20, bits 19:12 are in place, bit 20 is bit 11, bits 30:21 are bits 10:1
abbrev pub immediate_j : ℕ → ℕ
immediate_j word =
    sign_extended 21 (field_at 31 1 20 word + field_at 12 8 12 word + field_at 20 1 11 word + field_at 21 10 1 word)

-- the register that is written: bits 11:7
abbrev pub rd : ℕ → ℕ
rd word = bit_field 7 5 word

-- the first register that is read: bits 19:15
abbrev pub rs1 : ℕ → ℕ
rs1 word = bit_field 15 5 word

-- the second register that is read: bits 24:20
abbrev pub rs2 : ℕ → ℕ
rs2 word = bit_field 20 5 word

-- the immediate of a control and status register instruction: bits 19:15, where rs1 would stand
abbrev pub immediate_csr : ℕ → ℕ
immediate_csr word = bit_field 15 5 word

-- the address of a control and status register: bits 31:20
abbrev pub csr : ℕ → ℕ
csr word = bit_field 20 12 word

-- the instruction of a form, with the operands that stand in the word
abbrev pub operation_of : Form → ℕ → Op
operation_of forms.Lui word = ops.Lui (rd word) (immediate_u word)
operation_of forms.Auipc word = ops.Auipc (rd word) (immediate_u word)
operation_of forms.Jal word = ops.Jal (rd word) (immediate_j word)
operation_of forms.Jalr word = ops.Jalr (rd word) (rs1 word) (immediate_i word)
operation_of (forms.Branch op) word = ops.Branch op (rs1 word) (rs2 word) (immediate_b word)
operation_of (forms.Load op) word = ops.Load op (rd word) (rs1 word) (immediate_i word)
operation_of (forms.Store op) word = ops.Store op (rs1 word) (rs2 word) (immediate_s word)
operation_of (forms.Immediate op) word = ops.Immediate op (rd word) (rs1 word) (immediate_i word)
operation_of (forms.Shift op) word = ops.Immediate op (rd word) (rs1 word) (bit_field 20 6 word)
operation_of (forms.ImmediateWord op) word = ops.ImmediateWord op (rd word) (rs1 word) (immediate_i word)
operation_of (forms.ShiftWord op) word = ops.ImmediateWord op (rd word) (rs1 word) (bit_field 20 5 word)
operation_of (forms.Register op) word = ops.Register op (rd word) (rs1 word) (rs2 word)
operation_of (forms.RegisterWord op) word = ops.RegisterWord op (rd word) (rs1 word) (rs2 word)
operation_of (forms.BitsRegister op) word = ops.BitsRegister op (rd word) (rs1 word) (rs2 word)
operation_of (forms.BitsShift op) word = ops.BitsImmediate op (rd word) (rs1 word) (bit_field 20 6 word)
operation_of (forms.BitsShiftWord op) word = ops.BitsImmediate op (rd word) (rs1 word) (bit_field 20 5 word)
operation_of (forms.BitsUnary op) word = ops.BitsUnary op (rd word) (rs1 word)
operation_of forms.Fence word = ops.Fence
operation_of forms.FenceI word = ops.FenceI
operation_of forms.Ecall word = ops.Ecall
operation_of forms.Ebreak word = ops.Ebreak
operation_of forms.Mret word = ops.Mret
operation_of forms.Sret word = ops.Sret
operation_of forms.Wfi word = ops.Wfi
operation_of forms.SfenceVma word = ops.SfenceVma (rs1 word) (rs2 word)
operation_of (forms.Csr op) word = ops.Csr op (rd word) (rs1 word) (csr word)
operation_of (forms.CsrImmediate op) word = ops.CsrImmediate op (rd word) (immediate_csr word) (csr word)
operation_of (forms.LoadReserved width) word = ops.LoadReserved width (rd word) (rs1 word)
operation_of (forms.StoreConditional width) word = ops.StoreConditional width (rd word) (rs1 word) (rs2 word)
operation_of (forms.Amo op width) word = ops.Amo op width (rd word) (rs1 word) (rs2 word)

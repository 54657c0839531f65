-- The registers that an instruction writes and reads, and where its jumps go.
-- From the Unprivileged ISA's chapters on its instructions, the Bit-Manipulation ISA-extensions, and the Privileged
-- Architecture's chapters on traps and translation.
use Rattle.std.specs.Prelude.{◌≡◌, ◌<◌, ◌%◌, ◌^◌}
use Rattle.rv_decode.specs.declared.operation.Op.{Op}
use Rattle.rv_decode.specs.declared.operation.Operands.{Operands}
use Rattle.rv_decode.specs.declared.operation.Op.TheVariants.{Lui, Auipc, Jal, Jalr, Branch, Load, Store, Immediate}
use Rattle.rv_decode.specs.declared.operation.Op.TheVariants.{ImmediateWord, Register, RegisterWord, BitsRegister}
use Rattle.rv_decode.specs.declared.operation.Op.TheVariants.{BitsImmediate, BitsUnary, Fence, FenceI, Ecall, Ebreak}
use Rattle.rv_decode.specs.declared.operation.Op.TheVariants.{Mret, Sret, Wfi, SfenceVma, Csr, CsrImmediate}
use Rattle.rv_decode.specs.declared.operation.Op.TheVariants.{LoadReserved, StoreConditional, Amo}

-- the register that is written, and those that are read as rs1 and rs2: 0 where there is none
abbrev pub operands_of : Op → Operands
operands_of (Lui rd imm) = record { rd = rd; rs1 = 0; rs2 = 0 }
operands_of (Auipc rd imm) = record { rd = rd; rs1 = 0; rs2 = 0 }
operands_of (Jal rd offset) = record { rd = rd; rs1 = 0; rs2 = 0 }
operands_of (Jalr rd rs1 offset) = record { rd = rd; rs1 = rs1; rs2 = 0 }
operands_of (Branch op rs1 rs2 offset) = record { rd = 0; rs1 = rs1; rs2 = rs2 }
operands_of (Load op rd rs1 offset) = record { rd = rd; rs1 = rs1; rs2 = 0 }
operands_of (Store op rs1 rs2 offset) = record { rd = 0; rs1 = rs1; rs2 = rs2 }
operands_of (Immediate op rd rs1 imm) = record { rd = rd; rs1 = rs1; rs2 = 0 }
operands_of (ImmediateWord op rd rs1 imm) = record { rd = rd; rs1 = rs1; rs2 = 0 }
operands_of (Register op rd rs1 rs2) = record { rd = rd; rs1 = rs1; rs2 = rs2 }
operands_of (RegisterWord op rd rs1 rs2) = record { rd = rd; rs1 = rs1; rs2 = rs2 }
operands_of (BitsRegister op rd rs1 rs2) = record { rd = rd; rs1 = rs1; rs2 = rs2 }
operands_of (BitsImmediate op rd rs1 imm) = record { rd = rd; rs1 = rs1; rs2 = 0 }
operands_of (BitsUnary op rd rs1) = record { rd = rd; rs1 = rs1; rs2 = 0 }
operands_of Fence = record { rd = 0; rs1 = 0; rs2 = 0 }
operands_of FenceI = record { rd = 0; rs1 = 0; rs2 = 0 }
operands_of Ecall = record { rd = 0; rs1 = 0; rs2 = 0 }
operands_of Ebreak = record { rd = 0; rs1 = 0; rs2 = 0 }
operands_of Mret = record { rd = 0; rs1 = 0; rs2 = 0 }
operands_of Sret = record { rd = 0; rs1 = 0; rs2 = 0 }
operands_of Wfi = record { rd = 0; rs1 = 0; rs2 = 0 }
operands_of (SfenceVma rs1 rs2) = record { rd = 0; rs1 = rs1; rs2 = rs2 }
operands_of (Csr op rd rs1 csr) = record { rd = rd; rs1 = rs1; rs2 = 0 }
operands_of (CsrImmediate op rd imm csr) = record { rd = rd; rs1 = 0; rs2 = 0 }
operands_of (LoadReserved width rd rs1) = record { rd = rd; rs1 = rs1; rs2 = 0 }
operands_of (StoreConditional width rd rs1 rs2) = record { rd = rd; rs1 = rs1; rs2 = rs2 }
operands_of (Amo op width rd rs1 rs2) = record { rd = rd; rs1 = rs1; rs2 = rs2 }

-- all registers are among the 32
abbrev pub HasRegisters : Op → Type 0
HasRegisters op = ((operands_of op).rd < 32) × ((operands_of op).rs1 < 32) × ((operands_of op).rs2 < 32)

-- the address of a control and status register has 12 bits
abbrev pub HasCsrAddress : Op → Type 0
HasCsrAddress (Csr op rd rs1 csr) = csr < 2 ^ 12
HasCsrAddress (CsrImmediate op rd imm csr) = csr < 2 ^ 12
HasCsrAddress _ = Unit {0}

-- jumps and branches go by multiples of 2
abbrev pub HasEvenOffset : Op → Type 0
HasEvenOffset (Lui rd imm) = Unit {0}
HasEvenOffset (Auipc rd imm) = Unit {0}
HasEvenOffset (Jal rd offset) = offset % 2 ≡ 0
HasEvenOffset (Jalr rd rs1 offset) = Unit {0}
HasEvenOffset (Branch op rs1 rs2 offset) = offset % 2 ≡ 0
HasEvenOffset (Load op rd rs1 offset) = Unit {0}
HasEvenOffset (Store op rs1 rs2 offset) = Unit {0}
HasEvenOffset (Immediate op rd rs1 imm) = Unit {0}
HasEvenOffset (ImmediateWord op rd rs1 imm) = Unit {0}
HasEvenOffset (Register op rd rs1 rs2) = Unit {0}
HasEvenOffset (RegisterWord op rd rs1 rs2) = Unit {0}
HasEvenOffset (BitsRegister op rd rs1 rs2) = Unit {0}
HasEvenOffset (BitsImmediate op rd rs1 imm) = Unit {0}
HasEvenOffset (BitsUnary op rd rs1) = Unit {0}
HasEvenOffset Fence = Unit {0}
HasEvenOffset FenceI = Unit {0}
HasEvenOffset Ecall = Unit {0}
HasEvenOffset Ebreak = Unit {0}
HasEvenOffset Mret = Unit {0}
HasEvenOffset Sret = Unit {0}
HasEvenOffset Wfi = Unit {0}
HasEvenOffset (SfenceVma rs1 rs2) = Unit {0}
HasEvenOffset (Csr op rd rs1 csr) = Unit {0}
HasEvenOffset (CsrImmediate op rd imm csr) = Unit {0}
HasEvenOffset (LoadReserved width rd rs1) = Unit {0}
HasEvenOffset (StoreConditional width rd rs1 rs2) = Unit {0}
HasEvenOffset (Amo op width rd rs1 rs2) = Unit {0}

-- The 32-bit instructions that compressed ones expand to, with their operands as assemblers write them.
-- From the Unprivileged ISA's chapter "RV32/64G Instruction Set Listings".
use Rattle.std.specs.Prelude.{ℕ, ◌+◌}
use Rattle.rv_compressed.specs.Formats.{r_format, i_format, s_format, b_format, u_format, j_format}

-- the registers that a compressed instruction names by itself: zero, the return address, the stack pointer
abbrev pub x0 : ℕ
x0 = 0

abbrev pub x1 : ℕ
x1 = 1

abbrev pub x2 : ℕ
x2 = 2

-- loads: opcode 0x03
abbrev pub lw : ℕ → ℕ → ℕ → ℕ
lw rd offset rs1 = i_format 0x03 2 rd rs1 offset

abbrev pub ld : ℕ → ℕ → ℕ → ℕ
ld rd offset rs1 = i_format 0x03 3 rd rs1 offset

-- stores: 0x23
abbrev pub sw : ℕ → ℕ → ℕ → ℕ
sw rs2 offset rs1 = s_format 0x23 2 rs2 rs1 offset

abbrev pub sd : ℕ → ℕ → ℕ → ℕ
sd rs2 offset rs1 = s_format 0x23 3 rs2 rs1 offset

-- a register and an immediate: 0x13; bit 10 of the immediate makes SRAI of SRLI
abbrev pub addi : ℕ → ℕ → ℕ → ℕ
addi rd rs1 imm = i_format 0x13 0 rd rs1 imm

abbrev pub slli : ℕ → ℕ → ℕ → ℕ
slli rd rs1 amount = i_format 0x13 1 rd rs1 amount

abbrev pub srli : ℕ → ℕ → ℕ → ℕ
srli rd rs1 amount = i_format 0x13 5 rd rs1 amount

abbrev pub srai : ℕ → ℕ → ℕ → ℕ
srai rd rs1 amount = i_format 0x13 5 rd rs1 (0x400 + amount)

abbrev pub andi : ℕ → ℕ → ℕ → ℕ
andi rd rs1 imm = i_format 0x13 7 rd rs1 imm

-- the same on 32 bits: 0x1b
abbrev pub addiw : ℕ → ℕ → ℕ → ℕ
addiw rd rs1 imm = i_format 0x1b 0 rd rs1 imm

-- an upper immediate: 0x37
abbrev pub lui : ℕ → ℕ → ℕ
lui rd upper = u_format 0x37 rd upper

-- two registers: 0x33
abbrev pub add : ℕ → ℕ → ℕ → ℕ
add rd rs1 rs2 = r_format 0x33 0 0x00 rd rs1 rs2

abbrev pub sub : ℕ → ℕ → ℕ → ℕ
sub rd rs1 rs2 = r_format 0x33 0 0x20 rd rs1 rs2

abbrev pub xor : ℕ → ℕ → ℕ → ℕ
xor rd rs1 rs2 = r_format 0x33 4 0x00 rd rs1 rs2

abbrev pub or : ℕ → ℕ → ℕ → ℕ
or rd rs1 rs2 = r_format 0x33 6 0x00 rd rs1 rs2

abbrev pub and : ℕ → ℕ → ℕ → ℕ
and rd rs1 rs2 = r_format 0x33 7 0x00 rd rs1 rs2

-- the same on 32 bits: 0x3b
abbrev pub addw : ℕ → ℕ → ℕ → ℕ
addw rd rs1 rs2 = r_format 0x3b 0 0x00 rd rs1 rs2

abbrev pub subw : ℕ → ℕ → ℕ → ℕ
subw rd rs1 rs2 = r_format 0x3b 0 0x20 rd rs1 rs2

-- branches: 0x63
abbrev pub beq : ℕ → ℕ → ℕ → ℕ
beq rs1 rs2 offset = b_format 0x63 0 rs1 rs2 offset

abbrev pub bne : ℕ → ℕ → ℕ → ℕ
bne rs1 rs2 offset = b_format 0x63 1 rs1 rs2 offset

-- jumps: 0x6f, and to a register's address 0x67
abbrev pub jal : ℕ → ℕ → ℕ
jal rd offset = j_format 0x6f rd offset

abbrev pub jalr : ℕ → ℕ → ℕ → ℕ
jalr rd offset rs1 = i_format 0x67 0 rd rs1 offset

-- a breakpoint
abbrev pub ebreak : ℕ
ebreak = 0x00100073

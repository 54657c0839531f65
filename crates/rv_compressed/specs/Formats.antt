-- The 32-bit word of an instruction, by its format.
-- From the Unprivileged ISA's chapter on RV32I ("Base Instruction Formats", "Immediate Encoding Variants").
use Rattle.std.specs.Prelude.{ℕ, ◌+◌, ◌*◌, ◌^◌}
use Rattle.rv_decode.specs.Fields.{field_at}

-- two registers: funct7, rs2, rs1, funct3, rd, opcode, from the highest bits down
unfoldable pub r_format : ℕ → ℕ → ℕ → ℕ → ℕ → ℕ → ℕ
r_format opcode funct3 funct7 rd rs1 rs2 =
    funct7 * 2 ^ 25 + rs2 * 2 ^ 20 + rs1 * 2 ^ 15 + funct3 * 2 ^ 12 + rd * 2 ^ 7 + opcode

-- a register and an immediate of 12 bits, which stands above rs1
unfoldable pub i_format : ℕ → ℕ → ℕ → ℕ → ℕ → ℕ
i_format opcode funct3 rd rs1 immediate =
    immediate * 2 ^ 20 + rs1 * 2 ^ 15 + funct3 * 2 ^ 12 + rd * 2 ^ 7 + opcode

-- a store: bits 11:5 of the offset stand above rs2, bits 4:0 in the place of rd
unfoldable pub s_format : ℕ → ℕ → ℕ → ℕ → ℕ → ℕ
s_format opcode funct3 rs2 rs1 offset =
    field_at 5 7 25 offset + rs2 * 2 ^ 20 + rs1 * 2 ^ 15 + funct3 * 2 ^ 12 + field_at 0 5 7 offset + opcode

-- a branch: bits 12 and 10:5 of the offset stand above rs2, bits 4:1 and 11 in the place of rd
unfoldable pub b_format : ℕ → ℕ → ℕ → ℕ → ℕ → ℕ
b_format opcode funct3 rs1 rs2 offset =
    field_at 12 1 31 offset + field_at 5 6 25 offset + rs2 * 2 ^ 20 + rs1 * 2 ^ 15
    + funct3 * 2 ^ 12 + field_at 1 4 8 offset + field_at 11 1 7 offset + opcode

-- an upper immediate of 20 bits, above rd
unfoldable pub u_format : ℕ → ℕ → ℕ → ℕ
u_format opcode rd upper = upper * 2 ^ 12 + rd * 2 ^ 7 + opcode

-- a jump: bits 20, 10:1, 11 and 19:12 of the offset, above rd
unfoldable pub j_format : ℕ → ℕ → ℕ → ℕ
j_format opcode rd offset =
    field_at 20 1 31 offset + field_at 1 10 21 offset + field_at 11 1 20 offset + field_at 12 8 12 offset + rd * 2 ^ 7
    + opcode

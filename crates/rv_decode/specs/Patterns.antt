-- What a row of the listing fixes of a 32-bit word, by the columns that it fills.
-- From the Unprivileged ISA's chapter "RV32/64G Instruction Set Listings", the Privileged Architecture's "RISC-V
-- Privileged Instruction Set Listings" and the instructions of the Bit-Manipulation ISA-extensions.
use Rattle.std.specs.Prelude.{ℕ, ◌+◌, ◌-◌, ◌*◌, ◌^◌}
use Rattle.rv_decode.specs.declared.patterns.Form.{Form}
use Rattle.rv_decode.specs.declared.patterns.Pattern.{Pattern}

-- a mask of so many bits, from a bit on
abbrev pub ones : ℕ → ℕ → ℕ
ones first count = (2 ^ count - 1) * 2 ^ first

-- the row fixes these bits too
abbrev pub with_field : ℕ → ℕ → ℕ → Pattern → Pattern
with_field first count value row =
    record { mask = ones first count + row.mask; bits = value * 2 ^ first + row.bits; form = row.form }

-- bits 6:0 are the opcode
abbrev pub by_opcode : ℕ → Form → Pattern
by_opcode opcode form = record { mask = ones 0 7; bits = opcode; form = form }

-- bits 14:12 are funct3 too
abbrev pub by_funct3 : ℕ → ℕ → Form → Pattern
by_funct3 opcode funct3 form = with_field 12 3 funct3 (by_opcode opcode form)

-- bits 31:25 are funct7 too
abbrev pub by_funct7 : ℕ → ℕ → ℕ → Form → Pattern
by_funct7 opcode funct3 funct7 form = with_field 25 7 funct7 (by_funct3 opcode funct3 form)

-- and bits 24:20, where rs2 would stand
abbrev pub by_funct7_and_rs2 : ℕ → ℕ → ℕ → ℕ → Form → Pattern
by_funct7_and_rs2 opcode funct3 funct7 rs2 form = with_field 20 5 rs2 (by_funct7 opcode funct3 funct7 form)

-- and bits 11:7, where rd would stand
abbrev pub by_funct7_and_rd : ℕ → ℕ → ℕ → ℕ → Form → Pattern
by_funct7_and_rd opcode funct3 funct7 rd form = with_field 7 5 rd (by_funct7 opcode funct3 funct7 form)

-- bits 31:20, where an immediate would stand
abbrev pub by_funct12 : ℕ → ℕ → ℕ → Form → Pattern
by_funct12 opcode funct3 funct12 form = with_field 20 12 funct12 (by_funct3 opcode funct3 form)

-- bits 31:26 alone, which a shift amount of 6 bits leaves
abbrev pub by_funct6 : ℕ → ℕ → ℕ → Form → Pattern
by_funct6 opcode funct3 funct6 form = with_field 26 6 funct6 (by_funct3 opcode funct3 form)

-- bits 31:27 alone, which aq and rl of an atomic leave
abbrev pub by_funct5 : ℕ → ℕ → ℕ → Form → Pattern
by_funct5 opcode funct3 funct5 form = with_field 27 5 funct5 (by_funct3 opcode funct3 form)

-- and bits 24:20, where rs2 would stand
abbrev pub by_funct5_and_rs2 : ℕ → ℕ → ℕ → ℕ → Form → Pattern
by_funct5_and_rs2 opcode funct3 funct5 rs2 form = with_field 20 5 rs2 (by_funct5 opcode funct3 funct5 form)

-- the whole word
abbrev pub by_word : ℕ → Form → Pattern
by_word word form = record { mask = ones 0 32; bits = word; form = form }

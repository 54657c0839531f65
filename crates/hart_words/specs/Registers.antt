-- The integer registers x1 to x31; x0 is always 0. From the Unprivileged ISA's chapter "RV32I Base Integer Instruction
-- Set".
use Rattle.std.specs.Prelude.{ℕ, ◌-◌, ◌==◌, if◌then◌else◌, slice_index, slice_set, replicate}
use Rattle.hart_words.specs.declared.registers.Registers.{Registers}

unfoldable pub registers_at_reset : Registers
registers_at_reset = record { values = replicate 31 0 }

-- the value of a register
abbrev pub register_of : Registers → ℕ → ℕ
register_of registers number = if number == 0 then 0 else slice_index registers.values (number - 1)

-- the registers after a write of one; a write of x0 changes nothing
abbrev pub with_register : Registers → ℕ → ℕ → Registers
with_register registers number value =
    if number == 0 then registers else record { values = slice_set registers.values (number - 1) value }

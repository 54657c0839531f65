-- The registers that an instruction reads. A row shows which they are, and what they held before.
use Rattle.std.specs.Prelude.{ℕ, ◌==◌, if◌then◌else◌, Option, Some, None, option_map}
use Rattle.hart_words.specs.declared.registers.Registers.{Registers}
use Rattle.hart_words.specs.Registers.{register_of}

-- a register that is read, unless it is x0
abbrev pub source_read : ℕ → Option ℕ
source_read source = if source == 0 then None else Some source

-- the register whose value is shown: the one that the row names, else the one that is read
abbrev pub source_shown : ℕ → Option ℕ → Option ℕ
source_shown source None = source_read source
source_shown source (Some named) = Some named

-- its value before the instruction
abbrev pub source_value : Registers → ℕ → Option ℕ → Option ℕ
source_value registers source named = option_map (register_of registers) (source_shown source named)

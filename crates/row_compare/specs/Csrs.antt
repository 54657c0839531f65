-- The bits in which the columns of control and status registers are compared.
use Rattle.std.specs.Prelude.{ℕ, ◌-◌, if◌then◌else◌, bit_and, Option, Some, None}
use Rattle.std.specs.Option.{is_some}
use Rattle.hart_words.specs.Signals.{Shown}
use Rattle.hart_words.specs.declared.signal.Signal.TheVariants.{Csr}
use Rattle.hart_words.specs.declared.signal.CsrName.{CsrName}
use Rattle.hart_words.specs.declared.signal.CsrName.TheVariants.{Mip, Misa, Sip}
use Rattle.hart_words.specs.declared.signal.CsrSide.TheVariants.{Rmask, Wmask, Rdata}
use Rattle.csr_table.specs.declared.registers.Csr.TheVariants as csr
use Rattle.csr_file.specs.declared.profile.CsrProfile.{CsrProfile}
use Rattle.csr_file.specs.Fields.{all_bits}
use Rattle.csr_file.specs.Table.{supervisor_interrupts}
use Rattle.csr_file.specs.Profiles.{is_from_row, line_bits_of, presence_of}

-- a mask that is not shown is all ones
abbrev pub mask_shown : Option ℕ → ℕ
mask_shown None = all_bits
mask_shown (Some mask) = mask

-- the bits of mip that the row shows before the instruction
abbrev pub pending_shown : Shown → ℕ
pending_shown shown = if is_some (shown (Csr Mip Rdata)) then mask_shown (shown (Csr Mip Rmask)) else 0

-- the interrupts of S that may be lines: SEIP, and those that the core adds
abbrev pub supervisor_lines : CsrProfile → ℕ
supervisor_lines profile = bit_and supervisor_interrupts (line_bits_of profile)

-- of a register that the core decides no bit is compared; of those that it may decide misa alone has columns
abbrev pub decided_misa : CsrProfile → ℕ
decided_misa profile = if is_from_row (presence_of profile csr.Misa) then all_bits else 0

-- the bits that are left out before the instruction: of sip the lines, where mip does not show them
abbrev pub left_out_before : CsrProfile → CsrName → Shown → ℕ
left_out_before profile Misa shown = decided_misa profile
left_out_before profile Sip shown = bit_and (supervisor_lines profile) (all_bits - pending_shown shown)
left_out_before profile _ shown = 0

-- and after it, where no row shows the lines
abbrev pub left_out_after : CsrProfile → CsrName → ℕ
left_out_after profile Misa = decided_misa profile
left_out_after profile Mip = line_bits_of profile
left_out_after profile Sip = supervisor_lines profile
left_out_after profile _ = 0

-- the bits that are compared
abbrev pub bits_before : CsrProfile → CsrName → Shown → ℕ
bits_before profile name shown =
    bit_and (mask_shown (shown (Csr name Rmask))) (all_bits - left_out_before profile name shown)

abbrev pub bits_after : CsrProfile → CsrName → Shown → ℕ
bits_after profile name shown =
    bit_and (mask_shown (shown (Csr name Wmask))) (all_bits - left_out_after profile name)

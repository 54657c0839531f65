-- Returns from traps, waits and fences, from the Privileged Architecture's chapters "Machine-Level ISA" and
-- "Supervisor-Level ISA".
use Rattle.std.specs.Prelude.{ℕ, Bool, true, false, not, ◌&&◌}
use Rattle.hart_words.specs.declared.privilege.Mode.TheVariants.{User, Supervisor, Machine}
use Rattle.hart_words.specs.declared.privilege.Mode.{Mode}
use Rattle.csr_file.specs.declared.stored_csr.StoredCsr.TheVariants.{Mstatus, Mepc, Sepc}
use Rattle.csr_file.specs.declared.fields.TheConstants.{TW}
use Rattle.csr_file.specs.Registers.{at}
use Rattle.csr_file.specs.Fields.{bit_is_set}
use Rattle.trap_entry.specs.Returns.{mret_of, sret_of, mode_by_mret, mode_by_sret}
use Rattle.hart_step.specs.declared.state.Core.{Core}
use Rattle.hart_step.specs.declared.choices.RowChoices.{RowChoices}

-- MRET is for M alone
abbrev pub may_mret : Mode → Bool
may_mret Machine = true
may_mret Supervisor = false
may_mret User = false

-- SRET and SFENCE.VMA are for M, and for S where their bit of mstatus (TSR, TVM) does not make them trap there
abbrev pub may_in_mode : Mode → ℕ → ℕ → Bool
may_in_mode Machine status bit = true
may_in_mode Supervisor status bit = not (bit_is_set status bit)
may_in_mode User status bit = false

unfoldable pub may_use_supervisor_instruction : Core → ℕ → Bool
may_use_supervisor_instruction core bit = may_in_mode core.mode (at core.csrs Mstatus) bit

-- WFI may trap where it is not so allowed by TW, and there it does as the row says
unfoldable pub wfi_traps : Core → RowChoices → Bool
wfi_traps core choices = not (may_use_supervisor_instruction core TW) && choices.traps

-- MRET
unfoldable pub core_after_mret : Core → Core
core_after_mret core = record core { csrs = mret_of core.csrs; mode = mode_by_mret core.csrs; pc = at core.csrs Mepc }

-- SRET
unfoldable pub core_after_sret : Core → Core
core_after_sret core = record core { csrs = sret_of core.csrs; mode = mode_by_sret core.csrs; pc = at core.csrs Sepc }

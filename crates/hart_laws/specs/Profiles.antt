-- What a core's own control and status registers and its own protection come to in accesses. From the Privileged
-- Architecture's chapters "Control and Status Registers (CSRs)" and "Machine-Level ISA".
use Rattle.std.specs.Prelude.{◌≡◌, ℕ, true, false, ◌||◌, None, Err, IsTrue}
use Rattle.csr_table.specs.declared.registers.CsrRow.{CsrRow}
use Rattle.csr_file.specs.declared.csrs.Csrs.{Csrs}
use Rattle.csr_file.specs.declared.profile.EntryCount.TheVariants.{Zero}
use Rattle.csr_file.specs.Access.{has_entries}
use Rattle.csr_file.specs.Laws.{is_protective}
use Rattle.csr_file.specs.Profiles.{is_absent, is_from_row, kind_in, presence_of}
use Rattle.csr_file.specs.Registers.{pmp_entries_of}
use Rattle.hart_words.specs.declared.privilege.Mode.{Mode}
use Rattle.hart_words.specs.declared.privilege.Access.{Access}
use Rattle.pmp_check.specs.Protection.{is_allowed}
use Rattle.rv_integer.specs.declared.int_result.CsrRequest.{CsrRequest}
use Rattle.hart_step.specs.declared.state.Core.{Core}
use Rattle.hart_step.specs.declared.choices.RowChoices.{RowChoices}
use Rattle.hart_step.specs.declared.instruction.Instruction.{Instruction}
use Rattle.hart_step.specs.CsrAccess.{csr_access_result}
use Rattle.hart_step.specs.Instructions.{Completion, core_at_next}

-- the instruction reads the register, or writes it, or both
abbrev pub Accesses : CsrRequest → Type 0
Accesses request = (request.reads || request.writes) ≡ true

-- the access is illegal, whatever the row shows
abbrev pub IsIllegal : Core → RowChoices → CsrRequest → Type 0
IsIllegal core choices request = csr_access_result core choices request ≡ Err (record {})

-- the row of the table is one of a register that the core does not have
abbrev pub IsMissing : Core → CsrRow → Type 0
IsMissing core row = is_absent (presence_of core.csrs.profile row.csr) ≡ true

-- it is one of protection, and the core has no entry
pub record LacksEntries (core : Core) (row : CsrRow) : Type 0 where
  pub protective : is_protective (kind_in core.csrs.profile row.csr) ≡ true
  pub none : has_entries core.csrs ≡ false

-- an instruction that retires gives its destination a value, and changes nothing else but pc
abbrev pub GivesRdAlone : Core → Instruction → Completion → Type 0
GivesRdAlone core instruction completion =
    (completion.access ≡ None) × ((value : ℕ) × (completion.core ≡ core_at_next core instruction value))

-- the row of the table is one of a register that the core decides itself
abbrev pub IsDecided : Core → CsrRow → Type 0
IsDecided core row = is_from_row (presence_of core.csrs.profile row.csr) ≡ true

-- without entries each mode may make every access
abbrev pub AllowsAll : Csrs → Mode → ℕ → ℕ → Access → Type 0
AllowsAll csrs mode pa len access =
    csrs.profile.entry_count ≡ Zero → IsTrue (is_allowed (pmp_entries_of csrs) mode pa len access)

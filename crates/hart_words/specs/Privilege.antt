-- The encodings of privilege modes and the codes of exceptions, from the Privileged Architecture's chapters
-- "Introduction" and "Machine-Level ISA" (mcause).
use Rattle.std.specs.Prelude.{ℕ}
use Rattle.hart_words.specs.declared.privilege.Mode.{Mode}
use Rattle.hart_words.specs.declared.privilege.Mode.TheVariants.{User, Supervisor, Machine}
use Rattle.hart_words.specs.declared.privilege.Access.{Access}
use Rattle.hart_words.specs.declared.privilege.Access.TheVariants.{Fetch, Load, Store}
use Rattle.hart_words.specs.declared.privilege.Cause.{Cause}
use Rattle.hart_words.specs.declared.privilege.Cause.TheVariants.{InstructionAccessFault, IllegalInstruction}
use Rattle.hart_words.specs.declared.privilege.Cause.TheVariants.{Breakpoint, LoadAddressMisaligned, LoadAccessFault}
use Rattle.hart_words.specs.declared.privilege.Cause.TheVariants.{StoreAddressMisaligned, StoreAccessFault}
use Rattle.hart_words.specs.declared.privilege.Cause.TheVariants.{EnvironmentCallFromUser}
use Rattle.hart_words.specs.declared.privilege.Cause.TheVariants.{EnvironmentCallFromSupervisor}
use Rattle.hart_words.specs.declared.privilege.Cause.TheVariants.{EnvironmentCallFromMachine, InstructionPageFault}
use Rattle.hart_words.specs.declared.privilege.Cause.TheVariants.{LoadPageFault, StorePageFault}

abbrev pub mode_number : Mode → ℕ
mode_number User = 0
mode_number Supervisor = 1
mode_number Machine = 3

abbrev pub cause_code : Cause → ℕ
cause_code InstructionAccessFault = 1
cause_code IllegalInstruction = 2
cause_code Breakpoint = 3
cause_code LoadAddressMisaligned = 4
cause_code LoadAccessFault = 5
cause_code StoreAddressMisaligned = 6
cause_code StoreAccessFault = 7
cause_code EnvironmentCallFromUser = 8
cause_code EnvironmentCallFromSupervisor = 9
cause_code EnvironmentCallFromMachine = 11
cause_code InstructionPageFault = 12
cause_code LoadPageFault = 13
cause_code StorePageFault = 15

-- the access fault of each kind of access
abbrev pub access_fault_of : Access → Cause
access_fault_of Fetch = InstructionAccessFault
access_fault_of Load = LoadAccessFault
access_fault_of Store = StoreAccessFault

-- its page fault
abbrev pub page_fault_of : Access → Cause
page_fault_of Fetch = InstructionPageFault
page_fault_of Load = LoadPageFault
page_fault_of Store = StorePageFault

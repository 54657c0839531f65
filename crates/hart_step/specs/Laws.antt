-- What holds of every step, in the words of a designer of cores.
use Rattle.std.specs.Prelude.{◌≡◌, ◌≢◌, ◌≤◌, ℕ, List, ◌++◌, Bool, true, false, ◌&&◌, Option, Some, None, Result, Ok}
use Rattle.std.specs.Prelude.{Err, All, IfSome}
use Rattle.std.specs.Option.{is_some}
use Rattle.hart_words.specs.declared.privilege.Mode.{Mode}
use Rattle.hart_words.specs.Privilege.{mode_number}
use Rattle.hart_words.specs.declared.accesses.Write.{Write}
use Rattle.hart_words.specs.declared.signal.Signal.{Signal}
use Rattle.hart_words.specs.declared.signal.Signal.TheVariants.{Order, Intr, PcRdata, RdWdata, Trap, MemAddr, MemRdata}
use Rattle.hart_words.specs.declared.signal.Signal.TheVariants.{MemWmask, Halt}
use Rattle.hart_words.specs.Signals.{Shown}
use Rattle.hart_words.specs.Actions.{Run}
use Rattle.hart_words.specs.Memory.{Bytes, after_writes}
use Rattle.rv_decode.specs.declared.operation.Op.{Op}
use Rattle.rv_integer.specs.declared.int_result.IntResult.{IntResult}
use Rattle.rv_integer.specs.declared.int_result.IntResult.TheVariants.{Access, System}
use Rattle.rv_integer.specs.declared.int_result.SystemRequest.{SystemRequest}
use Rattle.rv_integer.specs.declared.int_result.SystemRequest.TheVariants as system
use Rattle.rv_integer.specs.declared.int_result.MemoryOp.{MemoryOp}
use Rattle.rv_integer.specs.declared.int_result.MemoryOp.TheVariants as memory
use Rattle.hart_words.specs.Options.{are_by_row}
use Rattle.rv_integer.specs.Results.{result_of}
use Rattle.rv_atomic.specs.Blocks.{is_covered}
use Rattle.csr_table.specs.declared.registers.CsrRow.{CsrRow}
use Rattle.csr_table.specs.Addresses.{csr_row_of}
use Rattle.csr_file.specs.declared.csrs.Csrs.{Csrs}
use Rattle.csr_file.specs.declared.csr_kind.CsrKind.{CsrKind}
use Rattle.csr_file.specs.declared.csr_kind.CsrKind.TheVariants.{Stored, Status, Pending, SupervisorStatus}
use Rattle.csr_file.specs.declared.csr_kind.CsrKind.TheVariants.{SupervisorEnables, SupervisorPending, Translation}
use Rattle.csr_file.specs.declared.csr_kind.CsrKind.TheVariants.{LowConfigurations, HighConfigurations, EntryAddress}
use Rattle.csr_file.specs.declared.csr_kind.CsrKind.TheVariants.{Constant, ImplementationDefined, Counter}
use Rattle.csr_file.specs.declared.profile.CsrProfile.{CsrProfile}
use Rattle.csr_file.specs.Profiles.{kind_in, may_trap, presence_of}
use Rattle.trap_entry.specs.Entries.{enter_of, mode_by_enter, pc_by_enter}
use Rattle.trap_entry.specs.Returns.{mode_by_mret, mode_by_sret}
use Rattle.interrupt_pick.specs.Laws.{IsTaken, IsPicked, TakesNone}
use Rattle.rvfi_rows.specs.Rows.{shows_csr}
use Rattle.rvfi_rows.specs.declared.expected.CsrsAround.{CsrsAround}
use Rattle.rvfi_rows.specs.declared.expected.Expected.{Expected}
use Rattle.rvfi_rows.specs.declared.expected.Expected.TheVariants as expected
use Rattle.mem_access.specs.Accesses.{Exception, LocatedValue}
use Rattle.mem_access.specs.Laws.{SetsAlone}
use Rattle.hart_step.specs.declared.state.Core.{Core}
use Rattle.hart_step.specs.Choices.{asks_interrupt, pending_lines_of, shows}
use Rattle.hart_step.specs.MemoryAccess.{located_access}
use Rattle.hart_step.specs.Instructions.{fetch_at_pc, first_value, second_value, op_for}
use Rattle.hart_step.specs.Steps.{StepResult, before_instruction, interrupt_of, step_of}

-- what the instruction at pc asks for, where it can be fetched and is in the table
abbrev pub request_by : Core → ℕ → Option Op → Option IntResult
request_by core len None = None
request_by core len (Some op) = Some (result_of op (first_value core op) (second_value core op) core.pc len)

abbrev pub request_from : Core → Result (ℕ × ℕ) Exception → Option IntResult
request_from core (Err exception) = None
request_from core (Ok word) = request_by core word.1 (op_for core word.0 word.1)

unfoldable pub request_at_pc : Core → Bytes → Option IntResult
request_at_pc core bytes = request_from core ((fetch_at_pc core).run bytes).value

-- memory as the fetch leaves it, with the entries of page tables that it sets
unfoldable pub bytes_after_fetch : Core → Bytes → Bytes
bytes_after_fetch core bytes = after_writes ((fetch_at_pc core).run bytes).wrote bytes

-- the hart after a step
abbrev pub next_of : Core → Shown → Bytes → Core
next_of core shown bytes = ((step_of core shown).run bytes).value.next

-- two rows show the same of a signal
abbrev pub SameAt : Signal → Shown → Shown → Type 0
SameAt signal one other = other signal ≡ one signal

-- what a step takes from its row whatever the instruction is: `pc_rdata` only where `intr` is 1, and the interrupt
-- lines, which are csr_mip_rdata under its mask, with the mask
pub record AgreeOnRow (one other : Shown) : Type 0 where
  pub order : SameAt Order one other
  pub intr : SameAt Intr one other
  pub pc_rdata : shows (one Intr) 1 ≡ true → SameAt PcRdata one other
  pub lines : pending_lines_of other ≡ pending_lines_of one
  pub halt : SameAt Halt one other

-- the registers whose reads come from the row: the core decides them, or lines may be in them
abbrev pub is_row_dependent : CsrKind → Bool
is_row_dependent (Stored stored) = false
is_row_dependent Status = false
is_row_dependent Pending = true
is_row_dependent SupervisorStatus = false
is_row_dependent SupervisorEnables = false
is_row_dependent SupervisorPending = true
is_row_dependent Translation = false
is_row_dependent LowConfigurations = false
is_row_dependent HighConfigurations = false
is_row_dependent (EntryAddress number) = false
is_row_dependent (Constant number) = false
is_row_dependent ImplementationDefined = true
is_row_dependent (Counter bit) = true

-- an access to a register that may trap takes whether the row traps, and a read of one that depends on the row
-- `rd_wdata`
abbrev pub AgreeOnTrap : CsrProfile → Option CsrRow → Shown → Shown → Type 0
AgreeOnTrap profile None one other = Unit {0}
AgreeOnTrap profile (Some row) one other = may_trap (presence_of profile row.csr) ≡ true → SameAt Trap one other

abbrev pub AgreeOnRead : CsrProfile → Option CsrRow → Shown → Shown → Type 0
AgreeOnRead profile None one other = Unit {0}
AgreeOnRead profile (Some row) one other =
    is_row_dependent (kind_in profile row.csr) ≡ true → SameAt RdWdata one other

abbrev pub AgreeOnSystem : CsrProfile → SystemRequest → Shown → Shown → Type 0
AgreeOnSystem profile (system.Csr request) one other =
    AgreeOnTrap profile (csr_row_of request.address) one other
    × (request.reads ≡ true → AgreeOnRead profile (csr_row_of request.address) one other)
AgreeOnSystem profile system.WaitForInterrupt one other = SameAt Trap one other
AgreeOnSystem profile _ one other = Unit {0}

-- the access goes to a device
abbrev pub is_device_found : Result LocatedValue Exception → Bool
is_device_found (Err exception) = false
is_device_found (Ok found) = found.0.is_device

-- what a device gave, and whether it refused the access, where devices may
abbrev pub AgreeOnDevice : Shown → Shown → Type 0
AgreeOnDevice one other = SameAt RdWdata one other × (SameAt MemAddr one other × SameAt MemRdata one other)

abbrev pub AgreeOnFault : Core → Shown → Shown → Type 0
AgreeOnFault core one other = are_by_row core.choices.device_faults ≡ true → SameAt Trap one other

abbrev pub AgreeOnValue : Result LocatedValue Exception → MemoryOp → Shown → Shown → Type 0
AgreeOnValue found (memory.Load signed) one other = is_device_found found ≡ true → AgreeOnDevice one other
AgreeOnValue found (memory.Amo op width b) one other = is_device_found found ≡ true → AgreeOnDevice one other
AgreeOnValue found (memory.StoreConditional value) one other = SameAt RdWdata one other × SameAt MemWmask one other
AgreeOnValue found _ one other = Unit {0}

abbrev pub AgreeOnAccess : Core → Result LocatedValue Exception → MemoryOp → Shown → Shown → Type 0
AgreeOnAccess core found op one other =
    AgreeOnValue found op one other × (is_device_found found ≡ true → AgreeOnFault core one other)

-- what an instruction takes from its row besides, where memory is as its fetch leaves it
abbrev pub AgreeOnInstruction : Core → Bytes → Option IntResult → Shown → Shown → Type 0
AgreeOnInstruction core bytes (Some (Access request)) one other =
    AgreeOnAccess core ((located_access core request).run bytes).value request.op one other
AgreeOnInstruction core bytes (Some (System request)) one other = AgreeOnSystem core.csrs.profile request one other
AgreeOnInstruction core bytes _ one other = Unit {0}

-- a step, but for the control and status registers that what was done carries
abbrev pub without_csrs : Expected → Expected
without_csrs expected.Halted = expected.Halted
without_csrs (expected.Retired retired) = expected.Retired (record retired { csrs = None })

abbrev pub gave_without_csrs : StepResult → StepResult
gave_without_csrs gave = record { next = gave.next; expected = without_csrs gave.expected }

abbrev pub run_without_csrs : Run StepResult → Run StepResult
run_without_csrs run = record { value = gave_without_csrs run.value; reads = run.reads; wrote = run.wrote }

-- two rows give the same step, but that what was done carries control and status registers only where its own row shows
-- a column of one
pub record StepAlike (core : Core) (bytes : Bytes) (one other : Shown) : Type 0 where
  pub but_for_csrs :
      run_without_csrs ((step_of core other).run bytes) ≡ run_without_csrs ((step_of core one).run bytes)
  pub in_all : shows_csr other ≡ shows_csr one → (step_of core other).run bytes ≡ (step_of core one).run bytes

-- rows that agree on this give the same step: `rd_wdata` of an ADD never decides what it is held against
abbrev pub RowsDecideAlike : Core → Bytes → Shown → Shown → Type 0
RowsDecideAlike core bytes one other =
    AgreeOnRow one other
    → AgreeOnInstruction (before_instruction core one) (bytes_after_fetch (before_instruction core one) bytes)
    (request_at_pc (before_instruction core one) bytes) one other
    → StepAlike core bytes one other

-- what is written is entries of page tables that are set, by the hart as its instruction finds it
abbrev pub SetsEntriesAlone : Core → Bytes → List Write → Type 0
SetsEntriesAlone core bytes writes = SetsAlone core.csrs core.map core.choices bytes writes

-- a step that takes a synchronous trap leaves the registers, what is reserved, and every byte but those of entries that
-- it sets
pub record TrapsStoreNothing (core : Core) (shown : Shown) (bytes : Bytes) : Type 0 where
  pub registers : (next_of core shown bytes).registers ≡ core.registers
  pub reservation : (next_of core shown bytes).reservation ≡ core.reservation
  pub writes : SetsEntriesAlone (before_instruction core shown) bytes ((step_of core shown).run bytes).wrote

-- an interrupt is entered
abbrev pub enters_interrupt : Core → Shown → Bool
enters_interrupt core shown = asks_interrupt core shown && is_some (interrupt_of core shown)

-- a return to a mode: MPP's by MRET, SPP's by SRET
abbrev pub ReturnsTo : Core → Option IntResult → Mode → Type 0
ReturnsTo core (Some (System system.MachineReturn)) mode = mode ≡ mode_by_mret core.csrs
ReturnsTo core (Some (System system.SupervisorReturn)) mode = mode ≡ mode_by_sret core.csrs
ReturnsTo core _ mode = ⊥

-- a step that neither traps nor enters an interrupt keeps its mode, or returns to one that is no higher
pub record RisesByTrapsOnly (core : Core) (shown : Shown) (bytes : Bytes) : Type 0 where
  pub no_higher : mode_number (next_of core shown bytes).mode ≤ mode_number core.mode
  pub lower : (next_of core shown bytes).mode ≢ core.mode
      → ReturnsTo core (request_at_pc core bytes) (next_of core shown bytes).mode

-- wherever its instruction runs, in the handler of an interrupt too, a step that does not trap keeps that mode, or
-- returns to one that is no higher
pub record FallsByReturnsOnly (core : Core) (shown : Shown) (bytes : Bytes) : Type 0 where
  pub no_higher : mode_number (next_of core shown bytes).mode ≤ mode_number (before_instruction core shown).mode
  pub lower : (next_of core shown bytes).mode ≢ (before_instruction core shown).mode
      → ReturnsTo (before_instruction core shown) (request_at_pc (before_instruction core shown) bytes)
      (next_of core shown bytes).mode

-- what the row must ask: `intr` is 1, and it is not the first row of a trap's handler
pub record AsksInterrupt (core : Core) (shown : Shown) : Type 0 where
  pub intr : shown Intr ≡ Some 1
  pub entry : core.trapped_last ≡ true → shown PcRdata ≢ Some core.pc

-- where the instruction of a step was fetched, in which mode, and with which registers, where they are carried
abbrev pub IsFetched : Expected → ℕ → Mode → Csrs → Type 0
IsFetched expected.Halted pc mode csrs = ⊥
IsFetched (expected.Retired retired) pc mode csrs =
    (retired.pc ≡ pc) × ((retired.mode ≡ mode) × IfSome retired.csrs (λ around. around.before ≡ csrs))

-- what was done carries these control and status registers
abbrev pub CarriesCsrs : Expected → Option CsrsAround → Type 0
CarriesCsrs expected.Halted csrs = ⊥
CarriesCsrs (expected.Retired retired) csrs = retired.csrs ≡ csrs

-- the interrupt that is entered: pending, enabled, and entered at its vector in the mode that takes it
pub record EntersInterrupt (core : Core) (shown : Shown) (expected : Expected) (code : ℕ) (taker : Mode) : Type 0 where
  pub taken : IsTaken core.csrs core.mode (pending_lines_of shown).up code taker
  pub first : IsPicked core.csrs core.mode (pending_lines_of shown).up code taker
  pub mode : taker ≡ mode_by_enter core.csrs core.mode true code
  pub fetched : IsFetched expected (pc_by_enter core.csrs core.mode true code) taker
      (enter_of core.csrs core.mode true code 0 core.pc)

-- the row asks for an interrupt that is not there, so it differs in `intr`
abbrev pub LacksInterrupt : Expected → Type 0
LacksInterrupt expected.Halted = ⊥
LacksInterrupt (expected.Retired retired) = retired.lacks_interrupt ≡ true

-- so it is just where the row asks for one and neither M nor S takes one
pub record LacksRightly (core : Core) (shown : Shown) (expected : Expected) : Type 0 where
  pub lacks : asks_interrupt core shown ≡ true → TakesNone core.csrs core.mode (pending_lines_of shown).up
      → LacksInterrupt expected
  pub asks : LacksInterrupt expected → asks_interrupt core shown ≡ true
  pub takes_none : LacksInterrupt expected → TakesNone core.csrs core.mode (pending_lines_of shown).up

-- the writes of a step: first the entries that it sets, and then what it stores
pub record AreSetsAndStores (core : Core) (bytes : Bytes) (P : List Write → Type 0) (writes : List Write)
    : Type 0 where
  pub sets : List Write
  pub stored : List Write
  pub order : writes ≡ sets ++ stored
  pub entries : SetsEntriesAlone core bytes sets
  pub stores : P stored

-- what an SC stores lies in the block that is reserved
abbrev pub InReservedBlock : Core → List Write → Type 0
InReservedBlock core stored = All (λ write. is_covered core.reservation.block write.pa write.len ≡ true) stored

abbrev pub StoresInReservedBlock : Core → Shown → Bytes → Type 0
StoresInReservedBlock core shown bytes =
    AreSetsAndStores (before_instruction core shown) bytes (InReservedBlock core) ((step_of core shown).run bytes).wrote

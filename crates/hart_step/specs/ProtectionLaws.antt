-- What physical memory protection comes to over steps, in the words of a designer of cores.
use Rattle.std.specs.Prelude.{◌≡◌, ◌≢◌, ◌↔◌, ℕ, ◌<◌, ◌≤◌, Bool, true, false, if◌then◌else◌, IsTrue, List, [], ◌++◌}
use Rattle.std.specs.Prelude.{◌∷◌, All, length, map, Option, Some, None, Result, Ok, IfSome, IfOk}
use Rattle.hart_words.specs.declared.privilege.Access.{Access}
use Rattle.hart_words.specs.declared.privilege.Access.TheVariants as kind
use Rattle.hart_words.specs.declared.privilege.Mode.TheVariants.{Supervisor, Machine}
use Rattle.hart_words.specs.declared.privilege.PmpEntry.{PmpEntry}
use Rattle.hart_words.specs.declared.accesses.Write.{Write}
use Rattle.hart_words.specs.AccessSizes.{bytes_of}
use Rattle.hart_words.specs.Actions.{Run}
use Rattle.hart_words.specs.Memory.{Bytes}
use Rattle.hart_words.specs.Signals.{Shown}
use Rattle.hart_words.specs.Spans.{holds_all}
use Rattle.rv_integer.specs.declared.int_result.IntResult.{IntResult}
use Rattle.rv_integer.specs.declared.int_result.IntResult.TheVariants as results
use Rattle.rv_integer.specs.declared.int_result.MemoryOp.{MemoryOp}
use Rattle.rv_integer.specs.declared.int_result.MemoryOp.TheVariants.{Load, LoadReserved, Store, StoreConditional, Amo}
use Rattle.rv_integer.specs.declared.int_result.MemoryRequest.{MemoryRequest}
use Rattle.pmp_check.specs.Covering.{CoversAt, Decides, entry_at}
use Rattle.pmp_check.specs.Protection.{is_allowed, permits}
use Rattle.csr_file.specs.declared.csrs.Csrs.{Csrs}
use Rattle.csr_file.specs.declared.fields.TheConstants.{PMP_LOCK}
use Rattle.csr_file.specs.Fields.{bit_is_set}
use Rattle.csr_file.specs.Registers.{pmp_entries_of}
use Rattle.csr_file.specs.Values.{configuration_of}
use Rattle.csr_file.specs.Laws.{KeepsLocked}
use Rattle.rvfi_rows.specs.declared.expected.Accessed.{Accessed}
use Rattle.rvfi_rows.specs.declared.expected.Expected.{Expected}
use Rattle.rvfi_rows.specs.declared.expected.Expected.TheVariants.{Halted, Retired}
use Rattle.mem_access.specs.declared.place.AccessRequest.{AccessRequest}
use Rattle.mem_access.specs.Accesses.{Exception, data_request, devices_answer}
use Rattle.mem_access.specs.Laws.{AreReads}
use Rattle.mem_access.specs.Places.{data_mode_of}
use Rattle.mem_access.specs.Reads.{CheckedRead, PlacedPart, data_reads_of, fetch_reads_of, places_found}
use Rattle.hart_step.specs.declared.state.Core.{Core}
use Rattle.hart_step.specs.MemoryAccess.{atomicity_of}
use Rattle.hart_step.specs.Rows.{HartState, RunBelowMachine, after_rows}
use Rattle.hart_step.specs.Steps.{StepResult, before_instruction, step_of}
use Rattle.hart_step.specs.Laws.{AreSetsAndStores, bytes_after_fetch, request_at_pc, next_of}

-- the entry with this number is locked
abbrev pub is_locked : Csrs → ℕ → Bool
is_locked csrs number = bit_is_set (configuration_of csrs number) PMP_LOCK

-- an entry covers the bytes that it covered, whatever became of the entry before it
abbrev pub CoversTheSame : Csrs → Csrs → ℕ → Type 0
CoversTheSame before after number =
    (a : ℕ) → CoversAt (pmp_entries_of after) number a ↔ CoversAt (pmp_entries_of before) number a

-- an entry has the configuration and the address that it had, and covers the same bytes
pub record IsAsItWas (before after : Csrs) (number : ℕ) : Type 0 where
  pub keeps : KeepsLocked before after number
  pub covers : CoversTheSame before after number

-- each entry that is locked before is afterwards as it was
abbrev pub LocksArePreserved : Csrs → Csrs → Type 0
LocksArePreserved before after =
    (number : ℕ) → number < 16 → is_locked before number ≡ true → IsAsItWas before after number

-- a row whose instruction runs in S or U leaves all entries, whatever it does
abbrev pub LowerModesLeaveProtection : Core → Shown → Bytes → Type 0
LowerModesLeaveProtection core shown bytes =
    (before_instruction core shown).mode ≢ Machine
    → pmp_entries_of (next_of core shown bytes).csrs ≡ pmp_entries_of core.csrs

-- what the access of an instruction is checked as: SC and the AMOs are stores
abbrev pub access_kind_of : MemoryOp → Access
access_kind_of (Load signed) = kind.Load
access_kind_of LoadReserved = kind.Load
access_kind_of (Store value) = kind.Store
access_kind_of (StoreConditional value) = kind.Store
access_kind_of (Amo op width b) = kind.Store

abbrev pub check_of : Core → MemoryRequest → AccessRequest
check_of core request =
    data_request core.csrs core.mode (access_kind_of request.op) (bytes_of request.size)
    (devices_answer core.choices (atomicity_of request.op))

-- it reads the bytes that stand at its place
abbrev pub reads_its_bytes : MemoryOp → Bool
reads_its_bytes (Load signed) = true
reads_its_bytes LoadReserved = true
reads_its_bytes (Store value) = false
reads_its_bytes (StoreConditional value) = false
reads_its_bytes (Amo op width b) = true

-- the reads of what an instruction asks for: the walks of its access's parts, and its own bytes where it reads them
abbrev pub asked_reads_of : Core → Option IntResult → Bytes → List CheckedRead
asked_reads_of core (Some (results.Access request)) bytes =
    data_reads_of core.csrs core.map core.choices (check_of core request) (atomicity_of request.op)
    (reads_its_bytes request.op) request.address bytes
asked_reads_of core _ bytes = []

-- the reads of an instruction, in order: those of its fetch at pc, and then those of what it asks for, where memory is
-- as the fetch leaves it
unfoldable pub instruction_reads_of : Core → Bytes → List CheckedRead
instruction_reads_of core bytes =
    fetch_reads_of core.csrs core.map core.choices core.mode core.pc bytes
    ++ asked_reads_of core (request_at_pc core bytes) (bytes_after_fetch core bytes)

-- those of a step; a halted hart reads nothing
unfoldable pub step_reads_of : Core → Shown → Bytes → List CheckedRead
step_reads_of core shown bytes = if core.halted then [] else instruction_reads_of (before_instruction core shown) bytes

-- protection lets the mode of loads and stores make an access
abbrev pub MayAccess : Core → Access → ℕ → ℕ → Type 0
MayAccess core access pa len =
    IsTrue (is_allowed (pmp_entries_of core.csrs) (data_mode_of core.csrs core.mode) pa len access)

-- a store to bytes of RAM that this mode may store
abbrev pub IsPermittedStore : Core → Write → Type 0
IsPermittedStore core write =
    IsTrue (holds_all core.map.ram write.pa write.len) × MayAccess core kind.Store write.pa write.len

-- the places that are found for the parts of what an instruction asks for
abbrev pub asked_places : Core → MemoryRequest → Bytes → Result (List PlacedPart) Exception
asked_places core request bytes =
    places_found core.csrs core.map core.choices (check_of core request) (atomicity_of request.op) request.address bytes

-- where a write goes, and where a part lies
abbrev pub written_range : Write → ℕ × ℕ
written_range write = (write.pa, write.len)

abbrev pub placed_range : PlacedPart → ℕ × ℕ
placed_range placed = (placed.place.pa, placed.part.len)

-- the stores of an instruction that asks for one: one to each of its parts, in their order, at the places that are
-- found
pub record AreStoresOf (core : Core) (request : MemoryRequest) (bytes : Bytes) (stores : List Write) : Type 0 where
  pub kind : access_kind_of request.op ≡ kind.Store
  pub placed : List PlacedPart
  pub found : asked_places core request bytes ≡ Ok placed
  pub ranges : map written_range stores ≡ map placed_range placed

-- or nothing is stored
abbrev pub AreAskedStores : Core → Option IntResult → Bytes → List Write → Type 0
AreAskedStores core asks bytes [] = Unit {0}
AreAskedStores core (Some (results.Access request)) bytes (store ∷ stores) =
    AreStoresOf core request bytes (store ∷ stores)
AreAskedStores core _ bytes (store ∷ stores) = ⊥

-- the access that is expected of a row, at memory or at a device: a store where it writes, and else a load
abbrev pub kind_by : Option ℕ → Access
kind_by (Some written) = kind.Store
kind_by None = kind.Load

-- this mode may make it at a part
abbrev pub MayAccessPart : Core → Access → PlacedPart → Type 0
MayAccessPart core access placed = MayAccess core access placed.place.pa placed.part.len

-- the first of the places is this one
abbrev pub BeginsAt : ℕ → List PlacedPart → Type 0
BeginsAt pa [] = ⊥
BeginsAt pa (first ∷ more) = pa ≡ first.place.pa

-- it is the one that the instruction asks for, at its address and from the place of its first part on, and this mode
-- may make it at each of its parts
pub record IsAskedFor (core : Core) (request : MemoryRequest) (bytes : Bytes) (access : Accessed) : Type 0 where
  pub va : access.va ≡ request.address
  pub whole : access.len ≡ bytes_of request.size
  pub kind : access_kind_of request.op ≡ kind_by access.written
  pub placed : List PlacedPart
  pub found : asked_places core request bytes ≡ Ok placed
  pub begins : BeginsAt access.pa placed
  pub permitted : All (MayAccessPart core (kind_by access.written)) placed

abbrev pub IsAskedAccess : Core → Option IntResult → Bytes → Accessed → Type 0
IsAskedAccess core (Some (results.Access request)) bytes access = IsAskedFor core request bytes access
IsAskedAccess core _ bytes access = ⊥

-- something holds of the access that is expected, where one is
abbrev pub OfExpected : (Accessed → Type 0) → Expected → Type 0
OfExpected P Halted = Unit {0}
OfExpected P (Retired retired) = IfOk retired.effects (λ effects. IfSome effects.access P)

-- what a step stores is what its instruction asks for, and this mode may store it
pub record ArePermittedStores (core : Core) (asks : Option IntResult) (bytes : Bytes) (stores : List Write)
    : Type 0 where
  pub permitted : All (IsPermittedStore core) stores
  pub asked : AreAskedStores core asks bytes stores

-- what a step reads, writes and expects is what its instruction asks for, at the places that are found where memory is
-- as its fetch leaves it, and is granted to the hart as the instruction finds it; what it writes besides are entries of
-- page tables that it sets
pub record IsPermittedStep (begins : Core) (asks : Option IntResult) (bytes : Bytes) (checks : List CheckedRead)
    (step : Run StepResult) : Type 0 where
  pub reads : AreReads begins.csrs begins.map checks step.reads
  pub writes : AreSetsAndStores begins bytes (ArePermittedStores begins asks (bytes_after_fetch begins bytes))
      step.wrote
  pub access : OfExpected (IsAskedAccess begins asks (bytes_after_fetch begins bytes)) step.value.expected

abbrev pub StepIsPermitted : Core → Shown → Bytes → Type 0
StepIsPermitted core shown bytes =
    let begins = before_instruction core shown in
    IsPermittedStep begins (request_at_pc begins bytes) bytes (step_reads_of core shown bytes)
    ((step_of core shown).run bytes)

-- rows that run their instructions in S and U leave a byte as it is
abbrev pub IsPreserved : HartState → List Shown → ℕ → Type 0
IsPreserved state rows byte =
    RunBelowMachine state rows → (after_rows state rows).bytes byte ≡ state.bytes byte

-- protection refuses S and U a write of the byte
abbrev pub IsRefused : Core → ℕ → Type 0
IsRefused core byte = is_allowed (pmp_entries_of core.csrs) Supervisor byte 1 kind.Store ≡ false

-- the least entry that covers the byte has W clear
pub record ForbidsStores (entries : List PmpEntry) (byte : ℕ) : Type 0 where
  pub number : ℕ
  pub below_length : number < length entries
  pub decides : Decides entries number byte 1
  pub forbids : permits (entry_at entries number).cfg kind.Store ≡ false

-- the least entry that covers the byte has W clear, and it and all before it are locked, so that they bind every mode
pub record IsLockedByte (csrs : Csrs) (byte : ℕ) : Type 0 where
  pub number : ℕ
  pub below_16 : number < 16
  pub decides : Decides (pmp_entries_of csrs) number byte 1
  pub forbids : permits (configuration_of csrs number) kind.Store ≡ false
  pub locked : (lower : ℕ) → lower ≤ number → is_locked csrs lower ≡ true

-- two memories agree on each byte that protection grants S and U any access to
abbrev pub AgreeWherePermitted : Core → Bytes → Bytes → Type 0
AgreeWherePermitted core one other =
    (byte : ℕ) (access : Access) → IsTrue (is_allowed (pmp_entries_of core.csrs) Supervisor byte 1 access)
    → other byte ≡ one byte

-- such memories give the same step in S and U
abbrev pub StepsAlike : Core → Shown → Bytes → Bytes → Type 0
StepsAlike core shown one other =
    (before_instruction core shown).mode ≢ Machine → AgreeWherePermitted core one other
    → (step_of core shown).run other ≡ (step_of core shown).run one

-- and so do rows, one after another: the same hart, over memories that still agree
pub record ComeToTheSame (core : Core) (one other : HartState) : Type 0 where
  pub cores : other.core ≡ one.core
  pub memories : AgreeWherePermitted core one.bytes other.bytes

abbrev pub RowsGoAlike : Core → List Shown → Bytes → Bytes → Type 0
RowsGoAlike core rows one other =
    let first : HartState = record { core = core; bytes = one } in
    let second : HartState = record { core = core; bytes = other } in
    RunBelowMachine first rows → AgreeWherePermitted core one other
    → ComeToTheSame core (after_rows first rows) (after_rows second rows)

-- Which exception an instruction raises, by what it asks for.
use Rattle.std.proofs.Common.{◌≡◌, ℕ, ◌+◌, ◌%◌, ◌^◌, ◌⊎◌, inl, inr, Bool, true, false, not, refl, sym, subst}
use Rattle.std.proofs.Common.{Option, Some, None, Result, Ok, Err, if◌then◌else◌}
use Rattle.std.specs.Prelude.{◌==◌, ◌&&◌, IfErr}
use Rattle.std.proofs.lemmas.Bool.{and_parts}
use Rattle.hart_words.specs.declared.privilege.Cause.{Cause}
use Rattle.hart_words.specs.declared.privilege.Cause.TheVariants.{IllegalInstruction, LoadAddressMisaligned}
use Rattle.hart_words.specs.declared.privilege.Cause.TheVariants.{StoreAddressMisaligned}
use Rattle.hart_words.specs.AccessSizes.{bytes_of}
use Rattle.hart_words.specs.Options.{are_by_row, are_done}
use Rattle.hart_words.specs.declared.signal.Signal.TheVariants.{Trap}
use Rattle.hart_words.specs.Memory.{Bytes, after_writes}
use Rattle.hart_words.specs.Signals.{Shown}
use Rattle.hart_words.specs.Actions.{Action, Run, pure, read_memory, mapped, run_then, ◌>>=◌}
use Rattle.hart_words.proofs.Runs.{run_then-is}
use Rattle.rv_decode.specs.declared.operation.Op.{Op}
use Rattle.rv_decode.specs.Operands.{operands_of}
use Rattle.rv_integer.specs.declared.int_result.IntResult.{IntResult}
use Rattle.rv_integer.specs.declared.int_result.IntResult.TheVariants as results
use Rattle.rv_integer.specs.declared.int_result.SystemRequest.{SystemRequest}
use Rattle.rv_integer.specs.declared.int_result.SystemRequest.TheVariants as system
use Rattle.rv_integer.specs.declared.int_result.MemoryRequest.{MemoryRequest}
use Rattle.rv_integer.specs.declared.int_result.MemoryOp.{MemoryOp}
use Rattle.rv_integer.specs.declared.int_result.MemoryOp.TheVariants as memory
use Rattle.rv_integer.specs.Results.{result_of}
use Rattle.csr_file.specs.declared.csrs.Csrs.{Csrs}
use Rattle.csr_file.specs.declared.access.Illegal.{Illegal}
use Rattle.csr_file.specs.declared.fields.TheConstants.{TSR, TVM}
use Rattle.mem_access.specs.declared.place.AccessRequest.{AccessRequest}
use Rattle.mem_access.specs.declared.place.Atomicity.{Atomicity}
use Rattle.mem_access.specs.declared.place.Atomicity.TheVariants.{Amo, Plain, Reserved}
use Rattle.mem_access.specs.declared.place.Place.{Place}
use Rattle.mem_access.specs.Translation.{virtual_place_of}
use Rattle.mem_access.specs.Accesses.{Exception, LocatedValue, Part, Places, data_load, data_store, parcel_fetch}
use Rattle.mem_access.specs.Accesses.{parcel_from}
use Rattle.mem_access.specs.Accesses.{parcel_at, with_second, after_first, fetch_result, first_part, second_part}
use Rattle.mem_access.specs.Accesses.{has_second_part, request_for, with_address, part_place_of, one_place, after_place}
use Rattle.mem_access.specs.Accesses.{second_place_of, whole_place_of, split_places_of, is_split, data_places_of}
use Rattle.mem_access.specs.Accesses.{is_atomic, value_at, load_from, load_result, store_place_of}
use Rattle.hart_step.specs.declared.state.Core.{Core}
use Rattle.hart_step.specs.declared.choices.RowChoices.{RowChoices}
use Rattle.hart_step.specs.declared.instruction.Instruction.{Instruction}
use Rattle.hart_step.specs.declared.memory.AccessResult.{AccessResult}
use Rattle.hart_step.specs.Choices.{row_choices_of, shows}
use Rattle.hart_step.specs.MemoryAccess.{access_at_places, device_refuses, fault_of}
use Rattle.hart_step.specs.MemoryAccess.{found_without_value, found_with_read, located_access_by}
use Rattle.hart_step.specs.MemoryAccess.{load_at, store_places, located_access, access_after_location, memory_access}
use Rattle.hart_step.specs.CsrAccess.{csr_access_result}
use Rattle.hart_step.specs.Returns.{may_use_supervisor_instruction, may_mret, core_after_mret, core_after_sret}
use Rattle.hart_step.specs.Returns.{wfi_traps}
use Rattle.hart_step.specs.Instructions.{Completion, InstructionRun, core_at_next, after_access, after_csr}
use Rattle.hart_step.specs.Instructions.{completion_if, system_execution, execution_of, execution_by, first_value}
use Rattle.hart_step.specs.Instructions.{second_value, run_of_result, op_for, run_of_decoded, run_of_fetched}
use Rattle.hart_step.specs.Instructions.{fetch_at_pc, instruction_run}
use Rattle.hart_step.specs.Steps.{before_instruction}
use Rattle.hart_step.specs.Laws.{bytes_after_fetch, is_device_found, request_by}
use Rattle.hart_step.specs.TrapLaws.{executed_at, Raises, IsSecondAddress, IsPartAddress, IsRefused, IsRaisedAs}
use Rattle.hart_step.specs.TrapLaws.{IsRaisedFrom, IsRaisedIn}

-- the trap value of a parcel, or of a part of an access, that is refused is its address
abbrev IsAt : {A : Type 0} → ℕ → Result A Exception → Type 0
IsAt va refused = IfErr refused (λ e. e.1 ≡ va)

-- that of a fetch is the address of one of its halves
abbrev IsAtHalf : {A : Type 0} → ℕ → Result A Exception → Type 0
IsAtHalf pc refused = IfErr refused (λ e. (e.1 ≡ pc) ⊎ (e.1 ≡ (pc + 2) % 2 ^ 64))

-- what comes after another action is refused as its second part is
at_then : {A B : Type 0} (first : Action A) (next : A → Action (Result B Exception)) (P : Result B Exception → Type 0)
    (bytes : Bytes)
    → P ((next (first.run bytes).value).run (after_writes (first.run bytes).wrote bytes)).value
    → P ((first >>= next).run bytes).value
at_then first next P bytes late = subst (λ r. P r.value) (sym (run_then-is first next bytes)) late

parcel_from_at : (at : ℕ) (place : Result Place Cause) (bytes : Bytes)
    → IsAt at ((parcel_from at place).run bytes).value
unfolding pure mapped read_memory
parcel_from_at at (Err cause) bytes = refl
parcel_from_at at (Ok place) bytes = tt

parcel_is_at : (core : Core) (at : ℕ) (bytes : Bytes)
    → IsAt at ((parcel_at core.csrs core.map core.choices core.mode at).run bytes).value
unfolding parcel_at
parcel_is_at core at bytes =
    let first = virtual_place_of core.csrs core.map core.choices (parcel_fetch core.mode) at in
    at_then first (parcel_from at) (IsAt at) bytes
    (parcel_from_at at (first.run bytes).value (after_writes (first.run bytes).wrote bytes))

second_is_at : (first pc : ℕ) (second : Result ℕ Exception) → IsAt ((pc + 2) % 2 ^ 64) second
    → IsAtHalf pc (with_second first second)
second_is_at first pc (Err e) at = inr at
second_is_at first pc (Ok second) at = tt

after_by : (core : Core) (pc first : ℕ) (both : Bool) (bytes : Bytes)
    → IsAtHalf pc
    ((if both
    then mapped (with_second first) (parcel_at core.csrs core.map core.choices core.mode ((pc + 2) % 2 ^ 64))
    else pure (Ok (first, 2))).run bytes).value
unfolding pure mapped
after_by core pc first true bytes =
    second_is_at first pc ((parcel_at core.csrs core.map core.choices core.mode ((pc + 2) % 2 ^ 64)).run bytes).value
    (parcel_is_at core ((pc + 2) % 2 ^ 64) bytes)
after_by core pc first false bytes = tt

after_is_at : (core : Core) (pc : ℕ) (first : Result ℕ Exception) (bytes : Bytes) → IsAt pc first
    → IsAtHalf pc ((after_first core.csrs core.map core.choices core.mode pc first).run bytes).value
unfolding pure
after_is_at core pc (Err e) bytes at = inl at
after_is_at core pc (Ok first) bytes at = after_by core pc first (first % 4 == 3) bytes

fetched_is_at : (core : Core) (bytes : Bytes) → IsAtHalf core.pc ((fetch_at_pc core).run bytes).value
unfolding fetch_result
fetched_is_at core bytes =
    let first = parcel_at core.csrs core.map core.choices core.mode core.pc in
    at_then first (after_first core.csrs core.map core.choices core.mode core.pc) (IsAtHalf core.pc) bytes
    (after_is_at core core.pc (first.run bytes).value (after_writes (first.run bytes).wrote bytes)
    (parcel_is_at core core.pc bytes))

-- the trap value of a data access that is refused is its address, or that of its second part
abbrev IsAtPart : {A : Type 0} → Core → ℕ → ℕ → Result A Exception → Type 0
IsAtPart core va len refused = IfErr refused (λ e. (e.1 ≡ va) ⊎ IsSecondAddress core va len e.1)

at_first : {A : Type 0} (core : Core) (va len : ℕ) (refused : Result A Exception) → IsAt va refused
    → IsAtPart core va len refused
at_first core va len (Err e) at = inl at
at_first core va len (Ok x) at = tt

-- an access has a second part
record HasSecond (core : Core) (va len : ℕ) : Type 0 where
  pub done : are_done core.choices.misaligned ≡ true
  pub runs_over : has_second_part va len ≡ true

at_second : {A : Type 0} (core : Core) (va len : ℕ) (refused : Result A Exception) → HasSecond core va len
    → IsAt (second_part va len).va refused → IsAtPart core va len refused
at_second core va len (Err e) has at =
    inr (record { done = has.done; runs_over = has.runs_over; second = at })
at_second core va len (Ok x) has at = tt

with_address_at : (va : ℕ) (place : Result Place Cause) → IsAt va (with_address va place)
with_address_at va (Err cause) = refl
with_address_at va (Ok place) = tt

place_is_at : (core : Core) (request : AccessRequest) (part : Part) (bytes : Bytes)
    → IsAt part.va ((part_place_of core.csrs core.map core.choices request part).run bytes).value
unfolding part_place_of mapped
place_is_at core request part bytes =
    let found = virtual_place_of core.csrs core.map core.choices (request_for request part) part.va in
    with_address_at part.va (found.run bytes).value

alone_at : (va : ℕ) (place : Result Place Exception) → IsAt va place → IsAt va (one_place place)
alone_at va (Err e) at = at
alone_at va (Ok place) at = tt

whole_is_at : (core : Core) (request : AccessRequest) (va : ℕ) (bytes : Bytes)
    → IsAtPart core va request.len ((whole_place_of core.csrs core.map core.choices request va).run bytes).value
unfolding mapped
whole_is_at core request va bytes =
    let part : Part = record { va = va; len = request.len } in
    let place = ((part_place_of core.csrs core.map core.choices request part).run bytes).value in
    at_first core va request.len (one_place place) (alone_at va place (place_is_at core request part bytes))

after_at : (first : Place) (va : ℕ) (second : Result Place Exception) → IsAt va second
    → IsAt va (after_place first second)
after_at first va (Err e) at = at
after_at first va (Ok second) at = tt

rest_is_at : (core : Core) (request : AccessRequest) (va : ℕ) (first : Result Place Exception) (bytes : Bytes)
    → HasSecond core va request.len → IsAt va first
    → IsAtPart core va request.len
    ((second_place_of core.csrs core.map core.choices request (second_part va request.len) first).run bytes).value
unfolding pure mapped
rest_is_at core request va (Err e) bytes has at = inl at
rest_is_at core request va (Ok first) bytes has at =
    let part = second_part va request.len in
    let second = ((part_place_of core.csrs core.map core.choices request part).run bytes).value in
    at_second core va request.len (after_place first second) has
    (after_at first part.va second (place_is_at core request part bytes))

split_by : (core : Core) (request : AccessRequest) (va : ℕ) (both : Bool) (bytes : Bytes)
    → are_done core.choices.misaligned ≡ true → has_second_part va request.len ≡ both
    → IsAtPart core va request.len
    ((if both
    then (part_place_of core.csrs core.map core.choices request (first_part va request.len)
    >>= second_place_of core.csrs core.map core.choices request (second_part va request.len))
    else whole_place_of core.csrs core.map core.choices request va).run bytes).value
split_by core request va true bytes done runs_over =
    let len = request.len in
    let first = part_place_of core.csrs core.map core.choices request (first_part va len) in
    at_then first (second_place_of core.csrs core.map core.choices request (second_part va len))
    (IsAtPart core va len) bytes
    (rest_is_at core request va (first.run bytes).value (after_writes (first.run bytes).wrote bytes)
    (record { done = done; runs_over = runs_over }) (place_is_at core request (first_part va len) bytes))
split_by core request va false bytes done runs_over = whole_is_at core request va bytes

split_is_at : (core : Core) (request : AccessRequest) (va : ℕ) (bytes : Bytes)
    → are_done core.choices.misaligned ≡ true
    → IsAtPart core va request.len ((split_places_of core.csrs core.map core.choices request va).run bytes).value
unfolding split_places_of
split_is_at core request va bytes done =
    split_by core request va (has_second_part va request.len) bytes done refl

right_of : (one other : Bool) → (one && other) ≡ true → other ≡ true
right_of true other both = both
right_of false other both = cc

data_is_at : (core : Core) (request : AccessRequest) (atomicity : Atomicity) (misaligned : Cause) (va : ℕ) (bytes : Bytes)
    → IsAtPart core va request.len
    ((data_places_of core.csrs core.map core.choices request atomicity misaligned va).run bytes).value
unfolding data_places_of pure
data_is_at core request atomicity misaligned va bytes =
    by (va % request.len == 0) (is_split core.choices request atomicity va) refl
  where
    by : (aligned split : Bool) → is_split core.choices request atomicity va ≡ split
        → IsAtPart core va request.len
        ((if aligned then whole_place_of core.csrs core.map core.choices request va
        else if split
        then split_places_of core.csrs core.map core.choices (record request { devices = false }) va
        else pure (Err (misaligned, va))).run bytes).value
    by true split is = whole_is_at core request va bytes
    by false true is =
        split_is_at core (record request { devices = false }) va bytes
        (right_of (not (va % request.len == 0) && not (is_atomic atomicity)) (are_done core.choices.misaligned) is)
    by false false is = inl refl

value_is_at : (core : Core) (place : Place) (va len : ℕ) (io : Bool) (bytes : Bytes)
    → IsAtPart core va len ((value_at place len io).run bytes).value
unfolding pure mapped read_memory
value_is_at core place va len true bytes = tt
value_is_at core place va len false bytes = tt

load_from_at : (core : Core) (va len : ℕ) (places : Result Places Exception) (bytes : Bytes)
    → IsAtPart core va len places → IsAtPart core va len ((load_from va len places).run bytes).value
unfolding pure mapped read_memory ◌>>=◌ run_then
load_from_at core va len (Err e) bytes at = at
load_from_at core va len (Ok (place, None)) bytes at = value_is_at core place va len place.is_device bytes
load_from_at core va len (Ok (first, Some second)) bytes at = tt

loaded_is_at : (core : Core) (va len : ℕ) (atomicity : Atomicity) (bytes : Bytes)
    → IsAtPart core va len ((load_at core va len atomicity).run bytes).value
unfolding load_result
loaded_is_at core va len atomicity bytes =
    let request = data_load core.csrs core.choices core.mode len atomicity in
    let places = data_places_of core.csrs core.map core.choices request atomicity LoadAddressMisaligned va in
    at_then places (load_from va len) (IsAtPart core va len) bytes
    (load_from_at core va len (places.run bytes).value (after_writes (places.run bytes).wrote bytes)
    (data_is_at core request atomicity LoadAddressMisaligned va bytes))

store_is_at : (core : Core) (va len : ℕ) (atomicity : Atomicity) (bytes : Bytes)
    → IsAtPart core va len ((store_places core va len atomicity).run bytes).value
unfolding store_place_of
store_is_at core va len atomicity bytes =
    data_is_at core (data_store core.csrs core.choices core.mode len atomicity) atomicity StoreAddressMisaligned va bytes

unread_at : (core : Core) (va len : ℕ) (places : Result Places Exception) → IsAtPart core va len places
    → IsAtPart core va len (found_without_value places)
unread_at core va len (Err e) at = at
unread_at core va len (Ok (first, second)) at = tt

read_is_at : (core : Core) (va len : ℕ) (places : Result Places Exception) (bytes : Bytes) → IsAtPart core va len places
    → IsAtPart core va len ((found_with_read len places).run bytes).value
unfolding pure mapped read_memory
read_is_at core va len (Err e) bytes at = at
read_is_at core va len (Ok (first, second)) bytes at = by first.is_device
  where
    by : (io : Bool)
        → IsAtPart core va len ((if io then pure {A = Result LocatedValue Exception} (Ok (first, second, 0))
        else mapped (λ held. Ok (first, second, held))
        (read_memory (record { pa = first.pa; len = len }))).run bytes).value
    by true = tt
    by false = tt

placed_by_at : (core : Core) (va len : ℕ) (op : MemoryOp) (bytes : Bytes)
    → IsAtPart core va len ((located_access_by core va len op).run bytes).value
unfolding mapped
placed_by_at core va len (memory.Load signed) bytes = loaded_is_at core va len Plain bytes
placed_by_at core va len memory.LoadReserved bytes = loaded_is_at core va len Reserved bytes
placed_by_at core va len (memory.Store value) bytes =
    unread_at core va len ((store_places core va len Plain).run bytes).value (store_is_at core va len Plain bytes)
placed_by_at core va len (memory.StoreConditional value) bytes =
    unread_at core va len ((store_places core va len Reserved).run bytes).value (store_is_at core va len Reserved bytes)
placed_by_at core va len (memory.Amo op width b) bytes =
    let first = store_places core va len Amo in
    at_then first (found_with_read len) (IsAtPart core va len) bytes
    (read_is_at core va len (first.run bytes).value (after_writes (first.run bytes).wrote bytes)
    (store_is_at core va len Amo bytes))

-- so is that of the access of an instruction
abbrev IsAtAccess : {A : Type 0} → Core → MemoryRequest → Result A Exception → Type 0
IsAtAccess core request refused = IfErr refused (λ e. IsPartAddress core request e.1)

placed_is_at : (core : Core) (request : MemoryRequest) (bytes : Bytes)
    → IsAtAccess core request ((located_access core request).run bytes).value
unfolding located_access
placed_is_at core request bytes = placed_by_at core request.address (bytes_of request.size) request.op bytes

-- what an access comes to where its places are found
answered_refused : (core : Core) (shown : Shown) (rd : ℕ) (request : MemoryRequest)
    (found : Result LocatedValue Exception) (start bytes : Bytes)
    → ((located_access core request).run start).value ≡ found → IsAtAccess core request found
    → IfErr ((access_after_location core (row_choices_of shown rd) request found).run bytes).value
    (IsRefused core shown request start)
unfolding pure mapped row_choices_of
answered_refused core shown rd request (Err e) start bytes is at = record { address = at; refused = inl is }
answered_refused core shown rd request (Ok found) start bytes is at =
    by (device_refuses core (row_choices_of shown rd) found.0) refl
  where
    by : (refuses : Bool) → device_refuses core (row_choices_of shown rd) found.0 ≡ refuses
        → IfErr ((if refuses then pure (Err (fault_of request.op, request.address))
        else access_at_places core (row_choices_of shown rd) request found).run bytes).value
        (IsRefused core shown request start)
    by true refuses =
        let parts =
        and_parts found.0.is_device (are_by_row core.choices.device_faults && shows (shown Trap) 1) refuses in
        let by_row = and_parts (are_by_row core.choices.device_faults) (shows (shown Trap) 1) parts.1 in
        record {
          address = inl refl;
          refused = inr (record {
            may_refuse = by_row.0;
            shows_trap = by_row.1;
            at_device = subst (λ located. is_device_found located ≡ true) (sym is) parts.0;
            fault = refl;
          });
        }
    by false refuses = tt

access_refused : (core : Core) (shown : Shown) (rd : ℕ) (request : MemoryRequest) (bytes : Bytes)
    → IfErr ((memory_access core (row_choices_of shown rd) request).run bytes).value
    (IsRefused core shown request bytes)
unfolding memory_access
access_refused core shown rd request bytes =
    let first = located_access core request in
    let choices = row_choices_of shown rd in
    at_then first (access_after_location core choices request)
    (λ answer. IfErr answer (IsRefused core shown request bytes)) bytes
    (answered_refused core shown rd request (first.run bytes).value bytes (after_writes (first.run bytes).wrote bytes)
    refl (placed_is_at core request bytes))

access_raises : (core : Core) (i : Instruction) (P : Exception → Type 0) (answer : Result AccessResult Exception)
    → IfErr answer P → IfErr (after_access core i answer) P
unfolding after_access
access_raises core i P (Err e) holds = holds
access_raises core i P (Ok answer) holds = tt

-- an instruction of the opcode SYSTEM
abbrev RaisesAs : Core → Shown → Bytes → Instruction → SystemRequest → Result Completion Exception → Type 0
RaisesAs core shown bytes i request did =
    IfErr did (IsRaisedAs core shown bytes i.bits (Some (results.System request)))

csr_raises : (core : Core) (i : Instruction) (answer : Result (ℕ × Csrs) Illegal)
    → IfErr (after_csr core i answer) (λ e. e ≡ (IllegalInstruction, i.bits))
unfolding after_csr
csr_raises core i (Err refused) = refl
csr_raises core i (Ok answer) = tt

if_raises : (next : Core) (i : Instruction) (allowed : Bool)
    → IfErr (completion_if allowed next i) (λ e. e ≡ (IllegalInstruction, i.bits))
if_raises next i true = tt
if_raises next i false = refl

system_raises : (core : Core) (shown : Shown) (bytes : Bytes) (choices : RowChoices) (i : Instruction)
    (request : SystemRequest) → RaisesAs core shown bytes i request (system_execution core choices i request)
unfolding system_execution
system_raises core shown bytes choices i (system.Csr request) =
    csr_raises core i (csr_access_result core choices request)
system_raises core shown bytes choices i system.EnvironmentCall = refl
system_raises core shown bytes choices i system.Breakpoint = refl
system_raises core shown bytes choices i system.MachineReturn = if_raises (core_after_mret core) i (may_mret core.mode)
system_raises core shown bytes choices i system.SupervisorReturn =
    if_raises (core_after_sret core) i (may_use_supervisor_instruction core TSR)
system_raises core shown bytes choices i system.WaitForInterrupt =
    if_raises (core_at_next core i 0) i (not (wfi_traps core choices))
system_raises core shown bytes choices i system.TranslationFence =
    if_raises (core_at_next core i 0) i (may_use_supervisor_instruction core TVM)

executed_by_raises : (core : Core) (shown : Shown) (rd : ℕ) (i : Instruction) (result : IntResult) (bytes : Bytes)
    → IfErr ((execution_by core (row_choices_of shown rd) i result).run bytes).value
    (IsRaisedAs core shown bytes i.bits (Some result))
unfolding pure mapped
executed_by_raises core shown rd i (results.Value value) bytes = tt
executed_by_raises core shown rd i (results.Jump link target) bytes = tt
executed_by_raises core shown rd i (results.Continue next_pc) bytes = tt
executed_by_raises core shown rd i (results.Access request) bytes =
    access_raises core i (IsRefused core shown request bytes)
    ((memory_access core (row_choices_of shown rd) request).run bytes).value
    (access_refused core shown rd request bytes)
executed_by_raises core shown rd i (results.System request) bytes =
    system_raises core shown bytes (row_choices_of shown rd) i request

-- what stands at pc
ended_raises : (core : Core) (i : Instruction) (done : Result Completion Exception) (P : Exception → Type 0)
    (exception : Exception) → IfErr done P → Raises (run_of_result core i done).executed exception → P exception
ended_raises core i (Err e) P exception holds is = subst P is holds
ended_raises core i (Ok done) P exception holds is = absurd is

decoded_raises : (core : Core) (shown : Shown) (bits len : ℕ) (op : Option Op) (bytes : Bytes) (exception : Exception)
    → Raises ((run_of_decoded core shown bits len op).run bytes).value.executed exception
    → IsRaisedAs core shown bytes bits (request_by core len op) exception
unfolding pure mapped execution_of
decoded_raises core shown bits len None bytes exception is = sym is
decoded_raises core shown bits len (Some op) bytes exception is =
    let i : Instruction = record { op = op; bits = bits; len = len } in
    let rd = (operands_of op).rd in
    let result = result_of op (first_value core op) (second_value core op) core.pc len in
    ended_raises core i ((execution_of core (row_choices_of shown rd) i).run bytes).value
    (IsRaisedAs core shown bytes bits (Some result)) exception (executed_by_raises core shown rd i result bytes) is

fetched_raises : (core : Core) (shown : Shown) (word : Result (ℕ × ℕ) Exception) (bytes : Bytes)
    (exception : Exception) → IsAtHalf core.pc word
    → Raises ((run_of_fetched core shown word).run bytes).value.executed exception
    → IsRaisedFrom core shown bytes word exception
unfolding pure
fetched_raises core shown (Err e) bytes exception at is =
    (sym is, subst (λ (x : Exception). (x.1 ≡ core.pc) ⊎ (x.1 ≡ (core.pc + 2) % 2 ^ 64)) is at)
fetched_raises core shown (Ok word) bytes exception at is =
    decoded_raises core shown word.0 word.1 (op_for core word.0 word.1) bytes exception is

ran_raises : (core : Core) (shown : Shown) (bytes : Bytes) (exception : Exception)
    → Raises ((instruction_run core shown).run bytes).value.executed exception
    → IsRaisedFrom core shown (bytes_after_fetch core bytes) ((fetch_at_pc core).run bytes).value exception
unfolding instruction_run bytes_after_fetch
ran_raises core shown bytes exception is =
    let before = (fetch_at_pc core).run bytes in
    let P : Run InstructionRun → Type 0 = λ r. Raises r.value.executed exception in
    fetched_raises core shown before.value (after_writes before.wrote bytes) exception
    (fetched_is_at core bytes) (subst P (run_then-is (fetch_at_pc core) (run_of_fetched core shown) bytes) is)

pub raised_from : (core : Core) (shown : Shown) (bytes : Bytes) (exception : Exception)
    → Raises (executed_at core shown bytes) exception
    → IsRaisedIn (before_instruction core shown) shown bytes exception
raised_from core shown bytes exception is = ran_raises (before_instruction core shown) shown bytes exception is

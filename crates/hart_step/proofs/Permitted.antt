-- All that a step reads, stores and expects is granted.
use Rattle.std.proofs.Common.{◌≡◌, ℕ, ◌/◌, ◌^◌, Bool, true, false, List, [], ◌∷◌, ◌++◌, append-nil, refl, sym}
use Rattle.std.proofs.Common.{ap, ◌∙◌, subst, inl, inr, Ok, Err, Result, Option, Some, None, All, if◌then◌else◌}
use Rattle.std.specs.Prelude.{IfSome, IfOk, map as each}
use Rattle.std.proofs.lemmas.Bool.{and_parts, cases_Bool}
use Rattle.std.proofs.lemmas.List.Elements.{All-append, All-cons, All-head, All-map, All-nil, All-tail, All-weaker}
use Rattle.hart_words.specs.declared.privilege.Access.{Access}
use Rattle.hart_words.specs.declared.privilege.Access.TheVariants as kind
use Rattle.hart_words.specs.declared.privilege.Mode.TheVariants.{Supervisor}
use Rattle.hart_words.specs.declared.accesses.Read.{Read}
use Rattle.hart_words.specs.declared.accesses.Write.{Write}
use Rattle.hart_words.specs.AccessSizes.{bytes_of}
use Rattle.hart_words.specs.Memory.{Bytes, after_writes, bytes_after_store}
use Rattle.hart_words.specs.Signals.{Shown}
use Rattle.hart_words.specs.Spans.{holds_all}
use Rattle.hart_words.specs.Actions.{Action, Run, pure, write_memory, mapped, run_then, ◌>>=◌}
use Rattle.hart_words.proofs.Runs.{run_then-is}
use Rattle.rv_decode.specs.declared.operation.Op.{Op}
use Rattle.rv_decode.specs.Operands.{operands_of}
use Rattle.rv_integer.specs.declared.int_result.IntResult.{IntResult}
use Rattle.rv_integer.specs.declared.int_result.IntResult.TheVariants as results
use Rattle.rv_integer.specs.declared.int_result.MemoryRequest.{MemoryRequest}
use Rattle.rv_integer.specs.declared.int_result.MemoryOp.{MemoryOp}
use Rattle.rv_integer.specs.declared.int_result.MemoryOp.TheVariants.{Load, LoadReserved, Store, StoreConditional, Amo}
use Rattle.rv_integer.specs.declared.int_result.SystemRequest.{SystemRequest}
use Rattle.rv_integer.specs.declared.int_result.SystemRequest.TheVariants as system
use Rattle.rv_integer.specs.Results.{result_of}
use Rattle.rv_atomic.specs.Operations.{amo_of}
use Rattle.csr_file.specs.declared.csrs.Csrs.{Csrs}
use Rattle.csr_file.specs.declared.access.Illegal.{Illegal}
use Rattle.csr_file.specs.declared.fields.TheConstants.{TSR, TVM}
use Rattle.csr_file.specs.Registers.{pmp_entries_of}
use Rattle.pmp_check.specs.Protection.{is_allowed}
use Rattle.rvfi_rows.specs.declared.expected.Accessed.{Accessed}
use Rattle.rvfi_rows.specs.declared.expected.Expected.TheVariants.{Halted}
use Rattle.mem_access.specs.declared.place.Place.{Place}
use Rattle.mem_access.specs.Accesses.{Exception, LocatedValue, Part, Places, first_len, first_part, request_for}
use Rattle.mem_access.specs.Accesses.{second_part}
use Rattle.mem_access.specs.Laws.{ArePlacesFound, AreReads, AreTableSets, IsPermittedPart, IsPermittedPlace}
use Rattle.mem_access.specs.Laws.{IsTableSet, place_list}
use Rattle.mem_access.specs.Reads.{CheckedRead, IsPermittedRead, PlacedPart, fetch_reads_of, reads_in}
use Rattle.mem_access.specs.Reads.{whole_part}
use Rattle.hart_step.specs.declared.state.Core.{Core}
use Rattle.hart_step.specs.declared.choices.RowChoices.{RowChoices}
use Rattle.hart_step.specs.declared.instruction.Instruction.{Instruction}
use Rattle.hart_step.specs.declared.instruction.InstructionOutcome.{InstructionOutcome}
use Rattle.hart_step.specs.declared.instruction.InstructionOutcome.TheVariants.{Trapped, Retired}
use Rattle.hart_step.specs.declared.memory.AccessResult.{AccessResult}
use Rattle.hart_step.specs.Choices.{row_choices_of}
use Rattle.hart_step.specs.MemoryAccess.{access_after_location, access_at_places, access_result_by, access_result_of}
use Rattle.hart_step.specs.MemoryAccess.{atomicity_of, device_refuses, fault_of}
use Rattle.hart_step.specs.MemoryAccess.{expected_access, is_stored}
use Rattle.hart_step.specs.MemoryAccess.{located_access, memory_access, number_written, put, put_to}
use Rattle.hart_step.specs.MemoryAccess.{value_found}
use Rattle.hart_step.specs.CsrAccess.{csr_access_result}
use Rattle.hart_step.specs.Returns.{may_use_supervisor_instruction, may_mret, core_after_mret, core_after_sret}
use Rattle.hart_step.specs.Instructions.{Completion, core_after_retirement, core_at_next, after_access, after_csr}
use Rattle.hart_step.specs.Instructions.{completion_if, system_execution, execution_of, execution_by, fetch_at_pc}
use Rattle.hart_step.specs.Instructions.{first_value, second_value, InstructionRun, run_of_result, op_for}
use Rattle.hart_step.specs.Instructions.{run_of_decoded, run_of_fetched, instruction_run}
use Rattle.hart_step.specs.Steps.{StepResult, before_instruction, effects_of, expected_of, step_result_of, step_of}
use Rattle.hart_step.specs.Laws.{AreSetsAndStores, bytes_after_fetch, request_by, request_from, request_at_pc}
use Rattle.hart_step.specs.ProtectionLaws.{access_kind_of, asked_reads_of, check_of, instruction_reads_of}
use Rattle.hart_step.specs.ProtectionLaws.{kind_by, reads_its_bytes, step_reads_of}
use Rattle.hart_step.specs.ProtectionLaws.{ArePermittedStores, BeginsAt, IsAskedAccess}
use Rattle.hart_step.specs.ProtectionLaws.{IsAskedFor, IsPermittedStore, MayAccess, MayAccessPart}
use Rattle.hart_step.specs.ProtectionLaws.{OfExpected, StepIsPermitted}
use Rattle.mem_access.proofs.Granted.{data_permitted, fetch_granted}
use Rattle.mem_access.proofs.Orders.{reads_append}
use Rattle.hart_step.proofs.Located.{located_granted}
use Rattle.hart_step.proofs.Phases.{running, halting}
use Rattle.hart_step.proofs.PlacedParts.{placed_both, placed_whole, two_placed, whole_placed}
use Rattle.hart_step.proofs.StepSets.{HoldsOfStores, access_stores, step_stores}

-- the places that an access found, and the kind that it is of
abbrev ArePlacesOf : Core → MemoryRequest → Bytes → Places → Type 0
ArePlacesOf core request start places =
    ArePlacesFound core.csrs core.map core.choices (check_of core request) (atomicity_of request.op) request.address start
    places

record AreOfKind (core : Core) (request : MemoryRequest) (start : Bytes) (access : Access) (places : Places)
    : Type 0 where
  pub kind : access_kind_of request.op ≡ access
  pub found : ArePlacesOf core request start places

-- the access that is expected
begins_at : (placed : List PlacedPart) (places : Places) → each (λ one. one.place) placed ≡ place_list places
    → BeginsAt places.0.pa placed
begins_at [] (first, None) order = let none : ⊥ = cc in none
begins_at [] (first, Some second) order = let none : ⊥ = cc in none
begins_at (one ∷ more) (first, None) order = let same : first ≡ one.place = cc in ap (λ place. place.pa) same
begins_at (one ∷ more) (first, Some second) order = let same : first ≡ one.place = cc in ap (λ place. place.pa) same

may_access : (core : Core) (request : MemoryRequest) (access : Access) (placed : List PlacedPart)
    → access_kind_of request.op ≡ access → All (IsPermittedPart core.csrs core.map (check_of core request)) placed
    → All (MayAccessPart core access) placed
may_access core request access placed kind permitted =
    All-weaker (IsPermittedPart core.csrs core.map (check_of core request)) (MayAccessPart core access)
    (λ one is. subst (λ (a : Access). MayAccessPart core a one) kind is.granted) placed permitted

asked_for : (core : Core) (request : MemoryRequest) (start : Bytes) (places : Places) (read written : Option ℕ)
    → AreOfKind core request start (kind_by written) places
    → IsAskedFor core request start
    (record { va = request.address; pa = places.0.pa; len = bytes_of request.size; read = read; written = written })
asked_for core request start places read written is = record {
  va = refl;
  whole = refl;
  kind = is.kind;
  placed = is.found.placed;
  found = is.found.found;
  begins = begins_at is.found.placed places is.found.order;
  permitted = may_access core request (kind_by written) is.found.placed is.kind is.found.permitted;
}

-- what is stored
abbrev AreStored : Core → MemoryRequest → Bytes → List Write → Type 0
AreStored core request start stores = ArePermittedStores core (Some (results.Access request)) start stores

stores_nothing : (core : Core) (asks : Option IntResult) (start : Bytes) → ArePermittedStores core asks start []
stores_nothing core asks start = record { permitted = All-nil (IsPermittedStore core); asked = tt }

-- a store to a part that is permitted and of RAM
abbrev store_to : Part → Place → ℕ → Write
store_to part place value = record { pa = place.pa; len = part.len; value = value }

permitted_store : (core : Core) (request : MemoryRequest) (part : Part) (place : Place) (value : ℕ)
    → access_kind_of request.op ≡ kind.Store
    → IsPermittedPlace core.csrs core.map (request_for (check_of core request) part) place → place.is_device ≡ false
    → IsPermittedStore core (store_to part place value)
permitted_store core request part place value kind is memory =
    (is.inside memory, subst (λ (a : Access). MayAccess core a place.pa part.len) kind is.granted)

whole_stored : (core : Core) (request : MemoryRequest) (start : Bytes) (first : Place) (value : ℕ)
    → AreOfKind core request start kind.Store (first, None) → first.is_device ≡ false
    → AreStored core request start (store_to (whole_part request.address (bytes_of request.size)) first value ∷ [])
whole_stored core request start first value is memory =
    let part = whole_part request.address (bytes_of request.size) in
    let here : PlacedPart = whole_placed (check_of core request) request.address first in
    let placed = placed_whole first is.found in
    let permitted =
    All-head (IsPermittedPart core.csrs core.map (check_of core request)) here [] placed.permitted in
    record {
      permitted =
          All-cons (IsPermittedStore core) (store_to part first value) []
          (permitted_store core request part first value is.kind permitted memory) (All-nil (IsPermittedStore core));
      asked = record { kind = is.kind; placed = here ∷ []; found = placed.found; ranges = refl };
    }

both_stored : (core : Core) (request : MemoryRequest) (start : Bytes) (first second : Place) (low high : ℕ)
    → AreOfKind core request start kind.Store (first, Some second)
    → AreStored core request start
    (store_to (first_part request.address (bytes_of request.size)) first low
    ∷ store_to (second_part request.address (bytes_of request.size)) second high ∷ [])
both_stored core request start first second low high is =
    let check = check_of core request in
    let one = first_part request.address (bytes_of request.size) in
    let two = second_part request.address (bytes_of request.size) in
    let both = placed_both first second is.found in
    let here : PlacedPart = record { part = one; place = first } in
    let there : PlacedPart = record { part = two; place = second } in
    let Permitted : PlacedPart → Type 0 = IsPermittedPart core.csrs core.map check in
    let front = All-head Permitted here (there ∷ []) both.placed.permitted in
    let back =
    All-head Permitted there [] (All-tail Permitted here (there ∷ []) both.placed.permitted) in
    record {
      permitted =
          All-cons (IsPermittedStore core) (store_to one first low) (store_to two second high ∷ [])
          (permitted_store core request one first low is.kind front both.first_memory)
          (All-cons (IsPermittedStore core) (store_to two second high) []
          (permitted_store core request two second high is.kind back both.second_memory)
          (All-nil (IsPermittedStore core)));
      asked = record {
        kind = is.kind;
        placed = two_placed check request.address first second;
        found = both.placed.found;
        ranges = refl;
      };
    }

-- a number that is put reads nothing, and stores what it may
record Puts (core : Core) (request : MemoryRequest) (start : Bytes) (run : Run (Unit {0})) : Type 0 where
  pub reads : run.reads ≡ []
  pub stores : AreStored core request start run.wrote

puts_nothing : (core : Core) (request : MemoryRequest) (start : Bytes) (places : Places) (bytes : Bytes)
    → Puts core request start ((put places request None).run bytes)
unfolding put pure
puts_nothing core request start places bytes =
    record { reads = refl; stores = stores_nothing core (Some (results.Access request)) start }

puts_whole : (core : Core) (request : MemoryRequest) (start : Bytes) (first : Place) (value : ℕ) (io : Bool)
    (bytes : Bytes) → AreOfKind core request start kind.Store (first, None) × (first.is_device ≡ io)
    → Puts core request start ((put_to first (bytes_of request.size) value io).run bytes)
unfolding pure write_memory
puts_whole core request start first value true bytes is =
    record { reads = refl; stores = stores_nothing core (Some (results.Access request)) start }
puts_whole core request start first value false bytes is =
    record { reads = refl; stores = whole_stored core request start first value is.0 is.1 }

puts_value : (core : Core) (request : MemoryRequest) (start : Bytes) (places : Places) (value : ℕ) (bytes : Bytes)
    → AreOfKind core request start kind.Store places
    → Puts core request start ((put places request (Some value)).run bytes)
unfolding put ◌>>=◌ run_then write_memory
puts_value core request start (first, None) value bytes is =
    puts_whole core request start first value first.is_device bytes (is, refl)
puts_value core request start (first, Some second) value bytes is = record {
  reads = refl;
  stores =
      both_stored core request start first second value
      (value / 256 ^ first_len request.address (bytes_of request.size)) is;
}

-- what comes of an access, that stores and shows what it may
record IsAnswered (core : Core) (request : MemoryRequest) (start : Bytes)
    (run : Run (Result AccessResult Exception)) : Type 0 where
  pub reads : run.reads ≡ []
  pub stores : AreStored core request start run.wrote
  pub access : IfOk run.value (λ answer. IfSome answer.access (IsAskedFor core request start))

-- an answer, whose number is written
abbrev answering : Places → MemoryRequest → AccessResult → Action (Result AccessResult Exception)
answering places request answer = mapped (λ _. Ok answer) (put places request (number_written answer.access))

answered : {core : Core} {request : MemoryRequest} {start : Bytes} (places : Places) (answer : AccessResult)
    (bytes : Bytes) → Puts core request start ((put places request (number_written answer.access)).run bytes)
    → IfSome answer.access (IsAskedFor core request start)
    → IsAnswered core request start ((answering places request answer).run bytes)
unfolding mapped
answered places answer bytes puts granted = record { reads = puts.reads; stores = puts.stores; access = granted }

-- an SC that stored, and one that did not
conditional_by : (core : Core) (request : MemoryRequest) (start : Bytes) (places : Places) (value : ℕ) (stored : Bool)
    (bytes : Bytes) → AreOfKind core request start kind.Store places
    → IsAnswered core request start ((answering places request (if stored
    then record {
      value =
          0;
      access = expected_access request places.0 None (Some value);
      reservation = record { block = None };
    }
    else record { value = 1; access = None; reservation = record { block = None } })).run bytes)
conditional_by core request start places value true bytes is =
    let answer : AccessResult =
    record {
      value = 0;
      access = expected_access request places.0 None (Some value);
      reservation = record { block = None };
    } in
    answered places answer bytes (puts_value core request start places value bytes is)
    (asked_for core request start places None (Some value) is)
conditional_by core request start places value false bytes is =
    let answer : AccessResult = record { value = 1; access = None; reservation = record { block = None } } in
    answered places answer bytes (puts_nothing core request start places bytes) tt

-- what an operation comes to at its places, with the number that was read there
answer_granted : (core : Core) (choices : RowChoices) (request : MemoryRequest) (start : Bytes) (found : LocatedValue)
    (bytes : Bytes) (op : MemoryOp) → AreOfKind core request start (access_kind_of op) (found.0, found.1)
    → IsAnswered core request start
    ((answering (found.0, found.1) request (access_result_by core choices request found.0 found.2 op)).run bytes)
answer_granted core choices request start (first, second, held) bytes (Load signed) is =
    answered (first, second) (access_result_by core choices request first held (Load signed)) bytes
    (puts_nothing core request start (first, second) bytes)
    (asked_for core request start (first, second) (Some (value_found choices request first held)) None is)
answer_granted core choices request start (first, second, held) bytes LoadReserved is =
    answered (first, second) (access_result_by core choices request first held LoadReserved) bytes
    (puts_nothing core request start (first, second) bytes)
    (asked_for core request start (first, second) (Some held) None is)
answer_granted core choices request start (first, second, held) bytes (Store value) is =
    answered (first, second) (access_result_by core choices request first held (Store value)) bytes
    (puts_value core request start (first, second) value bytes is)
    (asked_for core request start (first, second) None (Some value) is)
answer_granted core choices request start (first, second, held) bytes (StoreConditional value) is =
    conditional_by core request start (first, second) value (is_stored core choices request first) bytes is
answer_granted core choices request start (first, second, held) bytes (Amo op width b) is =
    let read = value_found choices request first held in
    let value = amo_of op width read b in
    answered (first, second) (access_result_by core choices request first held (Amo op width b)) bytes
    (puts_value core request start (first, second) value bytes is)
    (asked_for core request start (first, second) (Some read) (Some value) is)

answered_granted : (core : Core) (choices : RowChoices) (request : MemoryRequest) (start : Bytes)
    (found : Result LocatedValue Exception) (bytes : Bytes)
    → IfOk found (λ f. ArePlacesOf core request start (f.0, f.1))
    → IsAnswered core request start ((access_after_location core choices request found).run bytes)
unfolding pure access_result_of
answered_granted core choices request start (Err exception) bytes is = record {
  reads = refl;
  stores = stores_nothing core (Some (results.Access request)) start;
  access = tt;
}
answered_granted core choices request start (Ok found) bytes is = by (device_refuses core choices found.0)
  where
    by : (refuses : Bool)
        → IsAnswered core request start ((if refuses then pure (Err (fault_of request.op, request.address))
        else access_at_places core choices request found).run bytes)
    by true = record {
      reads = refl;
      stores = stores_nothing core (Some (results.Access request)) start;
      access = tt;
    }
    by false =
        answer_granted core choices request start found bytes request.op (record { kind = refl; found = is })

-- an instruction, by what it asks for, from the memory that it finds
record IsDone (core : Core) (asks : Option IntResult) (start : Bytes) (run : Run (Result Completion Exception)) : Type
    0 where
  pub reads : run.reads ≡ reads_in (asked_reads_of core asks start)
  pub access : IfOk run.value (λ done. IfSome done.access (IsAskedAccess core asks start))

accessed_access : (core : Core) (i : Instruction) (Q : Accessed → Type 0) (answer : Result AccessResult Exception)
    → IfOk answer (λ a. IfSome a.access Q) → IfOk (after_access core i answer) (λ done. IfSome done.access Q)
unfolding after_access
accessed_access core i Q (Err exception) granted = tt
accessed_access core i Q (Ok answer) granted = granted

access_granted : (core : Core) (choices : RowChoices) (i : Instruction) (request : MemoryRequest) (bytes : Bytes)
    → IsDone core (Some (results.Access request)) bytes
    ((mapped (after_access core i) (memory_access core choices request)).run bytes)
unfolding mapped memory_access
access_granted core choices i request bytes =
    let way = located_access core request in
    let before = way.run bytes in
    let now = after_writes before.wrote bytes in
    let after = (access_after_location core choices request before.value).run now in
    let whole = run_then-is way (access_after_location core choices request) bytes in
    let is = located_granted core request bytes in
    let answer = answered_granted core choices request bytes before.value now is.places in
    let Q : Accessed → Type 0 = IsAskedFor core request bytes in
    let Answers : Result AccessResult Exception → Type 0 =
    λ a. IfOk (after_access core i a) (λ done. IfSome done.access Q) in
    record {
      reads = ap (λ t. t.reads) whole ∙ ap (λ r. before.reads ++ r) answer.reads ∙ append-nil before.reads ∙ is.reads;
      access = subst Answers (sym (ap (λ t. t.value) whole)) (accessed_access core i Q after.value answer.access);
    }

-- what an access stores
access_stored : (core : Core) (choices : RowChoices) (request : MemoryRequest) (bytes : Bytes)
    → AreStored core request bytes (access_stores core choices request bytes)
access_stored core choices request bytes =
    let found = (located_access core request).run bytes in
    (answered_granted core choices request bytes found.value (after_writes found.wrote bytes)
    (located_granted core request bytes).places).stores

-- and what an instruction does
holds_of_stores : (core : Core) (asks : Option IntResult) (bytes : Bytes)
    → HoldsOfStores core bytes asks (ArePermittedStores core asks bytes)
holds_of_stores core asks bytes = record {
  none = stores_nothing core asks bytes;
  asked =
      λ choices request is.
      subst (λ (a : Option IntResult). ArePermittedStores core a bytes (access_stores core choices request bytes))
      (sym is) (access_stored core choices request bytes);
}

-- what makes no access
nothing_done : (core : Core) (asks : Option IntResult) (start : Bytes) (done : Result Completion Exception)
    (bytes : Bytes)
    → asked_reads_of core asks start ≡ [] → IfOk done (λ d. d.access ≡ None)
    → IsDone core asks start ((pure done).run bytes)
unfolding pure
nothing_done core asks start (Err exception) bytes reads none =
    record { reads = ap (λ checks. reads_in checks) (sym reads); access = tt }
nothing_done core asks start (Ok done) bytes reads none =
    let P : Option Accessed → Type 0 = λ a. IfSome a (IsAskedAccess core asks start) in
    record { reads = ap (λ checks. reads_in checks) (sym reads); access = subst P (sym none) tt }

csr_none : (core : Core) (i : Instruction) (answer : Result (ℕ × Csrs) Illegal)
    → IfOk (after_csr core i answer) (λ d. d.access ≡ None)
unfolding after_csr
csr_none core i (Err refused) = tt
csr_none core i (Ok answer) = refl

test_none : (next : Core) (i : Instruction) (allowed : Bool)
    → IfOk (completion_if allowed next i) (λ d. d.access ≡ None)
test_none next i true = refl
test_none next i false = tt

system_none : (core : Core) (choices : RowChoices) (i : Instruction) (request : SystemRequest)
    → IfOk (system_execution core choices i request) (λ d. d.access ≡ None)
unfolding system_execution
system_none core choices i (system.Csr request) = csr_none core i (csr_access_result core choices request)
system_none core choices i system.EnvironmentCall = tt
system_none core choices i system.Breakpoint = tt
system_none core choices i system.MachineReturn = test_none (core_after_mret core) i (may_mret core.mode)
system_none core choices i system.SupervisorReturn =
    test_none (core_after_sret core) i (may_use_supervisor_instruction core TSR)
system_none core choices i system.WaitForInterrupt = test_none (core_at_next core i 0) i _
system_none core choices i system.TranslationFence =
    test_none (core_at_next core i 0) i (may_use_supervisor_instruction core TVM)

executed_by_granted : (core : Core) (choices : RowChoices) (i : Instruction) (result : IntResult) (bytes : Bytes)
    → IsDone core (Some result) bytes ((execution_by core choices i result).run bytes)
executed_by_granted core choices i (results.Value value) bytes =
    nothing_done core (Some (results.Value value)) bytes
    (Ok (record { core = core_at_next core i value; access = None }))
    bytes refl refl
executed_by_granted core choices i (results.Jump link target) bytes =
    nothing_done core (Some (results.Jump link target)) bytes
    (Ok (record { core = core_after_retirement core i link target; access = None })) bytes refl refl
executed_by_granted core choices i (results.Continue next_pc) bytes =
    nothing_done core (Some (results.Continue next_pc)) bytes
    (Ok (record { core = core_after_retirement core i 0 next_pc; access = None })) bytes refl refl
executed_by_granted core choices i (results.Access request) bytes = access_granted core choices i request bytes
executed_by_granted core choices i (results.System request) bytes =
    nothing_done core (Some (results.System request)) bytes (system_execution core choices i request) bytes refl
    (system_none core choices i request)

-- what became of what stands at pc
abbrev OfAccess : (Accessed → Type 0) → InstructionOutcome → Type 0
OfAccess Q (Trapped insn exception) = Unit {0}
OfAccess Q (Retired instruction access) = IfSome access Q

record IsRan (core : Core) (asks : Option IntResult) (start : Bytes) (checks : List CheckedRead)
    (run : Run InstructionRun) : Type 0 where
  pub reads : run.reads ≡ reads_in checks
  pub access : OfAccess (IsAskedAccess core asks start) run.value.executed

ended_access : (core : Core) (i : Instruction) (Q : Accessed → Type 0) (done : Result Completion Exception)
    → IfOk done (λ d. IfSome d.access Q) → OfAccess Q (run_of_result core i done).executed
ended_access core i Q (Err exception) granted = tt
ended_access core i Q (Ok done) granted = granted

decoded_granted : (core : Core) (shown : Shown) (bits len : ℕ) (op : Option Op) (bytes : Bytes)
    → IsRan core (request_by core len op) bytes (asked_reads_of core (request_by core len op) bytes)
    ((run_of_decoded core shown bits len op).run bytes)
unfolding pure mapped execution_of
decoded_granted core shown bits len None bytes =
    record { reads = refl; access = tt }
decoded_granted core shown bits len (Some op) bytes =
    let i : Instruction = record { op = op; bits = bits; len = len } in
    let choices = row_choices_of shown (operands_of op).rd in
    let result = result_of op (first_value core op) (second_value core op) core.pc len in
    let done = executed_by_granted core choices i result bytes in
    record {
      reads = done.reads;
      access = ended_access core i (IsAskedAccess core (Some result) bytes)
          ((execution_of core choices i).run bytes).value done.access;
    }

fetched_granted : (core : Core) (shown : Shown) (word : Result (ℕ × ℕ) Exception) (bytes : Bytes)
    → IsRan core (request_from core word) bytes (asked_reads_of core (request_from core word) bytes)
    ((run_of_fetched core shown word).run bytes)
unfolding pure
fetched_granted core shown (Err exception) bytes =
    record { reads = refl; access = tt }
fetched_granted core shown (Ok word) bytes = decoded_granted core shown word.0 word.1 (op_for core word.0 word.1) bytes

ran_granted : (core : Core) (shown : Shown) (bytes : Bytes)
    → IsRan core (request_at_pc core bytes) (bytes_after_fetch core bytes) (instruction_reads_of core bytes)
    ((instruction_run core shown).run bytes)
unfolding instruction_run request_at_pc bytes_after_fetch instruction_reads_of
ran_granted core shown bytes =
    let before = (fetch_at_pc core).run bytes in
    let now = after_writes before.wrote bytes in
    let after = (run_of_fetched core shown before.value).run now in
    let whole = run_then-is (fetch_at_pc core) (run_of_fetched core shown) bytes in
    let asks = request_from core before.value in
    let later = fetched_granted core shown before.value now in
    let checks = fetch_reads_of core.csrs core.map core.choices core.mode core.pc bytes in
    let Access : InstructionOutcome → Type 0 = OfAccess (IsAskedAccess core asks now) in
    record {
      reads = ap (λ t. t.reads) whole
          ∙ ap (λ r. r ++ after.reads) (fetch_granted core.csrs core.map core.choices core.mode core.pc bytes).order
          ∙ ap (λ r. reads_in checks ++ r) later.reads ∙ sym (reads_append checks (asked_reads_of core asks now));
      access = subst Access (sym (ap (λ t. t.value.executed) whole)) later.access;
    }

asked_permitted : (core : Core) (asks : Option IntResult) (bytes : Bytes)
    → All (IsPermittedRead core.csrs core.map) (asked_reads_of core asks bytes)
asked_permitted core (Some (results.Access request)) bytes =
    data_permitted core.csrs core.map core.choices (check_of core request) (atomicity_of request.op)
    (reads_its_bytes request.op) request.address bytes
asked_permitted core _ bytes = All-nil (IsPermittedRead core.csrs core.map)

instruction_permitted : (core : Core) (bytes : Bytes) → All (IsPermittedRead core.csrs core.map)
    (instruction_reads_of core bytes)
unfolding instruction_reads_of
instruction_permitted core bytes =
    let asks = request_at_pc core bytes in
    let after = bytes_after_fetch core bytes in
    All-append (IsPermittedRead core.csrs core.map)
    (fetch_reads_of core.csrs core.map core.choices core.mode core.pc bytes) (asked_reads_of core asks after)
    (fetch_granted core.csrs core.map core.choices core.mode core.pc bytes).permitted
    (asked_permitted core asks after)

-- a step
effects_granted : (Q : Accessed → Type 0) (before after : Core) (execution_of : InstructionOutcome)
    → OfAccess Q execution_of
    → IfOk (effects_of before after execution_of) (λ effects. IfSome effects.access Q)
effects_granted Q before after (Trapped insn exception) granted = tt
effects_granted Q before after (Retired instruction access) granted = granted

expected_granted : (Q : Accessed → Type 0) (core : Core) (shown : Shown) (done : InstructionRun)
    → OfAccess Q done.executed
    → OfExpected Q (expected_of core shown done)
unfolding expected_of
expected_granted Q core shown done granted =
    effects_granted Q (before_instruction core shown) done.core done.executed granted

reads_running : (core : Core) (shown : Shown) (bytes : Bytes) → core.halted ≡ false
    → step_reads_of core shown bytes ≡ instruction_reads_of (before_instruction core shown) bytes
unfolding step_reads_of
reads_running core shown bytes runs = rw runs refl

reads_halted : (core : Core) (shown : Shown) (bytes : Bytes) → core.halted ≡ true → step_reads_of core shown bytes ≡ []
unfolding step_reads_of
reads_halted core shown bytes halts = rw halts refl

-- what it stores
stores_granted : (core : Core) (shown : Shown) (bytes : Bytes)
    → AreSetsAndStores (before_instruction core shown) bytes
    (ArePermittedStores (before_instruction core shown) (request_at_pc (before_instruction core shown) bytes)
    (bytes_after_fetch (before_instruction core shown) bytes))
    ((step_of core shown).run bytes).wrote
stores_granted core shown bytes =
    let begins = before_instruction core shown in
    let asks = request_at_pc begins bytes in
    let after = bytes_after_fetch begins bytes in
    step_stores core shown bytes (ArePermittedStores begins asks after) (holds_of_stores begins asks after)

-- what it reads and what is expected
record IsShown (begins : Core) (asks : Option IntResult) (start : Bytes) (checks : List CheckedRead)
    (step : Run StepResult) : Type 0 where
  pub reads : AreReads begins.csrs begins.map checks step.reads
  pub access : OfExpected (IsAskedAccess begins asks start) step.value.expected

abbrev StepIsShown : Core → Shown → Bytes → Type 0
StepIsShown core shown bytes =
    let begins = before_instruction core shown in
    IsShown begins (request_at_pc begins bytes) (bytes_after_fetch begins bytes) (step_reads_of core shown bytes)
    ((step_of core shown).run bytes)

running_granted : (core : Core) (shown : Shown) (bytes : Bytes) → core.halted ≡ false → StepIsShown core shown bytes
unfolding mapped step_result_of
running_granted core shown bytes runs =
    let begins = before_instruction core shown in
    let asks = request_at_pc begins bytes in
    let after = bytes_after_fetch begins bytes in
    let granted = ran_granted begins shown bytes in
    let done = ((instruction_run begins shown).run bytes).value in
    let step = (mapped (step_result_of core shown) (instruction_run begins shown)).run bytes in
    let Checks : List CheckedRead → Type 0 = λ checks. IsShown begins asks after checks step in
    let Granted : Run StepResult → Type 0 = IsShown begins asks after (step_reads_of core shown bytes) in
    let here : Checks (instruction_reads_of begins bytes) = record {
      reads = record { order = granted.reads; permitted = instruction_permitted begins bytes };
      access = expected_granted (IsAskedAccess begins asks after) core shown done granted.access;
    } in
    subst Granted (sym (running core shown bytes runs))
    (subst Checks (sym (reads_running core shown bytes runs)) here)

halted_granted : (core : Core) (shown : Shown) (bytes : Bytes) → core.halted ≡ true → StepIsShown core shown bytes
halted_granted core shown bytes halts =
    let begins = before_instruction core shown in
    let asks = request_at_pc begins bytes in
    let after = bytes_after_fetch begins bytes in
    let step : Run StepResult = record { value = record { next = core; expected = Halted }; reads = []; wrote = [] } in
    let Checks : List CheckedRead → Type 0 = λ checks. IsShown begins asks after checks step in
    let Granted : Run StepResult → Type 0 = IsShown begins asks after (step_reads_of core shown bytes) in
    let here : Checks [] = record {
      reads = record { order = refl; permitted = All-nil (IsPermittedRead begins.csrs begins.map) };
      access = tt;
    } in
    subst Granted (sym (halting core shown bytes halts))
    (subst Checks (sym (reads_halted core shown bytes halts)) here)

step_shown : (core : Core) (shown : Shown) (bytes : Bytes) → StepIsShown core shown bytes
step_shown core shown bytes = elim (cases_Bool core.halted) [
  | inl halts ↦ halted_granted core shown bytes halts
  | inr runs ↦ running_granted core shown bytes runs
]

pub step_granted : (core : Core) (shown : Shown) (bytes : Bytes) → StepIsPermitted core shown bytes
step_granted core shown bytes =
    let is = step_shown core shown bytes in
    record { reads = is.reads; writes = stores_granted core shown bytes; access = is.access }

-- all that it reads is RAM
pub step_reads_ram : (core : Core) (shown : Shown) (bytes : Bytes) → All
    (λ read. holds_all (before_instruction core shown).map.ram read.pa read.len ≡ true)
    ((step_of core shown).run bytes).reads
step_reads_ram core shown bytes =
    let begins = before_instruction core shown in
    let checks = step_reads_of core shown bytes in
    let granted = (step_granted core shown bytes).reads in
    let InRam : Read → Type 0 = λ read. holds_all begins.map.ram read.pa read.len ≡ true in
    let each : All (λ check. InRam check.read) checks =
    All-weaker (IsPermittedRead begins.csrs begins.map) (λ check. InRam check.read)
    (λ check permitted. permitted.0) checks granted.permitted in
    let Lie : List Read → Type 0 = All InRam in
    subst Lie (sym granted.order) (All-map InRam (λ check. check.read) checks each)

-- so is all that it writes
InRam : Core → Write → Type 0
InRam core write = holds_all core.map.ram write.pa write.len ≡ true

set_in_ram : (core : Core) (bytes : Bytes) (write : Write) → IsTableSet core.csrs core.map core.choices bytes write
    → InRam core write
unfolding InRam
set_in_ram core bytes write set =
    let may = is_allowed (pmp_entries_of core.csrs) Supervisor write.pa 8 kind.Store in
    ap (λ w. holds_all core.map.ram write.pa w.len) set.value
    ∙ (and_parts (holds_all core.map.ram write.pa 8) may set.settable).0

sets_in_ram : (core : Core) (bytes : Bytes) (writes : List Write)
    → AreTableSets core.csrs core.map core.choices bytes writes → All (InRam core) writes
unfolding AreTableSets
sets_in_ram core bytes [] sets = All-nil (InRam core)
sets_in_ram core bytes (write ∷ writes) sets =
    All-cons (InRam core) write writes (set_in_ram core bytes write sets.0)
    (sets_in_ram core (bytes_after_store write.pa write.len write.value bytes) writes sets.1)

pub step_writes_ram : (core : Core) (shown : Shown) (bytes : Bytes)
    → All (λ write. holds_all (before_instruction core shown).map.ram write.pa write.len ≡ true)
    ((step_of core shown).run bytes).wrote
unfolding InRam
step_writes_ram core shown bytes =
    let begins = before_instruction core shown in
    let writes = (step_granted core shown bytes).writes in
    let stored = All-weaker (IsPermittedStore begins) (InRam begins) (λ write permitted. permitted.0) writes.stored
    writes.stores.permitted in
    subst (All (InRam begins)) (sym writes.order)
    (All-append (InRam begins) writes.sets writes.stored (sets_in_ram begins bytes writes.sets writes.entries.sets)
    stored)

-- What a step writes: the entries that its fetch sets, then those that the walks of its access set, and then what it
-- stores.
use Rattle.std.proofs.Common.{if◌then◌else◌}
use Rattle.std.proofs.Common.{◌≡◌, ℕ, Bool, true, false, List, [], ◌∷◌, ◌++◌, append_assoc, refl, sym, ap}
use Rattle.std.proofs.Common.{◌∙◌, subst, inl, inr, Ok, Err, Result, Option, Some, None}
use Rattle.std.proofs.lemmas.Bool.{cases_Bool}
use Rattle.std.specs.Prelude.{All, ◌&&◌}
use Rattle.std.proofs.lemmas.List.Elements.{All-cons, All-nil}
use Rattle.hart_words.specs.declared.privilege.Access.TheVariants as kind
use Rattle.hart_words.specs.declared.privilege.Mode.TheVariants.{Supervisor}
use Rattle.hart_words.specs.Spans.{holds_all}
use Rattle.hart_words.specs.declared.accesses.Write.{Write}
use Rattle.hart_words.specs.AccessSizes.{bytes_of}
use Rattle.hart_words.specs.Memory.{Bytes, after_writes, bytes_after_store}
use Rattle.hart_words.specs.Signals.{Shown}
use Rattle.hart_words.specs.Actions.{Action, pure, mapped, read_memory, ◌>>=◌}
use Rattle.hart_words.proofs.Runs.{run_then-is}
use Rattle.rv_decode.specs.declared.operation.Op.{Op}
use Rattle.rv_decode.specs.Operands.{operands_of}
use Rattle.rv_integer.specs.declared.int_result.IntResult.{IntResult}
use Rattle.rv_integer.specs.declared.int_result.IntResult.TheVariants as results
use Rattle.rv_integer.specs.declared.int_result.MemoryRequest.{MemoryRequest}
use Rattle.rv_integer.specs.declared.int_result.MemoryOp.{MemoryOp}
use Rattle.rv_integer.specs.declared.int_result.MemoryOp.TheVariants as memory
use Rattle.rv_integer.specs.Results.{result_of}
use Rattle.csr_file.specs.Registers.{pmp_entries_of}
use Rattle.pmp_check.specs.Protection.{is_allowed}
use Rattle.mem_access.specs.Accesses.{Exception, LocatedValue, Places}
use Rattle.mem_access.specs.Laws.{AreTableSets, IsTableSet}
use Rattle.mem_access.proofs.Sets.{fetch_sets_alone, load_sets_alone, sets_append, store_sets_alone}
use Rattle.hart_step.specs.declared.state.Core.{Core}
use Rattle.hart_step.specs.declared.choices.RowChoices.{RowChoices}
use Rattle.hart_step.specs.declared.instruction.Instruction.{Instruction}
use Rattle.hart_step.specs.Choices.{row_choices_of}
use Rattle.mem_access.specs.declared.place.Atomicity.TheVariants.{Amo, Plain, Reserved}
use Rattle.hart_step.specs.MemoryAccess.{found_with_read, located_access, located_access_by, store_places}
use Rattle.hart_step.specs.MemoryAccess.{access_after_location, memory_access}
use Rattle.hart_step.specs.Instructions.{execution_of, execution_by, fetch_at_pc, first_value, second_value, op_for}
use Rattle.hart_step.specs.Instructions.{run_of_decoded, run_of_fetched, instruction_run}
use Rattle.hart_step.specs.Steps.{before_instruction, step_of}
use Rattle.hart_step.specs.Laws.{AreSetsAndStores, SetsEntriesAlone, bytes_after_fetch, request_by, request_from}
use Rattle.hart_step.specs.Laws.{request_at_pc}
use Rattle.hart_step.proofs.Phases.{wrote_running, wrote_halted}

-- entries that are set in memory as others leave it are set after those
pub sets_both : (core : Core) (bytes : Bytes) (one two : List Write) → SetsEntriesAlone core bytes one
    → SetsEntriesAlone core (after_writes one bytes) two → SetsEntriesAlone core bytes (one ++ two)
sets_both core bytes one two first second = record {
  sets = sets_append core.csrs core.map core.choices bytes one two first.sets second.sets;
  none = λ fault. ap (λ w. w ++ two) (first.none fault) ∙ second.none fault;
}

pub sets_nothing : (core : Core) (bytes : Bytes) → SetsEntriesAlone core bytes []
unfolding AreTableSets
sets_nothing core bytes = record { sets = tt; none = λ fault. refl }

-- what two actions set, one after the other
pub then_sets : {A B : Type 0} (core : Core) (first : Action A) (next : A → Action B) (bytes : Bytes)
    → SetsEntriesAlone core bytes (first.run bytes).wrote
    → SetsEntriesAlone core (after_writes (first.run bytes).wrote bytes)
    ((next (first.run bytes).value).run (after_writes (first.run bytes).wrote bytes)).wrote
    → SetsEntriesAlone core bytes ((first >>= next).run bytes).wrote
then_sets core first next bytes one two =
    let before = first.run bytes in
    let now = after_writes before.wrote bytes in
    let after = (next before.value).run now in
    subst (λ w. SetsEntriesAlone core bytes w) (sym (ap (λ t. t.wrote) (run_then-is first next bytes)))
    (sets_both core bytes before.wrote after.wrote one two)

-- a fetch sets entries alone
pub fetch_sets : (core : Core) (bytes : Bytes) → SetsEntriesAlone core bytes ((fetch_at_pc core).run bytes).wrote
fetch_sets core bytes = fetch_sets_alone core.csrs core.map core.choices core.mode core.pc bytes

-- so does looking for the places of an access
read_sets : (core : Core) (len : ℕ) (places : Result Places Exception) (bytes : Bytes)
    → SetsEntriesAlone core bytes ((found_with_read len places).run bytes).wrote
unfolding pure mapped read_memory
read_sets core len (Err exception) bytes = sets_nothing core bytes
read_sets core len (Ok (first, second)) bytes = by first.is_device
  where
    by : (io : Bool)
        → SetsEntriesAlone core bytes ((if io then pure {A = Result LocatedValue Exception} (Ok (first, second, 0))
        else mapped (λ held. Ok (first, second, held))
        (read_memory (record { pa = first.pa; len = len }))).run bytes).wrote
    by true = sets_nothing core bytes
    by false = sets_nothing core bytes

located_by_sets : (core : Core) (va len : ℕ) (op : MemoryOp) (bytes : Bytes)
    → SetsEntriesAlone core bytes ((located_access_by core va len op).run bytes).wrote
unfolding mapped
located_by_sets core va len (memory.Load signed) bytes =
    load_sets_alone core.csrs core.map core.choices core.mode va len Plain bytes
located_by_sets core va len memory.LoadReserved bytes =
    load_sets_alone core.csrs core.map core.choices core.mode va len Reserved bytes
located_by_sets core va len (memory.Store value) bytes =
    store_sets_alone core.csrs core.map core.choices core.mode va len Plain bytes
located_by_sets core va len (memory.StoreConditional value) bytes =
    store_sets_alone core.csrs core.map core.choices core.mode va len Reserved bytes
located_by_sets core va len (memory.Amo op width b) bytes =
    let found = (store_places core va len Amo).run bytes in
    then_sets core (store_places core va len Amo) (found_with_read len) bytes
    (store_sets_alone core.csrs core.map core.choices core.mode va len Amo bytes)
    (read_sets core len found.value (after_writes found.wrote bytes))

pub located_sets : (core : Core) (request : MemoryRequest) (bytes : Bytes)
    → SetsEntriesAlone core bytes ((located_access core request).run bytes).wrote
unfolding located_access
located_sets core request bytes = located_by_sets core request.address (bytes_of request.size) request.op bytes

-- what an access stores, when its places are found
abbrev pub access_stores : Core → RowChoices → MemoryRequest → Bytes → List Write
access_stores core choices request bytes =
    let found = (located_access core request).run bytes in
    ((access_after_location core choices request found.value).run (after_writes found.wrote bytes)).wrote

-- the stores alone, or with sets before them
stores_alone : (core : Core) (bytes : Bytes) (P : List Write → Type 0) (writes : List Write) → P writes
    → AreSetsAndStores core bytes P writes
stores_alone core bytes P writes holds =
    record { sets = []; stored = writes; order = refl; entries = sets_nothing core bytes; stores = holds }

sets_before : (core : Core) (bytes : Bytes) (P : List Write → Type 0) (sets writes : List Write)
    → SetsEntriesAlone core bytes sets → AreSetsAndStores core (after_writes sets bytes) P writes
    → AreSetsAndStores core bytes P (sets ++ writes)
sets_before core bytes P sets writes entries both = record {
  sets = sets ++ both.sets;
  stored = both.stored;
  order = ap (λ w. sets ++ w) both.order ∙ sym (append_assoc sets both.sets both.stored);
  entries = sets_both core bytes sets both.sets entries both.entries;
  stores = both.stores;
}

-- an action that sets entries, and then another
then_stores : {A B : Type 0} (core : Core) (P : List Write → Type 0) (first : Action A) (next : A → Action B)
    (bytes : Bytes)
    → SetsEntriesAlone core bytes (first.run bytes).wrote
    → AreSetsAndStores core (after_writes (first.run bytes).wrote bytes) P
    ((next (first.run bytes).value).run (after_writes (first.run bytes).wrote bytes)).wrote
    → AreSetsAndStores core bytes P ((first >>= next).run bytes).wrote
then_stores core P first next bytes one two =
    let before = first.run bytes in
    let after = (next before.value).run (after_writes before.wrote bytes) in
    subst (λ w. AreSetsAndStores core bytes P w) (sym (ap (λ t. t.wrote) (run_then-is first next bytes)))
    (sets_before core bytes P before.wrote after.wrote one two)

-- what is to hold of the stores of an instruction: of none, and of those of the access that it asks for
pub record HoldsOfStores (core : Core) (bytes : Bytes) (asks : Option IntResult) (P : List Write → Type 0)
    : Type 0 where
  pub none : P []
  pub asked : (choices : RowChoices) (request : MemoryRequest) → asks ≡ Some (results.Access request)
      → P (access_stores core choices request bytes)

executed_by_stores : (core : Core) (choices : RowChoices) (i : Instruction) (result : IntResult) (bytes : Bytes)
    (P : List Write → Type 0)
    → HoldsOfStores core bytes (Some result) P
    → AreSetsAndStores core bytes P ((execution_by core choices i result).run bytes).wrote
unfolding pure mapped memory_access
executed_by_stores core choices i (results.Value value) bytes P holds = stores_alone core bytes P [] holds.none
executed_by_stores core choices i (results.Jump link target) bytes P holds = stores_alone core bytes P [] holds.none
executed_by_stores core choices i (results.Continue next_pc) bytes P holds = stores_alone core bytes P [] holds.none
executed_by_stores core choices i (results.Access request) bytes P holds =
    let found = (located_access core request).run bytes in
    then_stores core P (located_access core request) (access_after_location core choices request) bytes
    (located_sets core request bytes)
    (stores_alone core (after_writes found.wrote bytes) P (access_stores core choices request bytes)
    (holds.asked choices request refl))
executed_by_stores core choices i (results.System request) bytes P holds = stores_alone core bytes P [] holds.none

decoded_stores : (core : Core) (shown : Shown) (bits len : ℕ) (op : Option Op) (bytes : Bytes)
    (P : List Write → Type 0)
    → HoldsOfStores core bytes (request_by core len op) P
    → AreSetsAndStores core bytes P ((run_of_decoded core shown bits len op).run bytes).wrote
unfolding pure mapped execution_of
decoded_stores core shown bits len None bytes P holds = stores_alone core bytes P [] holds.none
decoded_stores core shown bits len (Some op) bytes P holds =
    let i : Instruction = record { op = op; bits = bits; len = len } in
    executed_by_stores core (row_choices_of shown (operands_of op).rd) i
    (result_of op (first_value core op) (second_value core op) core.pc len) bytes P holds

fetched_stores : (core : Core) (shown : Shown) (word : Result (ℕ × ℕ) Exception) (bytes : Bytes)
    (P : List Write → Type 0)
    → HoldsOfStores core bytes (request_from core word) P
    → AreSetsAndStores core bytes P ((run_of_fetched core shown word).run bytes).wrote
unfolding pure
fetched_stores core shown (Err exception) bytes P holds = stores_alone core bytes P [] holds.none
fetched_stores core shown (Ok word) bytes P holds =
    decoded_stores core shown word.0 word.1 (op_for core word.0 word.1) bytes P holds

-- what stands at pc, where memory is as its fetch leaves it
pub ran_stores : (core : Core) (shown : Shown) (bytes : Bytes) (P : List Write → Type 0)
    → HoldsOfStores core (bytes_after_fetch core bytes) (request_at_pc core bytes) P
    → AreSetsAndStores core bytes P ((instruction_run core shown).run bytes).wrote
unfolding instruction_run request_at_pc bytes_after_fetch
ran_stores core shown bytes P holds =
    let word = (fetch_at_pc core).run bytes in
    then_stores core P (fetch_at_pc core) (run_of_fetched core shown) bytes (fetch_sets core bytes)
    (fetched_stores core shown word.value (after_writes word.wrote bytes) P holds)

-- a step: what holds of its stores, by the hart as its instruction finds it
pub step_stores : (core : Core) (shown : Shown) (bytes : Bytes) (P : List Write → Type 0)
    → HoldsOfStores (before_instruction core shown) (bytes_after_fetch (before_instruction core shown) bytes)
    (request_at_pc (before_instruction core shown) bytes) P
    → AreSetsAndStores (before_instruction core shown) bytes P ((step_of core shown).run bytes).wrote
step_stores core shown bytes P holds =
    let begins = before_instruction core shown in
    elim (cases_Bool core.halted) [
      | inl halted ↦
          subst (λ w. AreSetsAndStores begins bytes P w) (sym (wrote_halted core shown bytes halted))
          (stores_alone begins bytes P [] holds.none)
      | inr runs ↦
          subst (λ w. AreSetsAndStores begins bytes P w) (sym (wrote_running core shown bytes runs))
          (ran_stores begins shown bytes P holds)
    ]

-- protection lets S store the bytes of each entry that is set
abbrev pub IsSettable : Core → Write → Type 0
IsSettable core write = is_allowed (pmp_entries_of core.csrs) Supervisor write.pa write.len kind.Store ≡ true

right_of : (one other : Bool) → (one && other) ≡ true → other ≡ true
right_of true other both = both
right_of false other both = cc

is_settable_write : (core : Core) (bytes : Bytes) (write : Write)
    → IsTableSet core.csrs core.map core.choices bytes write → IsSettable core write
is_settable_write core bytes write set =
    let entries = pmp_entries_of core.csrs in
    ap (λ w. is_allowed entries Supervisor write.pa w.len kind.Store) set.value
    ∙ right_of (holds_all core.map.ram write.pa 8) (is_allowed entries Supervisor write.pa 8 kind.Store) set.settable

pub are_settable : (core : Core) (bytes : Bytes) (writes : List Write)
    → AreTableSets core.csrs core.map core.choices bytes writes → All (IsSettable core) writes
unfolding AreTableSets
are_settable core bytes [] sets = All-nil (IsSettable core)
are_settable core bytes (write ∷ writes) sets =
    All-cons (IsSettable core) write writes (is_settable_write core bytes write sets.0)
    (are_settable core (bytes_after_store write.pa write.len write.value bytes) writes sets.1)

-- Each way through a step does what its definition says there.
use Rattle.std.proofs.Common.{◌≡◌, ℕ, ◌-◌, ◌/◌, ◌^◌, Bool, true, false, List, [], ◌∷◌, ◌++◌, sym, ap, ◌∙◌, subst, Ok}
use Rattle.std.proofs.Common.{Err, Result, append_assoc, append-nil}
use Rattle.std.proofs.Common.{Option, Some, None, if◌then◌else◌, refl}
use Rattle.hart_words.specs.declared.accesses.Read.{Read}
use Rattle.hart_words.specs.declared.accesses.Write.{Write}
use Rattle.hart_words.specs.AccessSizes.{bytes_of}
use Rattle.hart_words.specs.Memory.{Bytes, number_at, after_writes}
use Rattle.hart_words.specs.Signals.{Shown}
use Rattle.hart_words.specs.Actions.{Performs, Notes, Action, pure, mapped, read_memory, write_memory}
use Rattle.hart_words.proofs.Runs.{Observes-read_memory, Notes-observed, Notes-pure, Notes-then, Notes-mapped}
use Rattle.hart_words.proofs.Runs.{Notes-write_memory}
use Rattle.hart_words.proofs.Runs.{Performs-noted, Performs-pure, Performs-mapped}
use Rattle.rv_decode.specs.declared.operation.Op.{Op}
use Rattle.hart_words.specs.Registers.{register_of}
use Rattle.rv_decode.specs.declared.operation.Operands.{Operands}
use Rattle.rv_decode.specs.Operands.{operands_of}
use Rattle.rv_integer.specs.declared.int_result.IntResult.{IntResult}
use Rattle.rv_integer.specs.declared.int_result.MemoryRequest.{MemoryRequest}
use Rattle.rv_integer.specs.declared.int_result.MemoryOp.{MemoryOp}
use Rattle.rv_integer.specs.Results.{result_of}
use Rattle.rvfi_rows.specs.Rows.{shows_csr}
use Rattle.rvfi_rows.specs.declared.expected.Expected.{Expected}
use Rattle.rvfi_rows.specs.declared.expected.Expected.TheVariants.{Halted, Retired}
use Rattle.mem_access.specs.declared.place.Place.{Place}
use Rattle.mem_access.specs.Accesses.{Exception, LocatedValue, Places, fetch_result, first_len}
use Rattle.hart_step.specs.declared.state.Core.{Core}
use Rattle.hart_step.specs.declared.choices.RowChoices.{RowChoices}
use Rattle.hart_step.specs.declared.instruction.Instruction.{Instruction}
use Rattle.hart_step.specs.declared.memory.AccessResult.{AccessResult}
use Rattle.hart_step.specs.Choices.{row_choices_of, pending_lines_of, asks_interrupt}
use Rattle.hart_step.specs.MemoryAccess.{found_without_value, found_with_read, store_places, exchange_at}
use Rattle.hart_step.specs.MemoryAccess.{located_access}
use Rattle.hart_step.specs.MemoryAccess.{located_access_by, access_result_of, access_result_by, number_written, put_to}
use Rattle.mem_access.specs.declared.place.Atomicity.{Atomicity}
use Rattle.mem_access.specs.declared.place.Atomicity.TheVariants.{Amo}
use Rattle.hart_step.specs.MemoryAccess.{access_after_location, access_at_places, device_refuses, fault_of}
use Rattle.hart_step.specs.MemoryAccess.{memory_access, put, put_at}
use Rattle.hart_step.specs.declared.changes.Retirement.{Retirement}
use Rattle.hart_step.specs.declared.changes.Change.TheVariants.{Nothing, Registers, Access}
use Rattle.hart_step.specs.declared.changes.InstructionNotes.{InstructionNotes}
use Rattle.hart_step.specs.declared.instruction.InstructionOutcome.TheVariants.{Trapped}
use Rattle.hart_step.specs.Changes.{retirement_of, completion_by, retired_by, run_by}
use Rattle.hart_step.specs.Instructions.{Completion, completion_of, next_address, core_after_retirement}
use Rattle.hart_step.specs.Instructions.{after_access, execution_of, execution_by}
use Rattle.hart_step.specs.Instructions.{first_value, second_value, InstructionRun, run_of_exception, run_of_result}
use Rattle.hart_step.specs.Instructions.{op_for, run_of_decoded, run_of_fetched, instruction_run}
use Rattle.hart_step.specs.Steps.{StepResult, core_after_count, core_after_interrupt, csrs_around, lacks_interrupt}
use Rattle.hart_step.specs.Steps.{before_instruction, core_after_run, insn_of, effects_of, expected_of, step_result_of}
use Rattle.hart_step.specs.Steps.{step_of, core_after_entry, interrupt_of, core_after_interrupt_by}
use Rattle.std.specs.Option.{is_none}
use Rattle.hart_words.specs.declared.privilege.Mode.{Mode}

-- a place is looked for as the kind of the access has it
pub located_as : (core : Core) (request : MemoryRequest) {op : MemoryOp} {found : Result LocatedValue Exception}
    {s0 s1 : List Read} {w0 w1 : List Write} {bytes : Bytes}
    → request.op ≡ op
    → Notes (located_access_by core request.address (bytes_of request.size) op) found s0 s1 w0 w1 bytes
    → Notes (located_access core request) found s0 s1 w0 w1 bytes
unfolding located_access
located_as core request {found} {s0} {s1} {w0} {w1} {bytes} is look =
    let P : MemoryOp → Type 0 =
    λ o. Notes (located_access_by core request.address (bytes_of request.size) o) found s0 s1 w0 w1 bytes in
    subst P (sym is) look

-- an action of a length that is known by another name
pub of_length : {A : Type 0} (action : ℕ → Action A) {len known : ℕ} {x : A} {s0 s1 : List Read} {w0 w1 : List Write}
    {bytes : Bytes} → len ≡ known → Notes (action len) x s0 s1 w0 w1 bytes → Notes (action known) x s0 s1 w0 w1 bytes
of_length action {x} {s0} {s1} {w0} {w1} {bytes} is noted =
    let P : ℕ → Type 0 = λ n. Notes (action n) x s0 s1 w0 w1 bytes in
    subst P is noted

-- a store's places, with no value
pub located_store : (core : Core) (request : MemoryRequest) (atomicity : Atomicity) {op : MemoryOp}
    {found : Result Places Exception} {located : Result LocatedValue Exception} {s0 s1 : List Read}
    {w0 w1 : List Write} {bytes : Bytes}
    → request.op ≡ op
    → located_access_by core request.address (bytes_of request.size) op
    ≡ mapped found_without_value (store_places core request.address (bytes_of request.size) atomicity)
    → located ≡ found_without_value found
    → Notes (store_places core request.address (bytes_of request.size) atomicity) found s0 s1 w0 w1 bytes
    → Notes (located_access core request) located s0 s1 w0 w1 bytes
located_store core request atomicity {located} {s0} {s1} {w0} {w1} {bytes} is looks without look =
    let places = store_places core request.address (bytes_of request.size) atomicity in
    let P : Result LocatedValue Exception → Type 0 =
    λ l. Notes (mapped found_without_value places) l s0 s1 w0 w1 bytes in
    let Q : Action (Result LocatedValue Exception) → Type 0 = λ a. Notes a located s0 s1 w0 w1 bytes in
    located_as core request is
    (subst Q (sym looks) (subst P (sym without) (Notes-mapped found_without_value places look)))

-- what an atomic memory operation finds
pub exchange_refused : (core : Core) (va len : ℕ) {exception : Exception} {s0 s1 : List Read} {w0 w1 : List Write}
    {bytes : Bytes}
    → Notes (store_places core va len Amo) (Err exception) s0 s1 w0 w1 bytes
    → Notes (exchange_at core va len) (Err exception) s0 s1 w0 w1 bytes
exchange_refused core va len {exception} {s1} {w1} {bytes} look =
    Notes-then (store_places core va len Amo) (found_with_read len) look (Notes-pure (Err exception) s1 w1 bytes)

pub exchange_placed : (core : Core) (va len : ℕ) {places : Places} {held : ℕ} {s0 s1 s2 : List Read}
    {w0 w1 : List Write} {bytes : Bytes}
    → Notes (store_places core va len Amo) (Ok places) s0 s1 w0 w1 bytes → places.0.is_device ≡ false
    → held ≡ number_at (after_writes w1 bytes) places.0.pa len
    → s2 ≡ s1 ++ record { pa = places.0.pa; len = len } ∷ []
    → Notes (exchange_at core va len) (Ok (places.0, places.1, held)) s0 s2 w0 w1 bytes
exchange_placed core va len {places} {held} {s1} {s2} {w1} {bytes} look memory read noted =
    let asked : Read = record { pa = places.0.pa; len = len } in
    let gives : ℕ → Result LocatedValue Exception = λ n. Ok (places.0, places.1, n) in
    let At : Bool → List Read → Type 0 =
    λ io s. Notes (if io then pure (Ok (places.0, places.1, 0)) else mapped gives (read_memory asked))
    (Ok (places.0, places.1, held)) s1 s w1 w1 bytes in
    let reads =
    subst (At false) (sym noted)
    (Notes-mapped gives (read_memory asked)
    (Notes-observed (read_memory asked) (Observes-read_memory asked held s1 (after_writes w1 bytes) read))) in
    Notes-then (store_places core va len Amo) (found_with_read len) look (subst (λ io. At io s2) (sym memory) reads)

-- a device is not read
pub exchange_at_device : (core : Core) (va len : ℕ) {places : Places} {s0 s1 : List Read} {w0 w1 : List Write}
    {bytes : Bytes}
    → Notes (store_places core va len Amo) (Ok places) s0 s1 w0 w1 bytes → places.0.is_device ≡ true
    → Notes (exchange_at core va len) (Ok (places.0, places.1, 0)) s0 s1 w0 w1 bytes
exchange_at_device core va len {places} {s1} {w1} {bytes} look device =
    let asked : Read = record { pa = places.0.pa; len = len } in
    let gives : ℕ → Result LocatedValue Exception = λ n. Ok (places.0, places.1, n) in
    let At : Bool → Type 0 =
    λ io. Notes (if io then pure (Ok (places.0, places.1, 0)) else mapped gives (read_memory asked))
    (Ok (places.0, places.1, 0)) s1 s1 w1 w1 bytes in
    Notes-then (store_places core va len Amo) (found_with_read len) look
    (subst At (sym device) (Notes-pure (Ok (places.0, places.1, 0)) s1 w1 bytes))

-- what is to be written
pub put_as : (places : Places) (request : MemoryRequest) {written known : Option ℕ} {seen : List Read}
    {w0 w1 : List Write} {bytes : Bytes}
    → written ≡ known → Notes (put places request known) tt seen seen w0 w1 bytes
    → Notes (put places request written) tt seen seen w0 w1 bytes
put_as places request {seen} {w0} {w1} {bytes} is did =
    let P : Option ℕ → Type 0 = λ w. Notes (put places request w) tt seen seen w0 w1 bytes in
    subst P (sym is) did

pub puts_nothing : (places : Places) (request : MemoryRequest) {written : Option ℕ} (seen : List Read)
    (wrote : List Write) (bytes : Bytes) → written ≡ None
    → Notes (put places request written) tt seen seen wrote wrote bytes
unfolding put
puts_nothing places request seen wrote bytes is = put_as places request is (Notes-pure tt seen wrote bytes)

pub puts_value : (places : Places) (request : MemoryRequest) {written : Option ℕ} {value : ℕ} {seen : List Read}
    {w0 w1 : List Write} {bytes : Bytes} → written ≡ Some value
    → Notes (put_at places request value) tt seen seen w0 w1 bytes
    → Notes (put places request written) tt seen seen w0 w1 bytes
unfolding put
puts_value places request is did = put_as places request is did

-- nothing is stored before an access notes its store
pub nothing_stored : {A : Type 0} (action : Action A) {x : A} {s0 s1 : List Read} {w0 sets stores : List Write}
    {bytes : Bytes} → stores ≡ [] → Notes action x s0 s1 w0 sets bytes
    → Notes action x s0 s1 w0 (sets ++ stores) bytes
nothing_stored action {x} {s0} {s1} {w0} {sets} {bytes} blank noted =
    let P : List Write → Type 0 = λ w. Notes action x s0 s1 w0 w bytes in
    subst P (sym (ap (λ w. sets ++ w) blank ∙ append-nil sets)) noted

-- a device takes a number; memory gets it at one place or at two
pub stored_by_device : (first : Place) (request : MemoryRequest) (value : ℕ) {stores : List Write} (seen : List Read)
    (sets : List Write) (bytes : Bytes)
    → first.is_device ≡ true → stores ≡ []
    → Notes (put_at (first, None) request value) tt seen seen sets (sets ++ stores) bytes
stored_by_device first request value {stores} seen sets bytes io blank =
    let P : Bool → Type 0 =
    λ b. Notes (put_to first (bytes_of request.size) value b) tt seen seen sets (sets ++ stores) bytes in
    subst P (sym io) (nothing_stored (pure tt) blank (Notes-pure tt seen sets bytes))

pub stored_at_one : (first : Place) (request : MemoryRequest) (value : ℕ) {stores : List Write} (seen : List Read)
    (sets : List Write) (bytes : Bytes)
    → first.is_device ≡ false
    → stores ≡ record { pa = first.pa; len = bytes_of request.size; value = value } ∷ []
    → Notes (put_at (first, None) request value) tt seen seen sets (sets ++ stores) bytes
stored_at_one first request value {stores} seen sets bytes memory is =
    let P : Bool → Type 0 =
    λ b. Notes (put_to first (bytes_of request.size) value b) tt seen seen sets (sets ++ stores) bytes in
    subst P (sym memory)
    (rw is
    (Notes-write_memory (record { pa = first.pa; len = bytes_of request.size; value = value }) seen sets bytes))

-- the writes of a number in two parts
abbrev pub low_write : Place → MemoryRequest → ℕ → Write
low_write first request value =
    record { pa = first.pa; len = first_len request.address (bytes_of request.size); value = value }

abbrev pub high_write : Place → MemoryRequest → ℕ → Write
high_write second request value =
    let low_len = first_len request.address (bytes_of request.size) in
    record { pa = second.pa; len = bytes_of request.size - low_len; value = value / 256 ^ low_len }

pub stored_at_two : (first second : Place) (request : MemoryRequest) (value : ℕ) {stores : List Write}
    (seen : List Read) (sets : List Write) (bytes : Bytes)
    → stores ≡ low_write first request value ∷ high_write second request value ∷ []
    → Notes (put_at (first, Some second) request value) tt seen seen sets (sets ++ stores) bytes
stored_at_two first second request value {stores} seen sets bytes is =
    let low : Write = low_write first request value in
    let high : Write = high_write second request value in
    let P : List Write → Type 0 =
    λ w. Notes (put_at (first, Some second) request value) tt seen seen sets w bytes in
    subst P (append_assoc sets (low ∷ []) (high ∷ []) ∙ ap (λ w. sets ++ w) (sym is))
    (Notes-then (write_memory low) (λ _. write_memory high) (Notes-write_memory low seen sets bytes)
    (Notes-write_memory high seen (sets ++ low ∷ []) bytes))

-- an access that is refused, and one that is made
pub access_refused : (core : Core) (choices : RowChoices) (request : MemoryRequest) {exception : Exception}
    {s0 s1 : List Read} {w0 w1 : List Write} {bytes : Bytes}
    → Notes (located_access core request) (Err exception) s0 s1 w0 w1 bytes
    → Notes (memory_access core choices request) (Err exception) s0 s1 w0 w1 bytes
unfolding memory_access
access_refused core choices request {exception} {s1} {w1} {bytes} looked =
    Notes-then (located_access core request) (access_after_location core choices request) looked
    (Notes-pure (Err exception) s1 w1 bytes)

-- one that a device refuses
pub access_refused_there : (core : Core) (choices : RowChoices) (request : MemoryRequest) {found : LocatedValue}
    {s0 s1 : List Read} {w0 w1 : List Write} {bytes : Bytes}
    → Notes (located_access core request) (Ok found) s0 s1 w0 w1 bytes
    → device_refuses core choices found.0 ≡ true
    → Notes (memory_access core choices request) (Err (fault_of request.op, request.address)) s0 s1 w0 w1 bytes
unfolding memory_access
access_refused_there core choices request {found} {s1} {w1} {bytes} looked refuses =
    let refused : Result AccessResult Exception = Err (fault_of request.op, request.address) in
    let At : Bool → Type 0 =
    λ b. Notes (if b then pure refused else access_at_places core choices request found) refused s1 s1 w1 w1 bytes in
    Notes-then (located_access core request) (access_after_location core choices request) looked
    (subst At (sym refuses) (Notes-pure refused s1 w1 bytes))

pub access_made : (core : Core) (choices : RowChoices) (request : MemoryRequest) {first : Place}
    {second : Option Place} {held : ℕ} {answer : AccessResult} {s0 s1 : List Read} {w0 w1 w2 : List Write}
    {bytes : Bytes}
    → Notes (located_access core request) (Ok (first, second, held)) s0 s1 w0 w1 bytes
    → device_refuses core choices first ≡ false
    → answer ≡ access_result_by core choices request first held request.op
    → Notes (put (first, second) request (number_written answer.access)) tt s1 s1 w1 w2 bytes
    → Notes (memory_access core choices request) (Ok answer) s0 s1 w0 w2 bytes
unfolding memory_access access_result_of
access_made core choices request {first} {second} {held} {answer} {s1} {w1} {w2} {bytes} looked goes is made =
    let given : AccessResult → Unit {0} → Result AccessResult Exception = λ a _. Ok a in
    let P : AccessResult → Type 0 =
    λ a. Notes (mapped (given a) (put (first, second) request (number_written a.access))) (Ok answer) s1 s1 w1 w2
    bytes in
    let At : Bool → Type 0 =
    λ b. Notes (if b then pure (Err (fault_of request.op, request.address))
    else access_at_places core choices request (first, second, held)) (Ok answer) s1 s1 w1 w2 bytes in
    Notes-then (located_access core request) (access_after_location core choices request) looked
    (subst At (sym goes)
    (subst P is
    (Notes-mapped (given answer) (put (first, second) request (number_written answer.access)) made)))

-- an instruction does what its result asks for
pub executed_as : (core : Core) (choices : RowChoices) (i : Instruction) {result : IntResult} {operands : Operands}
    {a b : ℕ} {done : Result Completion Exception} {s0 s1 : List Read} {w0 w1 : List Write} {bytes : Bytes}
    → operands ≡ operands_of i.op → a ≡ register_of core.registers operands.rs1
    → b ≡ register_of core.registers operands.rs2 → result ≡ result_of i.op a b core.pc i.len
    → Notes (execution_by core choices i result) done s0 s1 w0 w1 bytes
    → Notes (execution_of core choices i) done s0 s1 w0 w1 bytes
unfolding execution_of
executed_as core choices i {a} {b} {done} {s0} {s1} {w0} {w1} {bytes} from first second is did =
    let one : a ≡ first_value core i.op = first ∙ ap (λ o. register_of core.registers o.rs1) from in
    let two : b ≡ second_value core i.op = second ∙ ap (λ o. register_of core.registers o.rs2) from in
    let P : ℕ → Type 0 =
    λ n. Notes (execution_by core choices i (result_of i.op (first_value core i.op) n core.pc i.len)) done s0 s1
    w0 w1 bytes in
    let Q : ℕ → Type 0 =
    λ n. Notes (execution_by core choices i (result_of i.op n b core.pc i.len)) done s0 s1 w0 w1 bytes in
    let R : IntResult → Type 0 = λ r. Notes (execution_by core choices i r) done s0 s1 w0 w1 bytes in
    subst P two (subst Q one (subst R is did))

-- with what the row tells of the destination
pub chosen_as : (core : Core) (shown : Shown) (i : Instruction) {operands : Operands} {choices : RowChoices}
    {done : Result Completion Exception} {s0 s1 : List Read} {w0 w1 : List Write} {bytes : Bytes}
    → operands ≡ operands_of i.op → choices ≡ row_choices_of shown operands.rd
    → Notes (execution_of core choices i) done s0 s1 w0 w1 bytes
    → Notes (execution_of core (row_choices_of shown (operands_of i.op).rd) i) done s0 s1 w0 w1 bytes
chosen_as core shown i {done} {s0} {s1} {w0} {w1} {bytes} from is did =
    let P : RowChoices → Type 0 = λ c. Notes (execution_of core c i) done s0 s1 w0 w1 bytes in
    subst P (is ∙ ap (λ o. row_choices_of shown o.rd) from) did

-- one that does not access memory
pub executed_pure : {A : Type 0} (meant done : A) (seen : List Read) (wrote : List Write) (bytes : Bytes)
    → done ≡ meant → Notes (pure meant) done seen seen wrote wrote bytes
executed_pure meant done seen wrote bytes is = rw is (Notes-pure meant seen wrote bytes)

-- the destination's value, as it is noted
pub retired_as : (core : Core) (i : Instruction) (value next_pc : ℕ) {done : Retirement}
    → done ≡ retirement_of i value next_pc
    → completion_by core (Registers done) (Ok None) ≡ completion_of (core_after_retirement core i value next_pc)
unfolding core_after_retirement
retired_as core i value next_pc is = ap (λ d. completion_by core (Registers d) (Ok None)) is

-- one that does
pub executed_access : (core : Core) (choices : RowChoices) (i : Instruction) (request : MemoryRequest)
    {answer : Result AccessResult Exception} {done : Result Completion Exception} {s0 s1 : List Read}
    {w0 w1 : List Write} {bytes : Bytes}
    → done ≡ after_access core i answer
    → Notes (memory_access core choices request) answer s0 s1 w0 w1 bytes
    → Notes (mapped (after_access core i) (memory_access core choices request)) done s0 s1 w0 w1 bytes
executed_access core choices i request {s0} {s1} {w0} {w1} {bytes} is did =
    let P : Result Completion Exception → Type 0 =
    λ d. Notes (mapped (after_access core i) (memory_access core choices request)) d s0 s1 w0 w1 bytes in
    subst P (sym is) (Notes-mapped (after_access core i) (memory_access core choices request) did)

pub accessed_as : (core : Core) (i : Instruction) (answer : AccessResult) {done : Retirement}
    → done ≡ retirement_of i answer.value (next_address core i)
    → completion_by core (Access done answer.reservation) (Ok answer.access) ≡ after_access core i (Ok answer)
unfolding after_access core_after_retirement
accessed_as core i answer is =
    ap (λ d. completion_by core (Access d answer.reservation) (Ok answer.access)) is

-- what stands at pc
pub ran_refused : (core : Core) (shown : Shown) (exception : Exception) {s0 s1 : List Read} {w0 w1 : List Write}
    {bytes : Bytes}
    → Notes (fetch_result core.csrs core.map core.choices core.mode core.pc) (Err exception) s0 s1 w0 w1 bytes
    → Notes (instruction_run core shown) (run_of_exception core None exception) s0 s1 w0 w1 bytes
unfolding instruction_run
ran_refused core shown exception {s1} {w1} {bytes} looked =
    Notes-then (fetch_result core.csrs core.map core.choices core.mode core.pc) (run_of_fetched core shown) looked
    (Notes-pure (run_of_exception core None exception) s1 w1 bytes)

pub ran_decoded : (core : Core) (shown : Shown) (word len : ℕ) {op : Option Op} {done : InstructionRun}
    {s0 s1 s2 : List Read} {w0 w1 w2 : List Write} {bytes : Bytes}
    → Notes (fetch_result core.csrs core.map core.choices core.mode core.pc) (Ok (word, len)) s0 s1 w0 w1 bytes
    → op ≡ op_for core word len
    → Notes (run_of_decoded core shown word len op) done s1 s2 w1 w2 bytes
    → Notes (instruction_run core shown) done s0 s2 w0 w2 bytes
unfolding instruction_run
ran_decoded core shown word len {done} {s1} {s2} {w1} {w2} {bytes} looked is did =
    let P : Option Op → Type 0 = λ o. Notes (run_of_decoded core shown word len o) done s1 s2 w1 w2 bytes in
    Notes-then (fetch_result core.csrs core.map core.choices core.mode core.pc) (run_of_fetched core shown) looked
    (subst P is did)

pub ran_executed : (core : Core) (shown : Shown) (word len : ℕ) (op : Op) {done : Result Completion Exception}
    {choices : RowChoices} {s0 s1 : List Read} {w0 w1 : List Write} {bytes : Bytes}
    → choices ≡ row_choices_of shown (operands_of op).rd
    → Notes (execution_of core choices (record { op = op; bits = word; len = len })) done s0 s1 w0 w1 bytes
    → Notes (run_of_decoded core shown word len (Some op))
    (run_of_result core (record { op = op; bits = word; len = len }) done) s0 s1 w0 w1 bytes
ran_executed core shown word len op {done} {s0} {s1} {w0} {w1} {bytes} chosen did =
    let i : Instruction = record { op = op; bits = word; len = len } in
    let P : RowChoices → Type 0 = λ c. Notes (execution_of core c i) done s0 s1 w0 w1 bytes in
    Notes-mapped (run_of_result core i) (execution_of core (row_choices_of shown (operands_of op).rd) i)
    (subst P chosen did)

-- an exception, as it is noted
pub ran_raised : (core : Core) (shown : Shown) (insn : Option ℕ) (exception : Exception) {notes : InstructionNotes}
    {s0 s1 : List Read} {w0 w1 : List Write} {bytes : Bytes}
    → notes ≡ record { executed = Trapped insn exception; change = Nothing }
    → Notes (instruction_run core shown) (run_of_exception core insn exception) s0 s1 w0 w1 bytes
    → Notes (instruction_run core shown) (run_by core notes) s0 s1 w0 w1 bytes
ran_raised core shown insn exception {s0} {s1} {w0} {w1} {bytes} is did =
    let P : InstructionNotes → Type 0 = λ n. Notes (instruction_run core shown) (run_by core n) s0 s1 w0 w1 bytes in
    subst P (sym is) did

-- a step
pub step_halted : (core : Core) (shown : Shown) (seen : List Read) (wrote : List Write) (bytes : Bytes)
    → core.halted ≡ true
    → Performs (step_of core shown) (record { next = core; expected = Halted }) seen seen wrote wrote bytes bytes
unfolding step_of
step_halted core shown seen wrote bytes halted =
    let gave : StepResult = record { next = core; expected = Halted } in
    let P : Bool → Type 0 =
    λ b. Performs
    (if b then pure gave else mapped (step_result_of core shown)
    (instruction_run (before_instruction core shown) shown)) gave seen seen wrote wrote bytes bytes in
    subst P (sym halted) (Performs-pure gave seen wrote bytes)

pub step_done : (core : Core) (shown : Shown) (done : InstructionRun) {gave : StepResult} {s0 s1 : List Read}
    {w0 w1 : List Write} {b0 b1 : Bytes} → core.halted ≡ false → gave ≡ step_result_of core shown done
    → Performs (instruction_run (before_instruction core shown) shown) done s0 s1 w0 w1 b0 b1
    → Performs (step_of core shown) gave s0 s1 w0 w1 b0 b1
unfolding step_of
step_done core shown done {gave} {s0} {s1} {w0} {w1} {b0} {b1} running is did =
    let halted : StepResult = record { next = core; expected = Halted } in
    let P : Bool → Type 0 =
    λ b. Performs
    (if b then pure halted else mapped (step_result_of core shown)
    (instruction_run (before_instruction core shown) shown)) gave s0 s1 w0 w1 b0 b1 in
    let Q : StepResult → Type 0 =
    λ g. Performs (mapped (step_result_of core shown) (instruction_run (before_instruction core shown) shown)) g
    s0 s1 w0 w1 b0 b1 in
    subst P (sym running)
    (subst Q (sym is)
    (Performs-mapped (step_result_of core shown) (instruction_run (before_instruction core shown) shown) did))

-- what was noted of the instruction was written
pub run_performed : (core : Core) (shown : Shown) {done : InstructionRun} {seen : List Read} {wrote : List Write}
    {bytes now : Bytes}
    → Notes (instruction_run core shown) done [] seen [] wrote bytes → now ≡ after_writes wrote bytes
    → Performs (instruction_run core shown) done [] seen [] wrote bytes now
unfolding after_writes
run_performed core shown noted written = Performs-noted (instruction_run core shown) noted written

-- it ran on the hart as the row's instruction finds it
pub step_began : (core : Core) (shown : Shown) {before : Core} {done : InstructionRun} {s0 s1 : List Read}
    {w0 w1 : List Write} {b0 b1 : Bytes}
    → before ≡ before_instruction core shown
    → Performs (instruction_run before shown) done s0 s1 w0 w1 b0 b1
    → Performs (instruction_run (before_instruction core shown) shown) done s0 s1 w0 w1 b0 b1
step_began core shown {done} {s0} {s1} {w0} {w1} {b0} {b1} is did =
    let P : Core → Type 0 = λ b. Performs (instruction_run b shown) done s0 s1 w0 w1 b0 b1 in
    subst P is did

-- the hart as a row's instruction finds it, but for the order index, which has still to move on
pub record Enters (core : Core) (shown : Shown) (entered : Core) (lacks : Bool) : Type 0 where
  pub before : core_after_count entered shown ≡ before_instruction core shown
  pub lacks_is : lacks ≡ lacks_interrupt (core_after_count core shown) shown

-- no interrupt is asked for, and one that is asked for is entered where it can be
pub enters_at_once : (core : Core) (shown : Shown) → asks_interrupt core shown ≡ false → Enters core shown core false
unfolding before_instruction core_after_interrupt lacks_interrupt core_after_count asks_interrupt
enters_at_once core shown quiet = record {
  before = ap (λ b. if b then core_after_interrupt_by (core_after_count core shown)
      (interrupt_of (core_after_count core shown) shown) else core_after_count core shown) (sym quiet);
  lacks_is = ap (λ b. if b then is_none (interrupt_of (core_after_count core shown) shown) else false) (sym quiet);
}

-- the order index moves on after an interrupt's entry as before it
entered_by : (core : Core) (shown : Shown) (interrupt : Option (ℕ × Mode))
    → core_after_count (core_after_interrupt_by core interrupt) shown
    ≡ core_after_interrupt_by (core_after_count core shown) interrupt
unfolding core_after_count core_after_entry
entered_by core shown None = refl
entered_by core shown (Some interrupt) = refl

pub enters_interrupt : (core : Core) (shown : Shown) {entered : Core} {lacks : Bool} → asks_interrupt core shown ≡ true
    → entered ≡ core_after_interrupt core shown → lacks ≡ lacks_interrupt core shown
    → Enters core shown entered lacks
unfolding before_instruction core_after_interrupt lacks_interrupt core_after_count asks_interrupt
enters_interrupt core shown {entered} asks is lacks =
    let found = interrupt_of core shown in
    let so : entered ≡ core_after_interrupt_by core found =
    is ∙ ap (λ b. if b then core_after_interrupt_by core found else core) asks in
    record {
      before =
          ap (λ c. core_after_count c shown) so ∙ entered_by core shown found
          ∙ ap (λ b. if b then core_after_interrupt_by (core_after_count core shown) found
          else core_after_count core shown) (sym asks);
      lacks_is = lacks;
    }

-- what a step gives, by what each phase of it gives
pub gave_parts : (core : Core) (shown : Shown) (done : InstructionRun) {before next : Core} {lacks : Bool}
    {expected : Expected}
    → before ≡ before_instruction core shown → before.choices ≡ core.choices
    → lacks ≡ lacks_interrupt (core_after_count core shown) shown → next ≡ core_after_run done shown
    → expected ≡ Retired (retired_by core.next_order lacks before shown done)
    → record { next = next; expected = expected } ≡ step_result_of core shown done
unfolding step_result_of expected_of
gave_parts core shown done {before} {next} {lacks} {expected} begins kept lacks_is ends is =
    let tells : Retired (retired_by core.next_order lacks before shown done) ≡ expected_of core shown done =
    λ i. Retired (record {
      order = core.next_order;
      lacks_interrupt = lacks_is i;
      pc = (begins i).pc;
      mode = (begins i).mode;
      insn = insn_of done.executed;
      insn_bits = (kept i).insn_bits;
      effects = effects_of (begins i) done.core done.executed;
      csrs = csrs_around (shows_csr shown) (begins i).csrs (core_after_run done shown).csrs;
      lines = (pending_lines_of shown).up;
    }) in
    let said : expected ≡ expected_of core shown done = is ∙ tells in
    λ i. record { next = ends i; expected = said i }

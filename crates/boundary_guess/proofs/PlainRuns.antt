-- What an instruction that is neither of SYSTEM nor atomic does: it raises a fault, or changes a register and pc, and
-- stores where it is a store.
use Rattle.std.proofs.Common.{◌≡◌, ℕ, ◌+◌, ◌-◌, ◌/◌, ◌^◌, ◌<◌, Bool, true, false, List, [], ◌∷◌, ◌++◌, Option, Some}
use Rattle.std.proofs.Common.{None}
use Rattle.std.proofs.Common.{refl, sym, ap, ◌∙◌, subst, Ok, Err, Result, if◌then◌else◌, lit<}
use Rattle.std.specs.Prelude.{IfOk}
use Rattle.std.proofs.lemmas.Nat.{mod_below, pow_pos}
use Rattle.hart_words.specs.declared.access_size.AccessSize.{AccessSize}
use Rattle.hart_words.specs.declared.access_size.AccessSize.TheVariants.{Byte, Halfword, Word, Doubleword}
use Rattle.hart_words.specs.AccessSizes.{bits_of, bytes_of}
use Rattle.hart_words.specs.declared.accesses.Write.{Write}
use Rattle.hart_words.specs.Memory.{Bytes, after_writes}
use Rattle.hart_words.specs.Actions.{Run, pure, mapped, write_memory}
use Rattle.hart_words.proofs.Runs.{run_then-is}
use Rattle.rv_decode.specs.declared.operation.Op.{Op}
use Rattle.rv_decode.specs.declared.operation.Op.TheVariants as ops
use Rattle.rv_decode.specs.declared.operation.LoadOp.{LoadOp}
use Rattle.rv_decode.specs.declared.operation.LoadOp.TheVariants as loads
use Rattle.rv_integer.specs.declared.int_result.IntResult.TheVariants as results
use Rattle.rv_integer.specs.declared.int_result.MemoryOp.TheVariants as memory
use Rattle.rv_integer.specs.declared.int_result.MemoryRequest.{MemoryRequest}
use Rattle.rv_integer.specs.Results.{result_of, load_of, low_bits, size_of_store, wrapped_sum}
use Rattle.rvfi_rows.specs.declared.expected.Accessed.{Accessed}
use Rattle.mem_access.specs.declared.place.AccessRequest.{AccessRequest}
use Rattle.mem_access.specs.declared.place.Place.{Place}
use Rattle.mem_access.specs.declared.place.Atomicity.TheVariants.{Plain}
use Rattle.mem_access.specs.Accesses.{Exception, LocatedValue, Places, data_store, first_len, store_place_of}
use Rattle.hart_step.specs.declared.state.Core.{Core}
use Rattle.hart_step.specs.declared.choices.RowChoices.{RowChoices}
use Rattle.hart_step.specs.declared.instruction.Instruction.{Instruction}
use Rattle.hart_step.specs.declared.memory.AccessResult.{AccessResult}
use Rattle.hart_step.specs.MemoryAccess.{expected_access, memory_access, access_result_of}
use Rattle.hart_step.specs.MemoryAccess.{access_after_location, access_at_places, device_refuses, fault_of}
use Rattle.hart_step.specs.MemoryAccess.{located_access, put, put_at, put_to}
use Rattle.hart_step.specs.MemoryAccess.{found_without_value}
use Rattle.hart_step.specs.MemoryAccess.{number_written}
use Rattle.hart_step.specs.Instructions.{Completion, after_access, execution_of, execution_by, first_value}
use Rattle.hart_step.specs.Instructions.{core_after_retirement, second_value}
use Rattle.hart_step.specs.PlainRows.{is_store}
use Rattle.boundary_guess.proofs.Faults.{IsFault, RaisesFaults, all_faults, load_raises, store_raises}
use Rattle.boundary_guess.proofs.NoSets.{SetsNone, located_none}
use Rattle.boundary_guess.proofs.PlainOps.{is_plain_op}
use Rattle.boundary_guess.proofs.StorePlaces.{StandAt, store_stands}

-- ---- what an access writes

-- what is put at the places of a store
abbrev pub writes_at : Places → MemoryRequest → ℕ → List Write
writes_at (place, None) request value =
    if place.is_device then [] else record { pa = place.pa; len = bytes_of request.size; value = value } ∷ []
writes_at (first, Some second) request value =
    let low_len = first_len request.address (bytes_of request.size) in
    record { pa = first.pa; len = low_len; value = value }
    ∷ record { pa = second.pa; len = bytes_of request.size - low_len; value = value / 256 ^ low_len } ∷ []

abbrev pub writes_to : Places → MemoryRequest → Option ℕ → List Write
writes_to places request None = []
writes_to places request (Some value) = writes_at places request value

put_by : (io : Bool) (place : Place) (len value : ℕ) (bytes : Bytes)
    → ((put_to place len value io).run bytes).wrote
    ≡ (if io then [] else record { pa = place.pa; len = len; value = value } ∷ [])
unfolding pure write_memory
put_by true place len value bytes = refl
put_by false place len value bytes = refl

put_at_writes : (places : Places) (request : MemoryRequest) (value : ℕ) (bytes : Bytes)
    → ((put_at places request value).run bytes).wrote ≡ writes_at places request value
unfolding write_memory
put_at_writes (place, None) request value bytes = put_by place.is_device place (bytes_of request.size) value bytes
put_at_writes (first, Some second) request value bytes =
    let low_len = first_len request.address (bytes_of request.size) in
    let low : Write = record { pa = first.pa; len = low_len; value = value } in
    let high : Write =
    record { pa = second.pa; len = bytes_of request.size - low_len; value = value / 256 ^ low_len } in
    ap (λ run. run.wrote) (run_then-is (write_memory low) (λ _. write_memory high) bytes)

put_writes : (places : Places) (request : MemoryRequest) (value : Option ℕ) (bytes : Bytes)
    → ((put places request value).run bytes).wrote ≡ writes_to places request value
unfolding put pure
put_writes places request None bytes = refl
put_writes places request (Some value) bytes = put_at_writes places request value bytes

-- what comes of a place, and what is written there
abbrev pub answer_by : Bool → Core → RowChoices → MemoryRequest → LocatedValue → Result AccessResult Exception
answer_by true core choices request found = Err (fault_of request.op, request.address)
answer_by false core choices request found = Ok (access_result_of core choices request found)

abbrev pub answer_from : Core → RowChoices → MemoryRequest → Result LocatedValue Exception
    → Result AccessResult Exception
answer_from core choices request (Err exception) = Err exception
answer_from core choices request (Ok found) =
    answer_by (device_refuses core choices found.0) core choices request found

abbrev writes_by : Bool → Core → RowChoices → MemoryRequest → LocatedValue → List Write
writes_by true core choices request found = []
writes_by false core choices request (first, second, held) =
    writes_to (first, second) request
    (number_written (access_result_of core choices request (first, second, held)).access)

abbrev writes_from : Core → RowChoices → MemoryRequest → Result LocatedValue Exception → List Write
writes_from core choices request (Err exception) = []
writes_from core choices request (Ok found) =
    writes_by (device_refuses core choices found.0) core choices request found

answered_value : (core : Core) (choices : RowChoices) (request : MemoryRequest)
    (found : Result LocatedValue Exception) (bytes : Bytes)
    → ((access_after_location core choices request found).run bytes).value ≡ answer_from core choices request found
unfolding pure mapped
answered_value core choices request (Err exception) bytes = refl
answered_value core choices request (Ok found) bytes = by (device_refuses core choices found.0)
  where
    by : (refuses : Bool)
        → ((if refuses then pure (Err (fault_of request.op, request.address))
        else access_at_places core choices request found).run bytes).value
        ≡ answer_by refuses core choices request found
    by true = refl
    by false = refl

answered_writes : (core : Core) (choices : RowChoices) (request : MemoryRequest)
    (found : Result LocatedValue Exception) (bytes : Bytes)
    → ((access_after_location core choices request found).run bytes).wrote ≡ writes_from core choices request found
unfolding pure mapped
answered_writes core choices request (Err exception) bytes = refl
answered_writes core choices request (Ok (first, second, held)) bytes = by (device_refuses core choices first)
  where
    by : (refuses : Bool)
        → ((if refuses then pure (Err (fault_of request.op, request.address))
        else access_at_places core choices request (first, second, held)).run bytes).wrote
        ≡ writes_by refuses core choices request (first, second, held)
    by true = refl
    by false =
        put_writes (first, second) request
        (number_written (access_result_of core choices request (first, second, held)).access) bytes

pub accessed_value : (core : Core) (choices : RowChoices) (request : MemoryRequest) (bytes : Bytes)
    → ((memory_access core choices request).run bytes).value
    ≡ answer_from core choices request ((located_access core request).run bytes).value
unfolding memory_access
accessed_value core choices request bytes =
    let before = (located_access core request).run bytes in
    ap (λ run. run.value) (run_then-is (located_access core request) (access_after_location core choices request) bytes)
    ∙ answered_value core choices request before.value (after_writes before.wrote bytes)

accessed_writes : (core : Core) (choices : RowChoices) (request : MemoryRequest) (bytes : Bytes)
    → SetsNone core.choices
    → ((memory_access core choices request).run bytes).wrote
    ≡ writes_from core choices request ((located_access core request).run bytes).value
unfolding memory_access
accessed_writes core choices request bytes faults =
    let before = (located_access core request).run bytes in
    let now = after_writes before.wrote bytes in
    ap (λ run. run.wrote) (run_then-is (located_access core request) (access_after_location core choices request) bytes)
    ∙ ap (λ wrote. wrote ++ ((access_after_location core choices request before.value).run now).wrote)
    (located_none core request faults bytes)
    ∙ answered_writes core choices request before.value now

-- ---- what is done

-- the destination has a value, and the hart goes on somewhere
pub record Leaves (core : Core) (i : Instruction) (after : Core) : Type 0 where
  pub value : ℕ
  pub next : ℕ
  pub is : after ≡ core_after_retirement core i value next

-- the access that a store asks for
abbrev pub store_request : Core → MemoryRequest → AccessRequest
store_request core request = data_store core.csrs core.choices core.mode (bytes_of request.size) Plain

-- the bytes of a store were put where it goes
pub record StoresAt (core : Core) (places : Places) (access : Option Accessed) (wrote : List Write) : Type 0 where
  pub request : MemoryRequest
  pub value : ℕ
  pub address : request.address < 2 ^ 64
  pub fits : value < 2 ^ bits_of request.size
  pub made : access ≡ expected_access request places.0 None (Some value)
  pub wrote_is : wrote ≡ writes_at places request value
  pub stands : StandAt core (store_request core request) request.address places

pub record Stores (core : Core) (access : Option Accessed) (wrote : List Write) : Type 0 where
  pub places : Places
  pub at : StoresAt core places access wrote

abbrev pub Touches : Bool → Core → Option Accessed → List Write → Type 0
Touches false core access wrote = wrote ≡ []
Touches true core access wrote = Stores core access wrote

pub record IsDone (core : Core) (i : Instruction) (stores : Bool) (done : Completion) (wrote : List Write) : Type
    0 where
  pub leaves : Leaves core i done.core
  pub touches : Touches stores core done.access wrote

abbrev pub Does : Core → Instruction → Bool → Result Completion Exception → List Write → Type 0
Does core i stores (Err exception) wrote = IsFault exception.0
Does core i stores (Ok done) wrote = IsDone core i stores done wrote

abbrev pub DoesBy : Core → Instruction → Bool → Run (Result Completion Exception) → Type 0
DoesBy core i stores run = Does core i stores run.value run.wrote

-- a load
loaded_does : (core : Core) (choices : RowChoices) (i : Instruction) (address : ℕ) (size : AccessSize) (signed : Bool)
    (found : Result LocatedValue Exception) → RaisesFaults found
    → (let request : MemoryRequest = record { address = address; size = size; op = memory.Load signed } in
    Does core i false (after_access core i (answer_from core choices request found))
    (writes_from core choices request found))
unfolding after_access access_result_of
loaded_does core choices i address size signed (Err exception) faults = faults
loaded_does core choices i address size signed (Ok (first, second, held)) faults =
    by (device_refuses core choices first)
  where
    request : MemoryRequest
    request = record { address = address; size = size; op = memory.Load signed }

    by : (refuses : Bool)
        → Does core i false (after_access core i (answer_by refuses core choices request (first, second, held)))
        (writes_by refuses core choices request (first, second, held))
    by true = refl
    by false = record { leaves = record { value = _; next = _; is = refl }; touches = refl }

access_does : (core : Core) (choices : RowChoices) (i : Instruction) (request : MemoryRequest) (stores : Bool)
    (bytes : Bytes) → SetsNone core.choices
    → Does core i stores
    (after_access core i (answer_from core choices request ((located_access core request).run bytes).value))
    (writes_from core choices request ((located_access core request).run bytes).value)
    → DoesBy core i stores ((execution_by core choices i (results.Access request)).run bytes)
unfolding mapped
access_does core choices i request stores bytes faults does =
    let P : Result AccessResult Exception → Type 0 =
    λ answer. Does core i stores (after_access core i answer)
    ((memory_access core choices request).run bytes).wrote in
    let Q : List Write → Type 0 =
    λ wrote. Does core i stores
    (after_access core i (answer_from core choices request ((located_access core request).run bytes).value))
    wrote in
    subst P (sym (accessed_value core choices request bytes))
    (subst Q (sym (accessed_writes core choices request bytes faults)) does)

load_does : (core : Core) (choices : RowChoices) (i : Instruction) (address : ℕ) (size : AccessSize) (signed : Bool)
    (bytes : Bytes) → SetsNone core.choices
    → DoesBy core i false
    ((execution_by core choices i
    (results.Access (record { address = address; size = size; op = memory.Load signed }))).run bytes)
unfolding located_access
load_does core choices i address size signed bytes faults =
    let request : MemoryRequest = record { address = address; size = size; op = memory.Load signed } in
    access_does core choices i request false bytes faults
    (loaded_does core choices i address size signed ((located_access core request).run bytes).value
    (load_raises (λ exception. IsFault exception.0) core address (bytes_of size) Plain bytes (all_faults address)))

-- a store
record IsStoreOf (address : ℕ) (size : AccessSize) (value : ℕ) : Type 0 where
  pub address_fits : address < 2 ^ 64
  pub value_fits : value < 2 ^ bits_of size

-- what becomes of its places
record AreStorePlaces (core : Core) (address : ℕ) (size : AccessSize) (places : Result Places Exception) : Type 0 where
  pub faults : RaisesFaults places
  pub stand : IfOk places (StandAt core (data_store core.csrs core.choices core.mode (bytes_of size) Plain) address)

stored_does : {core : Core} {address : ℕ} {size : AccessSize} {value : ℕ} (choices : RowChoices) (i : Instruction)
    (places : Result Places Exception) → IsStoreOf address size value → AreStorePlaces core address size places
    → (let request : MemoryRequest = record { address = address; size = size; op = memory.Store value } in
    Does core i true (after_access core i (answer_from core choices request (found_without_value places)))
    (writes_from core choices request (found_without_value places)))
unfolding after_access access_result_of
stored_does choices i (Err exception) store found = found.faults
stored_does {core} {address} {size} {value} choices i (Ok (first, second)) store found =
    by (device_refuses core choices first)
  where
    request : MemoryRequest
    request = record { address = address; size = size; op = memory.Store value }

    by : (refuses : Bool)
        → Does core i true (after_access core i (answer_by refuses core choices request (first, second, 0)))
        (writes_by refuses core choices request (first, second, 0))
    by true = refl
    by false = record {
      leaves = record { value = _; next = _; is = refl };
      touches = record {
        places = (first, second);
        at = record {
          request = request;
          value = value;
          address = store.address_fits;
          fits = store.value_fits;
          made = refl;
          wrote_is = refl;
          stands = found.stand;
        };
      };
    }

store_does : (core : Core) (choices : RowChoices) (i : Instruction) {address : ℕ} {size : AccessSize} {value : ℕ}
    (bytes : Bytes) → SetsNone core.choices → IsStoreOf address size value
    → DoesBy core i true
    ((execution_by core choices i
    (results.Access (record { address = address; size = size; op = memory.Store value }))).run bytes)
unfolding located_access mapped
store_does core choices i {address} {size} {value} bytes faults store =
    let request : MemoryRequest = record { address = address; size = size; op = memory.Store value } in
    let way = store_place_of core.csrs core.map core.choices core.mode address (bytes_of size) Plain in
    let found : AreStorePlaces core address size (way.run bytes).value = record {
      faults =
          store_raises (λ exception. IsFault exception.0) core address (bytes_of size) Plain bytes
          (all_faults address);
      stand = store_stands core address (bytes_of size) bytes;
    } in
    access_does core choices i request true bytes faults
    (stored_does choices i (way.run bytes).value store found)

load_by : (core : Core) (choices : RowChoices) (i : Instruction) (op : LoadOp) (address : ℕ) (bytes : Bytes)
    → SetsNone core.choices → DoesBy core i false ((execution_by core choices i (load_of op address)).run bytes)
load_by core choices i loads.Lb address bytes faults = load_does core choices i address Byte true bytes faults
load_by core choices i loads.Lh address bytes faults = load_does core choices i address Halfword true bytes faults
load_by core choices i loads.Lw address bytes faults = load_does core choices i address Word true bytes faults
load_by core choices i loads.Ld address bytes faults = load_does core choices i address Doubleword true bytes faults
load_by core choices i loads.Lbu address bytes faults = load_does core choices i address Byte false bytes faults
load_by core choices i loads.Lhu address bytes faults = load_does core choices i address Halfword false bytes faults
load_by core choices i loads.Lwu address bytes faults = load_does core choices i address Word false bytes faults

does_by : (core : Core) (choices : RowChoices) (i : Instruction) (op : Op) (a b : ℕ) (bytes : Bytes)
    → is_plain_op op ≡ true × SetsNone core.choices
    → DoesBy core i (is_store (Some op)) ((execution_by core choices i (result_of op a b core.pc i.len)).run bytes)
unfolding result_of pure
does_by core choices i (ops.Lui rd imm) a b bytes plain =
    record { leaves = record { value = _; next = _; is = refl }; touches = refl }
does_by core choices i (ops.Auipc rd imm) a b bytes plain =
    record { leaves = record { value = _; next = _; is = refl }; touches = refl }
does_by core choices i (ops.Jal rd offset) a b bytes plain =
    record { leaves = record { value = _; next = _; is = refl }; touches = refl }
does_by core choices i (ops.Jalr rd rs1 offset) a b bytes plain =
    record { leaves = record { value = _; next = _; is = refl }; touches = refl }
does_by core choices i (ops.Branch op rs1 rs2 offset) a b bytes plain =
    record { leaves = record { value = _; next = _; is = refl }; touches = refl }
does_by core choices i (ops.Load op rd rs1 offset) a b bytes plain =
    load_by core choices i op (wrapped_sum a offset) bytes plain.1
does_by core choices i (ops.Store op rs1 rs2 offset) a b bytes plain =
    let size = size_of_store op in
    let store : IsStoreOf (wrapped_sum a offset) size (low_bits size b) = record {
      address_fits = mod_below (a + offset) (2 ^ 64) (lit< tt);
      value_fits = mod_below b (2 ^ bits_of size) (pow_pos (bits_of size));
    } in
    store_does core choices i bytes plain.1 store
does_by core choices i (ops.Immediate op rd rs1 imm) a b bytes plain =
    record { leaves = record { value = _; next = _; is = refl }; touches = refl }
does_by core choices i (ops.ImmediateWord op rd rs1 imm) a b bytes plain =
    record { leaves = record { value = _; next = _; is = refl }; touches = refl }
does_by core choices i (ops.Register op rd rs1 rs2) a b bytes plain =
    record { leaves = record { value = _; next = _; is = refl }; touches = refl }
does_by core choices i (ops.RegisterWord op rd rs1 rs2) a b bytes plain =
    record { leaves = record { value = _; next = _; is = refl }; touches = refl }
does_by core choices i (ops.BitsRegister op rd rs1 rs2) a b bytes plain =
    record { leaves = record { value = _; next = _; is = refl }; touches = refl }
does_by core choices i (ops.BitsImmediate op rd rs1 imm) a b bytes plain =
    record { leaves = record { value = _; next = _; is = refl }; touches = refl }
does_by core choices i (ops.BitsUnary op rd rs1) a b bytes plain =
    record { leaves = record { value = _; next = _; is = refl }; touches = refl }
does_by core choices i ops.Fence a b bytes plain =
    record { leaves = record { value = _; next = _; is = refl }; touches = refl }
does_by core choices i ops.FenceI a b bytes plain =
    record { leaves = record { value = _; next = _; is = refl }; touches = refl }
does_by core choices i ops.Ecall a b bytes plain = absurd (let none = plain.0 in cc)
does_by core choices i ops.Ebreak a b bytes plain = absurd (let none = plain.0 in cc)
does_by core choices i ops.Mret a b bytes plain = absurd (let none = plain.0 in cc)
does_by core choices i ops.Sret a b bytes plain = absurd (let none = plain.0 in cc)
does_by core choices i ops.Wfi a b bytes plain = absurd (let none = plain.0 in cc)
does_by core choices i (ops.SfenceVma rs1 rs2) a b bytes plain = absurd (let none = plain.0 in cc)
does_by core choices i (ops.Csr op rd rs1 csr) a b bytes plain = absurd (let none = plain.0 in cc)
does_by core choices i (ops.CsrImmediate op rd imm csr) a b bytes plain = absurd (let none = plain.0 in cc)
does_by core choices i (ops.LoadReserved width rd rs1) a b bytes plain = absurd (let none = plain.0 in cc)
does_by core choices i (ops.StoreConditional width rd rs1 rs2) a b bytes plain = absurd (let none = plain.0 in cc)
does_by core choices i (ops.Amo op width rd rs1 rs2) a b bytes plain = absurd (let none = plain.0 in cc)

pub plain_does : (core : Core) (choices : RowChoices) (i : Instruction) (bytes : Bytes) → is_plain_op i.op ≡ true
    → SetsNone core.choices → DoesBy core i (is_store (Some i.op)) ((execution_of core choices i).run bytes)
unfolding execution_of
plain_does core choices i bytes plain faults =
    does_by core choices i i.op (first_value core i.op) (second_value core i.op) bytes (plain, faults)

-- An SC stores nothing outside the reserved block.
use Rattle.std.proofs.Common.{◌≡◌, ℕ, Bool, true, false, not, ◌&&◌, [], refl, sym, ap, ◌∙◌, subst, Ok, Err}
use Rattle.std.proofs.Common.{Result, Option, Some, None, All, if◌then◌else◌}
use Rattle.std.specs.Prelude.{◌%◌, ◌==◌, IfOk}
use Rattle.std.proofs.lemmas.List.Elements.{All-nil, All-push}
use Rattle.hart_words.specs.declared.accesses.Write.{Write}
use Rattle.hart_words.specs.declared.privilege.Cause.TheVariants.{StoreAddressMisaligned}
use Rattle.hart_words.specs.AccessSizes.{bytes_of}
use Rattle.hart_words.specs.Memory.{Bytes, after_writes}
use Rattle.hart_words.specs.Options.{are_done}
use Rattle.hart_words.specs.Signals.{Shown}
use Rattle.hart_words.specs.Actions.{Action, pure, mapped, write_memory}
use Rattle.rv_integer.specs.declared.int_result.IntResult.{IntResult}
use Rattle.rv_integer.specs.declared.int_result.IntResult.TheVariants.{Access}
use Rattle.rv_integer.specs.declared.int_result.MemoryRequest.{MemoryRequest}
use Rattle.rv_integer.specs.declared.int_result.MemoryOp.{MemoryOp}
use Rattle.rv_integer.specs.declared.int_result.MemoryOp.TheVariants.{StoreConditional}
use Rattle.rv_atomic.specs.declared.reservation.Reservation.{Reservation}
use Rattle.rv_atomic.specs.Blocks.{is_covered}
use Rattle.mem_access.specs.declared.place.Place.{Place}
use Rattle.mem_access.specs.declared.place.Atomicity.TheVariants.{Reserved}
use Rattle.mem_access.specs.Accesses.{Exception, LocatedValue, Places, one_place, data_places_of, data_store}
use Rattle.mem_access.specs.Accesses.{part_place_of}
use Rattle.mem_access.specs.Accesses.{split_places_of, store_place_of, whole_place_of}
use Rattle.hart_step.specs.declared.state.Core.{Core}
use Rattle.hart_step.specs.declared.choices.RowChoices.{RowChoices}
use Rattle.hart_step.specs.declared.memory.AccessResult.{AccessResult}
use Rattle.hart_step.specs.Choices.{says_stored}
use Rattle.hart_step.specs.MemoryAccess.{found_without_value, located_access, located_access_by}
use Rattle.hart_step.specs.MemoryAccess.{store_places, expected_access, is_stored, access_result_by, access_result_of}
use Rattle.hart_step.specs.MemoryAccess.{access_after_location, access_at_places, device_refuses, fault_of}
use Rattle.hart_step.specs.MemoryAccess.{number_written, put, put_to}
use Rattle.hart_step.specs.Steps.{before_instruction}
use Rattle.hart_step.specs.Laws.{InReservedBlock, StoresInReservedBlock, bytes_after_fetch, request_at_pc}
use Rattle.hart_step.proofs.Phases.{begun_reservation}
use Rattle.hart_step.proofs.StepSets.{access_stores, step_stores}

-- an atomic access has one part, and so one place
abbrev pub IsOnePlace : Result Places Exception → Type 0
IsOnePlace found = IfOk found (λ places. places.1 ≡ None)

alone_is_one : (place : Result Place Exception) → IsOnePlace (one_place place)
alone_is_one (Err exception) = tt
alone_is_one (Ok place) = refl

never_split : (misaligned done : Bool) → (misaligned && not true && done) ≡ false
never_split true done = refl
never_split false done = refl

one_unless_split : (whole split : Action (Result Places Exception)) (exception : Exception) (bytes : Bytes)
    (aligned is_split : Bool)
    → IsOnePlace (whole.run bytes).value → is_split ≡ false
    → IsOnePlace ((if aligned then whole else if is_split then split else pure (Err exception)).run bytes).value
unfolding pure
one_unless_split whole split exception bytes true is_split one none = one
one_unless_split whole split exception bytes false true one none = cc
one_unless_split whole split exception bytes false false one none = tt

pub atomic_is_one : (core : Core) (va len : ℕ) (bytes : Bytes)
    → IsOnePlace ((store_places core va len Reserved).run bytes).value
unfolding store_place_of data_places_of mapped
atomic_is_one core va len bytes =
    let request = data_store core.csrs core.choices core.mode len Reserved in
    let aligned = va % len == 0 in
    let parts = split_places_of core.csrs core.map core.choices (record request { devices = false }) va in
    let place = part_place_of core.csrs core.map core.choices request (record { va = va; len = len }) in
    one_unless_split (whole_place_of core.csrs core.map core.choices request va) parts (StoreAddressMisaligned, va)
    bytes aligned (not aligned && not true && are_done core.choices.misaligned)
    (alone_is_one (place.run bytes).value) (never_split (not aligned) (are_done core.choices.misaligned))

-- so has an SC, as it is found
abbrev IsOneFound : Result LocatedValue Exception → Type 0
IsOneFound found = IfOk found (λ f. f.1 ≡ None)

one_found : (found : Result Places Exception) → IsOnePlace found → IsOneFound (found_without_value found)
one_found (Err exception) one = tt
one_found (Ok (first, second)) one = one

located_one : (core : Core) (request : MemoryRequest) (value : ℕ) (bytes : Bytes)
    → request.op ≡ StoreConditional value → IsOneFound ((located_access core request).run bytes).value
unfolding located_access mapped
located_one core request value bytes is =
    let len = bytes_of request.size in
    let P : MemoryOp → Type 0 = λ o. IsOneFound ((located_access_by core request.address len o).run bytes).value in
    subst P (sym is)
    (one_found ((store_places core request.address len Reserved).run bytes).value
    (atomic_is_one core request.address len bytes))

abbrev pub IsCovered : Core → Write → Type 0
IsCovered core write = is_covered core.reservation.block write.pa write.len ≡ true

put_in : (core : Core) (place : Place) (len value : ℕ) (io : Bool) (bytes : Bytes)
    → is_covered core.reservation.block place.pa len ≡ true
    → InReservedBlock core ((put_to place len value io).run bytes).wrote
unfolding pure write_memory
put_in core place len value true bytes covered = All-nil (IsCovered core)
put_in core place len value false bytes covered =
    let write : Write = record { pa = place.pa; len = len; value = value } in
    All-push (IsCovered core) [] write (All-nil (IsCovered core)) covered

abbrev pub answer_for : MemoryRequest → Place → ℕ → Bool → AccessResult
answer_for request place value true =
    record {
      value =
          0;
      access = expected_access request place None (Some value);
      reservation = record { block = None };
    }
answer_for request place value false = record { value = 1; access = None; reservation = record { block = None } }

answer_if : (core : Core) (request : MemoryRequest) (place : Place) (value : ℕ) (stored : Bool) (bytes : Bytes)
    → (stored ≡ true → is_covered core.reservation.block place.pa (bytes_of request.size) ≡ true)
    → InReservedBlock core
    ((put (place, None) request (number_written (answer_for request place value stored).access)).run bytes).wrote
unfolding put pure
answer_if core request place value true bytes covered =
    put_in core place (bytes_of request.size) value place.is_device bytes (covered refl)
answer_if core request place value false bytes covered = All-nil (IsCovered core)

if_is : (request : MemoryRequest) (place : Place) (value : ℕ) (stored : Bool)
    → (if stored then answer_for request place value true else answer_for request place value false)
    ≡ answer_for request place value stored
if_is request place value true = refl
if_is request place value false = refl

left_of : (a b : Bool) → (a && b) ≡ true → a ≡ true
left_of true b both = refl
left_of false b both = cc

placed_in : (core : Core) (choices : RowChoices) (request : MemoryRequest) (value : ℕ) (found : LocatedValue)
    (bytes : Bytes) → request.op ≡ StoreConditional value → found.1 ≡ None
    → InReservedBlock core ((access_at_places core choices request found).run bytes).wrote
unfolding mapped access_result_of
placed_in core choices request value (first, Some second, held) bytes is one = cc
placed_in core choices request value (first, None, held) bytes is one =
    let P : MemoryOp → Type 0 =
    λ o. InReservedBlock core
    ((put (first, None) request (number_written (access_result_by core choices request first held o).access)).run
    bytes).wrote in
    let Q : AccessResult → Type 0 =
    λ a. InReservedBlock core ((put (first, None) request (number_written a.access)).run bytes).wrote in
    let stored = is_stored core choices request first in
    let covered : stored ≡ true → is_covered core.reservation.block first.pa (bytes_of request.size) ≡ true =
    left_of (is_covered core.reservation.block first.pa (bytes_of request.size)) (says_stored choices) in
    subst P (sym is)
    (subst Q (sym (if_is request first value stored)) (answer_if core request first value stored bytes covered))

answered_in : (core : Core) (choices : RowChoices) (request : MemoryRequest) (value : ℕ)
    (found : Result LocatedValue Exception) (bytes : Bytes)
    → request.op ≡ StoreConditional value → IsOneFound found
    → InReservedBlock core ((access_after_location core choices request found).run bytes).wrote
unfolding pure
answered_in core choices request value (Err exception) bytes is one = All-nil (IsCovered core)
answered_in core choices request value (Ok found) bytes is one = by (device_refuses core choices found.0)
  where
    by : (refuses : Bool)
        → InReservedBlock core ((if refuses then pure (Err (fault_of request.op, request.address))
        else access_at_places core choices request found).run bytes).wrote
    by true = All-nil (IsCovered core)
    by false = placed_in core choices request value found bytes is one

stores_covered : (core : Core) (choices : RowChoices) (request : MemoryRequest) (value : ℕ) (bytes : Bytes)
    → request.op ≡ StoreConditional value → InReservedBlock core (access_stores core choices request bytes)
stores_covered core choices request value bytes is =
    let found = (located_access core request).run bytes in
    answered_in core choices request value found.value (after_writes found.wrote bytes) is
    (located_one core request value bytes is)

same_request : (asks : Option IntResult) (one other : MemoryRequest)
    → asks ≡ Some (Access one) → asks ≡ Some (Access other) → one ≡ other
same_request asks one other first second = cc

pub stores_in_block : (core : Core) (shown : Shown) (bytes : Bytes) (request : MemoryRequest) (value : ℕ)
    → request_at_pc (before_instruction core shown) bytes ≡ Some (Access request)
    → request.op ≡ StoreConditional value → StoresInReservedBlock core shown bytes
stores_in_block core shown bytes request value asks is =
    let begins = before_instruction core shown in
    step_stores core shown bytes (InReservedBlock core) (record {
      none = All-nil (IsCovered core);
      asked =
          λ choices asked asking.
          let same = same_request (request_at_pc begins bytes) request asked asks asking in
          let op : asked.op ≡ StoreConditional value = sym (ap (λ r. r.op) same) ∙ is in
          let stores = access_stores begins choices asked (bytes_after_fetch begins bytes) in
          let Q : Reservation → Type 0 = λ r. All (λ write. is_covered r.block write.pa write.len ≡ true) stores in
          subst Q (begun_reservation core shown)
          (stores_covered begins choices asked value (bytes_after_fetch begins bytes) op);
    })

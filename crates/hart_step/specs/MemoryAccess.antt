-- The access of an instruction to memory: its place, what comes of it, and what is written. From the Unprivileged ISA's
-- chapters "RV32I Base Integer Instruction Set" and "A Extension for Atomic Instructions".
use Rattle.std.specs.Prelude.{ℕ, ◌-◌, ◌*◌, ◌/◌, ◌^◌, Bool, true, false, ◌&&◌, if◌then◌else◌, Option, Some, None, Result}
use Rattle.std.specs.Prelude.{Ok, Err}
use Rattle.hart_words.specs.declared.privilege.Cause.{Cause}
use Rattle.hart_words.specs.declared.privilege.Cause.TheVariants.{LoadAccessFault, StoreAccessFault}
use Rattle.hart_words.specs.Options.{are_by_row}
use Rattle.hart_words.specs.Words.{sign_extended}
use Rattle.hart_words.specs.AccessSizes.{bytes_of}
use Rattle.hart_words.specs.Actions.{Action, pure, read_memory, write_memory, mapped, ◌>>=◌}
use Rattle.rv_integer.specs.declared.int_result.MemoryRequest.{MemoryRequest}
use Rattle.rv_integer.specs.declared.int_result.MemoryOp.{MemoryOp}
use Rattle.rv_integer.specs.declared.int_result.MemoryOp.TheVariants.{Load, LoadReserved, Store, StoreConditional, Amo}
use Rattle.rv_atomic.specs.Operations.{amo_of}
use Rattle.rv_atomic.specs.Blocks.{block_of, is_covered}
use Rattle.rvfi_rows.specs.declared.expected.Accessed.{Accessed}
use Rattle.mem_access.specs.declared.place.Atomicity.{Atomicity}
use Rattle.mem_access.specs.declared.place.Atomicity.TheVariants as atomicity
use Rattle.mem_access.specs.declared.place.Place.{Place}
use Rattle.mem_access.specs.Accesses.{Exception, LocatedValue, Places, first_len, load_result, store_place_of}
use Rattle.hart_step.specs.declared.state.Core.{Core}
use Rattle.hart_step.specs.declared.choices.RowChoices.{RowChoices}
use Rattle.hart_step.specs.declared.memory.AccessResult.{AccessResult}
use Rattle.hart_step.specs.Choices.{device_value, says_stored}

-- a store does not look at what memory has
abbrev pub found_without_value : Result Places Exception → Result LocatedValue Exception
found_without_value (Err exception) = Err exception
found_without_value (Ok (first, second)) = Ok (first, second, 0)

-- an atomic memory operation does, at its one place, unless that is a device
abbrev pub found_with_read : ℕ → Result Places Exception → Action (Result LocatedValue Exception)
found_with_read len (Err exception) = pure (Err exception)
found_with_read len (Ok (first, second)) =
    if first.is_device then pure (Ok (first, second, 0))
    else mapped (λ held. Ok (first, second, held)) (read_memory (record { pa = first.pa; len = len }))

-- LR, SC and the AMOs are atomic, LR and SC by what is reserved
abbrev pub atomicity_of : MemoryOp → Atomicity
atomicity_of (Load signed) = atomicity.Plain
atomicity_of LoadReserved = atomicity.Reserved
atomicity_of (Store value) = atomicity.Plain
atomicity_of (StoreConditional value) = atomicity.Reserved
atomicity_of (Amo op width b) = atomicity.Amo

-- the places of a store
abbrev pub store_places : Core → ℕ → ℕ → Atomicity → Action (Result Places Exception)
store_places core va len atomicity = store_place_of core.csrs core.map core.choices core.mode va len atomicity

-- a load with its places
abbrev pub load_at : Core → ℕ → ℕ → Atomicity → Action (Result LocatedValue Exception)
load_at core va len atomicity = load_result core.csrs core.map core.choices core.mode va len atomicity

-- the place of an atomic memory operation, with what memory has there
abbrev pub exchange_at : Core → ℕ → ℕ → Action (Result LocatedValue Exception)
exchange_at core va len = store_places core va len atomicity.Amo >>= found_with_read len

abbrev pub located_access_by : Core → ℕ → ℕ → MemoryOp → Action (Result LocatedValue Exception)
located_access_by core va len (Load signed) = load_at core va len atomicity.Plain
located_access_by core va len LoadReserved = load_at core va len atomicity.Reserved
located_access_by core va len (Store value) = mapped found_without_value (store_places core va len atomicity.Plain)
located_access_by core va len (StoreConditional value) =
    mapped found_without_value (store_places core va len atomicity.Reserved)
located_access_by core va len (Amo op width b) = exchange_at core va len

-- where the access goes, with what memory has there as far as the access reads it
unfoldable pub located_access : Core → MemoryRequest → Action (Result LocatedValue Exception)
located_access core request = located_access_by core request.address (bytes_of request.size) request.op

-- the access, as the comparison sees it: its physical address is that of its first byte
abbrev pub expected_access : MemoryRequest → Place → Option ℕ → Option ℕ → Option Accessed
expected_access request place read written =
    Some (record { va = request.address; pa = place.pa; len = bytes_of request.size; read = read; written = written })

-- what a load or an atomic memory operation found: a device gives what the row shows
abbrev pub value_found : RowChoices → MemoryRequest → Place → ℕ → ℕ
value_found choices request place held =
    if place.is_device then device_value choices request.address (bytes_of request.size) else held

-- a number of the access's bytes as a register gets it
abbrev pub loaded_value : Bool → MemoryRequest → ℕ → ℕ
loaded_value true request value = sign_extended (8 * bytes_of request.size) value
loaded_value false request value = value

-- an SC stores in the reserved block alone, and there as the row says
abbrev pub is_stored : Core → RowChoices → MemoryRequest → Place → Bool
is_stored core choices request place =
    is_covered core.reservation.block place.pa (bytes_of request.size) && says_stored choices

-- what comes of an access: the destination's value, the access made, and what is reserved after it. SC gives 0
-- where it stored and 1 where it did not, and leaves nothing reserved; LR reserves the block of its bytes
abbrev pub access_result_by : Core → RowChoices → MemoryRequest → Place → ℕ → MemoryOp → AccessResult
access_result_by core choices request place held (Load signed) = record {
  value = loaded_value signed request (value_found choices request place held);
  access = expected_access request place (Some (value_found choices request place held)) None;
  reservation = core.reservation;
}
access_result_by core choices request place held LoadReserved = record {
  value = loaded_value true request held;
  access = expected_access request place (Some held) None;
  reservation = record { block = Some (block_of core.choices.block_size place.pa) };
}
access_result_by core choices request place held (Store value) = record {
  value = 0;
  access = expected_access request place None (Some value);
  reservation = core.reservation;
}
access_result_by core choices request place held (StoreConditional value) =
    if is_stored core choices request place
    then record {
      value =
          0;
      access = expected_access request place None (Some value);
      reservation = record { block = None };
    }
    else record { value = 1; access = None; reservation = record { block = None } }
access_result_by core choices request place held (Amo op width b) =
    let found = value_found choices request place held in
    record {
      value = loaded_value true request found;
      access = expected_access request place (Some found) (Some (amo_of op width found b));
      reservation = core.reservation;
    }

unfoldable pub access_result_of : Core → RowChoices → MemoryRequest → LocatedValue → AccessResult
access_result_of core choices request (first, second, held) =
    access_result_by core choices request first held request.op

-- the number that is written
abbrev pub number_written : Option Accessed → Option ℕ
number_written None = None
number_written (Some access) = access.written

-- a device takes a number, and no memory changes
abbrev pub put_to : Place → ℕ → ℕ → Bool → Action (Unit {0})
put_to place len value true = pure tt
put_to place len value false = write_memory (record { pa = place.pa; len = len; value = value })

-- a number at its one place, or its low bytes at the first and the others at the second
abbrev pub put_at : Places → MemoryRequest → ℕ → Action (Unit {0})
put_at (first, None) request value = put_to first (bytes_of request.size) value first.is_device
put_at (first, Some second) request value =
    let low_len = first_len request.address (bytes_of request.size) in
    write_memory (record { pa = first.pa; len = low_len; value = value })
    >>= λ _. write_memory
    (record { pa = second.pa; len = bytes_of request.size - low_len; value = value / 256 ^ low_len })

unfoldable pub put : Places → MemoryRequest → Option ℕ → Action (Unit {0})
put places request None = pure tt
put places request (Some value) = put_at places request value

-- a device refuses the access, where devices may and the row shows a trap
abbrev pub device_refuses : Core → RowChoices → Place → Bool
device_refuses core choices place = place.is_device && (are_by_row core.choices.device_faults && choices.traps)

-- the fault of an access that is refused
abbrev pub fault_of : MemoryOp → Cause
fault_of (Load signed) = LoadAccessFault
fault_of LoadReserved = LoadAccessFault
fault_of (Store value) = StoreAccessFault
fault_of (StoreConditional value) = StoreAccessFault
fault_of (Amo op width b) = StoreAccessFault

abbrev pub access_at_places : Core → RowChoices → MemoryRequest → LocatedValue → Action (Result AccessResult Exception)
access_at_places core choices request (first, second, held) =
    let answer = access_result_of core choices request (first, second, held) in
    mapped (λ _. Ok answer) (put (first, second) request (number_written answer.access))

-- nothing is written before the access is known to be allowed
abbrev pub access_after_location : Core → RowChoices → MemoryRequest → Result LocatedValue Exception
    → Action (Result AccessResult Exception)
access_after_location core choices request (Err exception) = pure (Err exception)
access_after_location core choices request (Ok found) =
    if device_refuses core choices found.0 then pure (Err (fault_of request.op, request.address))
    else access_at_places core choices request found

-- an access
unfoldable pub memory_access : Core → RowChoices → MemoryRequest → Action (Result AccessResult Exception)
memory_access core choices request = located_access core request >>= access_after_location core choices request

-- Where A and D that are clear are page faults, no access sets an entry of a page table: a fetch, a load, and the
-- looking for the places of a store write nothing.
use Rattle.std.proofs.Common.{if◌then◌else◌}
use Rattle.std.proofs.Common.{◌≡◌, ℕ, Bool, true, false, Ok, Err, Result}
use Rattle.hart_words.specs.declared.choices.Choices.{Choices}
use Rattle.hart_words.specs.declared.options.Marks.TheVariants.{Fault}
use Rattle.hart_words.specs.AccessSizes.{bytes_of}
use Rattle.hart_words.specs.Actions.{mapped, pure, read_memory}
use Rattle.rv_integer.specs.declared.int_result.MemoryOp.{MemoryOp}
use Rattle.rv_integer.specs.declared.int_result.MemoryOp.TheVariants as memory
use Rattle.rv_integer.specs.declared.int_result.MemoryRequest.{MemoryRequest}
use Rattle.mem_access.specs.declared.place.Atomicity.{Atomicity}
use Rattle.mem_access.specs.declared.place.Atomicity.TheVariants.{Amo, Plain, Reserved}
use Rattle.mem_access.specs.Accesses.{Exception, LocatedValue, Places, load_result, store_place_of}
use Rattle.mem_access.proofs.Sets.{fetch_sets_alone, load_sets_alone, store_sets_alone}
use Rattle.hart_step.specs.declared.state.Core.{Core}
use Rattle.hart_step.specs.Instructions.{fetch_at_pc}
use Rattle.hart_step.specs.MemoryAccess.{found_with_read, found_without_value, located_access, located_access_by}
use Rattle.boundary_guess.proofs.Actions.{WritesNone, mapped_none, pure_none, read_none, then_none}

-- A and D that are clear are page faults
abbrev pub SetsNone : Choices → Type 0
SetsNone choices = choices.marks ≡ Fault

pub fetch_none : (core : Core) → SetsNone core.choices → WritesNone (fetch_at_pc core)
fetch_none core faults bytes =
    (fetch_sets_alone core.csrs core.map core.choices core.mode core.pc bytes).none faults

load_none : (core : Core) (va len : ℕ) (atomicity : Atomicity) → SetsNone core.choices
    → WritesNone (load_result core.csrs core.map core.choices core.mode va len atomicity)
load_none core va len atomicity faults bytes =
    (load_sets_alone core.csrs core.map core.choices core.mode va len atomicity bytes).none faults

store_none : (core : Core) (va len : ℕ) (atomicity : Atomicity) → SetsNone core.choices
    → WritesNone (store_place_of core.csrs core.map core.choices core.mode va len atomicity)
store_none core va len atomicity faults bytes =
    (store_sets_alone core.csrs core.map core.choices core.mode va len atomicity bytes).none faults

read_at_none : (len : ℕ) (places : Result Places Exception) → WritesNone (found_with_read len places)
read_at_none len (Err exception) = pure_none (Err exception)
read_at_none len (Ok (first, second)) = by first.is_device
  where
    by : (io : Bool)
        → WritesNone (if io then pure {A = Result LocatedValue Exception} (Ok (first, second, 0))
        else mapped (λ held. Ok (first, second, held)) (read_memory (record { pa = first.pa; len = len })))
    by true = pure_none (Ok (first, second, 0))
    by false =
        mapped_none (λ held. Ok (first, second, held)) (read_memory (record { pa = first.pa; len = len }))
        (read_none (record { pa = first.pa; len = len }))

located_by_none : (core : Core) (va len : ℕ) (op : MemoryOp) → SetsNone core.choices
    → WritesNone (located_access_by core va len op)
located_by_none core va len (memory.Load signed) faults = load_none core va len Plain faults
located_by_none core va len memory.LoadReserved faults = load_none core va len Reserved faults
located_by_none core va len (memory.Store value) faults =
    mapped_none found_without_value (store_place_of core.csrs core.map core.choices core.mode va len Plain)
    (store_none core va len Plain faults)
located_by_none core va len (memory.StoreConditional value) faults =
    mapped_none found_without_value (store_place_of core.csrs core.map core.choices core.mode va len Reserved)
    (store_none core va len Reserved faults)
located_by_none core va len (memory.Amo op width b) faults =
    then_none (store_place_of core.csrs core.map core.choices core.mode va len Amo) (found_with_read len)
    (store_none core va len Amo faults) (read_at_none len)

pub located_none : (core : Core) (request : MemoryRequest) → SetsNone core.choices
    → WritesNone (located_access core request)
unfolding located_access
located_none core request faults = located_by_none core request.address (bytes_of request.size) request.op faults

-- The access of the loop to memory.
use Rattle.std.proofs.Common.{◌≡◌, ℕ, ◌^◌, ◌<◌, true, false, [], ◌∷◌, Some, None, Ok, refl, sym, ◌∙◌, arith}
use Rattle.hart_words.specs.declared.privilege.Mode.TheVariants.{Machine}
use Rattle.hart_words.specs.declared.privilege.Access.{Access}
use Rattle.hart_words.specs.declared.privilege.Access.TheVariants.{Load, Store}
use Rattle.hart_words.specs.declared.privilege.Cause.{Cause}
use Rattle.hart_words.specs.declared.privilege.Cause.TheVariants.{LoadAddressMisaligned, StoreAddressMisaligned}
use Rattle.hart_words.specs.declared.access_size.AccessSize.TheVariants.{Doubleword}
use Rattle.hart_words.specs.declared.map.Map.{Map}
use Rattle.hart_words.specs.Choices.{plain_choices}
use Rattle.hart_words.specs.Words.{sign_extended}
use Rattle.hart_words.specs.Actions.{pure, mapped, read_memory, write_memory}
use Rattle.hart_words.specs.Memory.{Bytes, number_at, after_writes}
use Rattle.hart_words.specs.Spans.{holds_all}
use Rattle.hart_words.proofs.Runs.{run_then-is}
use Rattle.hart_words.proofs.Extended.{extends_signs}
use Rattle.std.proofs.Math.Nat.{mod-eq_of_lt}
use Rattle.csr_file.specs.Profiles.{fixed_bits, plain_profile, writable_bits}
use Rattle.csr_file.specs.Registers.{at, csrs_at_reset, csrs_at_reset_of}
use Rattle.mem_access.specs.declared.place.Atomicity.TheVariants.{Plain}
use Rattle.rv_integer.specs.declared.int_result.MemoryRequest.{MemoryRequest}
use Rattle.rv_integer.specs.declared.int_result.MemoryOp.TheVariants as memory
use Rattle.mem_access.specs.Places.{data_mode_of}
use Rattle.mem_access.specs.Accesses.{data_load, data_places_of, data_request, load_from, load_result, part_place_of}
use Rattle.mem_access.specs.Accesses.{store_place_of}
use Rattle.hart_step.specs.declared.choices.RowChoices.{RowChoices}
use Rattle.hart_step.specs.declared.state.Core.{Core}
use Rattle.hart_step.specs.MemoryAccess.{memory_access, access_result_of, access_after_location, located_access, put}
use Rattle.made_runs.specs.States.{IsMadeMap}
use Rattle.made_runs.proofs.Differences.{cell_access}
use Rattle.made_runs.proofs.Fetches.{reached_at_reset}

-- in M no other mode's accesses are made
mode_at_reset : data_mode_of csrs_at_reset Machine ≡ Machine
unfolding data_mode_of at csrs_at_reset csrs_at_reset_of plain_profile fixed_bits writable_bits
mode_at_reset = refl

cell_inside : (map : Map) → IsMadeMap map → holds_all map.ram 0x80001000 8 ≡ true
cell_inside map made = rw (made.base, made.size) refl

-- the one place of an access to the cell
cell_place : (map : Map) (access : Access) (misaligned : Cause) (bytes : Bytes) → IsMadeMap map
    → (data_places_of csrs_at_reset map plain_choices (data_request csrs_at_reset Machine access 8 true) Plain
    misaligned 0x80001000).run bytes
    ≡ record { value = Ok (record { pa = 0x80001000; is_device = false }, None); reads = []; wrote = [] }
unfolding data_places_of part_place_of mapped
cell_place map access misaligned bytes made =
    rw (mode_at_reset, reached_at_reset map access 8 true 0x80001000 bytes, cell_inside map made) refl

-- the place of the store
stored_place : (map : Map) (bytes : Bytes) → IsMadeMap map
    → (store_place_of csrs_at_reset map plain_choices Machine 0x80001000 8 Plain).run bytes
    ≡ record { value = Ok (record { pa = 0x80001000; is_device = false }, None); reads = []; wrote = [] }
unfolding store_place_of
stored_place map bytes made = cell_place map Store StoreAddressMisaligned bytes made

-- what the load finds
loaded_cell : (map : Map) (bytes : Bytes) → IsMadeMap map
    → (load_result csrs_at_reset map plain_choices Machine 0x80001000 8 Plain).run bytes
    ≡ record {
      value =
          Ok (record { pa = 0x80001000; is_device = false }, None, number_at bytes 0x80001000 8);
      reads =
          record { pa = 0x80001000; len = 8 } ∷ [];
      wrote = [];
    }
unfolding load_result mapped read_memory after_writes
loaded_cell map bytes made =
    run_then-is
    (data_places_of csrs_at_reset map plain_choices (data_load csrs_at_reset plain_choices Machine 8 Plain) Plain
    LoadAddressMisaligned 0x80001000) (load_from 0x80001000 8) bytes
    ∙ rw (cell_place map Load LoadAddressMisaligned bytes made) refl

abbrev pub store_request : ℕ → MemoryRequest
store_request value = record { address = 0x80001000; size = Doubleword; op = memory.Store value }

abbrev pub load_request : MemoryRequest
load_request = record { address = 0x80001000; size = Doubleword; op = memory.Load true }

-- a hart at reset, but for its registers, its pc and its order index
abbrev pub as_at_reset : Map → Core → Core
as_at_reset map core = record core {
  mode = Machine;
  csrs = csrs_at_reset;
  reservation = record { block = None };
  trapped_last = false;
  halted = false;
  map = map;
  choices = plain_choices;
}

-- the store
pub store_accessed : (map : Map) (core : Core) (value : ℕ) (choices : RowChoices) (bytes : Bytes) → IsMadeMap map
    → (memory_access (as_at_reset map core) choices (store_request value)).run bytes
    ≡ record {
      value =
          Ok (record { value = 0; access = cell_access None (Some value); reservation = record { block = None } });
      reads =
          [];
      wrote = record { pa = 0x80001000; len = 8; value = value } ∷ [];
    }
unfolding memory_access located_access access_result_of put write_memory mapped pure after_writes
store_accessed map core value choices bytes made =
    run_then-is (located_access (as_at_reset map core) (store_request value))
    (access_after_location (as_at_reset map core) choices (store_request value)) bytes
    ∙ rw (stored_place map bytes made) refl

-- the load
pub load_accessed : (map : Map) (core : Core) (choices : RowChoices) (bytes : Bytes) → IsMadeMap map
    → (memory_access (as_at_reset map core) choices load_request).run bytes
    ≡ record {
      value =
          Ok
          (record {
            value =
                sign_extended 64 (number_at bytes 0x80001000 8);
            access =
                cell_access (Some (number_at bytes 0x80001000 8)) None;
            reservation = record { block = None };
          });
      reads =
          record { pa = 0x80001000; len = 8 } ∷ [];
      wrote = [];
    }
unfolding memory_access located_access access_result_of put write_memory mapped pure after_writes
load_accessed map core choices bytes made =
    run_then-is (located_access (as_at_reset map core) load_request)
    (access_after_location (as_at_reset map core) choices load_request) bytes
    ∙ rw (loaded_cell map bytes made) refl

-- 64 bits are their own extension
pub same_extended : (value : ℕ) → value < 2 ^ 64 → sign_extended 64 value ≡ value
same_extended value small =
    let facts = extends_signs 64 value (omega arith) (omega arith) in
    sym (mod-eq_of_lt facts.fits) ∙ facts.same ∙ mod-eq_of_lt small

-- What is fetched and reached in M, where no entry of protection is on.
use Rattle.std.proofs.Common.{◌≡◌, ℕ, zero, suc, ◌+◌, ◌*◌, ◌%◌, ◌^◌, Bool, true, false, [], ◌∷◌, replicate, Ok, refl}
use Rattle.std.proofs.Common.{◌∙◌, arith, nat_lt, min, max}
use Rattle.std.proofs.lemmas.Bool.Decides.{nat_tests}
use Rattle.hart_words.specs.declared.privilege.Access.{Access}
use Rattle.hart_words.specs.declared.privilege.Access.TheVariants.{Fetch}
use Rattle.hart_words.specs.declared.privilege.Mode.TheVariants.{Machine}
use Rattle.hart_words.specs.declared.map.Map.{Map}
use Rattle.hart_words.specs.Actions.{pure, mapped, read_memory}
use Rattle.hart_words.specs.Choices.{plain_choices}
use Rattle.hart_words.specs.Memory.{Bytes, number_at, after_writes}
use Rattle.hart_words.specs.Spans.{holds_all}
use Rattle.hart_words.proofs.Runs.{run_then-is}
use Rattle.csr_file.specs.Profiles.{plain_profile}
use Rattle.csr_file.specs.Registers.{csrs_at_reset, csrs_at_reset_of, no_entry, pmp_entries_of}
use Rattle.pmp_check.specs.Protection.{covers_some, is_allowed, is_allowed_after, region_of}
use Rattle.mem_access.specs.declared.place.AccessRequest.{AccessRequest}
use Rattle.mem_access.specs.Places.{place_in, place_of}
use Rattle.mem_access.specs.Translation.{is_translated, virtual_place_of, physical_address_of}
use Rattle.mem_access.specs.Accesses.{after_first, fetch_result, parcel_at, parcel_fetch, parcel_from}

-- an entry that is off covers nothing
off_covers_none : (before pa len : ℕ) → covers_some (region_of before no_entry) pa len ≡ false
unfolding region_of
off_covers_none before pa len =
    let none : nat_lt (max 0 pa) (min 0 (pa + len)) ≡ false = grind (arith, nat_tests) in none

-- M may do all where every entry is off
off_allows : (entries before pa len : ℕ) (access : Access)
    → is_allowed_after before (replicate entries no_entry) Machine pa len access ≡ true
unfolding is_allowed_after
off_allows zero before pa len access = refl
off_allows (suc entries) before pa len access = rw (off_covers_none before pa len) (off_allows entries 0 pa len access)

pub allowed_at_reset : (pa len : ℕ) (access : Access)
    → is_allowed (pmp_entries_of csrs_at_reset) Machine pa len access ≡ true
unfolding is_allowed csrs_at_reset csrs_at_reset_of plain_profile
allowed_at_reset pa len access = off_allows 16 0 pa len access

-- an access of M at reset goes where the map says
pub reached_at_reset : (map : Map) (access : Access) (len : ℕ) (devices : Bool) (va : ℕ) (bytes : Bytes) →
    let request : AccessRequest = record { mode = Machine; access = access; len = len; devices = devices } in
    (virtual_place_of csrs_at_reset map plain_choices request va).run bytes
    ≡ record { value = place_in map request va; reads = []; wrote = [] }
unfolding virtual_place_of physical_address_of is_translated place_of mapped pure
reached_at_reset map access len devices va bytes = rw (allowed_at_reset va len access) refl

-- two bytes of an instruction in RAM
pub parcel_at_reset : (map : Map) (at : ℕ) (bytes : Bytes) → holds_all map.ram at 2 ≡ true
    → (parcel_at csrs_at_reset map plain_choices Machine at).run bytes
    ≡ record { value = Ok (number_at bytes at 2); reads = record { pa = at; len = 2 } ∷ []; wrote = [] }
unfolding parcel_at read_memory mapped after_writes
parcel_at_reset map at bytes inside =
    run_then-is (virtual_place_of csrs_at_reset map plain_choices (parcel_fetch Machine) at) (parcel_from at) bytes
    ∙ rw (reached_at_reset map Fetch 2 false at bytes, inside) refl

-- a word in RAM
pub fetched_at_reset : (map : Map) (pc word : ℕ) (bytes : Bytes) → holds_all map.ram pc 2 ≡ true
    → holds_all map.ram ((pc + 2) % 2 ^ 64) 2 ≡ true → number_at bytes pc 2 % 4 ≡ 3
    → number_at bytes pc 2 + 2 ^ 16 * number_at bytes ((pc + 2) % 2 ^ 64) 2 ≡ word
    → (fetch_result csrs_at_reset map plain_choices Machine pc).run bytes
    ≡ record {
      value =
          Ok (word, 4);
      reads = record { pa = pc; len = 2 } ∷ record { pa = (pc + 2) % 2 ^ 64; len = 2 } ∷ [];
      wrote = [];
    }
unfolding fetch_result mapped after_writes
fetched_at_reset map pc word bytes first second long is =
    run_then-is (parcel_at csrs_at_reset map plain_choices Machine pc)
    (after_first csrs_at_reset map plain_choices Machine pc) bytes
    ∙ rw (parcel_at_reset map pc bytes first, long, parcel_at_reset map ((pc + 2) % 2 ^ 64) bytes second, is) refl

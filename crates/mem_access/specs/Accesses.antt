-- The accesses of an instruction to memory, with what they read. An exception gives the cause and the trap
-- value.
use Rattle.std.specs.Prelude.{◌≡◌, ℕ, ◌+◌, ◌-◌, ◌*◌, ◌%◌, ◌^◌, min, nat_lt, Bool, true, false, not, ◌&&◌, ◌==◌}
use Rattle.std.specs.Prelude.{if◌then◌else◌, Option, Some, None, Result, Ok, Err}
use Rattle.hart_words.specs.declared.privilege.Mode.{Mode}
use Rattle.hart_words.specs.declared.privilege.Access.{Access}
use Rattle.hart_words.specs.declared.privilege.Access.TheVariants.{Fetch, Load, Store}
use Rattle.hart_words.specs.declared.privilege.Cause.{Cause}
use Rattle.hart_words.specs.declared.privilege.Cause.TheVariants.{LoadAddressMisaligned, StoreAddressMisaligned}
use Rattle.hart_words.specs.declared.map.Map.{Map}
use Rattle.hart_words.specs.declared.span.Span.{Span}
use Rattle.hart_words.specs.declared.span.TheConstants.{PAGE_SIZE}
use Rattle.hart_words.specs.declared.choices.Choices.{Choices}
use Rattle.hart_words.specs.Options.{are_by_row, are_done}
use Rattle.hart_words.specs.Spans.{IsPlace}
use Rattle.hart_words.specs.Actions.{Action, pure, read_memory, mapped, ◌>>=◌}
use Rattle.csr_file.specs.declared.csrs.Csrs.{Csrs}
use Rattle.mem_access.specs.declared.place.AccessRequest.{AccessRequest}
use Rattle.mem_access.specs.declared.place.Atomicity.{Atomicity}
use Rattle.mem_access.specs.declared.place.Atomicity.TheVariants.{Plain, Amo, Reserved}
use Rattle.mem_access.specs.declared.place.Place.{Place}
use Rattle.mem_access.specs.Places.{data_mode_of}
use Rattle.mem_access.specs.Translation.{virtual_place_of}

abbrev pub Exception : Type 0
Exception = Cause × ℕ

-- devices answer no fetch
abbrev pub parcel_fetch : Mode → AccessRequest
parcel_fetch mode = record { mode = mode; access = Fetch; len = 2; devices = false }

-- LR and SC, and the atomic memory operations, are atomic
abbrev pub is_atomic : Atomicity → Bool
is_atomic Plain = false
is_atomic Amo = true
is_atomic Reserved = true

-- devices answer loads and stores, and where the row says what they refuse atomic memory operations, but no LR or SC
abbrev pub devices_answer : Choices → Atomicity → Bool
devices_answer choices Plain = true
devices_answer choices Amo = are_by_row choices.device_faults
devices_answer choices Reserved = false

abbrev pub data_request : Csrs → Mode → Access → ℕ → Bool → AccessRequest
data_request csrs mode access len devices =
    record { mode = data_mode_of csrs mode; access = access; len = len; devices = devices }

abbrev pub data_load : Csrs → Choices → Mode → ℕ → Atomicity → AccessRequest
data_load csrs choices mode len atomicity = data_request csrs mode Load len (devices_answer choices atomicity)

abbrev pub data_store : Csrs → Choices → Mode → ℕ → Atomicity → AccessRequest
data_store csrs choices mode len atomicity = data_request csrs mode Store len (devices_answer choices atomicity)

-- two bytes of an instruction
abbrev pub parcel_from : ℕ → Result Place Cause → Action (Result ℕ Exception)
parcel_from at (Err cause) = pure (Err (cause, at))
parcel_from at (Ok place) = mapped (λ parcel. Ok parcel) (read_memory (record { pa = place.pa; len = 2 }))

unfoldable pub parcel_at : Csrs → Map → Choices → Mode → ℕ → Action (Result ℕ Exception)
parcel_at csrs map choices mode at = virtual_place_of csrs map choices (parcel_fetch mode) at >>= parcel_from at

-- a word of two parcels, with its length
abbrev pub with_second : ℕ → Result ℕ Exception → Result (ℕ × ℕ) Exception
with_second first (Err exception) = Err exception
with_second first (Ok second) = Ok (first + 2 ^ 16 * second, 4)

-- an instruction whose bits 1:0 are 3 has a second parcel
abbrev pub after_first : Csrs → Map → Choices → Mode → ℕ → Result ℕ Exception → Action (Result (ℕ × ℕ) Exception)
after_first csrs map choices mode pc (Err exception) = pure (Err exception)
after_first csrs map choices mode pc (Ok first) =
    if first % 4 == 3
    then mapped (with_second first) (parcel_at csrs map choices mode ((pc + 2) % 2 ^ 64))
    else pure (Ok (first, 2))

-- the instruction at an address, with its length in bytes
unfoldable pub fetch_result : Csrs → Map → Choices → Mode → ℕ → Action (Result (ℕ × ℕ) Exception)
fetch_result csrs map choices mode pc =
    parcel_at csrs map choices mode pc >>= after_first csrs map choices mode pc

-- a part of a data access: the virtual address of its first byte, and how many bytes it has, all of one page
pub record Part : Type 0 where
  pub va : ℕ
  pub len : ℕ

-- how many bytes of an access lie in the page of its first
abbrev pub first_len : ℕ → ℕ → ℕ
first_len va len = min len (PAGE_SIZE - va % PAGE_SIZE)

abbrev pub first_part : ℕ → ℕ → Part
first_part va len = record { va = va; len = first_len va len }

-- the bytes in the next page; after the last address comes address 0
abbrev pub second_part : ℕ → ℕ → Part
second_part va len = record { va = (va + first_len va len) % 2 ^ 64; len = len - first_len va len }

abbrev pub has_second_part : ℕ → ℕ → Bool
has_second_part va len = nat_lt (first_len va len) len

-- the places of an access: that of its one part, or of its two
abbrev pub Places : Type 0
Places = Place × Option Place

-- an access to the bytes of a part alone
abbrev pub request_for : AccessRequest → Part → AccessRequest
request_for request part = record request { len = part.len }

-- a fault has the address of its part as its value
abbrev pub with_address : ℕ → Result Place Cause → Result Place Exception
with_address va (Err cause) = Err (cause, va)
with_address va (Ok place) = Ok place

-- the place of a part: translated at its first byte, and protected over its own bytes
unfoldable pub part_place_of : Csrs → Map → Choices → AccessRequest → Part → Action (Result Place Exception)
part_place_of csrs map choices request part =
    mapped (with_address part.va) (virtual_place_of csrs map choices (request_for request part) part.va)

abbrev pub one_place : Result Place Exception → Result Places Exception
one_place (Err exception) = Err exception
one_place (Ok place) = Ok (place, None)

abbrev pub after_place : Place → Result Place Exception → Result Places Exception
after_place first (Err exception) = Err exception
after_place first (Ok second) = Ok (first, Some second)

-- the second part is looked for where the first has its place
abbrev pub second_place_of : Csrs → Map → Choices → AccessRequest → Part → Result Place Exception
    → Action (Result Places Exception)
second_place_of csrs map choices request part (Err exception) = pure (Err exception)
second_place_of csrs map choices request part (Ok first) =
    mapped (after_place first) (part_place_of csrs map choices request part)

-- an access of one part
abbrev pub whole_place_of : Csrs → Map → Choices → AccessRequest → ℕ → Action (Result Places Exception)
whole_place_of csrs map choices request va =
    mapped one_place (part_place_of csrs map choices request (record { va = va; len = request.len }))

-- an access that may run into the next page
unfoldable pub split_places_of : Csrs → Map → Choices → AccessRequest → ℕ → Action (Result Places Exception)
split_places_of csrs map choices request va =
    if has_second_part va request.len
    then (part_place_of csrs map choices request (first_part va request.len)
    >>= second_place_of csrs map choices request (second_part va request.len))
    else whole_place_of csrs map choices request va

-- the access is carried out part by part: it is misaligned, and neither atomic nor trapped
abbrev pub is_split : Choices → AccessRequest → Atomicity → ℕ → Bool
is_split choices request atomicity va =
    not (va % request.len == 0) && not (is_atomic atomicity) && are_done choices.misaligned

-- the places of a load or a store: an access at a multiple of its length has one part; no device answers another
unfoldable pub data_places_of : Csrs → Map → Choices → AccessRequest → Atomicity → Cause → ℕ
    → Action (Result Places Exception)
data_places_of csrs map choices request atomicity misaligned va =
    if va % request.len == 0 then whole_place_of csrs map choices request va
    else if is_split choices request atomicity va
    then split_places_of csrs map choices (record request { devices = false }) va
    else pure (Err (misaligned, va))

-- the places of a load, and its value
abbrev pub LocatedValue : Type 0
LocatedValue = Place × Option Place × ℕ

-- what stands at a place; of a device nothing is known here, and nothing is read
abbrev pub value_at : Place → ℕ → Bool → Action (Result LocatedValue Exception)
value_at place len true = pure (Ok (place, None, 0))
value_at place len false =
    mapped (λ value. Ok (place, None, value)) (read_memory (record { pa = place.pa; len = len }))

-- the number of two parts: the first has its low bytes
abbrev pub joined_value : ℕ → ℕ → ℕ → ℕ
joined_value first_len low high = low + 256 ^ first_len * high

abbrev pub value_of_parts : Place → Place → ℕ → ℕ → Action (Result LocatedValue Exception)
value_of_parts first second low_len high_len =
    read_memory (record { pa = first.pa; len = low_len })
    >>= λ low. mapped (λ high. Ok (first, Some second, joined_value low_len low high))
    (read_memory (record { pa = second.pa; len = high_len }))

-- the data are read when all parts have their places
abbrev pub load_from : ℕ → ℕ → Result Places Exception → Action (Result LocatedValue Exception)
load_from va len (Err exception) = pure (Err exception)
load_from va len (Ok (place, None)) = value_at place len place.is_device
load_from va len (Ok (first, Some second)) =
    value_of_parts first second (first_len va len) (len - first_len va len)

-- a load
unfoldable pub load_result : Csrs → Map → Choices → Mode → ℕ → ℕ → Atomicity → Action (Result LocatedValue Exception)
load_result csrs map choices mode va len atomicity =
    data_places_of csrs map choices (data_load csrs choices mode len atomicity) atomicity LoadAddressMisaligned va
    >>= load_from va len

-- the places of a store
unfoldable pub store_place_of : Csrs → Map → Choices → Mode → ℕ → ℕ → Atomicity → Action (Result Places Exception)
store_place_of csrs map choices mode va len atomicity =
    data_places_of csrs map choices (data_store csrs choices mode len atomicity) atomicity StoreAddressMisaligned va

-- a load, by its places
abbrev pub load_by : Action (Result Places Exception) → ℕ → ℕ → Action (Result LocatedValue Exception)
load_by places va len = places >>= load_from va len

-- two parts are places in RAM, each with its own bytes
pub record LieInTwo (ram : Span) (va len : ℕ) (first second : Place) : Type 0 where
  pub first_memory : first.is_device ≡ false
  pub second_memory : second.is_device ≡ false
  pub first_place : IsPlace ram first.pa (first_len va len)
  pub second_place : IsPlace ram second.pa (len - first_len va len)

-- where no device answers, the bytes of an access lie in RAM, each part's in one page
abbrev pub LieInRam : Span → ℕ → ℕ → Places → Type 0
LieInRam ram va len (place, None) = place.is_device ≡ false → IsPlace ram place.pa len
LieInRam ram va len (first, Some second) = LieInTwo ram va len first second

-- Where a store goes: to one place, in RAM or at a device, or to two, both in RAM; without translation to its own
-- address.
use Rattle.std.proofs.Common.{◌≡◌, ℕ, ◌+◌, ◌-◌, ◌%◌, ◌^◌, ◌==◌, Bool, true, false, ◌&&◌, Some, None, Ok, Err, Result}
use Rattle.std.proofs.Common.{refl, sym, ap, ◌∙◌, subst, if◌then◌else◌}
use Rattle.std.specs.Prelude.{IfOk}
use Rattle.hart_words.specs.declared.privilege.Cause.{Cause}
use Rattle.hart_words.specs.declared.privilege.Cause.TheVariants.{StoreAddressMisaligned}
use Rattle.hart_words.specs.Privilege.{access_fault_of}
use Rattle.hart_words.specs.declared.map.Map.{Map}
use Rattle.hart_words.specs.Memory.{Bytes}
use Rattle.hart_words.specs.Spans.{holds_all}
use Rattle.hart_words.specs.Actions.{pure, mapped, ◌>>=◌}
use Rattle.csr_file.specs.declared.stored_csr.StoredCsr.TheVariants.{Satp}
use Rattle.csr_file.specs.Registers.{at}
use Rattle.sv39_walk.specs.Walk.{translation_of}
use Rattle.mem_access.specs.declared.place.AccessRequest.{AccessRequest}
use Rattle.mem_access.specs.declared.place.Place.{Place}
use Rattle.hart_words.specs.Devices.{is_device}
use Rattle.mem_access.specs.Places.{is_permitted, place_in, place_of}
use Rattle.mem_access.specs.Translation.{is_translated, physical_address_of, place_after_translation, tables_of}
use Rattle.mem_access.specs.Translation.{virtual_place_of, walk_flags_of}
use Rattle.mem_access.specs.declared.place.Atomicity.{Atomicity}
use Rattle.mem_access.specs.declared.place.Atomicity.TheVariants.{Plain}
use Rattle.mem_access.specs.Accesses.{Exception, Part, Places, after_place, one_place, data_places_of, data_store}
use Rattle.mem_access.specs.Accesses.{first_len}
use Rattle.mem_access.specs.Accesses.{first_part, has_second_part, is_split, part_place_of, request_for, second_part}
use Rattle.mem_access.specs.Accesses.{second_place_of, split_places_of, store_place_of, whole_place_of, with_address}
use Rattle.mem_access.proofs.Grants.{then_gives}
use Rattle.hart_step.specs.declared.state.Core.{Core}

-- ---- one place

-- a place stands in RAM, or among the devices
abbrev pub StandsIn : Map → ℕ → Place → Type 0
StandsIn map len place = (if place.is_device then is_device map.io place.pa len else holds_all map.ram place.pa len) ≡ true

-- the place of a request
record IsPlaceOf (core : Core) (request : AccessRequest) (va : ℕ) (place : Place) : Type 0 where
  pub stands : StandsIn core.map request.len place
  pub memory : request.devices ≡ false → place.is_device ≡ false
  pub physical : is_translated core.csrs request.mode ≡ false → place.pa ≡ va

both : (a b : Bool) → (a && b) ≡ true → (a ≡ true) × (b ≡ true)
both true b h = (refl, h)
both false b h = cc

never : (b : Bool) → b ≡ true → b ≡ false → ⊥
never b set clear = let one : true ≡ false = sym set ∙ clear in cc

in_by : {va : ℕ} (held device : Bool) (core : Core) (request : AccessRequest) (pa : ℕ)
    → holds_all core.map.ram pa request.len ≡ held
    → (request.devices && is_device core.map.io pa request.len) ≡ device
    → (is_translated core.csrs request.mode ≡ false → pa ≡ va)
    → IfOk {T = Place}
    (if held then Ok (record { pa = pa; is_device = false }) else if device then Ok (record { pa = pa; is_device = true })
    else Err (access_fault_of request.access)) (IsPlaceOf core request va)
in_by true device core request pa held is physical =
    record { stands = held; memory = λ none. refl; physical = physical }
in_by false true core request pa held is physical =
    let parts = both request.devices (is_device core.map.io pa request.len) is in
    record { stands = parts.1; memory = λ none. absurd (never request.devices parts.0 none); physical = physical }
in_by false false core request pa held is physical = tt

placed_by : {va : ℕ} (granted : Bool) (core : Core) (request : AccessRequest) (pa : ℕ)
    → (is_translated core.csrs request.mode ≡ false → pa ≡ va)
    → IfOk {T = Place} (if granted then place_in core.map request pa else Err (access_fault_of request.access))
    (IsPlaceOf core request va)
placed_by true core request pa physical =
    in_by (holds_all core.map.ram pa request.len) (request.devices && is_device core.map.io pa request.len) core
    request pa refl refl physical
placed_by false core request pa physical = tt

ok_is : (a b : ℕ) → (let one : Result ℕ Cause = Ok a in let other : Result ℕ Cause = Ok b in one ≡ other) → a ≡ b
ok_is a b is = cc

after_stands : (core : Core) (request : AccessRequest) (va : ℕ) (found : Result ℕ Cause)
    → (is_translated core.csrs request.mode ≡ false → found ≡ Ok va)
    → IfOk (place_after_translation core.csrs core.map request found) (IsPlaceOf core request va)
unfolding place_of
after_stands core request va (Err cause) physical = tt
after_stands core request va (Ok pa) physical =
    placed_by (is_permitted core.csrs request pa) core request pa (λ off. ok_is pa va (physical off))

own_address : (core : Core) (request : AccessRequest) (va : ℕ) (bytes : Bytes)
    → is_translated core.csrs request.mode ≡ false
    → ((physical_address_of core.csrs core.map core.choices request va).run bytes).value ≡ Ok va
unfolding physical_address_of pure
own_address core request va bytes off =
    ap
    (λ (on : Bool). ((if on
    then translation_of (tables_of core.csrs core.map core.choices) (at core.csrs Satp)
    (walk_flags_of core.csrs request.mode) va request.access
    else pure (Ok va)).run bytes).value) off

reach_stands : (core : Core) (request : AccessRequest) (va : ℕ) (bytes : Bytes)
    → IfOk ((virtual_place_of core.csrs core.map core.choices request va).run bytes).value (IsPlaceOf core request va)
unfolding virtual_place_of mapped
reach_stands core request va bytes =
    after_stands core request va ((physical_address_of core.csrs core.map core.choices request va).run bytes).value
    (own_address core request va bytes)

address_stands : (P : Place → Type 0) (va : ℕ) (place : Result Place Cause) → IfOk place P
    → IfOk (with_address va place) P
address_stands P va (Err cause) stands = tt
address_stands P va (Ok place) stands = stands

part_stands : (core : Core) (request : AccessRequest) (part : Part) (bytes : Bytes)
    → IfOk ((part_place_of core.csrs core.map core.choices request part).run bytes).value
    (IsPlaceOf core (request_for request part) part.va)
unfolding part_place_of mapped
part_stands core request part bytes =
    address_stands (IsPlaceOf core (request_for request part) part.va) part.va _
    (reach_stands core (request_for request part) part.va bytes)

-- ---- one or two

pub record StandsAlone (core : Core) (request : AccessRequest) (va : ℕ) (place : Place) : Type 0 where
  pub stands : StandsIn core.map request.len place
  pub physical : is_translated core.csrs request.mode ≡ false → place.pa ≡ va

pub record StandInTwo (core : Core) (request : AccessRequest) (va : ℕ) (first second : Place) : Type 0 where
  pub two : has_second_part va request.len ≡ true
  pub low : holds_all core.map.ram first.pa (first_len va request.len) ≡ true
  pub high : holds_all core.map.ram second.pa (request.len - first_len va request.len) ≡ true
  pub first_at : is_translated core.csrs request.mode ≡ false → first.pa ≡ va
  pub second_at : is_translated core.csrs request.mode ≡ false
      → second.pa ≡ (va + first_len va request.len) % 2 ^ 64

abbrev pub StandAt : Core → AccessRequest → ℕ → Places → Type 0
StandAt core request va (place, None) = StandsAlone core request va place
StandAt core request va (first, Some second) = StandInTwo core request va first second

alone_stands : (core : Core) (request : AccessRequest) (va : ℕ) (place : Result Place Exception)
    → IfOk place (IsPlaceOf core (request_for request (record { va = va; len = request.len })) va)
    → IfOk (one_place place) (StandAt core request va)
alone_stands core request va (Err exception) stands = tt
alone_stands core request va (Ok place) stands = record { stands = stands.stands; physical = stands.physical }

whole_stands : (core : Core) (request : AccessRequest) (va : ℕ) (bytes : Bytes)
    → IfOk ((whole_place_of core.csrs core.map core.choices request va).run bytes).value (StandAt core request va)
unfolding mapped
whole_stands core request va bytes =
    alone_stands core request va _ (part_stands core request (record { va = va; len = request.len }) bytes)

held_in : (map : Map) (len : ℕ) (place : Place) → StandsIn map len place → place.is_device ≡ false
    → holds_all map.ram place.pa len ≡ true
held_in map len place stands none =
    let P : Bool → Type 0 =
    λ io. (if io then is_device map.io place.pa len else holds_all map.ram place.pa len) ≡ true in
    subst P none stands

-- an access in two parts, that no device answers
record IsInTwo (request : AccessRequest) (va : ℕ) : Type 0 where
  pub two : has_second_part va request.len ≡ true
  pub memory : request.devices ≡ false

both_stand : (core : Core) (request : AccessRequest) (va : ℕ) (first : Place) (second : Result Place Exception)
    → IsInTwo request va
    → IsPlaceOf core (request_for request (first_part va request.len)) va first
    → IfOk second
    (IsPlaceOf core (request_for request (second_part va request.len)) (second_part va request.len).va)
    → IfOk (after_place first second) (StandAt core request va)
both_stand core request va first (Err exception) split low high = tt
both_stand core request va first (Ok second) split low high = record {
  two = split.two;
  low = held_in core.map (first_len va request.len) first low.stands (low.memory split.memory);
  high = held_in core.map (request.len - first_len va request.len) second high.stands (high.memory split.memory);
  first_at = low.physical;
  second_at = high.physical;
}

second_stands : (core : Core) (request : AccessRequest) (va : ℕ) (first : Result Place Exception) (bytes : Bytes)
    → IsInTwo request va
    → IfOk first (IsPlaceOf core (request_for request (first_part va request.len)) va)
    → IfOk
    ((second_place_of core.csrs core.map core.choices request (second_part va request.len) first).run bytes).value
    (StandAt core request va)
unfolding pure mapped
second_stands core request va (Err exception) bytes split low = tt
second_stands core request va (Ok first) bytes split low =
    both_stand core request va first _ split low (part_stands core request (second_part va request.len) bytes)

split_stands : (core : Core) (request : AccessRequest) (va : ℕ) (bytes : Bytes) → request.devices ≡ false
    → IfOk ((split_places_of core.csrs core.map core.choices request va).run bytes).value (StandAt core request va)
unfolding split_places_of
split_stands core request va bytes none = by (has_second_part va request.len) refl
  where
    by : (two : Bool) → has_second_part va request.len ≡ two
        → IfOk
        ((if two
        then (part_place_of core.csrs core.map core.choices request (first_part va request.len)
        >>= second_place_of core.csrs core.map core.choices request (second_part va request.len))
        else whole_place_of core.csrs core.map core.choices request va).run bytes).value (StandAt core request va)
    by true two =
        let first = part_place_of core.csrs core.map core.choices request (first_part va request.len) in
        let split : IsInTwo request va = record { two = two; memory = none } in
        then_gives (λ places. IfOk places (StandAt core request va)) first
        (second_place_of core.csrs core.map core.choices request (second_part va request.len)) bytes
        (λ now. second_stands core request va (first.run bytes).value now split
        (part_stands core request (first_part va request.len) bytes))
    by false two = whole_stands core request va bytes

-- whether devices may answer decides no more
recast : (core : Core) (request : AccessRequest) (va : ℕ) (places : Result Places Exception)
    → IfOk places (StandAt core (record request { devices = false }) va) → IfOk places (StandAt core request va)
recast core request va (Err exception) stands = tt
recast core request va (Ok (place, None)) stands = record { stands = stands.stands; physical = stands.physical }
recast core request va (Ok (first, Some second)) stands = record {
  two = stands.two;
  low = stands.low;
  high = stands.high;
  first_at = stands.first_at;
  second_at = stands.second_at;
}

data_stands : (core : Core) (request : AccessRequest) (atomicity : Atomicity) (cause : Cause) (va : ℕ) (bytes : Bytes)
    → IfOk ((data_places_of core.csrs core.map core.choices request atomicity cause va).run bytes).value
    (StandAt core request va)
unfolding data_places_of pure
data_stands core request atomicity cause va bytes =
    by (va % request.len == 0) (is_split core.choices request atomicity va)
  where
    by : (aligned split : Bool)
        → IfOk
        ((if aligned then whole_place_of core.csrs core.map core.choices request va
        else if split then split_places_of core.csrs core.map core.choices (record request { devices = false }) va
        else pure (Err (cause, va))).run bytes).value (StandAt core request va)
    by true split = whole_stands core request va bytes
    by false true =
        recast core request va _ (split_stands core (record request { devices = false }) va bytes refl)
    by false false = tt

pub store_stands : (core : Core) (va len : ℕ) (bytes : Bytes)
    → IfOk ((store_place_of core.csrs core.map core.choices core.mode va len Plain).run bytes).value
    (StandAt core (data_store core.csrs core.choices core.mode len Plain) va)
unfolding store_place_of
store_stands core va len bytes =
    data_stands core (data_store core.csrs core.choices core.mode len Plain) Plain StoreAddressMisaligned va bytes

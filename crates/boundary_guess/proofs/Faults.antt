-- No access to memory raises an environment call or a breakpoint, and what a fetch gives is a word of its length.
use Rattle.std.proofs.Common.{◌≡◌, ℕ, zero, suc, ◌+◌, ◌-◌, ◌*◌, ◌%◌, ◌^◌, ◌<◌, ◌==◌, Bool, true, false, Option, Some}
use Rattle.std.proofs.Common.{None}
use Rattle.std.proofs.Common.{List, [], ◌∷◌, refl, sym, ap, ◌∙◌, subst, arith, Ok, Err, Result, if◌then◌else◌, lit<}
use Rattle.std.specs.Prelude.{IfOk, IfErr, ◌&&◌}
use Rattle.std.proofs.Math.Nat.{pow-suc}
use Rattle.hart_words.specs.declared.privilege.Access.{Access}
use Rattle.hart_words.specs.declared.privilege.Access.TheVariants.{Fetch, Load, Store}
use Rattle.hart_words.specs.declared.privilege.Cause.{Cause}
use Rattle.hart_words.specs.declared.privilege.Cause.TheVariants.{LoadAddressMisaligned, StoreAddressMisaligned}
use Rattle.hart_words.specs.declared.privilege.WalkFlags.{WalkFlags}
use Rattle.hart_words.specs.declared.options.Marks.{Marks}
use Rattle.hart_words.specs.declared.options.Marks.TheVariants as marks
use Rattle.hart_words.specs.declared.map.Map.{Map}
use Rattle.hart_words.specs.Memory.{Bytes, number_at}
use Rattle.hart_words.specs.Spans.{holds_all}
use Rattle.hart_words.specs.Privilege.{access_fault_of, page_fault_of}
use Rattle.hart_words.specs.Actions.{pure, read_memory, mapped, ◌>>=◌}
use Rattle.csr_file.specs.declared.stored_csr.StoredCsr.TheVariants.{Satp}
use Rattle.csr_file.specs.Registers.{at}
use Rattle.sv39_walk.specs.Entries.{Tables, address_in, final_result, is_leaf, is_marked, leaf_allows, unmarked_by}
use Rattle.sv39_walk.specs.Entries.{unmarked_result}
use Rattle.sv39_walk.specs.Walk.{Visit, address_of, chain, chain_result, translation_of}
use Rattle.sv39_walk.proofs.Walks.{translation-by_chain}
use Rattle.mem_access.specs.declared.place.AccessRequest.{AccessRequest}
use Rattle.mem_access.specs.declared.place.Place.{Place}
use Rattle.hart_words.specs.Devices.{is_device}
use Rattle.mem_access.specs.Places.{is_permitted, place_in, place_of}
use Rattle.mem_access.specs.Translation.{is_translated, place_after_translation, physical_address_of, tables_of}
use Rattle.mem_access.specs.Translation.{virtual_place_of, walk_flags_of}
use Rattle.mem_access.specs.declared.place.Atomicity.{Atomicity}
use Rattle.mem_access.specs.Accesses.{Exception, Part, Places, after_first, after_place, one_place, data_load}
use Rattle.mem_access.specs.Accesses.{data_places_of}
use Rattle.mem_access.specs.Accesses.{data_store, fetch_result, first_len, first_part, has_second_part, is_split}
use Rattle.mem_access.specs.Accesses.{joined_value, load_from, load_result, parcel_at, parcel_fetch, parcel_from}
use Rattle.mem_access.specs.Accesses.{part_place_of, request_for, second_part, second_place_of, split_places_of}
use Rattle.mem_access.specs.Accesses.{store_place_of, value_at, value_of_parts, whole_place_of, with_address}
use Rattle.mem_access.specs.Accesses.{with_second}
use Rattle.mem_access.proofs.Grants.{then_gives}
use Rattle.row_compare.specs.Signals.{is_call_or_breakpoint}
use Rattle.hart_step.specs.declared.state.Core.{Core}
use Rattle.hart_step.specs.Instructions.{fetch_at_pc}
use Rattle.boundary_guess.proofs.Actions.{AreBytes, then_gives_bytes}

-- a cause that is neither
abbrev pub IsFault : Cause → Type 0
IsFault cause = is_call_or_breakpoint cause ≡ false

-- a result has this property where it is an exception
abbrev pub Raises : {A : Type 0} → (Exception → Type 0) → Result A Exception → Type 0
Raises P result = IfErr result P

abbrev pub RaisesFaults : {A : Type 0} → Result A Exception → Type 0
RaisesFaults result = Raises (λ exception. IsFault exception.0) result

access_faults : (access : Access) → IsFault (access_fault_of access)
access_faults Fetch = refl
access_faults Load = refl
access_faults Store = refl

page_faults : (access : Access) → IsFault (page_fault_of access)
page_faults Fetch = refl
page_faults Load = refl
page_faults Store = refl

-- ---- translation

unmarked_faults : (choice : Marks) (can_set : Bool) (access : Access) (entry address : ℕ)
    → IfErr (unmarked_by choice can_set access entry address) IsFault
unmarked_faults marks.Fault can_set access entry address = page_faults access
unmarked_faults marks.Set true access entry address = tt
unmarked_faults marks.Set false access entry address = access_faults access

final_by : (allowed marked : Bool) (found : Result (ℕ × Option ℕ) Cause) (access : Access) (address : ℕ)
    → IfErr found IsFault
    → IfErr (if allowed then (if marked then Ok (address, None) else found) else Err (page_fault_of access)) IsFault
final_by true true found access address faults = tt
final_by true false found access address faults = faults
final_by false marked found access address faults = page_faults access

final_faults : (tables : Tables) (level : ℕ) (flags : WalkFlags) (va : ℕ) (access : Access) (pa entry : ℕ)
    → IfErr (final_result tables level flags va access pa entry) IsFault
unfolding final_result
final_faults tables level flags va access pa entry =
    let address = address_in level entry va in
    final_by (is_leaf entry && leaf_allows level flags access entry) (is_marked access entry)
    (unmarked_result tables access pa entry address) access address
    (unmarked_faults tables.marks (tables.settable pa) access entry address)

last_by : (test : Bool) (found : Result (ℕ × Option ℕ) Cause) (access : Access) → IfErr found IsFault
    → IfErr (address_of (if test then found else Err (access_fault_of access))) IsFault
last_by true (Ok (address, entry)) access faults = tt
last_by true (Err fault) access faults = faults
last_by false found access faults = access_faults access

chain_faults : (tables : Tables) (bytes : Bytes) (flags : WalkFlags) (va : ℕ) (access : Access)
    (visits : List Visit) → IfErr (chain_result tables bytes flags va access visits) IsFault
unfolding chain_result
chain_faults tables bytes flags va access [] = page_faults access
chain_faults tables bytes flags va access (visit ∷ []) =
    let entry = number_at bytes visit.pa 8 in
    last_by (tables.readable visit.pa) (final_result tables visit.level flags va access visit.pa entry) access
    (final_faults tables visit.level flags va access visit.pa entry)
chain_faults tables bytes flags va access (visit ∷ next ∷ more) =
    chain_faults tables bytes flags va access (next ∷ more)

walk_faults : (tables : Tables) (bytes : Bytes) (satp : ℕ) (flags : WalkFlags) (va : ℕ) (access : Access)
    → IfErr ((translation_of tables satp flags va access).run bytes).value IsFault
walk_faults tables bytes satp flags va access =
    let P : Result ℕ Cause → Type 0 = λ found. IfErr found IsFault in
    subst P (sym (ap (λ run. run.value) (translation-by_chain tables bytes satp flags va access)))
    (chain_faults tables bytes flags va access (chain tables.readable bytes satp va))

translated_by : (core : Core) (request : AccessRequest) (va : ℕ) (on : Bool) (bytes : Bytes)
    → IfErr
    ((if on
    then translation_of (tables_of core.csrs core.map core.choices) (at core.csrs Satp)
    (walk_flags_of core.csrs request.mode) va request.access
    else pure (Ok va)).run bytes).value IsFault
unfolding pure
translated_by core request va true bytes =
    walk_faults (tables_of core.csrs core.map core.choices) bytes (at core.csrs Satp)
    (walk_flags_of core.csrs request.mode) va request.access
translated_by core request va false bytes = tt

-- ---- places

in_by : (held device : Bool) (pa : ℕ) (access : Access)
    → IfErr {T = Place}
    (if held then Ok (record { pa = pa; is_device = false }) else if device then Ok (record { pa = pa; is_device = true }) else Err
    (access_fault_of access)) IsFault
in_by true device pa access = tt
in_by false true pa access = tt
in_by false false pa access = access_faults access

placed_by : (granted : Bool) (map : Map) (request : AccessRequest) (pa : ℕ)
    → IfErr (if granted then place_in map request pa else Err (access_fault_of request.access)) IsFault
placed_by true map request pa =
    in_by (holds_all map.ram pa request.len) (request.devices && is_device map.io pa request.len) pa request.access
placed_by false map request pa = access_faults request.access

translated_faults : (core : Core) (request : AccessRequest) (pa : Result ℕ Cause) → IfErr pa IsFault
    → IfErr (place_after_translation core.csrs core.map request pa) IsFault
unfolding place_of
translated_faults core request (Err cause) faults = faults
translated_faults core request (Ok pa) faults = placed_by (is_permitted core.csrs request pa) core.map request pa

reach_faults : (core : Core) (request : AccessRequest) (va : ℕ) (bytes : Bytes)
    → IfErr ((virtual_place_of core.csrs core.map core.choices request va).run bytes).value IsFault
unfolding virtual_place_of physical_address_of mapped
reach_faults core request va bytes =
    translated_faults core request _ (translated_by core request va (is_translated core.csrs request.mode) bytes)

-- ---- fetches

-- a property has each fault at an address, and after it, where addresses wrap
pub record HoldsOfFaults (P : Exception → Type 0) (va : ℕ) : Type 0 where
  pub here : (cause : Cause) → IsFault cause → P (cause, va)
  pub after : (at : ℕ) (cause : Cause) → IsFault cause → P (cause, at % 2 ^ 64)

abbrev HoldsAt : (Exception → Type 0) → ℕ → Type 0
HoldsAt P va = (cause : Cause) → IsFault cause → P (cause, va)

parcel_from_raises : (P : Exception → Type 0) (at : ℕ) (place : Result Place Cause) (bytes : Bytes) → HoldsAt P at
    → IfErr place IsFault → Raises P ((parcel_from at place).run bytes).value
unfolding pure mapped
parcel_from_raises P at (Err cause) bytes holds faults = holds cause faults
parcel_from_raises P at (Ok place) bytes holds faults = tt

parcel_raises : (P : Exception → Type 0) (core : Core) (at : ℕ) (bytes : Bytes) → HoldsAt P at
    → Raises P ((parcel_at core.csrs core.map core.choices core.mode at).run bytes).value
unfolding parcel_at
parcel_raises P core at bytes holds =
    let way = virtual_place_of core.csrs core.map core.choices (parcel_fetch core.mode) at in
    then_gives (Raises P) way (parcel_from at) bytes
    (λ now. parcel_from_raises P at (way.run bytes).value now holds
    (reach_faults core (parcel_fetch core.mode) at bytes))

second_raises : (P : Exception → Type 0) (first : ℕ) (second : Result ℕ Exception) → Raises P second
    → Raises P (with_second first second)
second_raises P first (Err exception) holds = holds
second_raises P first (Ok second) holds = tt

after_by : (P : Exception → Type 0) (long : Bool) (core : Core) (pc first : ℕ) (bytes : Bytes) → HoldsOfFaults P pc
    → Raises P
    ((if long
    then mapped (with_second first) (parcel_at core.csrs core.map core.choices core.mode ((pc + 2) % 2 ^ 64))
    else pure (Ok (first, 2))).run bytes).value
unfolding pure mapped
after_by P true core pc first bytes holds =
    second_raises P first _ (parcel_raises P core ((pc + 2) % 2 ^ 64) bytes (holds.after (pc + 2)))
after_by P false core pc first bytes holds = tt

after_raises : (P : Exception → Type 0) (core : Core) (pc : ℕ) (first : Result ℕ Exception) (bytes : Bytes)
    → HoldsOfFaults P pc → Raises P first
    → Raises P ((after_first core.csrs core.map core.choices core.mode pc first).run bytes).value
unfolding pure
after_raises P core pc (Err exception) bytes holds raises = raises
after_raises P core pc (Ok first) bytes holds raises = after_by P (first % 4 == 3) core pc first bytes holds

pub fetch_raises : (P : Exception → Type 0) (core : Core) (bytes : Bytes) → HoldsOfFaults P core.pc
    → Raises P ((fetch_at_pc core).run bytes).value
unfolding fetch_result
fetch_raises P core bytes holds =
    let first = parcel_at core.csrs core.map core.choices core.mode core.pc in
    then_gives (Raises P) first (after_first core.csrs core.map core.choices core.mode core.pc) bytes
    (λ now. after_raises P core core.pc (first.run bytes).value now holds
    (parcel_raises P core core.pc bytes holds.here))

-- ---- places of loads and stores

address_raises : (P : Exception → Type 0) (va : ℕ) (place : Result Place Cause) → HoldsAt P va → IfErr place IsFault
    → Raises P (with_address va place)
address_raises P va (Err cause) holds faults = holds cause faults
address_raises P va (Ok place) holds faults = tt

part_raises : (P : Exception → Type 0) (core : Core) (request : AccessRequest) (part : Part) (bytes : Bytes)
    → HoldsAt P part.va
    → Raises P ((part_place_of core.csrs core.map core.choices request part).run bytes).value
unfolding part_place_of mapped
part_raises P core request part bytes holds =
    address_raises P part.va _ holds (reach_faults core (request_for request part) part.va bytes)

after_place_raises : (P : Exception → Type 0) (first : Place) (second : Result Place Exception) → Raises P second
    → Raises P (after_place first second)
after_place_raises P first (Err exception) raises = raises
after_place_raises P first (Ok second) raises = tt

second_place_raises : (P : Exception → Type 0) (core : Core) (request : AccessRequest) (part : Part)
    (first : Result Place Exception) (bytes : Bytes) → HoldsAt P part.va → Raises P first
    → Raises P ((second_place_of core.csrs core.map core.choices request part first).run bytes).value
unfolding pure mapped
second_place_raises P core request part (Err exception) bytes holds raises = raises
second_place_raises P core request part (Ok first) bytes holds raises =
    after_place_raises P first _ (part_raises P core request part bytes holds)

alone_raises : (P : Exception → Type 0) (place : Result Place Exception) → Raises P place → Raises P (one_place place)
alone_raises P (Err exception) raises = raises
alone_raises P (Ok place) raises = tt

whole_raises : (P : Exception → Type 0) (core : Core) (request : AccessRequest) (va : ℕ) (bytes : Bytes)
    → HoldsAt P va → Raises P ((whole_place_of core.csrs core.map core.choices request va).run bytes).value
unfolding mapped
whole_raises P core request va bytes holds =
    alone_raises P _ (part_raises P core request (record { va = va; len = request.len }) bytes holds)

split_raises : (P : Exception → Type 0) (core : Core) (request : AccessRequest) (va : ℕ) (bytes : Bytes)
    → HoldsOfFaults P va
    → Raises P ((split_places_of core.csrs core.map core.choices request va).run bytes).value
unfolding split_places_of
split_raises P core request va bytes holds = by (has_second_part va request.len)
  where
    by : (two : Bool)
        → Raises P
        ((if two
        then (part_place_of core.csrs core.map core.choices request (first_part va request.len)
        >>= second_place_of core.csrs core.map core.choices request (second_part va request.len))
        else whole_place_of core.csrs core.map core.choices request va).run bytes).value
    by true =
        let low = first_part va request.len in
        let high = second_part va request.len in
        let first = part_place_of core.csrs core.map core.choices request low in
        then_gives (Raises P) first (second_place_of core.csrs core.map core.choices request high) bytes
        (λ now. second_place_raises P core request high (first.run bytes).value now
        (holds.after (va + first_len va request.len)) (part_raises P core request low bytes holds.here))
    by false = whole_raises P core request va bytes holds.here

data_raises : (P : Exception → Type 0) (core : Core) (request : AccessRequest) (atomicity : Atomicity) (cause : Cause)
    (va : ℕ) (bytes : Bytes) → HoldsOfFaults P va × IsFault cause
    → Raises P ((data_places_of core.csrs core.map core.choices request atomicity cause va).run bytes).value
unfolding data_places_of pure
data_raises P core request atomicity cause va bytes holds =
    by (va % request.len == 0) (is_split core.choices request atomicity va)
  where
    by : (aligned split : Bool)
        → Raises P
        ((if aligned then whole_place_of core.csrs core.map core.choices request va
        else if split then split_places_of core.csrs core.map core.choices (record request { devices = false }) va
        else pure (Err (cause, va))).run bytes).value
    by true split = whole_raises P core request va bytes holds.0.here
    by false true = split_raises P core (record request { devices = false }) va bytes holds.0
    by false false = holds.0.here cause holds.1

-- ---- loads and stores

value_raises : (P : Exception → Type 0) (place : Place) (len : ℕ) (io : Bool) (bytes : Bytes)
    → Raises P ((value_at place len io).run bytes).value
unfolding pure mapped
value_raises P place len true bytes = tt
value_raises P place len false bytes = tt

parts_raise : (P : Exception → Type 0) (first second : Place) (low_len high_len : ℕ) (bytes : Bytes)
    → Raises P ((value_of_parts first second low_len high_len).run bytes).value
unfolding mapped
parts_raise P first second low_len high_len bytes =
    then_gives (Raises P) (read_memory (record { pa = first.pa; len = low_len }))
    (λ low. mapped (λ high. Ok (first, Some second, joined_value low_len low high))
    (read_memory (record { pa = second.pa; len = high_len }))) bytes (λ now. tt)

load_from_raises : (P : Exception → Type 0) (va len : ℕ) (places : Result Places Exception) (bytes : Bytes)
    → Raises P places → Raises P ((load_from va len places).run bytes).value
unfolding pure
load_from_raises P va len (Err exception) bytes raises = raises
load_from_raises P va len (Ok (place, None)) bytes raises = value_raises P place len place.is_device bytes
load_from_raises P va len (Ok (first, Some second)) bytes raises =
    parts_raise P first second (first_len va len) (len - first_len va len) bytes

pub load_raises : (P : Exception → Type 0) (core : Core) (va len : ℕ) (atomicity : Atomicity) (bytes : Bytes)
    → HoldsOfFaults P va
    → Raises P ((load_result core.csrs core.map core.choices core.mode va len atomicity).run bytes).value
unfolding load_result
load_raises P core va len atomicity bytes holds =
    let request = data_load core.csrs core.choices core.mode len atomicity in
    let way = data_places_of core.csrs core.map core.choices request atomicity LoadAddressMisaligned va in
    then_gives (Raises P) way (load_from va len) bytes
    (λ now. load_from_raises P va len (way.run bytes).value now
    (data_raises P core request atomicity LoadAddressMisaligned va bytes (holds, refl)))

pub store_raises : (P : Exception → Type 0) (core : Core) (va len : ℕ) (atomicity : Atomicity) (bytes : Bytes)
    → HoldsOfFaults P va
    → Raises P ((store_place_of core.csrs core.map core.choices core.mode va len atomicity).run bytes).value
unfolding store_place_of
store_raises P core va len atomicity bytes holds =
    data_raises P core (data_store core.csrs core.choices core.mode len atomicity) atomicity StoreAddressMisaligned va bytes (holds, refl)

-- every fault is one
pub all_faults : (va : ℕ) → HoldsOfFaults (λ exception. IsFault exception.0) va
all_faults va = record { here = λ cause faults. faults; after = λ at cause faults. faults }

-- ---- words

number_up : (byte rest whole : ℕ) → byte < 256 → rest < whole → byte + 256 * rest < whole * 256
number_up byte rest whole low less = omega (arith, low, less)

pub number_below : (bytes : Bytes) (pa len : ℕ) → AreBytes bytes → number_at bytes pa len < 256 ^ len
unfolding number_at
number_below bytes pa zero are = lit< tt
number_below bytes pa (suc len) are =
    rw (pow-suc 256 len)
    (number_up (bytes pa) (number_at bytes (pa + 1) len) (256 ^ len) (are pa) (number_below bytes (pa + 1) len are))

-- what is fetched is as long as its two lowest bits say
pub record IsFetchedWord (word : ℕ × ℕ) : Type 0 where
  pub length : word.1 ≡ (if word.0 % 4 == 3 then 4 else 2)
  pub below : word.0 < 256 ^ word.1

abbrev IsParcel : ℕ → Type 0
IsParcel parcel = parcel < 2 ^ 16

parcel_from_below : (at : ℕ) (place : Result Place Cause) (bytes : Bytes) → AreBytes bytes
    → IfOk ((parcel_from at place).run bytes).value IsParcel
unfolding pure mapped read_memory
parcel_from_below at (Err cause) bytes are = tt
parcel_from_below at (Ok place) bytes are = number_below bytes place.pa 2 are

parcel_below : (core : Core) (at : ℕ) (bytes : Bytes) → AreBytes bytes
    → IfOk ((parcel_at core.csrs core.map core.choices core.mode at).run bytes).value IsParcel
unfolding parcel_at
parcel_below core at bytes are =
    let way = virtual_place_of core.csrs core.map core.choices (parcel_fetch core.mode) at in
    then_gives_bytes (λ parcel. IfOk parcel IsParcel) way (parcel_from at) bytes are
    (parcel_from_below at (way.run bytes).value)

long_word : (first second : ℕ) → first < 2 ^ 16 → second < 2 ^ 16 → (first % 4 == 3) ≡ true
    → IsFetchedWord (first + 2 ^ 16 * second, 4)
long_word first second low high long =
    let same : (first + 2 ^ 16 * second) % 4 ≡ first % 4 = omega arith in
    let still : ((first + 2 ^ 16 * second) % 4 == 3) ≡ true = ap (λ r. r == 3) same ∙ long in
    record { length = sym (ap (λ (t : Bool). if t then 4 else 2) still); below = omega (arith, low, high) }

second_word : (first : ℕ) (second : Result ℕ Exception) → first < 2 ^ 16 → (first % 4 == 3) ≡ true
    → IfOk second IsParcel → IfOk (with_second first second) IsFetchedWord
second_word first (Err exception) low long high = tt
second_word first (Ok second) low long high = long_word first second low high long

after_word : (core : Core) (pc : ℕ) (first : Result ℕ Exception) (bytes : Bytes) → IfOk first IsParcel
    → AreBytes bytes
    → IfOk ((after_first core.csrs core.map core.choices core.mode pc first).run bytes).value IsFetchedWord
unfolding pure mapped
after_word core pc (Err exception) bytes low are = tt
after_word core pc (Ok first) bytes low are = by (first % 4 == 3) refl
  where
    by : (long : Bool) → (first % 4 == 3) ≡ long
        → IfOk
        ((if long
        then mapped (with_second first) (parcel_at core.csrs core.map core.choices core.mode ((pc + 2) % 2 ^ 64))
        else pure (Ok (first, 2))).run bytes).value IsFetchedWord
    by true is = second_word first _ low is (parcel_below core ((pc + 2) % 2 ^ 64) bytes are)
    by false is = record { length = sym (ap (λ (t : Bool). if t then 4 else 2) is); below = low }

pub fetch_word : (core : Core) (bytes : Bytes) → AreBytes bytes
    → IfOk ((fetch_at_pc core).run bytes).value IsFetchedWord
unfolding fetch_result
fetch_word core bytes are =
    let first = parcel_at core.csrs core.map core.choices core.mode core.pc in
    then_gives_bytes (λ word. IfOk word IsFetchedWord) first
    (after_first core.csrs core.map core.choices core.mode core.pc) bytes are
    (λ now kept. after_word core core.pc (first.run bytes).value now (parcel_below core core.pc bytes are) kept)

-- Each read of an access is permitted, and so is each place.
use Rattle.std.proofs.Common.{◌≡◌, ℕ, ◌+◌, ◌%◌, ◌^◌, Bool, true, false, List, [], ◌∷◌, filter, refl, sym, ap}
use Rattle.std.proofs.Common.{subst, Ok, Err, Result, if◌then◌else◌}
use Rattle.std.specs.Prelude.{◌==◌, All, IfOk, flat_map}
use Rattle.std.proofs.lemmas.Bool.{and_parts}
use Rattle.std.proofs.lemmas.List.Elements.{All-nil, All-append, All-head, All-map, All-tail}
use Rattle.hart_words.specs.declared.privilege.Mode.{Mode}
use Rattle.hart_words.specs.declared.privilege.Mode.TheVariants.{Supervisor}
use Rattle.hart_words.specs.declared.privilege.Access.TheVariants.{Load}
use Rattle.hart_words.specs.declared.privilege.Cause.{Cause}
use Rattle.hart_words.specs.declared.privilege.Cause.TheVariants.{LoadAddressMisaligned, StoreAddressMisaligned}
use Rattle.hart_words.specs.declared.map.Map.{Map}
use Rattle.hart_words.specs.declared.choices.Choices.{Choices}
use Rattle.hart_words.specs.declared.accesses.Read.{Read}
use Rattle.hart_words.specs.Memory.{Bytes, after_writes}
use Rattle.hart_words.specs.Spans.{holds_all}
use Rattle.pmp_check.specs.Protection.{is_allowed}
use Rattle.csr_file.specs.declared.csrs.Csrs.{Csrs}
use Rattle.csr_file.specs.Registers.{pmp_entries_of}
use Rattle.sv39_walk.specs.Walk.{Visit, entry_read, entry_reads_of}
use Rattle.mem_access.specs.declared.place.AccessRequest.{AccessRequest}
use Rattle.mem_access.specs.declared.place.Atomicity.{Atomicity}
use Rattle.mem_access.specs.declared.place.Place.{Place}
use Rattle.mem_access.specs.Translation.{is_readable, is_translated}
use Rattle.mem_access.specs.Accesses.{Exception, LocatedValue, Part, Places, data_load, data_store, parcel_fetch}
use Rattle.mem_access.specs.Accesses.{request_for}
use Rattle.mem_access.specs.Reads.{CheckedRead, IsPermittedRead, PlacedPart, access_reads_of, address_found}
use Rattle.mem_access.specs.Reads.{bytes_after_walk, chain_of, data_reads_of, entry_load, entry_loads, fetch_reads_of}
use Rattle.mem_access.specs.Reads.{has_second, own_read, own_reads_at, own_reads_of, part_found, part_reads_of}
use Rattle.mem_access.specs.Reads.{part_walks_of, parts_found, parts_of, place_found, places_found, request_at}
use Rattle.mem_access.specs.Reads.{walk_reads_of, if_found, with_first}
use Rattle.mem_access.specs.Laws.{ArePlacesFound, FetchIsPermitted, IsPermittedPart, IsPermittedPlace, LoadIsPermitted}
use Rattle.mem_access.specs.Laws.{StoreIsPermitted, parts_in}
use Rattle.mem_access.proofs.Grants.{behind_granted, each_is, filtered, one_element}
use Rattle.mem_access.proofs.Orders.{chain_reads, fetch_noted, load_from_places, load_noted, load_value, places_by}
use Rattle.mem_access.proofs.Orders.{data_sets_of, store_noted, store_value}

-- what is accessed, and from what memory
pub record Look : Type 0 where
  pub csrs : Csrs
  pub map : Map
  pub choices : Choices
  pub request : AccessRequest
  pub bytes : Bytes

-- the place that is found
pub found_granted : (csrs : Csrs) (map : Map) (choices : Choices) (request : AccessRequest) (va : ℕ) (bytes : Bytes)
    → IfOk (place_found csrs map choices request va bytes) (IsPermittedPlace csrs map request)
unfolding place_found
found_granted csrs map choices request va bytes =
    behind_granted csrs map request (address_found csrs map choices request va bytes)

-- what holds of each part with its place
pub first_all : (P : PlacedPart → Type 0) (part : Part) (found : Result Place Cause)
    (more : Result (List PlacedPart) Exception) → IfOk found (λ place. P (record { part = part; place = place }))
    → IfOk more (All P) → IfOk (with_first part found more) (All P)
first_all P part (Err cause) more one all = tt
first_all P part (Ok place) (Err exception) one all = tt
first_all P part (Ok place) (Ok placed) one all =
    All-append P (record { part = part; place = place } ∷ []) placed
    (one_element P (record { part = part; place = place }) one) all

-- each is found in some memory
abbrev pub HoldsOfFound : Csrs → Map → Choices → AccessRequest → (PlacedPart → Type 0) → Type 0
HoldsOfFound csrs map choices request P =
    (part : Part) (bytes : Bytes)
    → IfOk (part_found csrs map choices request part bytes) (λ place. P (record { part = part; place = place }))

pub parts_all : (csrs : Csrs) (map : Map) (choices : Choices) (request : AccessRequest) (P : PlacedPart → Type 0)
    (parts : List Part) (bytes : Bytes) → HoldsOfFound csrs map choices request P
    → IfOk (parts_found csrs map choices request parts bytes) (All P)
unfolding parts_found
parts_all csrs map choices request P [] bytes each = All-nil P
parts_all csrs map choices request P (part ∷ parts) bytes each =
    let after = bytes_after_walk csrs map choices request part.va bytes in
    first_all P part (part_found csrs map choices request part bytes)
    (parts_found csrs map choices request parts after) (each part bytes)
    (parts_all csrs map choices request P parts after each)

pub parts_granted : (csrs : Csrs) (map : Map) (choices : Choices) (request : AccessRequest) (parts : List Part)
    (bytes : Bytes) → IfOk (parts_found csrs map choices request parts bytes) (All (IsPermittedPart csrs map request))
parts_granted csrs map choices request parts bytes =
    parts_all csrs map choices request (IsPermittedPart csrs map request) parts bytes
    (λ part now. found_granted csrs map choices (request_for request part) part.va now)

-- the parts that are found are those that were looked for
first_parts : (part : Part) (parts : List Part) (found : Result Place Cause) (more : Result (List PlacedPart) Exception)
    → IfOk more (λ placed. parts_in placed ≡ parts)
    → IfOk (with_first part found more) (λ placed. parts_in placed ≡ part ∷ parts)
first_parts part parts (Err cause) more same = tt
first_parts part parts (Ok place) (Err exception) same = tt
first_parts part parts (Ok place) (Ok placed) same = ap (λ rest. part ∷ rest) same

pub same_parts : (csrs : Csrs) (map : Map) (choices : Choices) (request : AccessRequest) (parts : List Part)
    (bytes : Bytes) → IfOk (parts_found csrs map choices request parts bytes) (λ placed. parts_in placed ≡ parts)
unfolding parts_found
same_parts csrs map choices request [] bytes = refl
same_parts csrs map choices request (part ∷ parts) bytes =
    let after = bytes_after_walk csrs map choices request part.va bytes in
    first_parts part parts (part_found csrs map choices request part bytes)
    (parts_found csrs map choices request parts after) (same_parts csrs map choices request parts after)

-- what holds of each read of an access
loads_all : (P : CheckedRead → Type 0) (readable : ℕ → Bool) (visits : List Visit)
    → ((pa : ℕ) → readable pa ≡ true → P (entry_load (entry_read pa)))
    → All P (entry_loads (entry_reads_of readable visits))
loads_all P readable visits of_entry =
    let can = λ (visit : Visit). readable visit.pa in
    let Entry : Read → Type 0 = λ read. P (entry_load read) in
    let there = filter can visits in
    All-map P entry_load (entry_reads_of readable visits)
    (All-map Entry (λ visit. entry_read visit.pa) there
    (each_is (λ visit. can visit ≡ true) (λ visit. Entry (entry_read visit.pa)) there
    (λ visit is. of_entry visit.pa is) (filtered can visits)))

-- of reads that are made on a condition
pub all_if : {X : Type 0} (P : X → Type 0) (xs : List X) (made : Bool) → All P xs → All P (if made then xs else [])
all_if P xs true all = all
all_if P xs false all = All-nil P

-- it holds of the entries of page tables that S may load
abbrev pub HoldsOfEntries : Csrs → Map → (CheckedRead → Type 0) → Type 0
HoldsOfEntries csrs map P = (pa : ℕ) → is_readable csrs map pa ≡ true → P (entry_load (entry_read pa))

pub walk_all : (P : CheckedRead → Type 0) (csrs : Csrs) (map : Map) (mode : Mode) (va : ℕ) (bytes : Bytes)
    → HoldsOfEntries csrs map P → All P (walk_reads_of csrs map mode va bytes)
unfolding walk_reads_of
walk_all P csrs map mode va bytes of_entry =
    all_if P (entry_loads (chain_reads csrs map va bytes)) (is_translated csrs mode)
    (loads_all P (is_readable csrs map) (chain_of csrs map bytes va) of_entry)

own_by : (P : CheckedRead → Type 0) (request : AccessRequest) (va : ℕ) (place : Place) (io : Bool)
    → place.is_device ≡ io → (place.is_device ≡ false → P (own_read request va place))
    → All P (if io then [] else own_read request va place ∷ [])
own_by P request va place true is of_bytes = All-nil P
own_by P request va place false is of_bytes = one_element P (own_read request va place) (of_bytes is)

pub own_all : (P : CheckedRead → Type 0) (request : AccessRequest) (va : ℕ) (placed : Result Place Cause)
    → IfOk placed (λ place. place.is_device ≡ false → P (own_read request va place))
    → All P (own_reads_at request va placed)
own_all P request va (Err cause) of_bytes = All-nil P
own_all P request va (Ok place) of_bytes = own_by P request va place place.is_device refl of_bytes

abbrev pub look_place : Look → ℕ → Result Place Cause
look_place look va = place_found look.csrs look.map look.choices look.request va look.bytes

pub access_all : (P : CheckedRead → Type 0) (look : Look) (va : ℕ) → HoldsOfEntries look.csrs look.map P
    → IfOk (look_place look va) (λ place. place.is_device ≡ false → P (own_read look.request va place))
    → All P (access_reads_of look.csrs look.map look.choices look.request va look.bytes)
unfolding access_reads_of
access_all P look va of_entry of_bytes =
    All-append P (walk_reads_of look.csrs look.map look.request.mode va look.bytes)
    (own_reads_at look.request va (look_place look va))
    (walk_all P look.csrs look.map look.request.mode va look.bytes of_entry)
    (own_all P look.request va (look_place look va) of_bytes)

-- the second parcel is fetched from memory as the first walk leaves it
pub fetch_all : (P : CheckedRead → Type 0) (csrs : Csrs) (map : Map) (choices : Choices) (mode : Mode) (pc : ℕ)
    (bytes : Bytes)
    → ((va : ℕ) (now : Bytes) → All P (access_reads_of csrs map choices (parcel_fetch mode) va now))
    → All P (fetch_reads_of csrs map choices mode pc bytes)
unfolding fetch_reads_of
fetch_all P csrs map choices mode pc bytes each =
    let request = parcel_fetch mode in
    let now = bytes_after_walk csrs map choices request pc bytes in
    let second = access_reads_of csrs map choices request ((pc + 2) % 2 ^ 64) now in
    let has = has_second now (place_found csrs map choices request pc bytes) in
    All-append P (access_reads_of csrs map choices request pc bytes) (if has then second else []) (each pc bytes)
    (all_if P second has (each ((pc + 2) % 2 ^ 64) now))

where_all : (P : CheckedRead → Type 0) (found : Result Place Cause) (more : List CheckedRead) → All P more
    → All P (if_found found more)
where_all P (Err cause) more all = All-nil P
where_all P (Ok place) more all = all

pub walks_all : (P : CheckedRead → Type 0) (csrs : Csrs) (map : Map) (choices : Choices) (request : AccessRequest)
    (parts : List Part) (bytes : Bytes) → HoldsOfEntries csrs map P
    → All P (part_walks_of csrs map choices request parts bytes)
unfolding part_walks_of
walks_all P csrs map choices request [] bytes of_entry = All-nil P
walks_all P csrs map choices request (part ∷ parts) bytes of_entry =
    let now = bytes_after_walk csrs map choices request part.va bytes in
    let more = part_walks_of csrs map choices request parts now in
    let found = part_found csrs map choices request part bytes in
    All-append P (walk_reads_of csrs map request.mode part.va bytes) (if_found found more)
    (walk_all P csrs map request.mode part.va bytes of_entry)
    (where_all P found more (walks_all P csrs map choices request parts now of_entry))

-- it holds of the own bytes of a part, where no device answers
abbrev pub HoldsOfOwn : (CheckedRead → Type 0) → AccessRequest → PlacedPart → Type 0
HoldsOfOwn P request placed =
    placed.place.is_device ≡ false → P (own_read (request_for request placed.part) placed.part.va placed.place)

each_own : (P : CheckedRead → Type 0) (request : AccessRequest) (placed : List PlacedPart)
    → All (HoldsOfOwn P request) placed → All P (flat_map (part_reads_of request) placed)
each_own P request [] all = All-nil P
each_own P request (one ∷ more) all =
    All-append P (part_reads_of request one) (flat_map (part_reads_of request) more)
    (own_all P (request_for request one.part) one.part.va (Ok one.place)
    (All-head (HoldsOfOwn P request) one more all))
    (each_own P request more (All-tail (HoldsOfOwn P request) one more all))

pub own_parts_all : (P : CheckedRead → Type 0) (request : AccessRequest) (found : Result (List PlacedPart) Exception)
    → IfOk found (All (HoldsOfOwn P request)) → All P (own_reads_of request found)
own_parts_all P request (Err exception) all = All-nil P
own_parts_all P request (Ok placed) all = each_own P request placed all

abbrev pub look_places : Look → Atomicity → ℕ → Result (List PlacedPart) Exception
look_places look atomicity va = places_found look.csrs look.map look.choices look.request atomicity va look.bytes

pub data_all : (P : CheckedRead → Type 0) (look : Look) (atomicity : Atomicity) (own : Bool) (va : ℕ)
    → HoldsOfEntries look.csrs look.map P → IfOk (look_places look atomicity va) (All (HoldsOfOwn P look.request))
    → All P (data_reads_of look.csrs look.map look.choices look.request atomicity own va look.bytes)
unfolding data_reads_of
data_all P look atomicity own va of_entry of_bytes =
    let asked = request_at look.request va in
    let parts = parts_of look.choices look.request atomicity va in
    let reads = own_reads_of look.request (look_places look atomicity va) in
    All-append P (part_walks_of look.csrs look.map look.choices asked parts look.bytes) (if own then reads else [])
    (walks_all P look.csrs look.map look.choices asked parts look.bytes of_entry)
    (all_if P reads own (own_parts_all P look.request (look_places look atomicity va) of_bytes))

-- each read is permitted
entry_permitted : (csrs : Csrs) (map : Map) (pa : ℕ) → is_readable csrs map pa ≡ true
    → IsPermittedRead csrs map (entry_load (entry_read pa))
entry_permitted csrs map pa can =
    and_parts (holds_all map.ram pa 8) (is_allowed (pmp_entries_of csrs) Supervisor pa 8 Load) can

own_permitted : (csrs : Csrs) (map : Map) (request : AccessRequest) (va : ℕ) (placed : Result Place Cause)
    → IfOk placed (IsPermittedPlace csrs map request)
    → IfOk placed (λ place. place.is_device ≡ false → IsPermittedRead csrs map (own_read request va place))
own_permitted csrs map request va (Err cause) granted = tt
own_permitted csrs map request va (Ok place) granted = λ memory. (granted.inside memory, granted.granted)

pub access_permitted : (csrs : Csrs) (map : Map) (choices : Choices) (request : AccessRequest) (va : ℕ)
    (bytes : Bytes) → All (IsPermittedRead csrs map) (access_reads_of csrs map choices request va bytes)
access_permitted csrs map choices request va bytes =
    let look : Look =
    record { csrs = csrs; map = map; choices = choices; request = request; bytes = bytes } in
    access_all (IsPermittedRead csrs map) look va (entry_permitted csrs map)
    (own_permitted csrs map request va (place_found csrs map choices request va bytes)
    (found_granted csrs map choices request va bytes))

pub fetch_permitted : (csrs : Csrs) (map : Map) (choices : Choices) (mode : Mode) (pc : ℕ) (bytes : Bytes)
    → All (IsPermittedRead csrs map) (fetch_reads_of csrs map choices mode pc bytes)
fetch_permitted csrs map choices mode pc bytes =
    fetch_all (IsPermittedRead csrs map) csrs map choices mode pc bytes
    (λ va now. access_permitted csrs map choices (parcel_fetch mode) va now)

-- which devices answer does not matter to what is permitted
at_any : (csrs : Csrs) (map : Map) (request : AccessRequest) (aligned : Bool)
    (found : Result (List PlacedPart) Exception)
    → IfOk found (All (IsPermittedPart csrs map (if aligned then request else record request { devices = false })))
    → IfOk found (All (IsPermittedPart csrs map request))
at_any csrs map request true found all = all
at_any csrs map request false (Err exception) all = tt
at_any csrs map request false (Ok placed) all =
    each_is (IsPermittedPart csrs map (record request { devices = false })) (IsPermittedPart csrs map request) placed
    (λ one granted. record { granted = granted.granted; inside = granted.inside }) all

pub places_granted : (csrs : Csrs) (map : Map) (choices : Choices) (request : AccessRequest) (atomicity : Atomicity)
    (va : ℕ) (bytes : Bytes)
    → IfOk (places_found csrs map choices request atomicity va bytes) (All (IsPermittedPart csrs map request))
unfolding request_at
places_granted csrs map choices request atomicity va bytes =
    at_any csrs map request (va % request.len == 0) (places_found csrs map choices request atomicity va bytes)
    (parts_granted csrs map choices (request_at request va) (parts_of choices request atomicity va) bytes)

granted_own : (csrs : Csrs) (map : Map) (request : AccessRequest) (found : Result (List PlacedPart) Exception)
    → IfOk found (All (IsPermittedPart csrs map request))
    → IfOk found (All (HoldsOfOwn (IsPermittedRead csrs map) request))
granted_own csrs map request (Err exception) all = tt
granted_own csrs map request (Ok placed) all =
    each_is (IsPermittedPart csrs map request) (HoldsOfOwn (IsPermittedRead csrs map) request) placed
    (λ one granted memory. (granted.inside memory, granted.granted)) all

pub data_permitted : (csrs : Csrs) (map : Map) (choices : Choices) (request : AccessRequest) (atomicity : Atomicity)
    (own : Bool) (va : ℕ) (bytes : Bytes)
    → All (IsPermittedRead csrs map) (data_reads_of csrs map choices request atomicity own va bytes)
data_permitted csrs map choices request atomicity own va bytes =
    let look : Look =
    record { csrs = csrs; map = map; choices = choices; request = request; bytes = bytes } in
    data_all (IsPermittedRead csrs map) look atomicity own va (entry_permitted csrs map)
    (granted_own csrs map request (places_found csrs map choices request atomicity va bytes)
    (places_granted csrs map choices request atomicity va bytes))

-- the places are those found
abbrev AreFound : Look → Atomicity → ℕ → Places → Type 0
AreFound look atomicity va =
    ArePlacesFound look.csrs look.map look.choices look.request atomicity va look.bytes

found_by : (look : Look) (atomicity : Atomicity) (va : ℕ) (trap : Exception)
    (found : Result (List PlacedPart) Exception)
    → (look_places look atomicity va ≡ found)
    × IfOk found (λ placed. parts_in placed ≡ parts_of look.choices look.request atomicity va)
    × IfOk found (All (IsPermittedPart look.csrs look.map look.request))
    → IfOk (places_by trap found) (AreFound look atomicity va)
found_by look atomicity va trap (Err exception) is = tt
found_by look atomicity va trap (Ok []) is = tt
found_by look atomicity va trap (Ok (one ∷ [])) is =
    record { placed = one ∷ []; found = is.0; parts = is.1; order = refl; permitted = is.2 }
found_by look atomicity va trap (Ok (one ∷ two ∷ [])) is =
    record { placed = one ∷ two ∷ []; found = is.0; parts = is.1; order = refl; permitted = is.2 }
found_by look atomicity va trap (Ok (one ∷ two ∷ three ∷ more)) is = tt

pub found_places : (csrs : Csrs) (map : Map) (choices : Choices) (request : AccessRequest) (atomicity : Atomicity)
    (trap : Exception) (va : ℕ) (bytes : Bytes)
    → IfOk (places_by trap (places_found csrs map choices request atomicity va bytes))
    (ArePlacesFound csrs map choices request atomicity va bytes)
found_places csrs map choices request atomicity trap va bytes =
    let look : Look =
    record { csrs = csrs; map = map; choices = choices; request = request; bytes = bytes } in
    found_by look atomicity va trap (places_found csrs map choices request atomicity va bytes) (
      refl,
      same_parts csrs map choices (request_at request va) (parts_of choices request atomicity va) bytes,
      places_granted csrs map choices request atomicity va bytes,
    )

-- the law
pub fetch_granted : (csrs : Csrs) (map : Map) (choices : Choices) (mode : Mode) (pc : ℕ) (bytes : Bytes)
    → FetchIsPermitted csrs map choices mode pc bytes
fetch_granted csrs map choices mode pc bytes = record {
  order = (fetch_noted csrs map choices mode pc bytes).reads;
  permitted = fetch_permitted csrs map choices mode pc bytes;
}

pub load_granted : (csrs : Csrs) (map : Map) (choices : Choices) (mode : Mode) (va len : ℕ) (atomicity : Atomicity)
    (bytes : Bytes) → LoadIsPermitted csrs map choices mode va len atomicity bytes
load_granted csrs map choices mode va len atomicity bytes =
    let request = data_load csrs choices mode len atomicity in
    let trap : Exception = (LoadAddressMisaligned, va) in
    let places = places_by trap (places_found csrs map choices request atomicity va bytes) in
    let now = after_writes (data_sets_of csrs map choices request atomicity va bytes) bytes in
    let Found : Places → Type 0 = ArePlacesFound csrs map choices request atomicity va bytes in
    let P : Result LocatedValue Exception → Type 0 = λ loaded. IfOk loaded (λ found. Found (found.0, found.1)) in (
      record {
        order = (load_noted csrs map choices mode va len atomicity bytes).reads;
        permitted = data_permitted csrs map choices request atomicity true va bytes;
      },
      subst P (sym (load_value csrs map choices mode va len atomicity bytes))
          (load_from_places va len places Found now (found_places csrs map choices request atomicity trap va bytes)),
    )

pub store_granted : (csrs : Csrs) (map : Map) (choices : Choices) (mode : Mode) (va len : ℕ) (atomicity : Atomicity)
    (bytes : Bytes) → StoreIsPermitted csrs map choices mode va len atomicity bytes
store_granted csrs map choices mode va len atomicity bytes =
    let request = data_store csrs choices mode len atomicity in
    let trap : Exception = (StoreAddressMisaligned, va) in
    let P : Result Places Exception → Type 0 =
    λ places. IfOk places (ArePlacesFound csrs map choices request atomicity va bytes) in (
      record {
        order = (store_noted csrs map choices mode va len atomicity bytes).reads;
        permitted = data_permitted csrs map choices request atomicity false va bytes;
      },
      subst P (sym (store_value csrs map choices mode va len atomicity bytes))
          (found_places csrs map choices request atomicity trap va bytes),
    )

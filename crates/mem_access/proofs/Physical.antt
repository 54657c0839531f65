-- Without translation the physical address is the virtual one.
use Rattle.std.proofs.Common.{◌≡◌, ℕ, ◌+◌, ◌%◌, ◌^◌, ◌<◌, Bool, true, false, not, ◌&&◌, List, [], ◌∷◌, ◌++◌, get_or}
use Rattle.std.proofs.Common.{refl, sym, ap, ◌∙◌, subst, inl, inr, arith, Ok, Err, Result, if◌then◌else◌}
use Rattle.std.specs.Prelude.{◌==◌, All, Contains, IfOk}
use Rattle.std.proofs.lemmas.List.{get_or-map, length-map}
use Rattle.std.proofs.lemmas.List.Elements.{All-append, All-map}
use Rattle.std.proofs.lemmas.Result.{IfOk-weaker}
use Rattle.hart_words.specs.declared.privilege.Mode.{Mode}
use Rattle.hart_words.specs.declared.privilege.Cause.{Cause}
use Rattle.hart_words.specs.declared.privilege.Cause.TheVariants.{LoadAddressMisaligned, StoreAddressMisaligned}
use Rattle.hart_words.specs.declared.map.Map.{Map}
use Rattle.hart_words.specs.declared.choices.Choices.{Choices}
use Rattle.hart_words.specs.declared.accesses.Read.{Read}
use Rattle.hart_words.specs.declared.accesses.Write.{Write}
use Rattle.hart_words.specs.Memory.{Bytes, after_writes}
use Rattle.hart_words.specs.Privilege.{access_fault_of}
use Rattle.hart_words.specs.Devices.{is_device}
use Rattle.hart_words.specs.Spans.{holds_all}
use Rattle.csr_file.specs.declared.csrs.Csrs.{Csrs}
use Rattle.csr_file.specs.declared.stored_csr.StoredCsr.TheVariants.{Satp}
use Rattle.csr_file.specs.declared.fields.TheConstants.{BARE}
use Rattle.csr_file.specs.Fields.{satp_mode_of}
use Rattle.csr_file.specs.Registers.{at}
use Rattle.pmp_check.specs.Protection.{is_machine}
use Rattle.mem_access.specs.declared.place.AccessRequest.{AccessRequest}
use Rattle.mem_access.specs.declared.place.Atomicity.{Atomicity}
use Rattle.mem_access.specs.declared.place.Place.{Place}
use Rattle.mem_access.specs.Places.{is_permitted, place_of}
use Rattle.mem_access.specs.Translation.{is_translated}
use Rattle.mem_access.specs.Accesses.{Exception, LocatedValue, Part, Places, data_load, data_store, first_part}
use Rattle.mem_access.specs.Accesses.{has_second_part, is_split, parcel_fetch, request_for, second_part}
use Rattle.mem_access.specs.Reads.{CheckedRead, PlacedPart, access_reads_of, address_found, bytes_after_walk}
use Rattle.mem_access.specs.Reads.{data_reads_of, fetch_reads_of, has_second, own_read, own_reads_at, own_reads_of}
use Rattle.mem_access.specs.Reads.{part_found, part_walks_of, parts_of, place_found, places_found}
use Rattle.mem_access.specs.Reads.{reads_in, request_at, walk_reads_of, walk_sets_of, if_found, whole_part}
use Rattle.mem_access.specs.Laws.{ArePhysical, FetchIsPhysical, IsParcelOf, IsPartRead, IsUntranslated, LoadIsPhysical}
use Rattle.mem_access.specs.Laws.{StoreIsPhysical, parts_in}
use Rattle.mem_access.proofs.Granted.{HoldsOfOwn, Look, all_if, look_places, own_all, own_parts_all}
use Rattle.mem_access.proofs.Granted.{parts_all, same_parts}
use Rattle.mem_access.proofs.Orders.{data_sets_of, fetch_noted, load_from_places, load_noted, load_value, part_sets_of}
use Rattle.mem_access.proofs.Orders.{places_by, store_noted, store_value}

abbrev pub IsAt : ℕ → Place → Type 0
IsAt pa place = place.pa ≡ pa

both_off : (on : Bool) → (on && not true) ≡ false
both_off true = refl
both_off false = refl

is_off : (csrs : Csrs) (mode : Mode) → IsUntranslated csrs mode → is_translated csrs mode ≡ false
unfolding is_translated
is_off csrs mode (inl machine) =
    let P : Mode → Type 0 = λ m. (not (is_machine m) && not (satp_mode_of (at csrs Satp) == BARE)) ≡ false in
    subst P (sym machine) refl
is_off csrs mode (inr bare) =
    let P : ℕ → Type 0 = λ n. (not (is_machine mode) && not (n == BARE)) ≡ false in
    subst P (sym bare) (both_off (not (is_machine mode)))

-- nothing is read or set on the way
no_walk : (csrs : Csrs) (map : Map) (mode : Mode) (va : ℕ) (bytes : Bytes) → is_translated csrs mode ≡ false
    → walk_reads_of csrs map mode va bytes ≡ []
unfolding walk_reads_of
no_walk csrs map mode va bytes off = rw off refl

no_sets : (csrs : Csrs) (map : Map) (choices : Choices) (request : AccessRequest) (va : ℕ) (bytes : Bytes)
    → is_translated csrs request.mode ≡ false → walk_sets_of csrs map choices request va bytes ≡ []
unfolding walk_sets_of
no_sets csrs map choices request va bytes off = rw off refl

place_by : (csrs : Csrs) (map : Map) (request : AccessRequest) (pa : ℕ) (held device granted : Bool)
    → IfOk
    (if granted then (if held then Ok (record { pa = pa; is_device = false }) else if device then Ok
    (record { pa = pa; is_device = true }) else Err (access_fault_of request.access)) else Err
    (access_fault_of request.access)) (IsAt pa)
place_by csrs map request pa held device false = tt
place_by csrs map request pa true device true = refl
place_by csrs map request pa false true true = refl
place_by csrs map request pa false false true = tt

pub placed_at : (csrs : Csrs) (map : Map) (request : AccessRequest) (pa : ℕ)
    → IfOk (place_of csrs map request pa) (IsAt pa)
unfolding place_of
placed_at csrs map request pa =
    place_by csrs map request pa (holds_all map.ram pa request.len)
    (request.devices && is_device map.io pa request.len) (is_permitted csrs request pa)

-- the place is at the virtual address
pub found_at : (csrs : Csrs) (map : Map) (choices : Choices) (request : AccessRequest) (va : ℕ) (bytes : Bytes)
    → is_translated csrs request.mode ≡ false → IfOk (place_found csrs map choices request va bytes) (IsAt va)
unfolding place_found address_found
found_at csrs map choices request va bytes off =
    let P : Result Place Cause → Type 0 = λ placed. IfOk placed (IsAt va) in
    rw off (placed_at csrs map request va)

-- a fetch
one_parcel : (P : CheckedRead → Type 0) (csrs : Csrs) (map : Map) (choices : Choices) (mode : Mode) (va : ℕ)
    (bytes : Bytes)
    → (is_translated csrs mode ≡ false)
    × ((place : Place) → IsAt va place → P (own_read (parcel_fetch mode) va place))
    → All P (access_reads_of csrs map choices (parcel_fetch mode) va bytes)
unfolding access_reads_of
one_parcel P csrs map choices mode va bytes is =
    let request = parcel_fetch mode in
    let placed = place_found csrs map choices request va bytes in
    let own = own_reads_at request va placed in
    let Q : List CheckedRead → Type 0 = λ walk. All P (walk ++ own) in
    subst Q (sym (no_walk csrs map mode va bytes is.0))
    (own_all P request va placed
    (IfOk-weaker placed (IsAt va) (λ place. place.is_device ≡ false → P (own_read request va place))
    (λ place here memory. is.1 place here) (found_at csrs map choices request va bytes is.0)))

abbrev IsParcelCheck : ℕ → CheckedRead → Type 0
IsParcelCheck pc check = IsParcelOf pc check.read

fetch_reads_physical : (csrs : Csrs) (map : Map) (choices : Choices) (mode : Mode) (pc : ℕ) (bytes : Bytes)
    → is_translated csrs mode ≡ false
    → All (IsParcelCheck pc) (fetch_reads_of csrs map choices mode pc bytes)
unfolding fetch_reads_of
fetch_reads_physical csrs map choices mode pc bytes off =
    let request = parcel_fetch mode in
    let next : ℕ = (pc + 2) % 2 ^ 64 in
    let now = bytes_after_walk csrs map choices request pc bytes in
    let second = access_reads_of csrs map choices request next now in
    let long = has_second now (place_found csrs map choices request pc bytes) in
    All-append (IsParcelCheck pc) (access_reads_of csrs map choices request pc bytes) (if long then second else [])
    (one_parcel (IsParcelCheck pc) csrs map choices mode pc bytes (off, λ place here. (refl, inl here)))
    (all_if (IsParcelCheck pc) second long
    (one_parcel (IsParcelCheck pc) csrs map choices mode next now (off, λ place here. (refl, inr here))))

none_if : (one two : List Write) (made : Bool) → one ≡ [] → two ≡ [] → one ++ (if made then two else []) ≡ []
none_if one two true first second = ap (λ w. w ++ two) first ∙ second
none_if one two false first second = ap (λ w. w ++ []) first

pub fetch_physical : (csrs : Csrs) (map : Map) (choices : Choices) (mode : Mode) (pc : ℕ) (bytes : Bytes)
    → FetchIsPhysical csrs map choices mode pc bytes
fetch_physical csrs map choices mode pc bytes bare_or_machine =
    let off = is_off csrs mode bare_or_machine in
    let request = parcel_fetch mode in
    let next : ℕ = (pc + 2) % 2 ^ 64 in
    let now = bytes_after_walk csrs map choices request pc bytes in
    let noted = fetch_noted csrs map choices mode pc bytes in
    let checks = fetch_reads_of csrs map choices mode pc bytes in
    let P : List Read → Type 0 = All (IsParcelOf pc) in (
      subst P (sym noted.reads)
          (All-map (IsParcelOf pc) (λ check. check.read) checks
          (fetch_reads_physical csrs map choices mode pc bytes off)),
      noted.wrote
          ∙ none_if (walk_sets_of csrs map choices request pc bytes) (walk_sets_of csrs map choices request next now)
          (has_second now (place_found csrs map choices request pc bytes))
          (no_sets csrs map choices request pc bytes off) (no_sets csrs map choices request next now off),
    )

-- parts
none_where : {A : Type 0} (one : List A) (found : Result Place Cause) (more : List A) → one ≡ [] → more ≡ []
    → one ++ if_found found more ≡ []
none_where one (Err cause) more first second = ap (λ xs. xs ++ []) first
none_where one (Ok place) more first second = ap (λ xs. xs ++ more) first ∙ second

no_walks : (csrs : Csrs) (map : Map) (choices : Choices) (request : AccessRequest) (parts : List Part)
    (bytes : Bytes) → is_translated csrs request.mode ≡ false
    → part_walks_of csrs map choices request parts bytes ≡ []
unfolding part_walks_of
no_walks csrs map choices request [] bytes off = refl
no_walks csrs map choices request (part ∷ parts) bytes off =
    let now = bytes_after_walk csrs map choices request part.va bytes in
    none_where (walk_reads_of csrs map request.mode part.va bytes) (part_found csrs map choices request part bytes)
    (part_walks_of csrs map choices request parts now) (no_walk csrs map request.mode part.va bytes off)
    (no_walks csrs map choices request parts now off)

no_part_sets : (csrs : Csrs) (map : Map) (choices : Choices) (request : AccessRequest) (parts : List Part)
    (bytes : Bytes) → is_translated csrs request.mode ≡ false
    → part_sets_of csrs map choices request parts bytes ≡ []
unfolding part_sets_of
no_part_sets csrs map choices request [] bytes off = refl
no_part_sets csrs map choices request (part ∷ parts) bytes off =
    let now = bytes_after_walk csrs map choices request part.va bytes in
    none_where (walk_sets_of csrs map choices request part.va bytes)
    (part_found csrs map choices request part bytes) (part_sets_of csrs map choices request parts now)
    (no_sets csrs map choices request part.va bytes off) (no_part_sets csrs map choices request parts now off)

same_mode : (request : AccessRequest) (va : ℕ) → (request_at request va).mode ≡ request.mode
unfolding request_at
same_mode request va = by (va % request.len == 0)
  where
    by : (aligned : Bool) → (if aligned then request else record request { devices = false }).mode ≡ request.mode
    by true = refl
    by false = refl

still_off : (csrs : Csrs) (request : AccessRequest) (va : ℕ) → is_translated csrs request.mode ≡ false
    → is_translated csrs (request_at request va).mode ≡ false
still_off csrs request va off = ap (is_translated csrs) (same_mode request va) ∙ off

-- each part is at its own address
abbrev IsAtPart : PlacedPart → Type 0
IsAtPart placed = placed.place.pa ≡ placed.part.va

parts_at : (csrs : Csrs) (map : Map) (choices : Choices) (request : AccessRequest) (atomicity : Atomicity) (va : ℕ)
    (bytes : Bytes) → is_translated csrs request.mode ≡ false
    → IfOk (places_found csrs map choices request atomicity va bytes) (All IsAtPart)
parts_at csrs map choices request atomicity va bytes off =
    let asked = request_at request va in
    parts_all csrs map choices asked IsAtPart (parts_of choices request atomicity va) bytes
    (λ part now. found_at csrs map choices (request_for asked part) part.va now (still_off csrs request va off))

-- each of the parts that were found is one of them
abbrev IsOneOf : List Part → PlacedPart → Type 0
IsOneOf parts placed = Contains parts placed.part

each_in : (placed : List PlacedPart) → All (IsOneOf (parts_in placed)) placed
each_in placed = λ k d below.
    let part = (get_or placed k d).part in (
      k,
      subst (λ (n : ℕ). k < n) (sym (length-map placed (λ one. one.part))) below,
      get_or-map (λ one. one.part) placed k d part below,
    )

own_in : (request : AccessRequest) (parts : List Part) (found : Result (List PlacedPart) Exception)
    → IfOk found (λ placed. parts_in placed ≡ parts) → IfOk found (All IsAtPart)
    → IfOk found (All (HoldsOfOwn (λ check. IsPartRead parts check.read) request))
own_in request parts (Err exception) same at = tt
own_in request parts (Ok placed) same at = λ k d below memory.
    let one = get_or placed k d in
    let P : List Part → Type 0 = λ those. Contains those one.part in
    let Q : ℕ → Type 0 = λ va. Contains parts (record { va = va; len = one.part.len }) in
    subst Q (sym (at k d below)) (subst P same (each_in placed k d below))

-- the first part begins at the address, and the second where its page ends
abbrev StartAt : ℕ → ℕ → List Part → Type 0
StartAt va len [] = Unit {0}
StartAt va len (one ∷ []) = one.va ≡ va
StartAt va len (one ∷ two ∷ more) = (one.va ≡ va) × (two.va ≡ (second_part va len).va)

parts_start : (choices : Choices) (request : AccessRequest) (atomicity : Atomicity) (va : ℕ)
    → StartAt va request.len (parts_of choices request atomicity va)
unfolding parts_of
parts_start choices request atomicity va =
    by (va % request.len == 0) (is_split choices request atomicity va) (has_second_part va request.len)
  where
    by : (aligned split over : Bool)
        → StartAt va request.len
        (if aligned then whole_part va request.len ∷ []
        else if split then
        (if over then first_part va request.len ∷ second_part va request.len ∷ [] else whole_part va request.len ∷ [])
        else [])
    by true split over = refl
    by false true true = (refl, refl)
    by false true false = refl
    by false false over = tt

places_at : (va len : ℕ) (trap : Exception) (found : Result (List PlacedPart) Exception)
    → IfOk found (λ placed. StartAt va len (parts_in placed)) → IfOk found (All IsAtPart)
    → IfOk (places_by trap found) (ArePhysical va len)
places_at va len trap (Err exception) start at = tt
places_at va len trap (Ok []) start at = tt
places_at va len trap (Ok (one ∷ [])) start at = (at 0 one (omega arith) ∙ start, tt)
places_at va len trap (Ok (one ∷ two ∷ [])) start at =
    (at 0 one (omega arith) ∙ start.0, at 1 two (omega arith) ∙ start.1)
places_at va len trap (Ok (one ∷ two ∷ three ∷ more)) start at = tt

places_physical : (look : Look) (atomicity : Atomicity) (trap : Exception) (va : ℕ)
    → is_translated look.csrs look.request.mode ≡ false
    → IfOk (places_by trap (look_places look atomicity va)) (ArePhysical va look.request.len)
places_physical look atomicity trap va off =
    let found = look_places look atomicity va in
    let parts = parts_of look.choices look.request atomicity va in
    let P : List Part → Type 0 = StartAt va look.request.len in
    places_at va look.request.len trap found
    (IfOk-weaker found (λ placed. parts_in placed ≡ parts) (λ placed. P (parts_in placed))
    (λ placed same. subst P (sym same) (parts_start look.choices look.request atomicity va))
    (same_parts look.csrs look.map look.choices (request_at look.request va) parts look.bytes))
    (parts_at look.csrs look.map look.choices look.request atomicity va look.bytes off)

reads_physical : (csrs : Csrs) (map : Map) (choices : Choices) (request : AccessRequest) (atomicity : Atomicity)
    (va : ℕ) (bytes : Bytes) → is_translated csrs request.mode ≡ false
    → All (IsPartRead (parts_of choices request atomicity va))
    (reads_in (data_reads_of csrs map choices request atomicity true va bytes))
unfolding data_reads_of
reads_physical csrs map choices request atomicity va bytes off =
    let asked = request_at request va in
    let parts = parts_of choices request atomicity va in
    let found = places_found csrs map choices request atomicity va bytes in
    let own = own_reads_of request found in
    let Q : CheckedRead → Type 0 = λ check. IsPartRead parts check.read in
    let P : List CheckedRead → Type 0 = λ walks. All (IsPartRead parts) (reads_in (walks ++ own)) in
    subst P (sym (no_walks csrs map choices asked parts bytes (still_off csrs request va off)))
    (All-map (IsPartRead parts) (λ check. check.read) own
    (own_parts_all Q request found
    (own_in request parts found (same_parts csrs map choices asked parts bytes)
    (parts_at csrs map choices request atomicity va bytes off))))

no_data_sets : (csrs : Csrs) (map : Map) (choices : Choices) (request : AccessRequest) (atomicity : Atomicity) (va : ℕ)
    (bytes : Bytes) → is_translated csrs request.mode ≡ false
    → data_sets_of csrs map choices request atomicity va bytes ≡ []
no_data_sets csrs map choices request atomicity va bytes off =
    no_part_sets csrs map choices (request_at request va) (parts_of choices request atomicity va) bytes
    (still_off csrs request va off)

no_data_reads : (csrs : Csrs) (map : Map) (choices : Choices) (request : AccessRequest) (atomicity : Atomicity) (va : ℕ)
    (bytes : Bytes) → is_translated csrs request.mode ≡ false
    → reads_in (data_reads_of csrs map choices request atomicity false va bytes) ≡ []
unfolding data_reads_of
no_data_reads csrs map choices request atomicity va bytes off =
    ap (λ walks. reads_in (walks ++ []))
    (no_walks csrs map choices (request_at request va) (parts_of choices request atomicity va) bytes
    (still_off csrs request va off))

pub load_physical : (csrs : Csrs) (map : Map) (choices : Choices) (mode : Mode) (va len : ℕ) (atomicity : Atomicity)
    (bytes : Bytes) → LoadIsPhysical csrs map choices mode va len atomicity bytes
load_physical csrs map choices mode va len atomicity bytes bare_or_machine =
    let request = data_load csrs choices mode len atomicity in
    let off = is_off csrs request.mode bare_or_machine in
    let look : Look =
    record { csrs = csrs; map = map; choices = choices; request = request; bytes = bytes } in
    let noted = load_noted csrs map choices mode va len atomicity bytes in
    let trap : Exception = (LoadAddressMisaligned, va) in
    let places = places_by trap (places_found csrs map choices request atomicity va bytes) in
    let now = after_writes (data_sets_of csrs map choices request atomicity va bytes) bytes in
    let P : Result LocatedValue Exception → Type 0 =
    λ loaded. IfOk loaded (λ found. ArePhysical va len (found.0, found.1)) in
    let Q : List Read → Type 0 = All (IsPartRead (parts_of choices request atomicity va)) in (
      subst Q (sym noted.reads) (reads_physical csrs map choices request atomicity va bytes off),
      noted.wrote ∙ no_data_sets csrs map choices request atomicity va bytes off,
      subst P (sym (load_value csrs map choices mode va len atomicity bytes))
          (load_from_places va len places (ArePhysical va len) now
          (places_physical look atomicity trap va off)),
    )

pub store_physical : (csrs : Csrs) (map : Map) (choices : Choices) (mode : Mode) (va len : ℕ) (atomicity : Atomicity)
    (bytes : Bytes) → StoreIsPhysical csrs map choices mode va len atomicity bytes
store_physical csrs map choices mode va len atomicity bytes bare_or_machine =
    let request = data_store csrs choices mode len atomicity in
    let off = is_off csrs request.mode bare_or_machine in
    let look : Look =
    record { csrs = csrs; map = map; choices = choices; request = request; bytes = bytes } in
    let noted = store_noted csrs map choices mode va len atomicity bytes in
    let trap : Exception = (StoreAddressMisaligned, va) in
    let P : Result Places Exception → Type 0 = λ places. IfOk places (ArePhysical va len) in (
      noted.reads ∙ no_data_reads csrs map choices request atomicity va bytes off,
      noted.wrote ∙ no_data_sets csrs map choices request atomicity va bytes off,
      subst P (sym (store_value csrs map choices mode va len atomicity bytes))
          (places_physical look atomicity trap va off),
    )

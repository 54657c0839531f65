-- What accesses read and set, and where they go.
use Rattle.std.specs.Prelude.{◌≡◌, ℕ, ◌+◌, ◌%◌, ◌^◌, ◌≤◌, ◌⊎◌, true, false, List, [], ◌∷◌, All, Contains, map}
use Rattle.std.specs.Prelude.{Some, None, IfSome, IfOk, Ok}
use Rattle.hart_words.specs.declared.privilege.Access.{Access}
use Rattle.hart_words.specs.declared.privilege.Mode.{Mode}
use Rattle.hart_words.specs.declared.privilege.Mode.TheVariants.{Machine}
use Rattle.hart_words.specs.declared.map.Map.{Map}
use Rattle.hart_words.specs.declared.span.TheConstants.{PAGE_SIZE}
use Rattle.hart_words.specs.declared.choices.Choices.{Choices}
use Rattle.hart_words.specs.declared.options.Marks.TheVariants as marks
use Rattle.hart_words.specs.declared.accesses.Read.{Read}
use Rattle.hart_words.specs.declared.accesses.Write.{Write}
use Rattle.hart_words.specs.AccessSizes.{IsLength}
use Rattle.hart_words.specs.EntryWrites.{entry_write}
use Rattle.hart_words.specs.Memory.{Bytes, bytes_after_store, number_at}
use Rattle.hart_words.specs.Spans.{holds_all}
use Rattle.csr_file.specs.declared.csrs.Csrs.{Csrs}
use Rattle.csr_file.specs.declared.stored_csr.StoredCsr.TheVariants.{Satp}
use Rattle.csr_file.specs.declared.fields.TheConstants.{BARE}
use Rattle.csr_file.specs.Fields.{satp_mode_of}
use Rattle.csr_file.specs.Registers.{at}
use Rattle.sv39_walk.specs.declared.entry.TheConstants.{ENTRY_SIZE}
use Rattle.sv39_walk.specs.Entries.{is_leaf, with_marks}
use Rattle.mem_access.specs.declared.place.AccessRequest.{AccessRequest}
use Rattle.mem_access.specs.declared.place.Atomicity.{Atomicity}
use Rattle.mem_access.specs.declared.place.Place.{Place}
use Rattle.mem_access.specs.Places.{data_mode_of, is_permitted}
use Rattle.mem_access.specs.Translation.{is_readable, is_settable}
use Rattle.mem_access.specs.Accesses.{Part, Places, data_load, data_store, fetch_result, load_result, request_for}
use Rattle.mem_access.specs.Accesses.{second_part, store_place_of}
use Rattle.mem_access.specs.Reads.{AreMapped, CheckedRead, IsPermittedRead, PlacedPart, data_reads_of, fetch_reads_of}
use Rattle.mem_access.specs.Reads.{parts_of, place_found, places_found, reads_in}

-- a write sets A, or A and D, in a page's entry: 8 aligned bytes of RAM that S may load and store. They become what
-- stood there with those bits set
pub record IsTableSet (csrs : Csrs) (map : Map) (choices : Choices) (bytes : Bytes) (write : Write) : Type 0 where
  pub marks : choices.marks ≡ marks.Set
  pub aligned : write.pa % ENTRY_SIZE ≡ 0
  pub readable : is_readable csrs map write.pa ≡ true
  pub settable : is_settable csrs map write.pa ≡ true
  pub leaf : is_leaf (number_at bytes write.pa ENTRY_SIZE) ≡ true
  pub access : Access
  pub value : write ≡ entry_write write.pa (with_marks access (number_at bytes write.pa ENTRY_SIZE))

-- all writes do, each in memory as those before it leave it
unfoldable pub AreTableSets : Csrs → Map → Choices → Bytes → List Write → Type 0
AreTableSets csrs map choices bytes [] = Unit {0}
AreTableSets csrs map choices bytes (write ∷ writes) =
    IsTableSet csrs map choices bytes write
    × AreTableSets csrs map choices (bytes_after_store write.pa write.len write.value bytes) writes

-- what is written is entries that are set, and nothing where A and D that are clear are page faults
pub record SetsAlone (csrs : Csrs) (map : Map) (choices : Choices) (bytes : Bytes) (writes : List Write)
    : Type 0 where
  pub sets : AreTableSets csrs map choices bytes writes
  pub none : choices.marks ≡ marks.Fault → writes ≡ []

abbrev pub FetchSetsAlone : Csrs → Map → Choices → Mode → ℕ → Bytes → Type 0
FetchSetsAlone csrs map choices mode pc bytes =
    SetsAlone csrs map choices bytes ((fetch_result csrs map choices mode pc).run bytes).wrote

abbrev pub LoadSetsAlone : Csrs → Map → Choices → Mode → ℕ → ℕ → Atomicity → Bytes → Type 0
LoadSetsAlone csrs map choices mode va len atomicity bytes =
    SetsAlone csrs map choices bytes ((load_result csrs map choices mode va len atomicity).run bytes).wrote

abbrev pub StoreSetsAlone : Csrs → Map → Choices → Mode → ℕ → ℕ → Atomicity → Bytes → Type 0
StoreSetsAlone csrs map choices mode va len atomicity bytes =
    SetsAlone csrs map choices bytes ((store_place_of csrs map choices mode va len atomicity).run bytes).wrote

-- reads are those of a list, in its order, and each is permitted
pub record AreReads (csrs : Csrs) (map : Map) (checks : List CheckedRead) (reads : List Read) : Type 0 where
  pub order : reads ≡ reads_in checks
  pub permitted : All (IsPermittedRead csrs map) checks

-- protection grants the access at its place, and where no device answers it that is RAM
pub record IsPermittedPlace (csrs : Csrs) (map : Map) (request : AccessRequest) (place : Place) : Type 0 where
  pub granted : is_permitted csrs request place.pa ≡ true
  pub inside : place.is_device ≡ false → holds_all map.ram place.pa request.len ≡ true

-- such a place for a part, over the part's own bytes
abbrev pub IsPermittedPart : Csrs → Map → AccessRequest → PlacedPart → Type 0
IsPermittedPart csrs map request placed = IsPermittedPlace csrs map (request_for request placed.part) placed.place

abbrev pub parts_in : List PlacedPart → List Part
parts_in placed = map (λ one. one.part) placed

abbrev pub places_in : List PlacedPart → List Place
places_in placed = map (λ one. one.place) placed

abbrev pub place_list : Places → List Place
place_list (first, None) = first ∷ []
place_list (first, Some second) = first ∷ second ∷ []

-- the places of an access are those that are found for its parts, in their order, and each is permitted by itself
pub record ArePlacesFound (csrs : Csrs) (map : Map) (choices : Choices) (request : AccessRequest)
    (atomicity : Atomicity) (va : ℕ) (bytes : Bytes) (places : Places) : Type 0 where
  pub placed : List PlacedPart
  pub found : places_found csrs map choices request atomicity va bytes ≡ Ok placed
  pub parts : parts_in placed ≡ parts_of choices request atomicity va
  pub order : places_in placed ≡ place_list places
  pub permitted : All (IsPermittedPart csrs map request) placed

-- a fetch reads its parcels, each after the entries of its walk
abbrev pub FetchIsPermitted : Csrs → Map → Choices → Mode → ℕ → Bytes → Type 0
FetchIsPermitted csrs map choices mode pc bytes =
    AreReads csrs map (fetch_reads_of csrs map choices mode pc bytes)
    ((fetch_result csrs map choices mode pc).run bytes).reads

-- a load reads its bytes after the entries of its walks
abbrev pub LoadIsPermitted : Csrs → Map → Choices → Mode → ℕ → ℕ → Atomicity → Bytes → Type 0
LoadIsPermitted csrs map choices mode va len atomicity bytes =
    let request = data_load csrs choices mode len atomicity in
    let run = (load_result csrs map choices mode va len atomicity).run bytes in
    AreReads csrs map (data_reads_of csrs map choices request atomicity true va bytes) run.reads
    × IfOk run.value
    (λ found. ArePlacesFound csrs map choices request atomicity va bytes (found.0, found.1))

-- looking for the places of a store reads the entries of its walks alone
abbrev pub StoreIsPermitted : Csrs → Map → Choices → Mode → ℕ → ℕ → Atomicity → Bytes → Type 0
StoreIsPermitted csrs map choices mode va len atomicity bytes =
    let request = data_store csrs choices mode len atomicity in
    let run = (store_place_of csrs map choices mode va len atomicity).run bytes in
    AreReads csrs map (data_reads_of csrs map choices request atomicity false va bytes) run.reads
    × IfOk run.value (ArePlacesFound csrs map choices request atomicity va bytes)

-- where the access is translated, each byte of a part is where a leaf puts it, in memory as the access finds it
abbrev pub IsMappedPart : Csrs → Map → Choices → AccessRequest → Bytes → PlacedPart → Type 0
IsMappedPart csrs map choices request bytes placed =
    AreMapped csrs map choices (request_for request placed.part) bytes placed.part.va placed.place.pa

abbrev pub PlacesAreMapped : Csrs → Map → Choices → AccessRequest → Atomicity → ℕ → Bytes → Type 0
PlacesAreMapped csrs map choices request atomicity va bytes =
    IsLength request.len
    → IfOk (places_found csrs map choices request atomicity va bytes)
    (All (IsMappedPart csrs map choices request bytes))

-- so with each access that lies in one page, as those of a fetch do
abbrev pub PlaceIsMapped : Csrs → Map → Choices → AccessRequest → ℕ → Bytes → Type 0
PlaceIsMapped csrs map choices request va bytes =
    va % PAGE_SIZE + request.len ≤ PAGE_SIZE
    → IfOk (place_found csrs map choices request va bytes)
    (λ place. AreMapped csrs map choices request bytes va place.pa)

-- there is no translation in M, nor where satp's MODE is Bare
abbrev pub IsUntranslated : Csrs → Mode → Type 0
IsUntranslated csrs mode = (mode ≡ Machine) ⊎ (satp_mode_of (at csrs Satp) ≡ BARE)

-- a fetch reads its parcels, at its address and after it, and nothing else
abbrev pub IsParcelOf : ℕ → Read → Type 0
IsParcelOf pc read = (read.len ≡ 2) × ((read.pa ≡ pc) ⊎ (read.pa ≡ (pc + 2) % 2 ^ 64))

abbrev pub FetchIsPhysical : Csrs → Map → Choices → Mode → ℕ → Bytes → Type 0
FetchIsPhysical csrs map choices mode pc bytes =
    let run = (fetch_result csrs map choices mode pc).run bytes in
    IsUntranslated csrs mode → All (IsParcelOf pc) run.reads × (run.wrote ≡ [])

-- a read is of a part, at its own virtual address
abbrev pub IsPartRead : List Part → Read → Type 0
IsPartRead parts read = Contains parts (record { va = read.pa; len = read.len })

-- the place of each part is its virtual address
abbrev pub ArePhysical : ℕ → ℕ → Places → Type 0
ArePhysical va len places =
    (places.0.pa ≡ va) × IfSome places.1 (λ second. second.pa ≡ (second_part va len).va)

-- a load reads the bytes at its parts' addresses alone, and sets nothing
abbrev pub LoadIsPhysical : Csrs → Map → Choices → Mode → ℕ → ℕ → Atomicity → Bytes → Type 0
LoadIsPhysical csrs map choices mode va len atomicity bytes =
    let parts = parts_of choices (data_load csrs choices mode len atomicity) atomicity va in
    let run = (load_result csrs map choices mode va len atomicity).run bytes in
    IsUntranslated csrs (data_mode_of csrs mode)
    → All (IsPartRead parts) run.reads × (run.wrote ≡ [])
    × IfOk run.value (λ found. ArePhysical va len (found.0, found.1))

-- the places of a store are its parts' addresses, and nothing is read or set for them
abbrev pub StoreIsPhysical : Csrs → Map → Choices → Mode → ℕ → ℕ → Atomicity → Bytes → Type 0
StoreIsPhysical csrs map choices mode va len atomicity bytes =
    let run = (store_place_of csrs map choices mode va len atomicity).run bytes in
    IsUntranslated csrs (data_mode_of csrs mode)
    → (run.reads ≡ []) × (run.wrote ≡ []) × IfOk run.value (ArePhysical va len)

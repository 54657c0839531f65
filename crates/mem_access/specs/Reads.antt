-- What an access reads, in order: the entries of page tables on its way, and then its own bytes at the places that are
-- found. Each read has the mode that protection is asked for. From the Privileged Architecture's chapters
-- "Machine-Level ISA" (protection) and "Supervisor-Level ISA" (Sv39).
use Rattle.std.specs.Prelude.{◌≡◌, ℕ, ◌+◌, ◌%◌, ◌^◌, ◌<◌, ◌⊎◌, Bool, true, false, ◌==◌, if◌then◌else◌, IsTrue, List, []}
use Rattle.std.specs.Prelude.{◌∷◌, ◌++◌, map, flat_map, length, Option, Some, None, Result, Ok, Err}
use Rattle.hart_words.specs.declared.privilege.Mode.{Mode}
use Rattle.hart_words.specs.declared.privilege.Mode.TheVariants.{Supervisor}
use Rattle.hart_words.specs.declared.privilege.Access.{Access}
use Rattle.hart_words.specs.declared.privilege.Access.TheVariants.{Load}
use Rattle.hart_words.specs.declared.privilege.Cause.{Cause}
use Rattle.hart_words.specs.declared.map.Map.{Map}
use Rattle.hart_words.specs.declared.choices.Choices.{Choices}
use Rattle.hart_words.specs.declared.options.Marks.TheVariants as marks
use Rattle.hart_words.specs.declared.accesses.Read.{Read}
use Rattle.hart_words.specs.declared.accesses.Write.{Write}
use Rattle.hart_words.specs.Memory.{Bytes, after_writes, number_at}
use Rattle.hart_words.specs.Spans.{holds_all}
use Rattle.csr_file.specs.declared.csrs.Csrs.{Csrs}
use Rattle.csr_file.specs.declared.stored_csr.StoredCsr.TheVariants.{Satp}
use Rattle.csr_file.specs.Registers.{at, pmp_entries_of}
use Rattle.pmp_check.specs.Protection.{is_allowed}
use Rattle.sv39_walk.specs.Entries.{address_in, is_leaf, is_marked, leaf_allows}
use Rattle.sv39_walk.specs.Walk.{Visit, chain, chain_result, chain_wrote, entry_in, entry_reads_of, visit_at}
use Rattle.mem_access.specs.declared.place.AccessRequest.{AccessRequest}
use Rattle.mem_access.specs.declared.place.Atomicity.{Atomicity}
use Rattle.mem_access.specs.declared.place.Place.{Place}
use Rattle.mem_access.specs.Translation.{is_readable, is_settable, is_translated, place_after_translation, tables_of}
use Rattle.mem_access.specs.Translation.{walk_flags_of}
use Rattle.mem_access.specs.Accesses.{Exception, Part, first_part, has_second_part, is_split, parcel_fetch, request_for}
use Rattle.mem_access.specs.Accesses.{second_part}

-- a read as protection checks it: the mode that makes it, and the kind of access. A read of an access's own bytes has
-- the virtual address of their part; a read of an entry of a page table has none
pub record CheckedRead : Type 0 where
  pub mode : Mode
  pub access : Access
  pub va : Option ℕ
  pub read : Read

-- the reads without their checks
abbrev pub reads_in : List CheckedRead → List Read
reads_in checks = map (λ check. check.read) checks

-- the bytes are RAM, and protection grants them to the mode
abbrev pub IsPermittedRead : Csrs → Map → CheckedRead → Type 0
IsPermittedRead csrs map check =
    IsTrue (holds_all map.ram check.read.pa check.read.len)
    × IsTrue (is_allowed (pmp_entries_of csrs) check.mode check.read.pa check.read.len check.access)

-- S loads entries of page tables
abbrev pub entry_load : Read → CheckedRead
entry_load read = record { mode = Supervisor; access = Load; va = None; read = read }

abbrev pub entry_loads : List Read → List CheckedRead
entry_loads reads = map entry_load reads

-- the chain of a virtual address, from the table that satp names
abbrev pub chain_of : Csrs → Map → Bytes → ℕ → List Visit
chain_of csrs map bytes va = chain (is_readable csrs map) bytes (at csrs Satp) va

-- where accesses of the mode are translated, the entries of the chain that can be read
unfoldable pub walk_reads_of : Csrs → Map → Mode → ℕ → Bytes → List CheckedRead
walk_reads_of csrs map mode va bytes =
    if is_translated csrs mode then entry_loads (entry_reads_of (is_readable csrs map) (chain_of csrs map bytes va))
    else []

-- what is set on the way: where accesses are translated, the last entry of the chain where it gains A or D
unfoldable pub walk_sets_of : Csrs → Map → Choices → AccessRequest → ℕ → Bytes → List Write
walk_sets_of csrs map choices request va bytes =
    if is_translated csrs request.mode
    then
    chain_wrote (tables_of csrs map choices) bytes (walk_flags_of csrs request.mode) va request.access
    (chain_of csrs map bytes va)
    else []

-- memory as the walk leaves it
abbrev pub bytes_after_walk : Csrs → Map → Choices → AccessRequest → ℕ → Bytes → Bytes
bytes_after_walk csrs map choices request va bytes =
    after_writes (walk_sets_of csrs map choices request va bytes) bytes

-- the physical address: what the last entry of the chain gives; without translation the address itself
unfoldable pub address_found : Csrs → Map → Choices → AccessRequest → ℕ → Bytes → Result ℕ Cause
address_found csrs map choices request va bytes =
    if is_translated csrs request.mode
    then
    chain_result (tables_of csrs map choices) bytes (walk_flags_of csrs request.mode) va request.access
    (chain_of csrs map bytes va)
    else Ok va

-- the place there, unless protection refuses it or nothing is there
unfoldable pub place_found : Csrs → Map → Choices → AccessRequest → ℕ → Bytes → Result Place Cause
place_found csrs map choices request va bytes =
    place_after_translation csrs map request (address_found csrs map choices request va bytes)

-- the read of an access's own bytes
abbrev pub own_read : AccessRequest → ℕ → Place → CheckedRead
own_read request va place = record {
  mode = request.mode;
  access = request.access;
  va = Some va;
  read = record { pa = place.pa; len = request.len };
}

-- the access's own bytes at its place; those of a device are not read
abbrev pub own_reads_at : AccessRequest → ℕ → Result Place Cause → List CheckedRead
own_reads_at request va (Err cause) = []
own_reads_at request va (Ok place) = if place.is_device then [] else own_read request va place ∷ []

-- the walk, and then the access's own bytes
unfoldable pub access_reads_of : Csrs → Map → Choices → AccessRequest → ℕ → Bytes → List CheckedRead
access_reads_of csrs map choices request va bytes =
    walk_reads_of csrs map request.mode va bytes
    ++ own_reads_at request va (place_found csrs map choices request va bytes)

-- the parcel at a place has bits 1:0 of 3, so that a second one follows
abbrev pub has_second : Bytes → Result Place Cause → Bool
has_second bytes (Err cause) = false
has_second bytes (Ok place) = number_at bytes place.pa 2 % 4 == 3

-- a fetch, parcel by parcel, each in memory as the walk before it leaves it
unfoldable pub fetch_reads_of : Csrs → Map → Choices → Mode → ℕ → Bytes → List CheckedRead
fetch_reads_of csrs map choices mode pc bytes =
    let request = parcel_fetch mode in
    let after = bytes_after_walk csrs map choices request pc bytes in
    access_reads_of csrs map choices request pc bytes
    ++ (if has_second after (place_found csrs map choices request pc bytes)
    then access_reads_of csrs map choices request ((pc + 2) % 2 ^ 64) after
    else [])

-- all of an access as one part
abbrev pub whole_part : ℕ → ℕ → Part
whole_part va len = record { va = va; len = len }

-- the parts of a data access: an access at a multiple of its length is one part, another is split at the end of a page
-- where it runs into the next, and one that traps because it is misaligned has none
unfoldable pub parts_of : Choices → AccessRequest → Atomicity → ℕ → List Part
parts_of choices request atomicity va =
    if va % request.len == 0 then whole_part va request.len ∷ []
    else if is_split choices request atomicity va
    then
    (if has_second_part va request.len then first_part va request.len ∷ second_part va request.len ∷ []
    else whole_part va request.len ∷ [])
    else []

-- no device answers a misaligned access
unfoldable pub request_at : AccessRequest → ℕ → AccessRequest
request_at request va = if va % request.len == 0 then request else record request { devices = false }

-- a part with its place
pub record PlacedPart : Type 0 where
  pub part : Part
  pub place : Place

-- the place that is found for a part
abbrev pub part_found : Csrs → Map → Choices → AccessRequest → Part → Bytes → Result Place Cause
part_found csrs map choices request part bytes =
    place_found csrs map choices (request_for request part) part.va bytes

-- the first part without a place is the fault
abbrev pub with_first : Part → Result Place Cause → Result (List PlacedPart) Exception
    → Result (List PlacedPart) Exception
with_first part (Err cause) more = Err (cause, part.va)
with_first part (Ok place) (Err exception) = Err exception
with_first part (Ok place) (Ok more) = Ok (record { part = part; place = place } ∷ more)

-- the places of parts, each found in memory as the walks before it leave it
unfoldable pub parts_found : Csrs → Map → Choices → AccessRequest → List Part → Bytes
    → Result (List PlacedPart) Exception
parts_found csrs map choices request [] bytes = Ok []
parts_found csrs map choices request (part ∷ parts) bytes =
    with_first part (part_found csrs map choices request part bytes)
    (parts_found csrs map choices request parts (bytes_after_walk csrs map choices request part.va bytes))

-- the parts of a data access with their places
abbrev pub places_found : Csrs → Map → Choices → AccessRequest → Atomicity → ℕ → Bytes
    → Result (List PlacedPart) Exception
places_found csrs map choices request atomicity va bytes =
    parts_found csrs map choices (request_at request va) (parts_of choices request atomicity va) bytes

-- what follows a part that has its place
abbrev pub if_found : {A : Type 0} → Result Place Cause → List A → List A
if_found (Err cause) more = []
if_found (Ok place) more = more

-- the walks of parts, in order, as far as the parts have their places
unfoldable pub part_walks_of : Csrs → Map → Choices → AccessRequest → List Part → Bytes → List CheckedRead
part_walks_of csrs map choices request [] bytes = []
part_walks_of csrs map choices request (part ∷ parts) bytes =
    walk_reads_of csrs map request.mode part.va bytes
    ++ if_found (part_found csrs map choices request part bytes)
    (part_walks_of csrs map choices request parts (bytes_after_walk csrs map choices request part.va bytes))

-- the own bytes of a part
abbrev pub part_reads_of : AccessRequest → PlacedPart → List CheckedRead
part_reads_of request placed = own_reads_at (request_for request placed.part) placed.part.va (Ok placed.place)

-- the own bytes of all parts, when each has its place
abbrev pub own_reads_of : AccessRequest → Result (List PlacedPart) Exception → List CheckedRead
own_reads_of request (Err exception) = []
own_reads_of request (Ok placed) = flat_map (part_reads_of request) placed

-- a load or a store: the walks of its parts, and then, where its own bytes are read, those; whether they are is given
unfoldable pub data_reads_of : Csrs → Map → Choices → AccessRequest → Atomicity → Bool → ℕ → Bytes → List CheckedRead
data_reads_of csrs map choices request atomicity own va bytes =
    part_walks_of csrs map choices (request_at request va) (parts_of choices request atomicity va) bytes
    ++ (if own then own_reads_of request (places_found csrs map choices request atomicity va bytes) else [])

-- a leaf of the chain of a virtual address puts its byte at a physical address: it can be read, allows the access, has
-- A and for a store D set or can get them, and its page number joined with the offset is that address
pub record IsMapped (csrs : Csrs) (map : Map) (choices : Choices) (request : AccessRequest) (bytes : Bytes)
    (va pa : ℕ) : Type 0 where
  pub number : ℕ
  pub visit : Visit
  pub exists : number < length (chain_of csrs map bytes va)
  pub in_chain : visit_at (chain_of csrs map bytes va) number ≡ visit
  pub readable : is_readable csrs map visit.pa ≡ true
  pub leaf : is_leaf (entry_in bytes visit) ≡ true
  pub allows : leaf_allows visit.level (walk_flags_of csrs request.mode) request.access (entry_in bytes visit) ≡ true
  pub marks : (is_marked request.access (entry_in bytes visit) ≡ true)
      ⊎ ((choices.marks ≡ marks.Set) × (is_settable csrs map visit.pa ≡ true))
  pub address : pa ≡ address_in visit.level (entry_in bytes visit) va

-- each byte of a translated access is where such a leaf of its own virtual address puts it
abbrev pub AreMapped : Csrs → Map → Choices → AccessRequest → Bytes → ℕ → ℕ → Type 0
AreMapped csrs map choices request bytes va pa =
    is_translated csrs request.mode ≡ true
    → (i : ℕ) → i < request.len → IsMapped csrs map choices request bytes (va + i) (pa + i)

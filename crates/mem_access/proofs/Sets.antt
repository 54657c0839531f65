-- All that accesses write is entries of page tables that gain A, or A and D.
use Rattle.std.proofs.Common.{◌≡◌, ℕ, zero, suc, ◌+◌, ◌-◌, ◌%◌, ◌^◌, ◌≤◌, Bool, true, false, ◌&&◌, List, [], ◌∷◌, ◌++◌}
use Rattle.std.proofs.Common.{length, refl, sym, ap, ◌∙◌, subst, arith, Ok, Err, Result, if◌then◌else◌}
use Rattle.std.specs.Prelude.{All}
use Rattle.std.proofs.lemmas.List.Elements.{All-append}
use Rattle.hart_words.specs.declared.privilege.Access.{Access}
use Rattle.hart_words.specs.declared.privilege.Cause.{Cause}
use Rattle.hart_words.specs.declared.privilege.Mode.{Mode}
use Rattle.hart_words.specs.declared.privilege.WalkFlags.{WalkFlags}
use Rattle.hart_words.specs.declared.map.Map.{Map}
use Rattle.hart_words.specs.declared.choices.Choices.{Choices}
use Rattle.hart_words.specs.declared.options.Marks.TheVariants as marks
use Rattle.hart_words.specs.declared.accesses.Write.{Write}
use Rattle.hart_words.specs.Memory.{Bytes, after_writes, bytes_after_store, number_at}
use Rattle.csr_file.specs.declared.csrs.Csrs.{Csrs}
use Rattle.csr_file.specs.declared.stored_csr.StoredCsr.TheVariants.{Satp}
use Rattle.csr_file.specs.Registers.{at}
use Rattle.sv39_walk.specs.Entries.{entry_address, is_link, page_number}
use Rattle.sv39_walk.specs.Laws.{SetsEntry, last_visit, walk_writes_of}
use Rattle.sv39_walk.specs.Walk.{Visit, chain, chain_from, chain_wrote, root_of}
use Rattle.sv39_walk.proofs.Marked.{sets_its_last, writes_at_most_one}
use Rattle.sv39_walk.proofs.Walks.{translation-by_chain}
use Rattle.mem_access.specs.declared.place.AccessRequest.{AccessRequest}
use Rattle.mem_access.specs.declared.place.Atomicity.{Atomicity}
use Rattle.mem_access.specs.declared.place.Place.{Place}
use Rattle.mem_access.specs.Translation.{is_readable, is_translated, tables_of, walk_flags_of}
use Rattle.mem_access.specs.Accesses.{Part, data_load, data_store, parcel_fetch}
use Rattle.mem_access.specs.Reads.{bytes_after_walk, chain_of, has_second, part_found, parts_of, place_found}
use Rattle.mem_access.specs.Reads.{request_at, walk_sets_of, if_found}
use Rattle.mem_access.specs.Laws.{AreTableSets, FetchSetsAlone, IsTableSet, LoadSetsAlone, SetsAlone, StoreSetsAlone}
use Rattle.mem_access.proofs.Grants.{one_element}
use Rattle.mem_access.proofs.Granted.{all_if}
use Rattle.mem_access.proofs.Orders.{fetch_noted, fetch_sets_of, load_noted, part_sets_of, store_noted}

-- entries stand at multiples of 8
abbrev IsAligned : Visit → Type 0
IsAligned visit = visit.pa % 8 ≡ 0

pub aligned_entry : (level table va : ℕ) → entry_address level table va % 8 ≡ 0
unfolding entry_address
aligned_entry level table va = omega arith

aligned_from : (readable : ℕ → Bool) (bytes : Bytes) (va level table : ℕ)
    → All IsAligned (chain_from readable bytes va level table)
unfolding chain_from
aligned_from readable bytes va zero table =
    one_element IsAligned (record { level = 0; pa = entry_address 0 table va }) (aligned_entry 0 table va)
aligned_from readable bytes va (suc level) table =
    let pa : ℕ = entry_address (suc level) table va in
    let entry = number_at bytes pa 8 in
    let first : Visit = record { level = suc level; pa = pa } in
    let more = chain_from readable bytes va level (page_number entry) in
    let goes_on = readable pa && is_link entry in
    All-append IsAligned (first ∷ []) (if goes_on then more else [])
    (one_element IsAligned first (aligned_entry (suc level) table va))
    (all_if IsAligned more goes_on (aligned_from readable bytes va level (page_number entry)))

pub aligned_chain : (readable : ℕ → Bool) (bytes : Bytes) (satp va : ℕ)
    → All IsAligned (chain readable bytes satp va)
unfolding chain
aligned_chain readable bytes satp va =
    all_if IsAligned (chain_from readable bytes va 2 (root_of satp)) _ (aligned_from readable bytes va 2 (root_of satp))

last_of_all : (visits : List Visit) → All IsAligned visits → IsAligned (last_visit visits)
last_of_all [] all = refl
last_of_all (visit ∷ visits) all =
    all (length (visit ∷ visits) - 1) (record { level = 0; pa = 0 }) (omega arith)

-- the entry of a visit is set
one_set : (csrs : Csrs) (map : Map) (choices : Choices) (bytes : Bytes) {flags : WalkFlags} {access : Access}
    {visit : Visit} {write : Write} → IsAligned visit
    → SetsEntry (tables_of csrs map choices) bytes flags access visit write
    → IsTableSet csrs map choices bytes write
one_set csrs map choices bytes {access} {visit} aligned sets =
    let P : Write → Type 0 = IsTableSet csrs map choices bytes in
    subst P (sym sets.write_is) (record {
      marks = sets.marks;
      aligned = aligned;
      readable = sets.readable;
      settable = sets.settable;
      leaf = sets.leaf;
      access = access;
      value = refl;
    })

one_at_most : (csrs : Csrs) (map : Map) (choices : Choices) (bytes : Bytes) {flags : WalkFlags} {access : Access}
    {visit : Visit} (writes : List Write) → IsAligned visit → length writes ≤ 1
    → All (SetsEntry (tables_of csrs map choices) bytes flags access visit) writes
    → AreTableSets csrs map choices bytes writes
unfolding AreTableSets
one_at_most csrs map choices bytes [] aligned few all = tt
one_at_most csrs map choices bytes (write ∷ []) aligned few all =
    (one_set csrs map choices bytes aligned (all 0 write (omega arith)), tt)
one_at_most csrs map choices bytes (write ∷ next ∷ more) aligned few all = absurd (omega (arith, few))

-- a walk sets such entries
by_walk : (csrs : Csrs) (map : Map) (choices : Choices) (request : AccessRequest) (va : ℕ) (on : Bool) (bytes : Bytes)
    → AreTableSets csrs map choices bytes
    (if on then chain_wrote (tables_of csrs map choices) bytes (walk_flags_of csrs request.mode) va request.access
    (chain_of csrs map bytes va) else [])
unfolding AreTableSets
by_walk csrs map choices request va true bytes =
    let tables = tables_of csrs map choices in
    let satp = at csrs Satp in
    let flags = walk_flags_of csrs request.mode in
    let writes = walk_writes_of tables bytes satp flags va request.access in
    let P : List Write → Type 0 = AreTableSets csrs map choices bytes in
    subst P (ap (λ run. run.wrote) (translation-by_chain tables bytes satp flags va request.access))
    (one_at_most csrs map choices bytes writes
    (last_of_all (chain_of csrs map bytes va) (aligned_chain (is_readable csrs map) bytes satp va))
    (writes_at_most_one tables bytes satp flags va request.access)
    (sets_its_last tables bytes satp flags va request.access))
by_walk csrs map choices request va false bytes = tt

pub walk_sets : (csrs : Csrs) (map : Map) (choices : Choices) (request : AccessRequest) (va : ℕ) (bytes : Bytes)
    → AreTableSets csrs map choices bytes (walk_sets_of csrs map choices request va bytes)
unfolding walk_sets_of
walk_sets csrs map choices request va bytes =
    by_walk csrs map choices request va (is_translated csrs request.mode) bytes

-- sets after sets
pub sets_append : (csrs : Csrs) (map : Map) (choices : Choices) (bytes : Bytes) (one more : List Write)
    → AreTableSets csrs map choices bytes one → AreTableSets csrs map choices (after_writes one bytes) more
    → AreTableSets csrs map choices bytes (one ++ more)
unfolding AreTableSets after_writes
sets_append csrs map choices bytes [] more first second = second
sets_append csrs map choices bytes (write ∷ one) more first second =
    let now = bytes_after_store write.pa write.len write.value bytes in
    (first.0, sets_append csrs map choices now one more first.1 second)

sets_if : (csrs : Csrs) (map : Map) (choices : Choices) (bytes : Bytes) (writes : List Write) (made : Bool)
    → AreTableSets csrs map choices bytes writes
    → AreTableSets csrs map choices bytes (if made then writes else [])
unfolding AreTableSets
sets_if csrs map choices bytes writes true sets = sets
sets_if csrs map choices bytes writes false sets = tt

sets_where : (csrs : Csrs) (map : Map) (choices : Choices) (bytes : Bytes) (found : Result Place Cause)
    (writes : List Write) → AreTableSets csrs map choices bytes writes
    → AreTableSets csrs map choices bytes (if_found found writes)
unfolding AreTableSets
sets_where csrs map choices bytes (Err cause) writes sets = tt
sets_where csrs map choices bytes (Ok place) writes sets = sets

parts_sets : (csrs : Csrs) (map : Map) (choices : Choices) (request : AccessRequest) (parts : List Part)
    (bytes : Bytes) → AreTableSets csrs map choices bytes (part_sets_of csrs map choices request parts bytes)
unfolding part_sets_of AreTableSets
parts_sets csrs map choices request [] bytes = tt
parts_sets csrs map choices request (part ∷ parts) bytes =
    let now = bytes_after_walk csrs map choices request part.va bytes in
    let more = part_sets_of csrs map choices request parts now in
    let found = part_found csrs map choices request part bytes in
    sets_append csrs map choices bytes (walk_sets_of csrs map choices request part.va bytes) (if_found found more)
    (walk_sets csrs map choices request part.va bytes)
    (sets_where csrs map choices now found more (parts_sets csrs map choices request parts now))

fetch_sets : (csrs : Csrs) (map : Map) (choices : Choices) (mode : Mode) (pc : ℕ) (bytes : Bytes)
    → AreTableSets csrs map choices bytes (fetch_sets_of csrs map choices mode pc bytes)
fetch_sets csrs map choices mode pc bytes =
    let request = parcel_fetch mode in
    let now = bytes_after_walk csrs map choices request pc bytes in
    let more = walk_sets_of csrs map choices request ((pc + 2) % 2 ^ 64) now in
    let long = has_second now (place_found csrs map choices request pc bytes) in
    sets_append csrs map choices bytes (walk_sets_of csrs map choices request pc bytes) (if long then more else [])
    (walk_sets csrs map choices request pc bytes)
    (sets_if csrs map choices now more long (walk_sets csrs map choices request ((pc + 2) % 2 ^ 64) now))

-- nothing is set where A and D that are clear are page faults
none_under_fault : (csrs : Csrs) (map : Map) (choices : Choices) (bytes : Bytes) (writes : List Write)
    → AreTableSets csrs map choices bytes writes → choices.marks ≡ marks.Fault → writes ≡ []
unfolding AreTableSets
none_under_fault csrs map choices bytes [] sets fault = refl
none_under_fault csrs map choices bytes (write ∷ writes) sets fault =
    let both : marks.Fault ≡ marks.Set = sym fault ∙ sets.0.marks in
    cc

alone : (csrs : Csrs) (map : Map) (choices : Choices) (bytes : Bytes) {writes sets : List Write} → writes ≡ sets
    → AreTableSets csrs map choices bytes sets → SetsAlone csrs map choices bytes writes
alone csrs map choices bytes {writes} {sets} is all =
    let P : List Write → Type 0 = SetsAlone csrs map choices bytes in
    subst P (sym is) (record { sets = all; none = none_under_fault csrs map choices bytes sets all })

pub fetch_sets_alone : (csrs : Csrs) (map : Map) (choices : Choices) (mode : Mode) (pc : ℕ) (bytes : Bytes)
    → FetchSetsAlone csrs map choices mode pc bytes
fetch_sets_alone csrs map choices mode pc bytes =
    alone csrs map choices bytes (fetch_noted csrs map choices mode pc bytes).wrote
    (fetch_sets csrs map choices mode pc bytes)

pub load_sets_alone : (csrs : Csrs) (map : Map) (choices : Choices) (mode : Mode) (va len : ℕ) (atomicity : Atomicity)
    (bytes : Bytes) → LoadSetsAlone csrs map choices mode va len atomicity bytes
load_sets_alone csrs map choices mode va len atomicity bytes =
    let request = data_load csrs choices mode len atomicity in
    alone csrs map choices bytes (load_noted csrs map choices mode va len atomicity bytes).wrote
    (parts_sets csrs map choices (request_at request va) (parts_of choices request atomicity va) bytes)

pub store_sets_alone : (csrs : Csrs) (map : Map) (choices : Choices) (mode : Mode) (va len : ℕ) (atomicity : Atomicity)
    (bytes : Bytes) → StoreSetsAlone csrs map choices mode va len atomicity bytes
store_sets_alone csrs map choices mode va len atomicity bytes =
    let request = data_store csrs choices mode len atomicity in
    alone csrs map choices bytes (store_noted csrs map choices mode va len atomicity bytes).wrote
    (parts_sets csrs map choices (request_at request va) (parts_of choices request atomicity va) bytes)

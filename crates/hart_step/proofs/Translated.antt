-- What a step accesses under translation is where leaves of page tables put it.
use Rattle.std.proofs.Common.{◌≡◌, ℕ, ◌+◌, ◌*◌, ◌/◌, ◌%◌, ◌^◌, ◌≤◌, Bool, true, false, ◌&&◌, List, [], inl, inr, refl}
use Rattle.std.proofs.Common.{arith, Option, Some, None, All, if◌then◌else◌}
use Rattle.std.specs.Prelude.{◌==◌, IfOk}
use Rattle.std.proofs.lemmas.List.Elements.{All-append, All-nil, All-weaker}
use Rattle.std.proofs.lemmas.Result.{IfOk-weaker}
use Rattle.hart_words.specs.declared.access_size.AccessSize.{AccessSize}
use Rattle.hart_words.specs.declared.access_size.AccessSize.TheVariants.{Byte, Halfword, Word, Doubleword}
use Rattle.hart_words.specs.declared.choices.Choices.{Choices}
use Rattle.hart_words.specs.declared.map.Map.{Map}
use Rattle.hart_words.specs.declared.privilege.Mode.{Mode}
use Rattle.hart_words.specs.declared.accesses.Write.{Write}
use Rattle.hart_words.specs.AccessSizes.{IsLength, bytes_of}
use Rattle.hart_words.specs.Memory.{Bytes, after_writes}
use Rattle.hart_words.specs.Signals.{Shown}
use Rattle.rv_integer.specs.declared.int_result.IntResult.{IntResult}
use Rattle.rv_integer.specs.declared.int_result.IntResult.TheVariants as results
use Rattle.rv_integer.specs.declared.int_result.MemoryRequest.{MemoryRequest}
use Rattle.csr_file.specs.declared.csrs.Csrs.{Csrs}
use Rattle.csr_file.specs.declared.stored_csr.StoredCsr.TheVariants.{Mtvec, Stvec}
use Rattle.csr_file.specs.Registers.{at}
use Rattle.trap_entry.specs.Entries.{handler_address, is_delegated, pc_by_enter}
use Rattle.mem_access.specs.declared.place.AccessRequest.{AccessRequest}
use Rattle.mem_access.specs.Accesses.{parcel_fetch, request_for}
use Rattle.mem_access.specs.Laws.{AreTableSets, IsMappedPart}
use Rattle.mem_access.specs.Reads.{AreMapped, IsMapped, PlacedPart, access_reads_of, bytes_after_walk, fetch_reads_of}
use Rattle.mem_access.specs.Reads.{has_second, own_read, place_found, walk_sets_of}
use Rattle.mem_access.proofs.Granted.{HoldsOfOwn, access_all, all_if, data_all, look_place, look_places}
use Rattle.mem_access.proofs.Kept.{mapped_before, places_mapped}
use Rattle.mem_access.proofs.Mapped.{place_mapped}
use Rattle.mem_access.proofs.Sets.{walk_sets}
use Rattle.hart_step.specs.declared.state.Core.{Core}
use Rattle.hart_step.specs.Choices.{asks_interrupt}
use Rattle.hart_step.specs.Cores.{IsSound}
use Rattle.hart_step.specs.Instructions.{fetch_at_pc}
use Rattle.hart_step.specs.MemoryAccess.{atomicity_of}
use Rattle.hart_step.specs.Steps.{before_instruction, core_after_count, core_after_entry, interrupt_of}
use Rattle.hart_step.specs.Steps.{core_after_interrupt, core_after_interrupt_by}
use Rattle.hart_step.specs.Laws.{bytes_after_fetch, request_at_pc}
use Rattle.hart_step.specs.ProtectionLaws.{asked_places, asked_reads_of, check_of, instruction_reads_of}
use Rattle.hart_step.specs.ProtectionLaws.{reads_its_bytes, step_reads_of}
use Rattle.hart_step.specs.TranslationLaws.{AreMappedPlaces, IsMappedRead, StepIsMapped}
use Rattle.hart_step.proofs.Alike.{look_of}
use Rattle.hart_step.proofs.StepSets.{fetch_sets}

-- what is mapped by page tables in which entries are set is mapped by them as they were before
before_sets : {csrs : Csrs} {map : Map} {choices : Choices} {request : AccessRequest} {bytes : Bytes} (va pa : ℕ)
    (writes : List Write) → AreTableSets csrs map choices bytes writes
    → AreMapped csrs map choices request (after_writes writes bytes) va pa
    → AreMapped csrs map choices request bytes va pa
before_sets {csrs} {map} {choices} {request} {bytes} va pa writes sets mapped = λ on i below.
    mapped_before csrs map choices request bytes writes sets (mapped on i below)

-- a fetch
fits_in_page : (va : ℕ) → va % 2 ≡ 0 → va % 4096 + 2 ≤ 4096
fits_in_page va even = omega arith

-- a parcel, in memory in which entries are set
parcel_mapped : (core : Core) (va : ℕ) (bytes : Bytes) (sets : List Write) → va % 2 ≡ 0
    → AreTableSets core.csrs core.map core.choices bytes sets
    → All (IsMappedRead core bytes)
    (access_reads_of core.csrs core.map core.choices (parcel_fetch core.mode) va (after_writes sets bytes))
parcel_mapped core va bytes sets even are =
    let request = parcel_fetch core.mode in
    let now = after_writes sets bytes in
    let look = look_of core request now in
    access_all (IsMappedRead core bytes) look va (λ pa can. tt)
    (IfOk-weaker (look_place look va)
    (λ place. AreMapped core.csrs core.map core.choices request now va place.pa)
    (λ place. place.is_device ≡ false → IsMappedRead core bytes (own_read request va place))
    (λ place mapped memory. before_sets va place.pa sets are mapped)
    (place_mapped core.csrs core.map core.choices request va now (fits_in_page va even)))

fetch_mapped : (core : Core) (bytes : Bytes) → core.pc % 2 ≡ 0 → All (IsMappedRead core bytes)
    (fetch_reads_of core.csrs core.map core.choices core.mode core.pc bytes)
unfolding fetch_reads_of AreTableSets after_writes
fetch_mapped core bytes even =
    let request = parcel_fetch core.mode in
    let next = (core.pc + 2) % 2 ^ 64 in
    let sets = walk_sets_of core.csrs core.map core.choices request core.pc bytes in
    let now = bytes_after_walk core.csrs core.map core.choices request core.pc bytes in
    let first = access_reads_of core.csrs core.map core.choices request core.pc bytes in
    let second = access_reads_of core.csrs core.map core.choices request next now in
    let has = has_second now (place_found core.csrs core.map core.choices request core.pc bytes) in
    All-append (IsMappedRead core bytes) first (if has then second else [])
    (parcel_mapped core core.pc bytes [] even tt)
    (all_if (IsMappedRead core bytes) second has
    (parcel_mapped core next bytes sets (omega arith)
    (walk_sets core.csrs core.map core.choices request core.pc bytes)))

-- what an instruction asks for
length_of : (size : AccessSize) → IsLength (bytes_of size)
length_of Byte = inl refl
length_of Halfword = inr (inl refl)
length_of Word = inr (inr (inl refl))
length_of Doubleword = inr (inr (inr refl))

asked_parts : (core : Core) (request : MemoryRequest) (bytes : Bytes)
    → IfOk (asked_places core request (bytes_after_fetch core bytes))
    (All (IsMappedPart core.csrs core.map core.choices (check_of core request) bytes))
unfolding bytes_after_fetch
asked_parts core request bytes =
    let check = check_of core request in
    let sets = ((fetch_at_pc core).run bytes).wrote in
    let after = after_writes sets bytes in
    let Mapped : Bytes → PlacedPart → Type 0 = IsMappedPart core.csrs core.map core.choices check in
    IfOk-weaker (asked_places core request after) (All (Mapped after)) (All (Mapped bytes))
    (λ placed. All-weaker (Mapped after) (Mapped bytes)
    (λ one mapped. before_sets one.part.va one.place.pa sets (fetch_sets core bytes).sets mapped) placed)
    (places_mapped core.csrs core.map core.choices check (atomicity_of request.op) request.address after
    (length_of request.size))

asked_places_mapped : (core : Core) (asks : Option IntResult) (bytes : Bytes) → AreMappedPlaces core asks bytes
asked_places_mapped core (Some (results.Access request)) bytes = asked_parts core request bytes
asked_places_mapped core _ bytes = tt

-- the own bytes of a part are read as the part is mapped
as_read : {csrs : Csrs} {map : Map} {choices : Choices} {bytes : Bytes} (request : AccessRequest) (len va pa : ℕ)
    → IsMapped csrs map choices request bytes va pa
    → IsMapped csrs map choices
    (record { mode = request.mode; access = request.access; len = len; devices = false }) bytes va pa
as_read request len va pa is = record {
  number = is.number;
  visit = is.visit;
  exists = is.exists;
  in_chain = is.in_chain;
  readable = is.readable;
  leaf = is.leaf;
  allows = is.allows;
  marks = is.marks;
  address = is.address;
}

part_read : (core : Core) (request : AccessRequest) (bytes : Bytes) (placed : PlacedPart)
    → IsMappedPart core.csrs core.map core.choices request bytes placed
    → HoldsOfOwn (IsMappedRead core bytes) request placed
part_read core request bytes placed mapped memory = λ on i below.
    as_read (request_for request placed.part) placed.part.len (placed.part.va + i) (placed.place.pa + i)
    (mapped on i below)

asked_reads_mapped : (core : Core) (asks : Option IntResult) (bytes : Bytes)
    → All (IsMappedRead core bytes) (asked_reads_of core asks (bytes_after_fetch core bytes))
asked_reads_mapped core (Some (results.Access request)) bytes =
    let check = check_of core request in
    let look = look_of core check (bytes_after_fetch core bytes) in
    let Mapped : PlacedPart → Type 0 = IsMappedPart core.csrs core.map core.choices check bytes in
    let Own : PlacedPart → Type 0 = HoldsOfOwn (IsMappedRead core bytes) check in
    data_all (IsMappedRead core bytes) look (atomicity_of request.op) (reads_its_bytes request.op) request.address
    (λ pa can. tt)
    (IfOk-weaker (look_places look (atomicity_of request.op) request.address) (All Mapped) (All Own)
    (λ placed. All-weaker Mapped Own (part_read core check bytes) placed) (asked_parts core request bytes))
asked_reads_mapped core _ bytes = All-nil (IsMappedRead core bytes)

instruction_mapped : (core : Core) (bytes : Bytes) → core.pc % 2 ≡ 0 → All (IsMappedRead core bytes)
    (instruction_reads_of core bytes)
unfolding instruction_reads_of
instruction_mapped core bytes even =
    let asks = request_at_pc core bytes in
    All-append (IsMappedRead core bytes) (fetch_reads_of core.csrs core.map core.choices core.mode core.pc bytes)
    (asked_reads_of core asks (bytes_after_fetch core bytes))
    (fetch_mapped core bytes even) (asked_reads_mapped core asks bytes)

step_reads_mapped : (core : Core) (shown : Shown) (bytes : Bytes) → (before_instruction core shown).pc % 2 ≡ 0
    → All (IsMappedRead (before_instruction core shown) bytes) (step_reads_of core shown bytes)
unfolding step_reads_of
step_reads_mapped core shown bytes even = by core.halted
  where
    by : (halted : Bool)
        → All (IsMappedRead (before_instruction core shown) bytes)
        (if halted then [] else instruction_reads_of (before_instruction core shown) bytes)
    by true = All-nil (IsMappedRead (before_instruction core shown) bytes)
    by false = instruction_mapped (before_instruction core shown) bytes even

-- a handler begins at an even address
handler_even : (tvec : ℕ) (interrupt : Bool) (cause : ℕ) → handler_address tvec interrupt cause % 2 ≡ 0
unfolding handler_address
handler_even tvec interrupt cause = by (interrupt && (tvec % 4 == 1))
  where
    by : (vectored : Bool) → (if vectored then (tvec / 4 * 4 + 4 * cause) % 2 ^ 64 else tvec / 4 * 4) % 2 ≡ 0
    by true = omega arith
    by false = omega arith

even_by : (core : Core) (asks : Bool) (pick : Option (ℕ × Mode)) → core.pc % 2 ≡ 0
    → (if asks then core_after_interrupt_by core pick else core).pc % 2 ≡ 0
unfolding core_after_entry pc_by_enter
even_by core false pick even = even
even_by core true None even = even
even_by core true (Some x) even =
    handler_even (if is_delegated core.csrs core.mode true x.0 then at core.csrs Stvec else at core.csrs Mtvec) true x.0

begun_even : (core : Core) (shown : Shown) → core.pc % 2 ≡ 0 → (before_instruction core shown).pc % 2 ≡ 0
unfolding before_instruction core_after_interrupt core_after_count
begun_even core shown even =
    even_by (core_after_count core shown) (asks_interrupt (core_after_count core shown) shown)
    (interrupt_of (core_after_count core shown) shown) even

pub step_mapped : (core : Core) (shown : Shown) (bytes : Bytes) → IsSound core → StepIsMapped core shown bytes
step_mapped core shown bytes sound =
    let begins = before_instruction core shown in
    record {
      reads = step_reads_mapped core shown bytes (begun_even core shown sound.even);
      places = asked_places_mapped begins (request_at_pc begins bytes) bytes;
    }

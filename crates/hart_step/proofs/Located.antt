-- Where an access goes: the places that are found for its parts, with what is read on the way and there.
use Rattle.std.proofs.Common.{None}
use Rattle.std.proofs.Common.{◌≡◌, ℕ, ◌%◌, Bool, true, false, List, [], ◌∷◌, ◌++◌, append-nil, refl, sym, ap, ◌∙◌}
use Rattle.std.proofs.Common.{subst, Ok, Err, Result, if◌then◌else◌}
use Rattle.std.specs.Prelude.{◌==◌, ◌&&◌, not, IfOk}
use Rattle.hart_words.specs.declared.map.Map.{Map}
use Rattle.hart_words.specs.declared.choices.Choices.{Choices}
use Rattle.hart_words.specs.declared.privilege.Cause.{Cause}
use Rattle.hart_words.specs.declared.privilege.Cause.TheVariants.{StoreAddressMisaligned}
use Rattle.hart_words.specs.AccessSizes.{bytes_of}
use Rattle.hart_words.specs.Memory.{Bytes, after_writes}
use Rattle.hart_words.specs.Options.{are_done}
use Rattle.hart_words.specs.Actions.{Action, Run, pure, read_memory, mapped, run_then, ◌>>=◌}
use Rattle.hart_words.proofs.Runs.{run_then-is}
use Rattle.rv_integer.specs.declared.int_result.MemoryRequest.{MemoryRequest}
use Rattle.rv_integer.specs.declared.int_result.MemoryOp.{MemoryOp}
use Rattle.rv_integer.specs.declared.int_result.MemoryOp.TheVariants.{Load, LoadReserved, Store, StoreConditional}
use Rattle.rv_integer.specs.declared.int_result.MemoryOp.TheVariants as memory
use Rattle.mem_access.specs.declared.place.Atomicity.TheVariants.{Amo, Plain, Reserved}
use Rattle.csr_file.specs.declared.csrs.Csrs.{Csrs}
use Rattle.mem_access.specs.declared.place.AccessRequest.{AccessRequest}
use Rattle.mem_access.specs.declared.place.Place.{Place}
use Rattle.mem_access.specs.Accesses.{Exception, LocatedValue, Places, one_place, data_request, data_store, first_part}
use Rattle.mem_access.specs.Accesses.{devices_answer}
use Rattle.mem_access.specs.Accesses.{has_second_part}
use Rattle.mem_access.specs.Accesses.{data_places_of, part_place_of, second_part, split_places_of, store_place_of}
use Rattle.mem_access.specs.Accesses.{whole_place_of, with_address}
use Rattle.mem_access.specs.Laws.{ArePlacesFound}
use Rattle.mem_access.specs.Reads.{CheckedRead, data_reads_of, own_read, own_reads_of, part_walks_of, parts_found}
use Rattle.mem_access.specs.Reads.{parts_of, place_found, reads_in, request_at, walk_reads_of, if_found, whole_part}
use Rattle.mem_access.specs.Reads.{with_first}
use Rattle.mem_access.proofs.Granted.{load_granted, store_granted}
use Rattle.mem_access.proofs.Orders.{reach_is, reach_run, reads_append, then_known}
use Rattle.hart_step.specs.declared.state.Core.{Core}
use Rattle.hart_step.specs.MemoryAccess.{atomicity_of, found_with_read, found_without_value, located_access}
use Rattle.hart_step.specs.MemoryAccess.{located_access_by, store_places}
use Rattle.hart_step.specs.ProtectionLaws.{access_kind_of, reads_its_bytes}

-- what an access of an operation is checked as
abbrev pub check_by : Core → ℕ → MemoryOp → AccessRequest
check_by core len op =
    data_request core.csrs core.mode (access_kind_of op) len (devices_answer core.choices (atomicity_of op))

abbrev ArePlacesBy : Core → ℕ → ℕ → MemoryOp → Bytes → Places → Type 0
ArePlacesBy core va len op bytes places =
    ArePlacesFound core.csrs core.map core.choices (check_by core len op) (atomicity_of op) va bytes places

pub record IsLocated (core : Core) (va len : ℕ) (op : MemoryOp) (bytes : Bytes)
    (run : Run (Result LocatedValue Exception)) : Type 0 where
  pub reads : run.reads
      ≡ reads_in (data_reads_of core.csrs core.map core.choices (check_by core len op) (atomicity_of op)
      (reads_its_bytes op) va bytes)
  pub places : IfOk run.value (λ found. ArePlacesBy core va len op bytes (found.0, found.1))

unread_places : (places : Result Places Exception) (P : Places → Type 0) → IfOk places P
    → IfOk (found_without_value places) (λ found. P (found.0, found.1))
unread_places (Err exception) P holds = tt
unread_places (Ok (first, second)) P holds = holds

read_places : (len : ℕ) (places : Result Places Exception) (P : Places → Type 0) (bytes : Bytes) → IfOk places P
    → IfOk ((found_with_read len places).run bytes).value (λ found. P (found.0, found.1))
unfolding pure mapped read_memory
read_places len (Err exception) P bytes holds = tt
read_places len (Ok (first, second)) P bytes holds = by first.is_device
  where
    by : (io : Bool) → IfOk {T = LocatedValue} ((if io then pure {A = Result LocatedValue Exception}
        (Ok (first, second, 0)) else mapped (λ held. Ok (first, second, held))
        (read_memory (record { pa = first.pa; len = len }))).run bytes).value (λ found. P (found.0, found.1))
    by true = holds
    by false = holds

-- what an AMO reads at its place, unless that is a device
amo_own : (request : AccessRequest) (va : ℕ) (walk : List CheckedRead) (placed : Result Place Cause) (bytes : Bytes)
    → reads_in walk ++ ((found_with_read request.len (one_place (with_address va placed))).run bytes).reads
    ≡ reads_in ((walk ++ if_found placed []) ++ own_reads_of request
    (with_first (whole_part va request.len) placed (Ok [])))
unfolding pure mapped read_memory
amo_own request va walk (Err cause) bytes =
    append-nil (reads_in walk) ∙ ap (λ reads. reads_in reads) (sym (append-nil (walk ++ []) ∙ append-nil walk))
amo_own request va walk (Ok place) bytes = by place.is_device
  where
    by : (io : Bool)
        → reads_in walk ++ ((if io then pure {A = Result LocatedValue Exception} (Ok (place, None, 0))
        else mapped (λ held. Ok (place, None, held)) (read_memory (record { pa = place.pa; len = request.len }))).run bytes).reads
        ≡ reads_in ((walk ++ []) ++ ((if io then [] else own_read request va place ∷ []) ++ []))
    by true =
        append-nil (reads_in walk) ∙ ap (λ reads. reads_in reads) (sym (append-nil (walk ++ []) ∙ append-nil walk))
    by false =
        sym (reads_append walk (own_read request va place ∷ []))
        ∙ ap (λ reads. reads_in (reads ++ own_read request va place ∷ [])) (sym (append-nil walk))

abbrev amo_places : Csrs → Map → Choices → AccessRequest → ℕ → Bool → Action (Result Places Exception)
amo_places csrs map choices request va aligned =
    if aligned then whole_place_of csrs map choices request va
    else if not aligned && not true && are_done choices.misaligned
    then split_places_of csrs map choices (record request { devices = false }) va
    else pure (Err (StoreAddressMisaligned, va))

amo_reads : (csrs : Csrs) (map : Map) (choices : Choices) (request : AccessRequest) (va : ℕ) (aligned : Bool)
    (bytes : Bytes)
    → ((amo_places csrs map choices request va aligned >>= found_with_read request.len).run bytes).reads
    ≡ reads_in (let parts = if aligned then whole_part va request.len ∷ []
    else if not aligned && not true && are_done choices.misaligned
    then
    (if has_second_part va request.len then first_part va request.len ∷ second_part va request.len ∷ []
    else whole_part va request.len ∷ [])
    else [] in
    let checked = if aligned then request else record request { devices = false } in
    part_walks_of csrs map choices checked parts bytes
    ++ own_reads_of request (parts_found csrs map choices checked parts bytes))
unfolding part_place_of part_walks_of parts_found mapped pure ◌>>=◌ run_then
amo_reads csrs map choices request va true bytes =
    let placed = place_found csrs map choices request va bytes in
    let walk = walk_reads_of csrs map request.mode va bytes in
    let reached = reach_run csrs map choices request va bytes in
    let known : Run (Result Places Exception) = record {
      value = one_place (with_address va placed);
      reads = reached.reads;
      wrote = reached.wrote;
    } in
    let is : (whole_place_of csrs map choices request va).run bytes ≡ known =
    ap (λ (r : Run (Result Place Cause)). record {
      value = one_place (with_address va r.value);
      reads = r.reads;
      wrote = r.wrote;
    })
    (reach_is csrs map choices request va bytes) in
    ap (λ t. t.reads)
    (then_known (whole_place_of csrs map choices request va) (found_with_read request.len) bytes known is)
    ∙ amo_own request va walk placed (after_writes known.wrote bytes)
amo_reads csrs map choices request va false bytes = refl

amo_order : (core : Core) (va len : ℕ) (op : MemoryOp) (bytes : Bytes)
    → ((store_places core va len Amo >>= found_with_read len).run bytes).reads
    ≡ reads_in (data_reads_of core.csrs core.map core.choices (data_store core.csrs core.choices core.mode len Amo) Amo true
    va bytes)
unfolding store_place_of data_places_of data_reads_of parts_of request_at
amo_order core va len op bytes =
    amo_reads core.csrs core.map core.choices (data_store core.csrs core.choices core.mode len Amo) va (va % len == 0)
    bytes

located_by_granted : (core : Core) (va len : ℕ) (op : MemoryOp) (bytes : Bytes)
    → IsLocated core va len op bytes ((located_access_by core va len op).run bytes)
unfolding mapped
located_by_granted core va len (Load signed) bytes =
    let both = load_granted core.csrs core.map core.choices core.mode va len Plain bytes in
    record { reads = both.0.order; places = both.1 }
located_by_granted core va len LoadReserved bytes =
    let both = load_granted core.csrs core.map core.choices core.mode va len Reserved bytes in
    record { reads = both.0.order; places = both.1 }
located_by_granted core va len (Store value) bytes =
    let both = store_granted core.csrs core.map core.choices core.mode va len Plain bytes in
    let run = (store_places core va len Plain).run bytes in
    record {
      reads = both.0.order;
      places = unread_places run.value (ArePlacesBy core va len (Store value) bytes) both.1;
    }
located_by_granted core va len (StoreConditional value) bytes =
    let both = store_granted core.csrs core.map core.choices core.mode va len Reserved bytes in
    let run = (store_places core va len Reserved).run bytes in
    record {
      reads = both.0.order;
      places = unread_places run.value (ArePlacesBy core va len (StoreConditional value) bytes) both.1;
    }
located_by_granted core va len (memory.Amo op width b) bytes =
    let way = store_places core va len Amo in
    let both = store_granted core.csrs core.map core.choices core.mode va len Amo bytes in
    let run = way.run bytes in
    let Here : Places → Type 0 = ArePlacesBy core va len (memory.Amo op width b) bytes in
    let Located : Result LocatedValue Exception → Type 0 = λ r. IfOk r (λ found. Here (found.0, found.1)) in
    record {
      reads = amo_order core va len (memory.Amo op width b) bytes;
      places = subst Located (sym (ap (λ t. t.value) (run_then-is way (found_with_read len) bytes)))
          (read_places len run.value Here (after_writes run.wrote bytes) both.1);
    }

pub located_granted : (core : Core) (request : MemoryRequest) (bytes : Bytes)
    → IsLocated core request.address (bytes_of request.size) request.op bytes ((located_access core request).run bytes)
unfolding located_access
located_granted core request bytes = located_by_granted core request.address (bytes_of request.size) request.op bytes

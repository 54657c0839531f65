-- What each access gives, reads and sets, in order.
use Rattle.std.proofs.Common.{◌≡◌, ℕ, ◌+◌, ◌-◌, ◌%◌, ◌^◌, Bool, true, false, List, [], ◌∷◌, ◌++◌, refl, sym, ap}
use Rattle.std.proofs.Common.{◌∙◌, subst, append-nil, Ok, Err, Result, if◌then◌else◌}
use Rattle.std.specs.Prelude.{◌==◌, IfOk, Some, None}
use Rattle.std.proofs.lemmas.List.{map-append}
use Rattle.hart_words.specs.declared.privilege.Mode.{Mode}
use Rattle.hart_words.specs.declared.privilege.Cause.{Cause}
use Rattle.hart_words.specs.declared.privilege.Cause.TheVariants.{LoadAddressMisaligned, StoreAddressMisaligned}
use Rattle.hart_words.specs.declared.map.Map.{Map}
use Rattle.hart_words.specs.declared.choices.Choices.{Choices}
use Rattle.hart_words.specs.declared.accesses.Read.{Read}
use Rattle.hart_words.specs.declared.accesses.Write.{Write}
use Rattle.hart_words.specs.Memory.{Bytes, after_writes, number_at}
use Rattle.hart_words.specs.Actions.{Action, Run, pure, read_memory, mapped, followed_by, run_then, ◌>>=◌}
use Rattle.hart_words.proofs.Runs.{run_then-is}
use Rattle.csr_file.specs.declared.csrs.Csrs.{Csrs}
use Rattle.csr_file.specs.declared.stored_csr.StoredCsr.TheVariants.{Satp}
use Rattle.csr_file.specs.Registers.{at}
use Rattle.sv39_walk.proofs.Walks.{translation-by_chain}
use Rattle.sv39_walk.specs.Walk.{chain_result, chain_wrote, entry_reads_of, translation_of}
use Rattle.mem_access.specs.declared.place.AccessRequest.{AccessRequest}
use Rattle.mem_access.specs.declared.place.Atomicity.{Atomicity}
use Rattle.mem_access.specs.declared.place.Place.{Place}
use Rattle.mem_access.specs.Translation.{is_readable, is_translated, physical_address_of, place_after_translation}
use Rattle.mem_access.specs.Translation.{tables_of, virtual_place_of, walk_flags_of}
use Rattle.mem_access.specs.Accesses.{Exception, Part, Places, after_first, after_place, one_place, data_load}
use Rattle.mem_access.specs.Accesses.{data_places_of, data_store, fetch_result, first_len, first_part, has_second_part}
use Rattle.mem_access.specs.Accesses.{is_split, load_from, load_result, parcel_at, parcel_fetch, parcel_from}
use Rattle.mem_access.specs.Accesses.{part_place_of, request_for, second_part, second_place_of, split_places_of}
use Rattle.mem_access.specs.Accesses.{store_place_of, value_at, value_of_parts, whole_place_of, with_address}
use Rattle.mem_access.specs.Accesses.{with_second}
use Rattle.mem_access.specs.Reads.{CheckedRead, PlacedPart, access_reads_of, address_found, bytes_after_walk, chain_of}
use Rattle.mem_access.specs.Reads.{data_reads_of, entry_loads, fetch_reads_of, has_second, own_read, own_reads_at}
use Rattle.mem_access.specs.Reads.{own_reads_of, part_found, part_walks_of, parts_found, parts_of, place_found}
use Rattle.mem_access.specs.Reads.{places_found, reads_in, request_at, walk_reads_of, walk_sets_of, if_found}
use Rattle.mem_access.specs.Reads.{whole_part, with_first}
use Rattle.mem_access.proofs.Grants.{IsMemory, behind_memory}

-- two actions, of which the first is known
pub then_known : {A B : Type 0} (first : Action A) (next : A → Action B) (bytes : Bytes) (known : Run A)
    → first.run bytes ≡ known
    → (first >>= next).run bytes ≡ followed_by known ((next known.value).run (after_writes known.wrote bytes))
then_known first next bytes known is =
    run_then-is first next bytes ∙ ap (λ r. followed_by r ((next r.value).run (after_writes r.wrote bytes))) is

loads_in : (reads : List Read) → reads_in (entry_loads reads) ≡ reads
loads_in [] = refl
loads_in (read ∷ reads) = ap (λ more. read ∷ more) (loads_in reads)

pub reads_append : (one more : List CheckedRead) → reads_in (one ++ more) ≡ reads_in one ++ reads_in more
reads_append one more = map-append (λ check. check.read) one more

-- the way to a place
abbrev pub reach_run : Csrs → Map → Choices → AccessRequest → ℕ → Bytes → Run (Result Place Cause)
reach_run csrs map choices request va bytes = record {
  value = place_found csrs map choices request va bytes;
  reads = reads_in (walk_reads_of csrs map request.mode va bytes);
  wrote = walk_sets_of csrs map choices request va bytes;
}

abbrev by_walk : Csrs → Map → Choices → AccessRequest → ℕ → Action (Result ℕ Cause)
by_walk csrs map choices request va =
    translation_of (tables_of csrs map choices) (at csrs Satp) (walk_flags_of csrs request.mode) va request.access

abbrev by_last : Csrs → Map → Choices → AccessRequest → ℕ → Bytes → Result ℕ Cause
by_last csrs map choices request va bytes =
    chain_result (tables_of csrs map choices) bytes (walk_flags_of csrs request.mode) va request.access
    (chain_of csrs map bytes va)

abbrev sets_last : Csrs → Map → Choices → AccessRequest → ℕ → Bytes → List Write
sets_last csrs map choices request va bytes =
    chain_wrote (tables_of csrs map choices) bytes (walk_flags_of csrs request.mode) va request.access
    (chain_of csrs map bytes va)

abbrev pub chain_reads : Csrs → Map → ℕ → Bytes → List Read
chain_reads csrs map va bytes = entry_reads_of (is_readable csrs map) (chain_of csrs map bytes va)

reach_by : (csrs : Csrs) (map : Map) (choices : Choices) (request : AccessRequest) (va : ℕ) (on : Bool)
    (bytes : Bytes)
    → (mapped (place_after_translation csrs map request)
    (if on then by_walk csrs map choices request va else pure (Ok va))).run
    bytes
    ≡ record {
      value = place_after_translation csrs map request
          (if on then by_last csrs map choices request va bytes else Ok va);
      reads = reads_in (if on then entry_loads (chain_reads csrs map va bytes) else []);
      wrote = if on then sets_last csrs map choices request va bytes else [];
    }
unfolding mapped pure
reach_by csrs map choices request va true bytes =
    let placed = place_after_translation csrs map request (by_last csrs map choices request va bytes) in
    let sets = sets_last csrs map choices request va bytes in
    let by =
    translation-by_chain (tables_of csrs map choices) bytes (at csrs Satp) (walk_flags_of csrs request.mode) va
    request.access in
    ap (λ got. record {
      value = place_after_translation csrs map request got.value;
      reads = got.reads;
      wrote = got.wrote;
    }) by
    ∙ ap (λ reads. record { value = placed; reads = reads; wrote = sets })
    (sym (loads_in (chain_reads csrs map va bytes)))
reach_by csrs map choices request va false bytes = refl

pub reach_is : (csrs : Csrs) (map : Map) (choices : Choices) (request : AccessRequest) (va : ℕ) (bytes : Bytes)
    → (virtual_place_of csrs map choices request va).run bytes ≡ reach_run csrs map choices request va bytes
unfolding virtual_place_of physical_address_of place_found address_found walk_reads_of walk_sets_of
reach_is csrs map choices request va bytes =
    reach_by csrs map choices request va (is_translated csrs request.mode) bytes

pub found_memory : (csrs : Csrs) (map : Map) (choices : Choices) (request : AccessRequest) (va : ℕ) (bytes : Bytes)
    → request.devices ≡ false
    → IfOk (place_found csrs map choices request va bytes) IsMemory
unfolding place_found
found_memory csrs map choices request va bytes none =
    behind_memory csrs map request (address_found csrs map choices request va bytes) none

-- a parcel
abbrev pub parcel_value : ℕ → Bytes → Result Place Cause → Result ℕ Exception
parcel_value va bytes (Err cause) = Err (cause, va)
parcel_value va bytes (Ok place) = Ok (number_at bytes place.pa 2)

abbrev pub parcel_run : Csrs → Map → Choices → Mode → ℕ → Bytes → Run (Result ℕ Exception)
parcel_run csrs map choices mode va bytes = record {
  value = parcel_value va (bytes_after_walk csrs map choices (parcel_fetch mode) va bytes)
      (place_found csrs map choices (parcel_fetch mode) va bytes);
  reads = reads_in (access_reads_of csrs map choices (parcel_fetch mode) va bytes);
  wrote = walk_sets_of csrs map choices (parcel_fetch mode) va bytes;
}

parcel_from_is : (mode : Mode) (va : ℕ) (placed : Result Place Cause) (bytes : Bytes) → IfOk placed IsMemory
    → (parcel_from va placed).run bytes
    ≡ record {
      value = parcel_value va bytes placed;
      reads = reads_in (own_reads_at (parcel_fetch mode) va placed);
      wrote = [];
    }
unfolding pure mapped read_memory
parcel_from_is mode va (Err cause) bytes memory = refl
parcel_from_is mode va (Ok place) bytes memory =
    let check = own_read (parcel_fetch mode) va place in
    let value : Result ℕ Exception = Ok (number_at bytes place.pa 2) in
    let found : Run (Result ℕ Exception) = record { value = value; reads = check.read ∷ []; wrote = [] } in
    let P : Bool → Type 0 =
    λ io. found ≡ record { value = value; reads = reads_in (if io then [] else check ∷ []); wrote = [] } in
    subst P (sym memory) refl

pub parcel_is : (csrs : Csrs) (map : Map) (choices : Choices) (mode : Mode) (va : ℕ) (bytes : Bytes)
    → (parcel_at csrs map choices mode va).run bytes ≡ parcel_run csrs map choices mode va bytes
unfolding parcel_at access_reads_of
parcel_is csrs map choices mode va bytes =
    let request = parcel_fetch mode in
    let placed = place_found csrs map choices request va bytes in
    let walk = walk_reads_of csrs map mode va bytes in
    let sets = walk_sets_of csrs map choices request va bytes in
    let value = parcel_value va (after_writes sets bytes) placed in
    then_known (virtual_place_of csrs map choices request va) (parcel_from va) bytes
    (reach_run csrs map choices request va bytes) (reach_is csrs map choices request va bytes)
    ∙ ap (λ r. followed_by (reach_run csrs map choices request va bytes) r)
    (parcel_from_is mode va placed (after_writes sets bytes)
    (found_memory csrs map choices request va bytes refl))
    ∙ ap (λ reads. record { value = value; reads = reads; wrote = sets ++ [] })
    (sym (reads_append walk (own_reads_at request va placed)))
    ∙ ap (λ wrote. record {
      value = value;
      reads = reads_in (access_reads_of csrs map choices request va bytes);
      wrote = wrote;
    }) (append-nil sets)

-- what a fetch sets
abbrev pub fetch_sets_of : Csrs → Map → Choices → Mode → ℕ → Bytes → List Write
fetch_sets_of csrs map choices mode pc bytes =
    let request = parcel_fetch mode in
    let after = bytes_after_walk csrs map choices request pc bytes in
    walk_sets_of csrs map choices request pc bytes
    ++ (if has_second after (place_found csrs map choices request pc bytes)
    then walk_sets_of csrs map choices request ((pc + 2) % 2 ^ 64) after
    else [])

-- what is read and set by an action is that of two lists
pub record IsNoted {A : Type 0} (run : Run A) (checks : List CheckedRead) (sets : List Write) : Type 0 where
  pub reads : run.reads ≡ reads_in checks
  pub wrote : run.wrote ≡ sets

second_noted : (csrs : Csrs) (map : Map) (choices : Choices) (mode : Mode) (next first : ℕ) (long : Bool)
    (bytes : Bytes)
    → IsNoted ((if long then mapped (with_second first) (parcel_at csrs map choices mode next) else pure
    (Ok (first, 2))).run bytes)
    (if long then access_reads_of csrs map choices (parcel_fetch mode) next bytes else [])
    (if long then walk_sets_of csrs map choices (parcel_fetch mode) next bytes else [])
unfolding pure mapped
second_noted csrs map choices mode next first true bytes = record {
  reads = ap (λ t. t.reads) (parcel_is csrs map choices mode next bytes);
  wrote = ap (λ t. t.wrote) (parcel_is csrs map choices mode next bytes);
}
second_noted csrs map choices mode next first false bytes = record { reads = refl; wrote = refl }

rest_noted : (csrs : Csrs) (map : Map) (choices : Choices) (mode : Mode) (pc : ℕ) (placed : Result Place Cause)
    (bytes : Bytes)
    → let next = (pc + 2) % 2 ^ 64 in
    let long = has_second bytes placed in
    IsNoted ((after_first csrs map choices mode pc (parcel_value pc bytes placed)).run bytes)
    (if long then access_reads_of csrs map choices (parcel_fetch mode) next bytes else [])
    (if long then walk_sets_of csrs map choices (parcel_fetch mode) next bytes else [])
unfolding pure
rest_noted csrs map choices mode pc (Err cause) bytes = record { reads = refl; wrote = refl }
rest_noted csrs map choices mode pc (Ok place) bytes =
    let first = number_at bytes place.pa 2 in
    second_noted csrs map choices mode ((pc + 2) % 2 ^ 64) first (first % 4 == 3) bytes

pub fetch_noted : (csrs : Csrs) (map : Map) (choices : Choices) (mode : Mode) (pc : ℕ) (bytes : Bytes)
    → IsNoted ((fetch_result csrs map choices mode pc).run bytes) (fetch_reads_of csrs map choices mode pc bytes)
    (fetch_sets_of csrs map choices mode pc bytes)
unfolding fetch_result fetch_reads_of
fetch_noted csrs map choices mode pc bytes =
    let request = parcel_fetch mode in
    let placed = place_found csrs map choices request pc bytes in
    let now = bytes_after_walk csrs map choices request pc bytes in
    let first = access_reads_of csrs map choices request pc bytes in
    let sets = walk_sets_of csrs map choices request pc bytes in
    let second : List CheckedRead =
    if has_second now placed then access_reads_of csrs map choices request ((pc + 2) % 2 ^ 64) now else [] in
    let both =
    then_known (parcel_at csrs map choices mode pc) (after_first csrs map choices mode pc) bytes
    (parcel_run csrs map choices mode pc bytes) (parcel_is csrs map choices mode pc bytes) in
    let rest = rest_noted csrs map choices mode pc placed now in
    record {
      reads = ap (λ t. t.reads) both ∙ ap (λ reads. reads_in first ++ reads) rest.reads
          ∙ sym (reads_append first second);
      wrote = ap (λ t. t.wrote) both ∙ ap (λ wrote. sets ++ wrote) rest.wrote;
    }

-- a part
abbrev pub part_run : Csrs → Map → Choices → AccessRequest → Part → Bytes → Run (Result Place Exception)
part_run csrs map choices request part bytes = record {
  value = with_address part.va (part_found csrs map choices request part bytes);
  reads = reads_in (walk_reads_of csrs map request.mode part.va bytes);
  wrote = walk_sets_of csrs map choices request part.va bytes;
}

part_is : (csrs : Csrs) (map : Map) (choices : Choices) (request : AccessRequest) (part : Part) (bytes : Bytes)
    → (part_place_of csrs map choices request part).run bytes ≡ part_run csrs map choices request part bytes
unfolding part_place_of mapped walk_sets_of
part_is csrs map choices request part bytes =
    ap (λ got. record { value = with_address part.va got.value; reads = got.reads; wrote = got.wrote })
    (reach_is csrs map choices (request_for request part) part.va bytes)

-- what parts set, as far as they have their places
unfoldable pub part_sets_of : Csrs → Map → Choices → AccessRequest → List Part → Bytes → List Write
part_sets_of csrs map choices request [] bytes = []
part_sets_of csrs map choices request (part ∷ parts) bytes =
    walk_sets_of csrs map choices request part.va bytes
    ++ if_found (part_found csrs map choices request part bytes)
    (part_sets_of csrs map choices request parts (bytes_after_walk csrs map choices request part.va bytes))

-- the places of one part or of two; of none it is a misaligned access that traps
abbrev pub places_by : Exception → Result (List PlacedPart) Exception → Result Places Exception
places_by trap (Err exception) = Err exception
places_by trap (Ok []) = Err trap
places_by trap (Ok (one ∷ [])) = Ok (one.place, None)
places_by trap (Ok (one ∷ two ∷ [])) = Ok (one.place, Some two.place)
places_by trap (Ok (one ∷ two ∷ three ∷ more)) = Err trap

abbrev pub parts_run : Csrs → Map → Choices → AccessRequest → Exception → List Part → Bytes
    → Run (Result Places Exception)
parts_run csrs map choices request trap parts bytes = record {
  value = places_by trap (parts_found csrs map choices request parts bytes);
  reads = reads_in (part_walks_of csrs map choices request parts bytes);
  wrote = part_sets_of csrs map choices request parts bytes;
}

abbrev run_of : Result Places Exception → List CheckedRead → List Write → Run (Result Places Exception)
run_of value walk sets = record { value = value; reads = reads_in walk; wrote = sets }

-- one part
whole_by : (trap : Exception) (part : Part) (found : Result Place Cause) (walk : List CheckedRead) (sets : List Write)
    → run_of (one_place (with_address part.va found)) walk sets
    ≡ run_of (places_by trap (with_first part found (Ok []))) (walk ++ if_found found [])
    (sets ++ if_found found [])
whole_by trap part (Err cause) walk sets =
    ap (λ reads. run_of (Err (cause, part.va)) reads sets) (sym (append-nil walk))
    ∙ ap (λ wrote. run_of (Err (cause, part.va)) (walk ++ []) wrote) (sym (append-nil sets))
whole_by trap part (Ok place) walk sets =
    ap (λ reads. run_of (Ok (place, None)) reads sets) (sym (append-nil walk))
    ∙ ap (λ wrote. run_of (Ok (place, None)) (walk ++ []) wrote) (sym (append-nil sets))

whole_is : (csrs : Csrs) (map : Map) (choices : Choices) (request : AccessRequest) (trap : Exception) (va : ℕ)
    (bytes : Bytes)
    → (whole_place_of csrs map choices request va).run bytes
    ≡ parts_run csrs map choices request trap (whole_part va request.len ∷ []) bytes
unfolding mapped parts_found part_walks_of part_sets_of
whole_is csrs map choices request trap va bytes =
    let part = whole_part va request.len in
    ap (λ got. record { value = one_place got.value; reads = got.reads; wrote = got.wrote })
    (part_is csrs map choices request part bytes)
    ∙ whole_by trap part (part_found csrs map choices request part bytes)
    (walk_reads_of csrs map request.mode va bytes) (walk_sets_of csrs map choices request va bytes)

-- two parts
second_by : (first second : Part) (trap : Exception) (place : Place) (found : Result Place Cause)
    (walk : List CheckedRead) (sets : List Write)
    → run_of (after_place place (with_address second.va found)) walk sets
    ≡ run_of (places_by trap (with_first first (Ok place) (with_first second found (Ok []))))
    (walk ++ if_found found []) (sets ++ if_found found [])
second_by first second trap place (Err cause) walk sets =
    ap (λ reads. run_of (Err (cause, second.va)) reads sets) (sym (append-nil walk))
    ∙ ap (λ wrote. run_of (Err (cause, second.va)) (walk ++ []) wrote) (sym (append-nil sets))
second_by first second trap place (Ok next) walk sets =
    ap (λ reads. run_of (Ok (place, Some next)) reads sets) (sym (append-nil walk))
    ∙ ap (λ wrote. run_of (Ok (place, Some next)) (walk ++ []) wrote) (sym (append-nil sets))

-- what follows the first part, in memory as its walk leaves it
abbrev rest_run : Csrs → Map → Choices → AccessRequest → Part → Part → Result Place Cause → Bytes
    → Exception → Run (Result Places Exception)
rest_run csrs map choices request first second found now trap = record {
  value = places_by trap (with_first first found (parts_found csrs map choices request (second ∷ []) now));
  reads = reads_in (if_found found (part_walks_of csrs map choices request (second ∷ []) now));
  wrote = if_found found (part_sets_of csrs map choices request (second ∷ []) now);
}

rest_is : (csrs : Csrs) (map : Map) (choices : Choices) (request : AccessRequest) (first second : Part)
    (trap : Exception) (found : Result Place Cause) (now : Bytes)
    → (second_place_of csrs map choices request second (with_address first.va found)).run now
    ≡ rest_run csrs map choices request first second found now trap
unfolding pure mapped parts_found part_walks_of part_sets_of
rest_is csrs map choices request first second trap (Err cause) now = refl
rest_is csrs map choices request first second trap (Ok place) now =
    ap (λ got. record { value = after_place place got.value; reads = got.reads; wrote = got.wrote })
    (part_is csrs map choices request second now)
    ∙ second_by first second trap place (part_found csrs map choices request second now)
    (walk_reads_of csrs map request.mode second.va now) (walk_sets_of csrs map choices request second.va now)

two_is : (csrs : Csrs) (map : Map) (choices : Choices) (request : AccessRequest) (trap : Exception)
    (first second : Part) (bytes : Bytes)
    → (part_place_of csrs map choices request first >>= second_place_of csrs map choices request second).run bytes
    ≡ parts_run csrs map choices request trap (first ∷ second ∷ []) bytes
unfolding parts_found part_walks_of part_sets_of
two_is csrs map choices request trap first second bytes =
    let found = part_found csrs map choices request first bytes in
    let now = bytes_after_walk csrs map choices request first.va bytes in
    let known = part_run csrs map choices request first bytes in
    let walk = walk_reads_of csrs map request.mode first.va bytes in
    let more = if_found found (part_walks_of csrs map choices request (second ∷ []) now) in
    let whole = parts_run csrs map choices request trap (first ∷ second ∷ []) bytes in
    then_known (part_place_of csrs map choices request first) (second_place_of csrs map choices request second) bytes
    known (part_is csrs map choices request first bytes)
    ∙ ap (λ r. followed_by known r) (rest_is csrs map choices request first second trap found now)
    ∙ ap (λ reads. record { value = whole.value; reads = reads; wrote = whole.wrote }) (sym (reads_append walk more))

-- the places of a load or a store
split_by : (csrs : Csrs) (map : Map) (choices : Choices) (request : AccessRequest) (trap : Exception) (va : ℕ)
    (over : Bool) (bytes : Bytes)
    → (if over then (part_place_of csrs map choices request (first_part va request.len)
    >>= second_place_of csrs map choices request (second_part va request.len))
    else whole_place_of csrs map choices request va).run bytes
    ≡ parts_run csrs map choices request trap
    (if over then first_part va request.len ∷ second_part va request.len ∷ [] else whole_part va request.len ∷ [])
    bytes
split_by csrs map choices request trap va true bytes =
    two_is csrs map choices request trap (first_part va request.len) (second_part va request.len) bytes
split_by csrs map choices request trap va false bytes = whole_is csrs map choices request trap va bytes

places_by_kind : (csrs : Csrs) (map : Map) (choices : Choices) (request : AccessRequest) (trap : Exception) (va : ℕ)
    (kind : Bool × Bool) (bytes : Bytes)
    → let memory : AccessRequest = record request { devices = false } in
    (if kind.0 then whole_place_of csrs map choices request va
    else if kind.1 then split_places_of csrs map choices memory va
    else pure (Err trap)).run bytes
    ≡ parts_run csrs map choices (if kind.0 then request else memory) trap
    (if kind.0 then whole_part va request.len ∷ []
    else if kind.1 then
    (if has_second_part va request.len then first_part va request.len ∷ second_part va request.len ∷ []
    else whole_part va request.len ∷ [])
    else [])
    bytes
unfolding pure split_places_of parts_found part_walks_of part_sets_of
places_by_kind csrs map choices request trap va (true, split) bytes =
    whole_is csrs map choices request trap va bytes
places_by_kind csrs map choices request trap va (false, true) bytes =
    split_by csrs map choices (record request { devices = false }) trap va (has_second_part va request.len) bytes
places_by_kind csrs map choices request trap va (false, false) bytes = refl

pub places_is : (csrs : Csrs) (map : Map) (choices : Choices) (request : AccessRequest) (atomicity : Atomicity)
    (misaligned : Cause) (va : ℕ) (bytes : Bytes)
    → (data_places_of csrs map choices request atomicity misaligned va).run bytes
    ≡ parts_run csrs map choices (request_at request va) (misaligned, va) (parts_of choices request atomicity va) bytes
unfolding data_places_of request_at parts_of
places_is csrs map choices request atomicity misaligned va bytes =
    places_by_kind csrs map choices request (misaligned, va) va
    (va % request.len == 0, is_split choices request atomicity va) bytes

-- the own bytes of one part
own_whole : (request : AccessRequest) (va : ℕ) (trap : Exception) (found : Result Place Cause) (now : Bytes)
    → let parts = with_first (whole_part va request.len) found (Ok []) in
    ((load_from va request.len (places_by trap parts)).run now).reads ≡ reads_in (own_reads_of request parts)
unfolding pure mapped read_memory
own_whole request va trap (Err cause) now = refl
own_whole request va trap (Ok place) now = by place.is_device
  where
    by : (io : Bool)
        → ((value_at place request.len io).run now).reads
        ≡ reads_in ((if io then [] else own_read request va place ∷ []) ++ [])
    by true = refl
    by false = refl

-- those of two parts, which no device answers
both_reads : (request : AccessRequest) (va : ℕ) (first second : Place) (now : Bytes) → IsMemory first → IsMemory second
    → ((value_of_parts first second (first_len va request.len) (request.len - first_len va request.len)).run now).reads
    ≡ reads_in (own_reads_of request (Ok (
    record { part = first_part va request.len; place = first }
    ∷ record { part = second_part va request.len; place = second } ∷ []
    )))
unfolding ◌>>=◌ run_then mapped read_memory
both_reads request va first second now low high =
    let one : CheckedRead = own_read (request_for request (first_part va request.len)) va first in
    let two : CheckedRead =
    own_read (request_for request (second_part va request.len)) (second_part va request.len).va second in
    let reads : List Read = one.read ∷ two.read ∷ [] in
    let P : Bool → Bool → Type 0 =
    λ a b. reads ≡ reads_in ((if a then [] else one ∷ []) ++ ((if b then [] else two ∷ []) ++ [])) in
    subst (λ a. P a second.is_device) (sym low) (subst (λ b. P false b) (sym high) refl)

own_both : (request : AccessRequest) (va : ℕ) (trap : Exception) (one two : Result Place Cause) (now : Bytes)
    → IfOk one IsMemory → IfOk two IsMemory
    → let parts =
    with_first (first_part va request.len) one (with_first (second_part va request.len) two (Ok [])) in
    ((load_from va request.len (places_by trap parts)).run now).reads ≡ reads_in (own_reads_of request parts)
unfolding pure
own_both request va trap (Err cause) two now low high = refl
own_both request va trap (Ok first) (Err cause) now low high = refl
own_both request va trap (Ok first) (Ok second) now low high = both_reads request va first second now low high

own_split : (csrs : Csrs) (map : Map) (choices : Choices) (request : AccessRequest) (trap : Exception) (va : ℕ)
    (over : Bool) (bytes : Bytes) → request.devices ≡ false → (now : Bytes)
    → let found = parts_found csrs map choices request
    (if over then first_part va request.len ∷ second_part va request.len ∷ [] else whole_part va request.len ∷ [])
    bytes in
    ((load_from va request.len (places_by trap found)).run now).reads ≡ reads_in (own_reads_of request found)
unfolding parts_found
own_split csrs map choices request trap va true bytes none now =
    let first = first_part va request.len in
    let second = second_part va request.len in
    let after = bytes_after_walk csrs map choices request va bytes in
    own_both request va trap (part_found csrs map choices request first bytes)
    (part_found csrs map choices request second after) now
    (found_memory csrs map choices (request_for request first) first.va bytes none)
    (found_memory csrs map choices (request_for request second) second.va after none)
own_split csrs map choices request trap va false bytes none now =
    own_whole request va trap (part_found csrs map choices request (whole_part va request.len) bytes) now

own_by_kind : (csrs : Csrs) (map : Map) (choices : Choices) (request : AccessRequest) (trap : Exception) (va : ℕ)
    (kind : Bool × Bool) (bytes : Bytes) (now : Bytes)
    → let memory : AccessRequest = record request { devices = false } in
    let found = parts_found csrs map choices (if kind.0 then request else memory)
    (if kind.0 then whole_part va request.len ∷ []
    else if kind.1 then
    (if has_second_part va request.len then first_part va request.len ∷ second_part va request.len ∷ []
    else whole_part va request.len ∷ [])
    else [])
    bytes in
    ((load_from va request.len (places_by trap found)).run now).reads ≡ reads_in (own_reads_of request found)
unfolding pure parts_found
own_by_kind csrs map choices request trap va (true, split) bytes now =
    own_whole request va trap (part_found csrs map choices request (whole_part va request.len) bytes) now
own_by_kind csrs map choices request trap va (false, true) bytes now =
    own_split csrs map choices (record request { devices = false }) trap va (has_second_part va request.len) bytes
    refl now
own_by_kind csrs map choices request trap va (false, false) bytes now = refl

own_order : (csrs : Csrs) (map : Map) (choices : Choices) (request : AccessRequest) (atomicity : Atomicity)
    (trap : Exception) (va : ℕ) (bytes : Bytes) (now : Bytes)
    → let found = places_found csrs map choices request atomicity va bytes in
    ((load_from va request.len (places_by trap found)).run now).reads ≡ reads_in (own_reads_of request found)
unfolding request_at parts_of
own_order csrs map choices request atomicity trap va bytes now =
    own_by_kind csrs map choices request trap va (va % request.len == 0, is_split choices request atomicity va) bytes
    now

-- a load writes nothing of its own
value_wrote : (place : Place) (len : ℕ) (io : Bool) (now : Bytes) → ((value_at place len io).run now).wrote ≡ []
unfolding pure mapped read_memory
value_wrote place len true now = refl
value_wrote place len false now = refl

load_from_wrote : (va len : ℕ) (places : Result Places Exception) (now : Bytes)
    → ((load_from va len places).run now).wrote ≡ []
unfolding pure mapped read_memory ◌>>=◌ run_then
load_from_wrote va len (Err exception) now = refl
load_from_wrote va len (Ok (place, None)) now = value_wrote place len place.is_device now
load_from_wrote va len (Ok (first, Some second)) now = refl

-- what a load or the look for a store's places sets
abbrev pub data_sets_of : Csrs → Map → Choices → AccessRequest → Atomicity → ℕ → Bytes → List Write
data_sets_of csrs map choices request atomicity va bytes =
    part_sets_of csrs map choices (request_at request va) (parts_of choices request atomicity va) bytes

pub load_noted : (csrs : Csrs) (map : Map) (choices : Choices) (mode : Mode) (va len : ℕ) (atomicity : Atomicity)
    (bytes : Bytes)
    → IsNoted ((load_result csrs map choices mode va len atomicity).run bytes)
    (data_reads_of csrs map choices (data_load csrs choices mode len atomicity) atomicity true va bytes)
    (data_sets_of csrs map choices (data_load csrs choices mode len atomicity) atomicity va bytes)
unfolding load_result data_reads_of
load_noted csrs map choices mode va len atomicity bytes =
    let request = data_load csrs choices mode len atomicity in
    let trap : Exception = (LoadAddressMisaligned, va) in
    let asked = request_at request va in
    let parts = parts_of choices request atomicity va in
    let known = parts_run csrs map choices asked trap parts bytes in
    let now = after_writes known.wrote bytes in
    let walks = part_walks_of csrs map choices asked parts bytes in
    let own = own_reads_of request (places_found csrs map choices request atomicity va bytes) in
    let both =
    then_known (data_places_of csrs map choices request atomicity LoadAddressMisaligned va) (load_from va len) bytes
    known (places_is csrs map choices request atomicity LoadAddressMisaligned va bytes) in
    record {
      reads = ap (λ t. t.reads) both
          ∙ ap (λ reads. reads_in walks ++ reads) (own_order csrs map choices request atomicity trap va bytes now)
          ∙ sym (reads_append walks own);
      wrote = ap (λ t. t.wrote) both ∙ ap (λ wrote. known.wrote ++ wrote) (load_from_wrote va len known.value now)
          ∙ append-nil known.wrote;
    }

pub store_noted : (csrs : Csrs) (map : Map) (choices : Choices) (mode : Mode) (va len : ℕ) (atomicity : Atomicity)
    (bytes : Bytes)
    → IsNoted ((store_place_of csrs map choices mode va len atomicity).run bytes)
    (data_reads_of csrs map choices (data_store csrs choices mode len atomicity) atomicity false va bytes)
    (data_sets_of csrs map choices (data_store csrs choices mode len atomicity) atomicity va bytes)
unfolding store_place_of data_reads_of
store_noted csrs map choices mode va len atomicity bytes =
    let request = data_store csrs choices mode len atomicity in
    let walks = part_walks_of csrs map choices (request_at request va) (parts_of choices request atomicity va) bytes in
    let is = places_is csrs map choices request atomicity StoreAddressMisaligned va bytes in
    record {
      reads = ap (λ t. t.reads) is ∙ ap reads_in (sym (append-nil walks));
      wrote = ap (λ t. t.wrote) is;
    }

-- the places of a load are those that were found
pub load_from_places : (va len : ℕ) (places : Result Places Exception) (P : Places → Type 0) (now : Bytes)
    → IfOk places P
    → IfOk ((load_from va len places).run now).value (λ found. P (found.0, found.1))
unfolding pure mapped read_memory ◌>>=◌ run_then
load_from_places va len (Err exception) P now holds = tt
load_from_places va len (Ok (place, None)) P now holds = by place.is_device
  where
    by : (io : Bool) → IfOk ((value_at place len io).run now).value (λ found. P (found.0, found.1))
    by true = holds
    by false = holds
load_from_places va len (Ok (first, Some second)) P now holds = holds

pub load_value : (csrs : Csrs) (map : Map) (choices : Choices) (mode : Mode) (va len : ℕ) (atomicity : Atomicity)
    (bytes : Bytes)
    → let request = data_load csrs choices mode len atomicity in
    ((load_result csrs map choices mode va len atomicity).run bytes).value
    ≡ ((load_from va len
    (places_by (LoadAddressMisaligned, va) (places_found csrs map choices request atomicity va bytes))).run
    (after_writes (data_sets_of csrs map choices request atomicity va bytes) bytes)).value
unfolding load_result
load_value csrs map choices mode va len atomicity bytes =
    let request = data_load csrs choices mode len atomicity in
    let asked = request_at request va in
    let known =
    parts_run csrs map choices asked (LoadAddressMisaligned, va) (parts_of choices request atomicity va) bytes in
    ap (λ t. t.value)
    (then_known (data_places_of csrs map choices request atomicity LoadAddressMisaligned va) (load_from va len) bytes
    known (places_is csrs map choices request atomicity LoadAddressMisaligned va bytes))

pub store_value : (csrs : Csrs) (map : Map) (choices : Choices) (mode : Mode) (va len : ℕ) (atomicity : Atomicity)
    (bytes : Bytes)
    → ((store_place_of csrs map choices mode va len atomicity).run bytes).value
    ≡ places_by (StoreAddressMisaligned, va)
    (places_found csrs map choices (data_store csrs choices mode len atomicity) atomicity va bytes)
unfolding store_place_of
store_value csrs map choices mode va len atomicity bytes =
    ap (λ t. t.value)
    (places_is csrs map choices (data_store csrs choices mode len atomicity) atomicity StoreAddressMisaligned va bytes)

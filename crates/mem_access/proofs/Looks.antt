-- Each way through an access does what its definition says there.
use Rattle.std.proofs.Common.{◌≡◌, ℕ, ◌+◌, ◌-◌, ◌%◌, ◌^◌, Bool, true, false, not, ◌&&◌, ◌||◌, List, [], ◌∷◌, ◌++◌}
use Rattle.std.proofs.Common.{sym, ap, ◌∙◌, subst, arith, Ok, Err, Result, refl}
use Rattle.std.specs.Prelude.{◌==◌, Some, None}
use Rattle.std.proofs.lemmas.Bool.Decides.{nat_tests}
use Rattle.hart_words.specs.declared.privilege.Mode.{Mode}
use Rattle.hart_words.specs.declared.privilege.Cause.{Cause}
use Rattle.hart_words.specs.declared.privilege.Cause.TheVariants.{LoadAddressMisaligned, StoreAddressMisaligned}
use Rattle.hart_words.specs.declared.map.Map.{Map}
use Rattle.hart_words.specs.declared.choices.Choices.{Choices}
use Rattle.hart_words.specs.declared.accesses.Read.{Read}
use Rattle.hart_words.specs.declared.accesses.Write.{Write}
use Rattle.hart_words.specs.Memory.{Bytes, after_writes, number_at}
use Rattle.hart_words.specs.Options.{are_done}
use Rattle.hart_words.specs.Actions.{Action, Notes, pure, read_memory, mapped, ◌>>=◌}
use Rattle.hart_words.proofs.Runs.{Notes-mapped, Notes-observed, Notes-pure, Notes-then, Observes-read_memory}
use Rattle.csr_file.specs.declared.csrs.Csrs.{Csrs}
use Rattle.mem_access.specs.declared.place.AccessRequest.{AccessRequest}
use Rattle.mem_access.specs.declared.place.Atomicity.{Atomicity}
use Rattle.mem_access.specs.declared.place.Place.{Place}
use Rattle.mem_access.specs.Places.{place_of}
use Rattle.mem_access.specs.Translation.{is_translated, physical_address_of, place_after_translation, virtual_place_of}
use Rattle.mem_access.specs.Accesses.{Exception, LocatedValue, Part, Places, after_first, after_place, one_place}
use Rattle.mem_access.specs.Accesses.{data_places_of}
use Rattle.mem_access.specs.Accesses.{data_load, data_store, fetch_result, first_len, first_part, has_second_part}
use Rattle.mem_access.specs.Accesses.{is_atomic, joined_value, load_by, load_from, load_result, parcel_at, parcel_fetch}
use Rattle.mem_access.specs.Accesses.{parcel_from, part_place_of, second_part, second_place_of, split_places_of}
use Rattle.mem_access.specs.Accesses.{store_place_of, value_at, value_of_parts, whole_place_of, with_address}
use Rattle.mem_access.specs.Accesses.{with_second}

-- the number that stands at an address, as a step sees it
Notes-read_memory : (read : Read) {value : ℕ} {seen : List Read} {wrote : List Write} {bytes : Bytes}
    → value ≡ number_at (after_writes wrote bytes) read.pa read.len
    → Notes (read_memory read) value seen (seen ++ read ∷ []) wrote wrote bytes
Notes-read_memory read {value} {seen} {wrote} {bytes} is =
    Notes-observed (read_memory read) (Observes-read_memory read value seen (after_writes wrote bytes) is)

-- an address and its place
pub untranslated : (csrs : Csrs) (map : Map) (choices : Choices) (request : AccessRequest) (va : ℕ)
    {seen : List Read} {wrote : List Write} {bytes : Bytes}
    → is_translated csrs request.mode ≡ false
    → Notes (physical_address_of csrs map choices request va) (Ok va) seen seen wrote wrote bytes
unfolding physical_address_of
untranslated csrs map choices request va {seen} {wrote} {bytes} off = rw off (Notes-pure (Ok va) seen wrote bytes)

pub reach_refused : (csrs : Csrs) (map : Map) (choices : Choices) (request : AccessRequest) (va : ℕ) {cause : Cause}
    {seen seen' : List Read} {wrote wrote' : List Write} {bytes : Bytes}
    → Notes (physical_address_of csrs map choices request va) (Err cause) seen seen' wrote wrote' bytes
    → Notes (virtual_place_of csrs map choices request va) (Err cause) seen seen' wrote wrote' bytes
unfolding virtual_place_of
reach_refused csrs map choices request va look =
    Notes-mapped (place_after_translation csrs map request) (physical_address_of csrs map choices request va) look

pub reach_placed : (csrs : Csrs) (map : Map) (choices : Choices) (request : AccessRequest) (va : ℕ) {pa : ℕ}
    {placed : Result Place Cause} {seen seen' : List Read} {wrote wrote' : List Write} {bytes : Bytes}
    → Notes (physical_address_of csrs map choices request va) (Ok pa) seen seen' wrote wrote' bytes
    → placed ≡ place_of csrs map request pa
    → Notes (virtual_place_of csrs map choices request va) placed seen seen' wrote wrote' bytes
unfolding virtual_place_of
reach_placed csrs map choices request va {seen} {seen'} {wrote} {wrote'} {bytes} look is =
    let P : Result Place Cause → Type 0 =
    λ r. Notes (virtual_place_of csrs map choices request va) r seen seen' wrote wrote' bytes in
    subst P (sym is)
    (Notes-mapped (place_after_translation csrs map request) (physical_address_of csrs map choices request va) look)

-- a part
pub part_at : (csrs : Csrs) (map : Map) (choices : Choices) (request : AccessRequest) (va : ℕ)
    {placed : Result Place Cause} {seen seen' : List Read} {wrote wrote' : List Write} {bytes : Bytes}
    → Notes (virtual_place_of csrs map choices request va) placed seen seen' wrote wrote' bytes
    → Notes (part_place_of csrs map choices request (record { va = va; len = request.len }))
    (with_address va placed) seen seen' wrote wrote' bytes
unfolding part_place_of
part_at csrs map choices request va look =
    Notes-mapped (with_address va) (virtual_place_of csrs map choices request va) look

-- a fetch
pub parcel_refused : (csrs : Csrs) (map : Map) (choices : Choices) (mode : Mode) (at : ℕ) {cause : Cause}
    {seen seen' : List Read} {wrote wrote' : List Write} {bytes : Bytes}
    → Notes (virtual_place_of csrs map choices (parcel_fetch mode) at) (Err cause) seen seen' wrote wrote' bytes
    → Notes (parcel_at csrs map choices mode at) (Err (cause, at)) seen seen' wrote wrote' bytes
unfolding parcel_at
parcel_refused csrs map choices mode at {cause} {seen'} {wrote'} {bytes} look =
    Notes-then (virtual_place_of csrs map choices (parcel_fetch mode) at) (parcel_from at) look
    (Notes-pure (Err (cause, at)) seen' wrote' bytes)

pub parcel_read : (csrs : Csrs) (map : Map) (choices : Choices) (mode : Mode) (at : ℕ) {place : Place} {parcel : ℕ}
    {s0 s1 s2 : List Read} {w0 w1 : List Write} {bytes : Bytes}
    → Notes (virtual_place_of csrs map choices (parcel_fetch mode) at) (Ok place) s0 s1 w0 w1 bytes
    → parcel ≡ number_at (after_writes w1 bytes) place.pa 2 → s2 ≡ s1 ++ record { pa = place.pa; len = 2 } ∷ []
    → Notes (parcel_at csrs map choices mode at) (Ok parcel) s0 s2 w0 w1 bytes
unfolding parcel_at
parcel_read csrs map choices mode at {place} {parcel} {s1} {w1} {bytes} look read noted =
    let own : Read = record { pa = place.pa; len = 2 } in
    Notes-then (virtual_place_of csrs map choices (parcel_fetch mode) at) (parcel_from at) look
    (rw noted (Notes-mapped (λ n. Ok n) (read_memory own) (Notes-read_memory own read)))

pub fetch_refused : (csrs : Csrs) (map : Map) (choices : Choices) (mode : Mode) (pc : ℕ) {exception : Exception}
    {seen seen' : List Read} {wrote wrote' : List Write} {bytes : Bytes}
    → Notes (parcel_at csrs map choices mode pc) (Err exception) seen seen' wrote wrote' bytes
    → Notes (fetch_result csrs map choices mode pc) (Err exception) seen seen' wrote wrote' bytes
unfolding fetch_result
fetch_refused csrs map choices mode pc {exception} {seen'} {wrote'} {bytes} first =
    Notes-then (parcel_at csrs map choices mode pc) (after_first csrs map choices mode pc) first
    (Notes-pure (Err exception) seen' wrote' bytes)

short_word : (first : ℕ) → (first % 4 ≡ 3 → ⊥) → (first % 4 == 3) ≡ false
short_word first short = grind (arith, nat_tests)

long_word : (first : ℕ) → first % 4 ≡ 3 → (first % 4 == 3) ≡ true
long_word first long = grind (arith, nat_tests)

pub fetch_short : (csrs : Csrs) (map : Map) (choices : Choices) (mode : Mode) (pc : ℕ) {first : ℕ}
    {seen seen' : List Read} {wrote wrote' : List Write} {bytes : Bytes}
    → Notes (parcel_at csrs map choices mode pc) (Ok first) seen seen' wrote wrote' bytes → (first % 4 ≡ 3 → ⊥)
    → Notes (fetch_result csrs map choices mode pc) (Ok (first, 2)) seen seen' wrote wrote' bytes
unfolding fetch_result
fetch_short csrs map choices mode pc {first} {seen'} {wrote'} {bytes} look short =
    Notes-then (parcel_at csrs map choices mode pc) (after_first csrs map choices mode pc) look
    (rw (short_word first short) (Notes-pure (Ok (first, 2)) seen' wrote' bytes))

pub fetch_long : (csrs : Csrs) (map : Map) (choices : Choices) (mode : Mode) (pc : ℕ) {first : ℕ}
    {second : Result ℕ Exception} {s0 s1 s2 : List Read} {w0 w1 w2 : List Write} {bytes : Bytes}
    → Notes (parcel_at csrs map choices mode pc) (Ok first) s0 s1 w0 w1 bytes
    → first % 4 ≡ 3 → Notes (parcel_at csrs map choices mode ((pc + 2) % 2 ^ 64)) second s1 s2 w1 w2 bytes
    → Notes (fetch_result csrs map choices mode pc) (with_second first second) s0 s2 w0 w2 bytes
unfolding fetch_result
fetch_long csrs map choices mode pc {first} look long more =
    Notes-then (parcel_at csrs map choices mode pc) (after_first csrs map choices mode pc) look
    (rw (long_word first long)
    (Notes-mapped (with_second first) (parcel_at csrs map choices mode ((pc + 2) % 2 ^ 64)) more))

-- what stands at a place
pub value_device : (place : Place) (len : ℕ) {seen : List Read} {wrote : List Write} {bytes : Bytes}
    → place.is_device ≡ true
    → Notes (value_at place len place.is_device) (Ok (place, None, 0)) seen seen wrote wrote bytes
value_device place len {seen} {wrote} {bytes} io =
    let Q : Bool → Type 0 = λ b. Notes (value_at place len b) (Ok (place, None, 0)) seen seen wrote wrote bytes in
    subst Q (sym io) (Notes-pure (Ok (place, None, 0)) seen wrote bytes)

pub value_memory : (place : Place) (len : ℕ) {value : ℕ} {s0 s1 : List Read} {wrote : List Write} {bytes : Bytes}
    → place.is_device ≡ false → value ≡ number_at (after_writes wrote bytes) place.pa len
    → s1 ≡ s0 ++ record { pa = place.pa; len = len } ∷ []
    → Notes (value_at place len place.is_device) (Ok (place, None, value)) s0 s1 wrote wrote bytes
value_memory place len {value} {s0} {s1} {wrote} {bytes} io is noted =
    let own : Read = record { pa = place.pa; len = len } in
    let Q : Bool → Type 0 = λ b. Notes (value_at place len b) (Ok (place, None, value)) s0 s1 wrote wrote bytes in
    subst Q (sym io)
    (rw noted (Notes-mapped (λ n. Ok (place, None, n)) (read_memory own) (Notes-read_memory own is)))

-- an access of one part
pub whole_at : (csrs : Csrs) (map : Map) (choices : Choices) (request : AccessRequest) (va : ℕ)
    {placed : Result Place Exception} {seen seen' : List Read} {wrote wrote' : List Write} {bytes : Bytes}
    → Notes (part_place_of csrs map choices request (record { va = va; len = request.len })) placed
    seen seen' wrote wrote' bytes
    → Notes (whole_place_of csrs map choices request va) (one_place placed) seen seen' wrote wrote' bytes
whole_at csrs map choices request va look =
    Notes-mapped one_place (part_place_of csrs map choices request (record { va = va; len = request.len })) look

pub whole_refused : (csrs : Csrs) (map : Map) (choices : Choices) (request : AccessRequest) (va : ℕ)
    {exception : Exception} {seen seen' : List Read} {wrote wrote' : List Write} {bytes : Bytes}
    → Notes (part_place_of csrs map choices request (record { va = va; len = request.len })) (Err exception)
    seen seen' wrote wrote' bytes
    → Notes (whole_place_of csrs map choices request va >>= load_from va request.len) (Err exception)
    seen seen' wrote wrote' bytes
whole_refused csrs map choices request va {exception} {seen'} {wrote'} {bytes} look =
    Notes-then (whole_place_of csrs map choices request va) (load_from va request.len)
    (whole_at csrs map choices request va look) (Notes-pure (Err exception) seen' wrote' bytes)

pub whole_loaded : (csrs : Csrs) (map : Map) (choices : Choices) (request : AccessRequest) (va : ℕ)
    {place : Place} {loaded : Result LocatedValue Exception} {s0 s1 s2 : List Read} {w0 w1 : List Write} {bytes : Bytes}
    → Notes (part_place_of csrs map choices request (record { va = va; len = request.len })) (Ok place)
    s0 s1 w0 w1 bytes
    → Notes (value_at place request.len place.is_device) loaded s1 s2 w1 w1 bytes
    → Notes (whole_place_of csrs map choices request va >>= load_from va request.len) loaded s0 s2 w0 w1 bytes
whole_loaded csrs map choices request va look read =
    Notes-then (whole_place_of csrs map choices request va) (load_from va request.len)
    (whole_at csrs map choices request va look) read

-- an access of two parts: so many of its bytes lie before the next page, which begins at an address
pub record RunsOver (va len low_len next : ℕ) : Type 0 where
  pub first : low_len ≡ first_len va len
  pub over : low_len ≡ len → ⊥
  pub next_page : next ≡ (va + low_len) % 2 ^ 64

abbrev pub part_from : AccessRequest → ℕ → Part
part_from request va = record { va = va; len = request.len }

-- some bytes of a request
abbrev pub some_bytes_of : AccessRequest → ℕ → AccessRequest
some_bytes_of request len = record request { len = len }

low_part : (csrs : Csrs) (map : Map) (choices : Choices) (request : AccessRequest) (va : ℕ) {low_len next : ℕ}
    → RunsOver va request.len low_len next
    → part_place_of csrs map choices (some_bytes_of request low_len) (part_from (some_bytes_of request low_len) va)
    ≡ part_place_of csrs map choices request (first_part va request.len)
unfolding part_place_of
low_part csrs map choices request va is =
    ap (λ n. part_place_of csrs map choices (some_bytes_of request n) (part_from (some_bytes_of request n) va))
    is.first

high_part : (csrs : Csrs) (map : Map) (choices : Choices) (request : AccessRequest) (va : ℕ) {low_len next : ℕ}
    → RunsOver va request.len low_len next
    → part_place_of csrs map choices (some_bytes_of request (request.len - low_len))
    (part_from (some_bytes_of request (request.len - low_len)) next)
    ≡ part_place_of csrs map choices request (second_part va request.len)
unfolding part_place_of
high_part csrs map choices request va {low_len} is =
    let high : AccessRequest = some_bytes_of request (request.len - low_len) in
    ap (λ (n : ℕ). part_place_of csrs map choices high (part_from high n)) is.next_page
    ∙ ap (λ n. part_place_of csrs map choices (some_bytes_of request (request.len - n))
    (part_from (some_bytes_of request (request.len - n)) ((va + n) % 2 ^ 64))) is.first

goes_on : {va len low_len next : ℕ} → RunsOver va len low_len next → has_second_part va len ≡ true
goes_on {va} {len} is =
    let first = is.first in
    let over = is.over in
    grind (arith, nat_tests)

pub split_refused : (csrs : Csrs) (map : Map) (choices : Choices) (request : AccessRequest) (va : ℕ)
    {low_len next : ℕ} {exception : Exception} {seen seen' : List Read} {wrote wrote' : List Write} {bytes : Bytes}
    → RunsOver va request.len low_len next
    → Notes (part_place_of csrs map choices (some_bytes_of request low_len)
    (part_from (some_bytes_of request low_len) va)) (Err exception) seen seen' wrote wrote' bytes
    → Notes (split_places_of csrs map choices request va) (Err exception) seen seen' wrote wrote' bytes
unfolding split_places_of
split_refused csrs map choices request va {exception} {seen} {seen'} {wrote} {wrote'} {bytes} over look =
    let P : Action (Result Place Exception) → Type 0 = λ a. Notes a (Err exception) seen seen' wrote wrote' bytes in
    rw (goes_on over)
    (Notes-then (part_place_of csrs map choices request (first_part va request.len))
    (second_place_of csrs map choices request (second_part va request.len))
    (subst P (low_part csrs map choices request va over) look)
    (Notes-pure (Err exception) seen' wrote' bytes))

pub split_both : (csrs : Csrs) (map : Map) (choices : Choices) (request : AccessRequest) (va : ℕ)
    {low_len next : ℕ} {first : Place} {second : Result Place Exception} {s0 s1 s2 : List Read}
    {w0 w1 w2 : List Write} {bytes : Bytes}
    → RunsOver va request.len low_len next
    → Notes (part_place_of csrs map choices (some_bytes_of request low_len)
    (part_from (some_bytes_of request low_len) va)) (Ok first) s0 s1 w0 w1 bytes
    → Notes (part_place_of csrs map choices (some_bytes_of request (request.len - low_len))
    (part_from (some_bytes_of request (request.len - low_len)) next)) second s1 s2 w1 w2 bytes
    → Notes (split_places_of csrs map choices request va) (after_place first second) s0 s2 w0 w2 bytes
unfolding split_places_of
split_both csrs map choices request va {first} {second} {s0} {s1} {s2} {w0} {w1} {w2} {bytes} over look more =
    let P : Action (Result Place Exception) → Type 0 = λ a. Notes a (Ok first) s0 s1 w0 w1 bytes in
    let Q : Action (Result Place Exception) → Type 0 = λ a. Notes a second s1 s2 w1 w2 bytes in
    rw (goes_on over)
    (Notes-then (part_place_of csrs map choices request (first_part va request.len))
    (second_place_of csrs map choices request (second_part va request.len))
    (subst P (low_part csrs map choices request va over) look)
    (Notes-mapped (after_place first) (part_place_of csrs map choices request (second_part va request.len))
    (subst Q (high_part csrs map choices request va over) more)))

pub split_load_refused : (csrs : Csrs) (map : Map) (choices : Choices) (request : AccessRequest) (va : ℕ)
    {exception : Exception} {seen seen' : List Read} {wrote wrote' : List Write} {bytes : Bytes}
    → Notes (split_places_of csrs map choices request va) (Err exception) seen seen' wrote wrote' bytes
    → Notes (split_places_of csrs map choices request va >>= load_from va request.len) (Err exception)
    seen seen' wrote wrote' bytes
split_load_refused csrs map choices request va {exception} {seen'} {wrote'} {bytes} look =
    Notes-then (split_places_of csrs map choices request va) (load_from va request.len) look
    (Notes-pure (Err exception) seen' wrote' bytes)

pub split_load_whole : (csrs : Csrs) (map : Map) (choices : Choices) (request : AccessRequest) (va : ℕ)
    {place : Place} {loaded : Result LocatedValue Exception} {s0 s1 s2 : List Read} {w0 w1 : List Write} {bytes : Bytes}
    → Notes (split_places_of csrs map choices request va) (Ok (place, None)) s0 s1 w0 w1 bytes
    → Notes (value_at place request.len place.is_device) loaded s1 s2 w1 w1 bytes
    → Notes (split_places_of csrs map choices request va >>= load_from va request.len) loaded s0 s2 w0 w1 bytes
split_load_whole csrs map choices request va look read =
    Notes-then (split_places_of csrs map choices request va) (load_from va request.len) look read

-- the reads of two parts and the number that they make
pub record AreJoined (first second : Place) (low_len high_len value : ℕ) (s0 s1 : List Read) (bytes : Bytes)
    : Type 0 where
  pub value_is : value
      ≡ joined_value low_len (number_at bytes first.pa low_len) (number_at bytes second.pa high_len)
  pub noted : s1
      ≡ s0 ++ record { pa = first.pa; len = low_len } ∷ [] ++ record { pa = second.pa; len = high_len } ∷ []

joined_parts : (first second : Place) (low_len high_len : ℕ) {value : ℕ} {s0 s1 : List Read} {wrote : List Write}
    {bytes : Bytes} → AreJoined first second low_len high_len value s0 s1 (after_writes wrote bytes)
    → Notes (value_of_parts first second low_len high_len) (Ok (first, Some second, value)) s0 s1 wrote wrote bytes
joined_parts first second low_len high_len {value} {s0} {s1} {wrote} {bytes} joined =
    let low : Read = record { pa = first.pa; len = low_len } in
    let high : Read = record { pa = second.pa; len = high_len } in
    let now : Bytes = after_writes wrote bytes in
    let n = number_at now first.pa low_len in
    let m = number_at now second.pa high_len in
    let gives : ℕ → Result LocatedValue Exception = λ k. Ok (first, Some second, joined_value low_len n k) in
    rw (joined.value_is, joined.noted)
    (Notes-then (read_memory low)
    (λ k. mapped (λ j. Ok (first, Some second, joined_value low_len k j)) (read_memory high))
    (Notes-read_memory low {value = n} refl)
    (Notes-mapped gives (read_memory high) (Notes-read_memory high {value = m} refl)))

pub split_load_joined : (csrs : Csrs) (map : Map) (choices : Choices) (request : AccessRequest) (va : ℕ)
    {first second : Place} {low_len value : ℕ} {s0 s1 s2 : List Read} {w0 w1 : List Write} {bytes : Bytes}
    → Notes (split_places_of csrs map choices request va) (Ok (first, Some second)) s0 s1 w0 w1 bytes
    → low_len ≡ first_len va request.len
    → AreJoined first second low_len (request.len - low_len) value s1 s2 (after_writes w1 bytes)
    → Notes (load_by (split_places_of csrs map choices request va) va request.len)
    (Ok (first, Some second, value)) s0 s2 w0 w1 bytes
split_load_joined csrs map choices request va {first} {second} {value} {s1} {s2} {w1} {bytes} look is joined =
    let P : ℕ → Type 0 =
    λ n. AreJoined first second n (request.len - n) value s1 s2 (after_writes w1 bytes) in
    Notes-then (split_places_of csrs map choices request va) (load_from va request.len) look
    (joined_parts first second (first_len va request.len) (request.len - first_len va request.len)
    (subst P is joined))

-- the places of a load or a store, by the address
no_multiple : (va len : ℕ) → (va % len ≡ 0 → ⊥) → (va % len == 0) ≡ false
no_multiple va len is = grind (arith, nat_tests)

-- what is misaligned traps
abbrev pub is_trapped : Choices → Atomicity → Bool
is_trapped choices atomicity = is_atomic atomicity || not (are_done choices.misaligned)

trap_test : (atomic done test : Bool) → (atomic || not done) ≡ true → (not test && not atomic && done) ≡ false
trap_test true done true trapped = refl
trap_test true done false trapped = refl
trap_test false true test trapped = cc
trap_test false false true trapped = refl
trap_test false false false trapped = refl

data_trapped : (csrs : Csrs) (map : Map) (choices : Choices) (request : AccessRequest) (atomicity : Atomicity)
    (misaligned : Cause) (va : ℕ) → (va % request.len ≡ 0 → ⊥) × (is_trapped choices atomicity ≡ true)
    → data_places_of csrs map choices request atomicity misaligned va ≡ pure (Err (misaligned, va))
unfolding data_places_of
data_trapped csrs map choices request atomicity misaligned va is =
    let none = no_multiple va request.len is.0 in
    rw (none, trap_test (is_atomic atomicity) (are_done choices.misaligned) false is.1) refl

-- the reads, writes and value of a load whose places are known
pub load_at : (csrs : Csrs) (map : Map) (choices : Choices) (mode : Mode) (va len : ℕ) (atomicity : Atomicity)
    {places : Action (Result Places Exception)} {loaded : Result LocatedValue Exception} {seen seen' : List Read}
    {wrote wrote' : List Write} {bytes : Bytes}
    → data_places_of csrs map choices (data_load csrs choices mode len atomicity) atomicity LoadAddressMisaligned va
    ≡ places
    → Notes (load_by places va len) loaded seen seen' wrote wrote' bytes
    → Notes (load_result csrs map choices mode va len atomicity) loaded seen seen' wrote wrote' bytes
unfolding load_result
load_at csrs map choices mode va len atomicity {loaded} {seen} {seen'} {wrote} {wrote'} {bytes} is looks =
    let P : Action (Result Places Exception) → Type 0 =
    λ places. Notes (load_by places va len) loaded seen seen' wrote wrote' bytes in
    subst P (sym is) looks

pub load_trapped : (csrs : Csrs) (map : Map) (choices : Choices) (mode : Mode) (va len : ℕ) (atomicity : Atomicity)
    {seen : List Read} {wrote : List Write} {bytes : Bytes}
    → (va % len ≡ 0 → ⊥) × (is_trapped choices atomicity ≡ true)
    → Notes (load_result csrs map choices mode va len atomicity) (Err (LoadAddressMisaligned, va))
    seen seen wrote wrote bytes
load_trapped csrs map choices mode va len atomicity {seen} {wrote} {bytes} is =
    let exception : Exception = (LoadAddressMisaligned, va) in
    load_at csrs map choices mode va len atomicity
    (data_trapped csrs map choices (data_load csrs choices mode len atomicity) atomicity LoadAddressMisaligned va is)
    (Notes-then (pure (Err exception)) (load_from va len) (Notes-pure (Err exception) seen wrote bytes)
    (Notes-pure (Err exception) seen wrote bytes))

-- so with the places of a store
pub store_at : (csrs : Csrs) (map : Map) (choices : Choices) (mode : Mode) (va len : ℕ) (atomicity : Atomicity)
    {looked : Action (Result Places Exception)} {places : Result Places Exception} {seen seen' : List Read}
    {wrote wrote' : List Write} {bytes : Bytes}
    → data_places_of csrs map choices (data_store csrs choices mode len atomicity) atomicity StoreAddressMisaligned va
    ≡ looked
    → Notes looked places seen seen' wrote wrote' bytes
    → Notes (store_place_of csrs map choices mode va len atomicity) places seen seen' wrote wrote' bytes
unfolding store_place_of
store_at csrs map choices mode va len atomicity {places} {seen} {seen'} {wrote} {wrote'} {bytes} is looks =
    let P : Action (Result Places Exception) → Type 0 =
    λ looked. Notes looked places seen seen' wrote wrote' bytes in
    subst P (sym is) looks

pub store_trapped : (csrs : Csrs) (map : Map) (choices : Choices) (mode : Mode) (va len : ℕ) (atomicity : Atomicity)
    {seen : List Read} {wrote : List Write} {bytes : Bytes}
    → (va % len ≡ 0 → ⊥) × (is_trapped choices atomicity ≡ true)
    → Notes (store_place_of csrs map choices mode va len atomicity) (Err (StoreAddressMisaligned, va))
    seen seen wrote wrote bytes
store_trapped csrs map choices mode va len atomicity {seen} {wrote} {bytes} is =
    store_at csrs map choices mode va len atomicity
    (data_trapped csrs map choices (data_store csrs choices mode len atomicity) atomicity StoreAddressMisaligned va is)
    (Notes-pure (Err (StoreAddressMisaligned, va)) seen wrote bytes)

-- What an access reserves is a block in RAM.
use Rattle.std.proofs.Common.{◌≡◌, ℕ, ◌+◌, ◌*◌, ◌/◌, ◌%◌, ◌≤◌, Bool, true, false, not, ◌&&◌, List, [], ◌∷◌, refl}
use Rattle.std.proofs.Common.{sym, ap, subst, inl, inr, arith, Ok, Err, Result, Some, None, All, if◌then◌else◌}
use Rattle.std.specs.Prelude.{◌==◌, IfOk, IsTrue}
use Rattle.std.specs.List.{list_any}
use Rattle.std.proofs.lemmas.Bool.{cases_eq}
use Rattle.std.proofs.lemmas.Bool.Decides.{nat_tests}
use Rattle.std.proofs.lemmas.List.Elements.{All-from_recursion, All-head, All-tail}
use Rattle.hart_words.specs.declared.access_size.AccessSize.{AccessSize}
use Rattle.hart_words.specs.declared.access_size.AccessSize.TheVariants.{Byte, Halfword, Word, Doubleword}
use Rattle.hart_words.specs.declared.map.Map.{Map}
use Rattle.hart_words.specs.declared.span.Span.{Span}
use Rattle.hart_words.specs.declared.choices.Choices.{Choices}
use Rattle.hart_words.specs.AccessSizes.{bytes_of}
use Rattle.hart_words.specs.Actions.{mapped, pure}
use Rattle.hart_words.specs.BlockSizes.{block_sizes, is_block_size}
use Rattle.hart_words.specs.Memory.{Bytes}
use Rattle.hart_words.specs.Options.{are_done}
use Rattle.hart_words.specs.Spans.{LiesIn, holds_all}
use Rattle.csr_file.specs.declared.csrs.Csrs.{Csrs}
use Rattle.rv_atomic.specs.Blocks.{block_of}
use Rattle.rv_integer.specs.declared.int_result.MemoryRequest.{MemoryRequest}
use Rattle.rv_integer.specs.declared.int_result.MemoryOp.{MemoryOp}
use Rattle.rv_integer.specs.declared.int_result.MemoryOp.TheVariants.{Load, LoadReserved, Store, StoreConditional, Amo}
use Rattle.mem_access.specs.declared.place.AccessRequest.{AccessRequest}
use Rattle.mem_access.specs.declared.place.Place.{Place}
use Rattle.mem_access.specs.Accesses.{Exception, LocatedValue, Part, Places, data_load, first_part, has_second_part}
use Rattle.mem_access.specs.Accesses.{second_part}
use Rattle.mem_access.specs.declared.place.Atomicity.TheVariants.{Reserved}
use Rattle.mem_access.specs.Laws.{ArePlacesFound, IsPermittedPart, parts_in, place_list, places_in}
use Rattle.mem_access.specs.Reads.{PlacedPart, parts_of, request_at, whole_part}
use Rattle.mem_access.proofs.Granted.{load_granted}
use Rattle.mem_access.proofs.Grants.{then_gives}
use Rattle.hart_step.specs.declared.state.Core.{Core}
use Rattle.hart_step.specs.declared.choices.RowChoices.{RowChoices}
use Rattle.hart_step.specs.declared.memory.AccessResult.{AccessResult}
use Rattle.hart_step.specs.Cores.{IsBlockInRam, IsSoundReservation}
use Rattle.hart_step.specs.MemoryAccess.{access_after_location, access_result_by, access_result_of, expected_access, is_stored}
use Rattle.hart_step.specs.MemoryAccess.{access_at_places, device_refuses, fault_of}
use Rattle.hart_step.specs.MemoryAccess.{located_access, located_access_by, memory_access}
use Rattle.hart_step.proofs.PlacedParts.{IsMemoryPart, parts_memory}

not_equal : (n q : ℕ) → (n ≡ q → ⊥) → (n == q) ≡ false
not_equal n q apart = grind (arith, nat_tests)

-- what holds of each size of a block holds of any
any_size : (P : ℕ → Type 0) (sizes : List ℕ) (size : ℕ) → All P sizes → list_any (λ allowed. size == allowed) sizes ≡ true
    → P size
any_size P [] size all is = absurd cc
any_size P (first ∷ sizes) size all is = elim (cases_eq size first) [
  | inl same ↦ subst P (sym same) (All-head P first sizes all)
  | inr apart ↦ any_size P sizes size (All-tail P first sizes all) (rw (not_equal size first apart) at is)
]

-- the block in which a byte of RAM lies is in RAM, since RAM is whole pages
record FitsBlock (ram : Span) (pa size : ℕ) : Type 0 where
  pub aligned : pa / size * size % size ≡ 0
  pub low : ram.base ≤ pa / size * size
  pub high : pa / size * size + size ≤ ram.base + ram.size

fits_all : (ram : Span) (pa : ℕ) → LiesIn pa ram → All (FitsBlock ram pa) block_sizes
fits_all ram pa lies = All-from_recursion (FitsBlock ram pa) block_sizes
    (fits_8, (fits_16, (fits_32, (fits_64, (fits_128, (fits_256, (fits_512, (fits_1024, (fits_2048, (fits_4096, tt))))))))))
  where
    fits_8 : FitsBlock ram pa 8
    fits_8 = record { aligned = grind arith; low = grind (arith, ram.whole_base, lies.0); high = grind (arith, ram.whole_base, ram.whole_size, lies.1) }

    fits_16 : FitsBlock ram pa 16
    fits_16 = record { aligned = grind arith; low = grind (arith, ram.whole_base, lies.0); high = grind (arith, ram.whole_base, ram.whole_size, lies.1) }

    fits_32 : FitsBlock ram pa 32
    fits_32 = record { aligned = grind arith; low = grind (arith, ram.whole_base, lies.0); high = grind (arith, ram.whole_base, ram.whole_size, lies.1) }

    fits_64 : FitsBlock ram pa 64
    fits_64 = record { aligned = grind arith; low = grind (arith, ram.whole_base, lies.0); high = grind (arith, ram.whole_base, ram.whole_size, lies.1) }

    fits_128 : FitsBlock ram pa 128
    fits_128 = record { aligned = grind arith; low = grind (arith, ram.whole_base, lies.0); high = grind (arith, ram.whole_base, ram.whole_size, lies.1) }

    fits_256 : FitsBlock ram pa 256
    fits_256 = record { aligned = grind arith; low = grind (arith, ram.whole_base, lies.0); high = grind (arith, ram.whole_base, ram.whole_size, lies.1) }

    fits_512 : FitsBlock ram pa 512
    fits_512 = record { aligned = grind arith; low = grind (arith, ram.whole_base, lies.0); high = grind (arith, ram.whole_base, ram.whole_size, lies.1) }

    fits_1024 : FitsBlock ram pa 1024
    fits_1024 = record { aligned = grind arith; low = grind (arith, ram.whole_base, lies.0); high = grind (arith, ram.whole_base, ram.whole_size, lies.1) }

    fits_2048 : FitsBlock ram pa 2048
    fits_2048 = record { aligned = grind arith; low = grind (arith, ram.whole_base, lies.0); high = grind (arith, ram.whole_base, ram.whole_size, lies.1) }

    fits_4096 : FitsBlock ram pa 4096
    fits_4096 = record { aligned = grind arith; low = grind (arith, ram.whole_base, lies.0); high = grind (arith, ram.whole_base, ram.whole_size, lies.1) }

pub block_in_ram : (ram : Span) (size pa : ℕ) → IsTrue (is_block_size size) → LiesIn pa ram
    → IsBlockInRam ram size (block_of size pa)
block_in_ram ram size pa is lies =
    let fits : FitsBlock ram pa size = any_size (FitsBlock ram pa) block_sizes size (fits_all ram pa lies) is in
    let low = fits.low in
    let high = fits.high in
    record { size = refl; aligned = fits.aligned; inside = grind (arith, nat_tests, low, high) }

-- ---- the place of an LR

some_bytes : (size : AccessSize) → 1 ≤ bytes_of size
some_bytes Byte = omega arith
some_bytes Halfword = omega arith
some_bytes Word = omega arith
some_bytes Doubleword = omega arith

-- an atomic access has one part, with all its bytes
first_len_is : {part : Part} {more : List Part} (choices : Choices) (request : AccessRequest) (va : ℕ)
    → part ∷ more ≡ parts_of choices request Reserved va → part.len ≡ request.len
unfolding parts_of
first_len_is {part} {more} choices request va is =
    by (va % request.len == 0) (are_done choices.misaligned) (has_second_part va request.len) is
  where
    by : (aligned done second : Bool)
        → part ∷ more
        ≡ (if aligned then whole_part va request.len ∷ [] else if not aligned && not true && done
        then (if second then first_part va request.len ∷ second_part va request.len ∷ [] else whole_part va
        request.len ∷ []) else [])
        → part.len ≡ request.len
    by true done second same = let part_is : part ≡ whole_part va request.len = cc in ap (λ p. p.len) part_is
    by false done second same = absurd (let none : ⊥ = cc in none)

no_device : (csrs : Csrs) (choices : Choices) (mode : _) (va len : ℕ) → (request_at (data_load csrs choices mode len Reserved) va).devices ≡ false
unfolding request_at
no_device csrs choices mode va len = by (va % len == 0)
  where
    by : (aligned : Bool)
        → (if aligned then data_load csrs choices mode len Reserved else record (data_load csrs choices mode len Reserved) { devices = false }).devices
        ≡ false
    by true = refl
    by false = refl

held_place : (map : Map) (pa len : ℕ) → 1 ≤ len → holds_all map.ram pa len ≡ true → LiesIn pa map.ram
held_place map pa len some holds = (grind (arith, nat_tests, holds), grind (arith, nat_tests, holds, some))

-- the place of an LR lies in RAM
place_in_ram : {csrs : Csrs} {map : Map} {choices : Choices} {va len : ℕ} {bytes : Bytes} (mode : _) (places : Places)
    → 1 ≤ len → ArePlacesFound csrs map choices (data_load csrs choices mode len Reserved) Reserved va bytes places
    → LiesIn places.0.pa map.ram
place_in_ram {csrs} {map} {choices} {va} {len} {bytes} mode places some is =
    let request = data_load csrs choices mode len Reserved in
    let memory : All IsMemoryPart is.placed =
    subst (λ found. IfOk found (All IsMemoryPart)) is.found
    (parts_memory csrs map choices (request_at request va) (parts_of choices request Reserved va) bytes
    (no_device csrs choices mode va len)) in
    by is.placed places is.parts is.order is.permitted memory
  where
    by : (placed : List PlacedPart) (places : Places)
        → parts_in placed ≡ parts_of choices (data_load csrs choices mode len Reserved) Reserved va
        → places_in placed ≡ place_list places
        → All (IsPermittedPart csrs map (data_load csrs choices mode len Reserved)) placed → All IsMemoryPart placed
        → LiesIn places.0.pa map.ram
    by [] (first, None) parts order permitted memory = absurd (let none : ⊥ = cc in none)
    by [] (first, Some second) parts order permitted memory = absurd (let none : ⊥ = cc in none)
    by (one ∷ more) (first, second) parts order permitted memory =
        let request = data_load csrs choices mode len Reserved in
        let at : one.place ≡ first = first_is second order in
        let all : one.part.len ≡ len = first_len_is choices request va parts in
        let holds = (All-head (IsPermittedPart csrs map request) one more permitted).inside
        (All-head IsMemoryPart one more memory) in
        subst (λ (place : Place). LiesIn place.pa map.ram) at
        (held_place map one.place.pa one.part.len (subst (λ n. 1 ≤ n) (sym all) some) holds)
      where
        first_is : (second : _) → places_in (one ∷ more) ≡ place_list (first, second) → one.place ≡ first
        first_is None order = cc
        first_is (Some second) order = cc

-- where an LR goes lies in RAM
abbrev IsLocatedInRam : Core → MemoryOp → Result LocatedValue Exception → Type 0
IsLocatedInRam core (Load signed) found = Unit {0}
IsLocatedInRam core LoadReserved found = IfOk found (λ at. LiesIn at.0.pa core.map.ram)
IsLocatedInRam core (Store value) found = Unit {0}
IsLocatedInRam core (StoreConditional value) found = Unit {0}
IsLocatedInRam core (Amo op width b) found = Unit {0}

ok_more : {T E : Type 0} (P Q : T → Type 0) (result : Result T E) → ((x : T) → P x → Q x) → IfOk result P → IfOk result Q
ok_more P Q (Ok x) more holds = more x holds
ok_more P Q (Err e) more holds = tt

located_in_ram : (core : Core) (va len : ℕ) (op : MemoryOp) (bytes : Bytes) → 1 ≤ len
    → IsLocatedInRam core op ((located_access_by core va len op).run bytes).value
located_in_ram core va len (Load signed) bytes some = tt
located_in_ram core va len LoadReserved bytes some =
    ok_more
    (λ (found : LocatedValue). ArePlacesFound core.csrs core.map core.choices (data_load core.csrs core.choices core.mode len Reserved)
    Reserved va bytes (found.0, found.1))
    (λ (found : LocatedValue). LiesIn found.0.pa core.map.ram)
    ((located_access_by core va len LoadReserved).run bytes).value
    (λ found are. place_in_ram core.mode (found.0, found.1) some are)
    (load_granted core.csrs core.map core.choices core.mode va len Reserved bytes).1
located_in_ram core va len (Store value) bytes some = tt
located_in_ram core va len (StoreConditional value) bytes some = tt
located_in_ram core va len (Amo op width b) bytes some = tt

-- ---- what is reserved after an access

abbrev LeavesSound : Core → AccessResult → Type 0
LeavesSound core answer = IsSoundReservation core.map.ram core.choices.block_size answer.reservation

result_sound : (core : Core) (choices : RowChoices) (request : MemoryRequest) (first : Place)
    (second : _) (held : ℕ) (op : MemoryOp)
    → IsSoundReservation core.map.ram core.choices.block_size core.reservation
    → IsLocatedInRam core op (Ok (first, second, held))
    → LeavesSound core (access_result_by core choices request first held op)
result_sound core choices request first second held (Load signed) sound lies = sound
result_sound core choices request first second held LoadReserved sound lies =
    block_in_ram core.map.ram core.choices.block_size first.pa core.choices.block lies
result_sound core choices request first second held (Store value) sound lies = sound
result_sound core choices request first second held (StoreConditional value) sound lies =
    by (is_stored core choices request first)
  where
    stores : AccessResult
    stores = record {
      value = 0;
      access = expected_access request first None (Some value);
      reservation = record { block = None };
    }

    fails : AccessResult
    fails = record { value = 1; access = None; reservation = record { block = None } }

    by : (stored : Bool) → LeavesSound core (if stored then stores else fails)
    by true = tt
    by false = tt
result_sound core choices request first second held (Amo op width b) sound lies = sound

after_location_sound : (core : Core) (choices : RowChoices) (request : MemoryRequest)
    (found : Result LocatedValue Exception) (bytes : Bytes)
    → IsSoundReservation core.map.ram core.choices.block_size core.reservation
    → IsLocatedInRam core request.op found
    → IfOk ((access_after_location core choices request found).run bytes).value (LeavesSound core)
unfolding access_result_of mapped pure
after_location_sound core choices request (Err exception) bytes sound lies = tt
after_location_sound core choices request (Ok found) bytes sound lies = by (device_refuses core choices found.0)
  where
    by : (refuses : Bool)
        → IfOk ((if refuses then pure (Err (fault_of request.op, request.address))
        else access_at_places core choices request found).run bytes).value (LeavesSound core)
    by true = tt
    by false = result_sound core choices request found.0 found.1 found.2 request.op sound lies

-- what is reserved after an access is sound
pub access_reserves : (core : Core) (choices : RowChoices) (request : MemoryRequest) (bytes : Bytes)
    → IsSoundReservation core.map.ram core.choices.block_size core.reservation
    → IfOk ((memory_access core choices request).run bytes).value (λ answer. IsSoundReservation core.map.ram
    core.choices.block_size answer.reservation)
unfolding memory_access located_access
access_reserves core choices request bytes sound =
    then_gives (λ answer. IfOk answer (LeavesSound core)) (located_access core request)
    (access_after_location core choices request) bytes (λ now.
    after_location_sound core choices request _ now sound
    (located_in_ram core request.address (bytes_of request.size) request.op bytes (some_bytes request.size)))

-- the same of an answer that is given
pub answer_sound : (core : Core) (choices : RowChoices) (request : MemoryRequest) (found : LocatedValue)
    (answer : AccessResult) (bytes : Bytes)
    → IsSoundReservation core.map.ram core.choices.block_size core.reservation
    → Ok found ≡ ((located_access core request).run bytes).value
    → answer ≡ access_result_by core choices request found.0 found.2 request.op
    → IsSoundReservation core.map.ram core.choices.block_size answer.reservation
unfolding located_access
answer_sound core choices request found answer bytes sound located is =
    let lies : IsLocatedInRam core request.op (Ok found) =
    subst (IsLocatedInRam core request.op) (sym located)
    (located_in_ram core request.address (bytes_of request.size) request.op bytes (some_bytes request.size)) in
    subst (LeavesSound core) (sym is)
    (result_sound core choices request found.0 found.1 found.2 request.op sound lies)

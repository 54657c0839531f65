-- What accesses to memory give of words and bytes are words, the trap values among them.
use Rattle.std.proofs.Common.{◌≡◌, ℕ, zero, suc, ◌+◌, ◌-◌, ◌*◌, ◌/◌, ◌%◌, ◌^◌, ◌<◌, ◌≤◌, Bool, true, false, Option}
use Rattle.std.proofs.Common.{Some, None, Ok, Err, Result, if◌then◌else◌, subst, arith, lit<}
use Rattle.std.specs.Prelude.{IfOk, unwrap_or}
use Rattle.std.proofs.lemmas.Nat.{mod_below, mul-add-lt, pow-add}
use Rattle.std.proofs.Math.Nat.{min-le_left, pow-suc}
use Rattle.hart_words.specs.declared.access_size.AccessSize.{AccessSize}
use Rattle.hart_words.specs.declared.access_size.AccessSize.TheVariants.{Byte, Halfword, Word, Doubleword}
use Rattle.hart_words.specs.declared.span.TheConstants.{PAGE_SIZE}
use Rattle.hart_words.specs.AccessSizes.{bytes_of}
use Rattle.hart_words.specs.declared.privilege.Cause.TheVariants.{LoadAddressMisaligned}
use Rattle.hart_words.specs.Memory.{Bytes, number_at}
use Rattle.hart_words.specs.Actions.{pure, mapped, read_memory}
use Rattle.rv_integer.specs.declared.int_result.MemoryOp.{MemoryOp}
use Rattle.rv_integer.specs.declared.int_result.MemoryOp.TheVariants as memory
use Rattle.rv_integer.specs.declared.int_result.MemoryRequest.{MemoryRequest}
use Rattle.rvfi_rows.specs.Window.{distance_in_window}
use Rattle.mem_access.specs.declared.place.Place.{Place}
use Rattle.mem_access.specs.declared.place.Atomicity.{Atomicity}
use Rattle.mem_access.specs.declared.place.Atomicity.TheVariants.{Amo, Plain, Reserved}
use Rattle.mem_access.specs.Accesses.{Exception, LocatedValue, Places, data_load, data_places_of, first_len}
use Rattle.mem_access.specs.Accesses.{joined_value, load_from}
use Rattle.mem_access.specs.Accesses.{load_result, store_place_of, value_at, value_of_parts}
use Rattle.mem_access.proofs.Grants.{then_gives}
use Rattle.hart_step.specs.declared.state.Core.{Core}
use Rattle.hart_step.specs.declared.choices.RowChoices.{RowChoices}
use Rattle.hart_step.specs.declared.memory.AccessResult.{AccessResult}
use Rattle.hart_step.specs.Choices.{bytes_at, load_bytes_shown, device_value}
use Rattle.hart_step.specs.MemoryAccess.{access_result_by, loaded_value, is_stored, located_access, value_found}
use Rattle.hart_step.specs.MemoryAccess.{located_access_by, found_with_read, found_without_value}
use Rattle.boundary_guess.proofs.Actions.{AreBytes, then_gives_bytes}
use Rattle.boundary_guess.proofs.Faults.{HoldsOfFaults, Raises, load_raises, number_below, store_raises}
use Rattle.boundary_guess.proofs.ResultWords.{extended_word}

-- ---- exceptions

-- a trap value is a word
abbrev pub RaisesWords : {A : Type 0} → Result A Exception → Type 0
RaisesWords result = Raises (λ exception. exception.1 < 2 ^ 64) result

pub all_words : (va : ℕ) → va < 2 ^ 64 → HoldsOfFaults (λ exception. exception.1 < 2 ^ 64) va
all_words va small =
    record { here = λ cause faults. small; after = λ at cause faults. mod_below at (2 ^ 64) (lit< tt) }

unread_raises : (P : Exception → Type 0) (places : Result Places Exception) → Raises P places
    → Raises P (found_without_value places)
unread_raises P (Err exception) raises = raises
unread_raises P (Ok (first, second)) raises = tt

read_raises : (P : Exception → Type 0) (len : ℕ) (places : Result Places Exception) (bytes : Bytes) → Raises P places
    → Raises P ((found_with_read len places).run bytes).value
unfolding pure mapped read_memory
read_raises P len (Err exception) bytes raises = raises
read_raises P len (Ok (first, second)) bytes raises = by first.is_device
  where
    by : (io : Bool)
        → Raises P ((if io then pure {A = Result LocatedValue Exception} (Ok (first, second, 0))
        else mapped (λ held. Ok (first, second, held)) (read_memory (record { pa = first.pa; len = len }))).run bytes).value
    by true = tt
    by false = tt

located_by_raises : (P : Exception → Type 0) (core : Core) (va len : ℕ) (op : MemoryOp) (bytes : Bytes)
    → HoldsOfFaults P va → Raises P ((located_access_by core va len op).run bytes).value
unfolding mapped
located_by_raises P core va len (memory.Load signed) bytes holds = load_raises P core va len Plain bytes holds
located_by_raises P core va len memory.LoadReserved bytes holds = load_raises P core va len Reserved bytes holds
located_by_raises P core va len (memory.Store value) bytes holds =
    unread_raises P _ (store_raises P core va len Plain bytes holds)
located_by_raises P core va len (memory.StoreConditional value) bytes holds =
    unread_raises P _ (store_raises P core va len Reserved bytes holds)
located_by_raises P core va len (memory.Amo op width b) bytes holds =
    let way = store_place_of core.csrs core.map core.choices core.mode va len Amo in
    then_gives (Raises P) way (found_with_read len) bytes
    (λ now. read_raises P len (way.run bytes).value now (store_raises P core va len Amo bytes holds))

pub located_raises : (P : Exception → Type 0) (core : Core) (request : MemoryRequest) (bytes : Bytes)
    → HoldsOfFaults P request.address → Raises P ((located_access core request).run bytes).value
unfolding located_access
located_raises P core request bytes holds =
    located_by_raises P core request.address (bytes_of request.size) request.op bytes holds

-- ---- what loads give

power : (len : ℕ) → 0 < 256 ^ len
power zero = lit< tt
power (suc len) = rw (pow-suc 256 len) (omega (arith, power len))

-- the value that was found is no more than its bytes
abbrev pub FindsBytes : ℕ → Result LocatedValue Exception → Type 0
FindsBytes len found = IfOk found (λ f. f.2 < 256 ^ len)

value_below : (place : Place) (len : ℕ) (io : Bool) (bytes : Bytes) → AreBytes bytes
    → FindsBytes len ((value_at place len io).run bytes).value
unfolding pure mapped read_memory
value_below place len true bytes are = power len
value_below place len false bytes are = number_below bytes place.pa len are

joined_below : (len low_len low high : ℕ) → low_len ≤ len → low < 256 ^ low_len → high < 256 ^ (len - low_len)
    → joined_value low_len low high < 256 ^ len
joined_below len low_len low high least less more =
    let whole : low_len + (len - low_len) ≡ len = omega (arith, least) in
    let got : high * 256 ^ low_len + low < 256 ^ low_len * 256 ^ (len - low_len) =
    mul-add-lt high (256 ^ low_len) low (256 ^ (len - low_len)) more less in
    let P : ℕ → Type 0 = λ n. joined_value low_len low high < 256 ^ n in
    subst P whole (rw (pow-add 256 low_len (len - low_len)) (omega (arith, got)))

parts_below : (first second : Place) (len low_len : ℕ) (bytes : Bytes) → low_len ≤ len → AreBytes bytes
    → FindsBytes len ((value_of_parts first second low_len (len - low_len)).run bytes).value
unfolding mapped read_memory
parts_below first second len low_len bytes least are =
    let low = number_at bytes first.pa low_len in
    then_gives_bytes (FindsBytes len) (read_memory (record { pa = first.pa; len = low_len }))
    (λ low. mapped (λ high. Ok (first, Some second, joined_value low_len low high))
    (read_memory (record { pa = second.pa; len = len - low_len }))) bytes are
    (λ now kept. joined_below len low_len low (number_at now second.pa (len - low_len)) least
    (number_below bytes first.pa low_len are) (number_below now second.pa (len - low_len) kept))

load_from_below : (va len : ℕ) (places : Result Places Exception) (bytes : Bytes) → AreBytes bytes
    → FindsBytes len ((load_from va len places).run bytes).value
unfolding pure
load_from_below va len (Err exception) bytes are = tt
load_from_below va len (Ok (place, None)) bytes are = value_below place len place.is_device bytes are
load_from_below va len (Ok (first, Some second)) bytes are =
    parts_below first second len (first_len va len) bytes (min-le_left len (PAGE_SIZE - va % PAGE_SIZE)) are

load_below : (core : Core) (va len : ℕ) (atomicity : Atomicity) (bytes : Bytes) → AreBytes bytes
    → FindsBytes len ((load_result core.csrs core.map core.choices core.mode va len atomicity).run bytes).value
unfolding load_result
load_below core va len atomicity bytes are =
    let request = data_load core.csrs core.choices core.mode len atomicity in
    let way = data_places_of core.csrs core.map core.choices request atomicity LoadAddressMisaligned va in
    then_gives_bytes (FindsBytes len) way (load_from va len) bytes are (load_from_below va len (way.run bytes).value)

-- what a load found is no more than its bytes
abbrev pub FitsFound : MemoryOp → ℕ → Result LocatedValue Exception → Type 0
FitsFound (memory.Load signed) len found = FindsBytes len found
FitsFound _ len found = Unit {0}

found_fits_by : (core : Core) (va len : ℕ) (op : MemoryOp) (bytes : Bytes) → AreBytes bytes
    → FitsFound op len ((located_access_by core va len op).run bytes).value
found_fits_by core va len (memory.Load signed) bytes are = load_below core va len Plain bytes are
found_fits_by core va len memory.LoadReserved bytes are = tt
found_fits_by core va len (memory.Store value) bytes are = tt
found_fits_by core va len (memory.StoreConditional value) bytes are = tt
found_fits_by core va len (memory.Amo op width b) bytes are = tt

pub found_fits : (core : Core) (request : MemoryRequest) (bytes : Bytes) → AreBytes bytes
    → FitsFound request.op (bytes_of request.size) ((located_access core request).run bytes).value
unfolding located_access
found_fits core request bytes are = found_fits_by core request.address (bytes_of request.size) request.op bytes are

at_below : (len shown : ℕ) (distance : Option ℕ) (other : ℕ) → other < 256 ^ len
    → unwrap_or (bytes_at len shown distance) other < 256 ^ len
at_below len shown None other few = few
at_below len shown (Some away) other few = mod_below (shown / 256 ^ away) (256 ^ len) (power len)

shown_below : (va len : ℕ) (address read : Option ℕ) (other : ℕ) → other < 256 ^ len
    → unwrap_or (load_bytes_shown va len address read) other < 256 ^ len
shown_below va len None read other few = few
shown_below va len (Some address) None other few = few
shown_below va len (Some address) (Some read) other few =
    at_below len read (distance_in_window va len address) other few

device_below : (choices : RowChoices) (va len : ℕ) → device_value choices va len < 256 ^ len
unfolding device_value
device_below choices va len =
    shown_below va len choices.mem_addr choices.mem_rdata _
    (mod_below (unwrap_or choices.rd_wdata 0) (256 ^ len) (power len))

found_by : (io : Bool) (device held len : ℕ) → device < 256 ^ len → held < 256 ^ len
    → (if io then device else held) < 256 ^ len
found_by true device held len a b = a
found_by false device held len a b = b

size_word : (size : AccessSize) (value : ℕ) → value < 256 ^ bytes_of size → value < 2 ^ 64
size_word Byte value few = omega (arith, few)
size_word Halfword value few = omega (arith, few)
size_word Word value few = omega (arith, few)
size_word Doubleword value few = few

signed_word : (size : AccessSize) (value : ℕ)
    → loaded_value true (record { address = 0; size = size; op = memory.LoadReserved }) value < 2 ^ 64
signed_word Byte value = extended_word 8 value (omega arith) (omega arith)
signed_word Halfword value = extended_word 16 value (omega arith) (omega arith)
signed_word Word value = extended_word 32 value (omega arith) (omega arith)
signed_word Doubleword value = extended_word 64 value (omega arith) (omega arith)

load_word : (signed : Bool) (request : MemoryRequest) (value : ℕ) → value < 256 ^ bytes_of request.size
    → loaded_value signed request value < 2 ^ 64
load_word true request value few = signed_word request.size value
load_word false request value few = size_word request.size value few

conditional_word : (stored : Bool) (one other : AccessResult) → one.value < 2 ^ 64 → other.value < 2 ^ 64
    → (if stored then one else other).value < 2 ^ 64
conditional_word true one other a b = a
conditional_word false one other a b = b

pub answer_word : (core : Core) (choices : RowChoices) (request : MemoryRequest) (place : Place) (second : Option Place)
    (held : ℕ) (op : MemoryOp) → FitsFound op (bytes_of request.size) (Ok (place, second, held))
    → (access_result_by core choices request place held op).value < 2 ^ 64
answer_word core choices request place second held (memory.Load signed) fits =
    load_word signed request _
    (found_by place.is_device (device_value choices request.address (bytes_of request.size)) held (bytes_of request.size)
    (device_below choices request.address (bytes_of request.size)) fits)
answer_word core choices request place second held memory.LoadReserved fits = signed_word request.size held
answer_word core choices request place second held (memory.Store value) fits = lit< tt
answer_word core choices request place second held (memory.StoreConditional value) fits =
    conditional_word (is_stored core choices request place) _ _ (lit< tt) (lit< tt)
answer_word core choices request place second held (memory.Amo op width b) fits =
    signed_word request.size (value_found choices request place held)

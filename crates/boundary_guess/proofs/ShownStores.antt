-- A store's row that agrees shows the bytes that the store writes.
use Rattle.std.proofs.Common.{◌≡◌, ℕ, ◌+◌, ◌-◌, ◌%◌, ◌^◌, ◌<◌, ◌≤◌, Bool, true, false, not, ◌&&◌, nat_le, bit_and, List}
use Rattle.std.proofs.Common.{[], ◌∷◌, Option, Some, None, Ok, if◌then◌else◌, refl, sym, ap, ◌∙◌, subst, arith, lit<, inl, inr}
use Rattle.std.specs.Prelude.{◌||◌, IfSome, unwrap_or, option_map}
use Rattle.std.specs.Option.{is_some, option_and_then}
use Rattle.std.proofs.lemmas.Nat.{mod_below, pow_below}
use Rattle.std.proofs.lemmas.Bool.{and_parts, cases_Bool, false_from_ne_true}
use Rattle.std.proofs.lemmas.Bool.Decides.{nat_tests}
use Rattle.hart_words.specs.declared.access_size.AccessSize.{AccessSize}
use Rattle.hart_words.specs.declared.access_size.AccessSize.TheVariants.{Byte, Halfword, Word, Doubleword}
use Rattle.hart_words.specs.AccessSizes.{bytes_of}
use Rattle.hart_words.specs.declared.map.Map.{Map}
use Rattle.hart_words.specs.declared.span.Span.{Span}
use Rattle.hart_words.specs.declared.accesses.Write.{Write}
use Rattle.hart_words.specs.declared.signal.Signal.{Signal}
use Rattle.hart_words.specs.declared.signal.Signal.TheVariants.{MemAddr, MemWmask, MemWdata, MemPaddr}
use Rattle.hart_words.specs.Memory.{Bytes, after_writes, is_within}
use Rattle.hart_words.specs.Signals.{Shown}
use Rattle.hart_words.specs.Spans.{holds_all, is_in}
use Rattle.rvfi_rows.specs.Window.{above, distance_in_window, moved_up}
use Rattle.rvfi_rows.specs.declared.expected.Retired.{Retired}
use Rattle.rvfi_rows.specs.declared.expected.Effects.{Effects}
use Rattle.rvfi_rows.specs.declared.expected.Accessed.{Accessed}
use Rattle.mem_access.specs.declared.place.Place.{Place}
use Rattle.hart_words.specs.Devices.{apart_by, are_apart_from, is_device, range_holds}
use Rattle.mem_access.specs.Accesses.{Places}
use Rattle.row_compare.specs.declared.expected_signal.ExpectedSignal.{ExpectedSignal}
use Rattle.row_compare.specs.Wanted.{whole, where_known}
use Rattle.row_compare.specs.Memory.{address_at, byte_ones, data_at, moved_back, ones, expected_address}
use Rattle.row_compare.specs.Memory.{expected_physical, expected_write_mask, expected_write, write_mask_at}
use Rattle.row_compare.specs.Signals.{access_in, effects_in, expected_signal}
use Rattle.row_compare.specs.Difference.{difference_between, signal_difference}
use Rattle.hart_step.specs.declared.state.Core.{Core}
use Rattle.hart_step.specs.declared.shown_store.ShownStore.{ShownStore}
use Rattle.hart_step.specs.PlainRows.{bytes_put, lies_in_two_pages, shows_bytes, store_shown, translates_data}
use Rattle.boundary_guess.proofs.Compared.{RowAgrees, ShowsWords, found_is, same_under}
use Rattle.boundary_guess.proofs.PlainRuns.{Stores, StoresAt}
use Rattle.boundary_guess.proofs.StoreBytes.{ShowsStored, put_to_device, put_to_ram}
use Rattle.boundary_guess.proofs.TwoPages.{AreNeighbours, parts_as_one, two_pages, whole_in_ram}

-- ---- what the row shows of the access

difference_at : (retired : Retired) (shown : Shown) (signal : Signal) (found : Option ℕ)
    (want : Option ExpectedSignal) → shown signal ≡ found → expected_signal retired shown signal ≡ want
    → signal_difference retired shown signal ≡ None → difference_between signal found want ≡ None
unfolding signal_difference
difference_at retired shown signal found want is_shown is_wanted none =
    sym (ap (λ f. difference_between signal f want) is_shown)
    ∙ sym (ap (λ w. difference_between signal (shown signal) w) is_wanted) ∙ none

access_is : (retired : Retired) (effects : Effects) (access : Accessed) → retired.effects ≡ Ok effects
    → effects.access ≡ Some access → access_in retired.effects ≡ Some access
access_is retired effects access is made = ap access_in is ∙ made

-- the eight bytes that are shown have those of the access
own_place : (va : ℕ) → va < 2 ^ 64 → above va va ≡ 0
own_place va small = omega (arith, small)

near : (va len named : ℕ) → va < 2 ^ 64 → named < 2 ^ 64 → len ≤ 8
    → difference_between MemAddr (Some named) (address_at va (distance_in_window va len named)) ≡ None
    → nat_le (above va named + len) 8 ≡ true
near va len named small word at_most none = by (nat_le (above va named + len) 8) refl none
  where
    by : (near : Bool) → nat_le (above va named + len) 8 ≡ near
        → difference_between MemAddr (Some named) (address_at va (if near then Some (above va named) else None)) ≡ None
        → near ≡ true
    by true is agrees = refl
    by false is agrees =
        let same : Some named ≡ Some va = found_is MemAddr (Some named) va refl word small agrees in
        let here : named ≡ va = cc in
        let zero_away : above va named ≡ 0 = ap (above va) here ∙ own_place va small in
        let close : nat_le (above va named + len) 8 ≡ true = grind (arith, nat_tests, zero_away, at_most) in
        absurd cc

-- a value is shown of each of three signals, and the physical address too where addresses are translated; then all
-- bytes are in one page
pub record ShowsAccess (core : Core) (shown : Shown) : Type 0 where
  pub address : ℕ
  pub mask : ℕ
  pub bytes : ℕ
  pub address_is : shown MemAddr ≡ Some address
  pub mask_is : shown MemWmask ≡ Some mask
  pub bytes_are : shown MemWdata ≡ Some bytes
  pub place_known : (is_some (shown MemPaddr) || not (translates_data core)) ≡ true
  pub one_page : translates_data core ≡ true → lies_in_two_pages address mask ≡ false

word_of : (shown : Shown) (signal : Signal) (value : ℕ) → ShowsWords shown → shown signal ≡ Some value → value < 2 ^ 64
word_of shown signal value words is =
    let P : Option ℕ → Type 0 = λ found. IfSome found (λ v. v < 2 ^ 64) in
    subst P is (words signal)

ones_below : (away len : ℕ) → away + len ≤ 8 → ones away len < 2 ^ 64
ones_below away len within =
    let less : 2 ^ (away + len) < 2 ^ 64 = pow_below (away + len) 64 (omega (arith, within)) in
    omega (arith, less)

-- ---- where the store goes

or_right : (one other : Bool) → (one || other) ≡ true → one ≡ false → other ≡ true
or_right true other either off = cc
or_right false other either off = either

range_fits : (range : Option Span) (pa len : ℕ) → range_holds range pa len ≡ true → pa + len ≤ 2 ^ 64
range_fits None pa len held = absurd cc
range_fits (Some range) pa len held = let end = range.below in grind (arith, nat_tests, held)

device_fits : (io : List (Option Span)) (pa len : ℕ) → is_device io pa len ≡ true → pa + len ≤ 2 ^ 64
device_fits [] pa len held = absurd cc
device_fits (range ∷ ranges) pa len held = elim (cases_Bool (range_holds range pa len)) [
  | inl here ↦ range_fits range pa len here
  | inr elsewhere ↦ device_fits ranges pa len (or_right (range_holds range pa len) (is_device ranges pa len) held elsewhere)
]

-- bytes of a range that is apart from RAM are none of RAM
range_apart : (ram : Span) (range : Option Span) (pa len x : ℕ) → apart_by ram range ≡ true
    → range_holds range pa len ≡ true → is_in ram x ≡ true → is_within pa len x ≡ false
range_apart ram None pa len x apart held inside = absurd cc
range_apart ram (Some range) pa len x apart held inside =
    false_from_ne_true (is_within pa len x) (λ within. grind (arith, nat_tests, apart, held, inside, within))

devices_apart : (ram : Span) (io : List (Option Span)) (pa len x : ℕ) → are_apart_from ram io ≡ true
    → is_device io pa len ≡ true → is_in ram x ≡ true → is_within pa len x ≡ false
devices_apart ram [] pa len x apart held inside = absurd cc
devices_apart ram (range ∷ ranges) pa len x apart held inside =
    let parts = and_parts (apart_by ram range) (are_apart_from ram ranges) apart in
    elim (cases_Bool (range_holds range pa len)) [
      | inl here ↦ range_apart ram range pa len x parts.0 here inside
      | inr elsewhere ↦
          devices_apart ram ranges pa len x parts.1
          (or_right (range_holds range pa len) (is_device ranges pa len) held elsewhere) inside
    ]

device_apart : (map : Map) (pa len x : ℕ) → is_device map.io pa len ≡ true → is_in map.ram x ≡ true
    → is_within pa len x ≡ false
device_apart map pa len x held inside = devices_apart map.ram map.io pa len x map.apart held inside

place_fits : (map : Map) (len : ℕ) (place : Place) (io : Bool) → place.is_device ≡ io
    → (if io then is_device map.io place.pa len else holds_all map.ram place.pa len) ≡ true → place.pa + len ≤ 2 ^ 64
place_fits map len place false is stands = let end = map.ram.below in grind (arith, nat_tests, stands)
place_fits map len place true is stands = device_fits map.io place.pa len stands

few_bytes : (size : AccessSize) → bytes_of size ≤ 8
few_bytes Byte = omega arith
few_bytes Halfword = omega arith
few_bytes Word = omega arith
few_bytes Doubleword = omega arith

-- the address that is shown, and the distance, give the place
back_place : (place pa away : ℕ) → pa < 2 ^ 64 → away < 2 ^ 64 → place ≡ moved_back pa away
    → pa ≡ (place + away) % 2 ^ 64
back_place place pa away small near is = omega (arith, small, near, is)

own_distance : (va named : ℕ) → va < 2 ^ 64 → named < 2 ^ 64 → va ≡ (named + above va named) % 2 ^ 64
own_distance va named small word = omega (arith, small, word)

-- ---- what is wanted of the signals of a store

abbrev store_at : ℕ → ℕ → ℕ → ℕ → Accessed
store_at va pa len value = record { va = va; pa = pa; len = len; read = None; written = Some value }

abbrev from_access : (Accessed → Option ℕ → Option ExpectedSignal) → Option Accessed → Option ℕ → Option ExpectedSignal
from_access of_access access named = option_and_then (λ access. of_access access named) access

address_wanted : (retired : Retired) (shown : Shown) (access : Accessed) (named : ℕ)
    → access_in retired.effects ≡ Some access → shown MemAddr ≡ Some named
    → expected_signal retired shown MemAddr ≡ expected_address access (Some named)
unfolding expected_signal
address_wanted retired shown access named is shows =
    ap (λ a. from_access expected_address a (shown MemAddr)) is ∙ ap (expected_address access) shows

written_wanted : (retired : Retired) (shown : Shown) (access : Accessed) (named : ℕ)
    → access_in retired.effects ≡ Some access → shown MemAddr ≡ Some named
    → expected_signal retired shown MemWdata ≡ expected_write access (Some named)
unfolding expected_signal
written_wanted retired shown access named is shows =
    ap (λ a. from_access expected_write a (shown MemAddr)) is ∙ ap (expected_write access) shows

physical_wanted : (retired : Retired) (shown : Shown) (access : Accessed) (named : ℕ)
    → access_in retired.effects ≡ Some access → shown MemAddr ≡ Some named
    → expected_signal retired shown MemPaddr ≡ expected_physical access (Some named)
unfolding expected_signal
physical_wanted retired shown access named is shows =
    ap (λ a. from_access expected_physical a (shown MemAddr)) is ∙ ap (expected_physical access) shows

mask_wanted : (retired : Retired) (shown : Shown) (effects : Effects) (access : Accessed) (named : ℕ)
    → retired.effects ≡ Ok effects → effects.access ≡ Some access → shown MemAddr ≡ Some named
    → expected_signal retired shown MemWmask ≡ expected_write_mask (Some access) (Some named)
unfolding expected_signal
mask_wanted retired shown effects access named is made shows =
    ap (λ e. option_and_then (λ effects. expected_write_mask effects.access (shown MemAddr)) (effects_in e)) is
    ∙ ap (λ a. expected_write_mask a (shown MemAddr)) made
    ∙ ap (expected_write_mask (Some access)) shows

some_is : (a b : ℕ) → Some a ≡ Some b → a ≡ b
some_is a b is = cc

-- a store that retired, of so many bytes
record IsStored (retired : Retired) (va pa len value : ℕ) : Type 0 where
  pub effects : Effects
  pub effects_are : retired.effects ≡ Ok effects
  pub made : effects.access ≡ Some (store_at va pa len value)
  pub va_fits : va < 2 ^ 64
  pub at_most_8 : len ≤ 8

-- where its bytes go
record GoesTo (core : Core) (va pa len : ℕ) : Type 0 where
  pub pa_fits : pa < 2 ^ 64
  pub end_fits : pa + len ≤ 2 ^ 64
  pub physical : translates_data core ≡ false → pa ≡ va

-- its bytes are among the eight that are shown, and are those that the mask has
record ShowsMask (va len named mask : ℕ) : Type 0 where
  pub within : above va named + len ≤ 8
  pub distance : distance_in_window va len named ≡ Some (above va named)
  pub mask_is : mask ≡ ones (above va named) len

shows_mask : {core : Core} {shown : Shown} {retired : Retired} {va pa len value : ℕ} (shows : ShowsAccess core shown)
    → IsStored retired va pa len value → RowAgrees retired shown → ShowsMask va len shows.address shows.mask
shows_mask {shown} {retired} {va} {pa} {len} {value} shows stored agrees =
    let access = store_at va pa len value in
    let named = shows.address in
    let away = above va named in
    let words = agrees.words in
    let made_in = access_is retired stored.effects access stored.effects_are stored.made in
    let close : nat_le (away + len) 8 ≡ true =
    near va len named stored.va_fits (word_of shown MemAddr named words shows.address_is) stored.at_most_8
    (difference_at retired shown MemAddr (Some named) (expected_address access (Some named)) shows.address_is
    (address_wanted retired shown access named made_in shows.address_is) (agrees.none_differs MemAddr)) in
    let distance : distance_in_window va len named ≡ Some away =
    ap (λ (t : Bool). if t then Some away else None) close in
    let within : away + len ≤ 8 = grind (arith, nat_tests, close) in
    let mask_want : expected_signal retired shown MemWmask ≡ whole (ones away len) =
    mask_wanted retired shown stored.effects access named stored.effects_are stored.made shows.address_is
    ∙ ap (λ d. write_mask_at len d (Some value)) distance in
    let mask_found : Some shows.mask ≡ Some (ones away len) =
    found_is MemWmask (Some shows.mask) (ones away len) refl (word_of shown MemWmask shows.mask words shows.mask_is)
    (ones_below away len within)
    (difference_at retired shown MemWmask (Some shows.mask) (whole (ones away len)) shows.mask_is mask_want
    (agrees.none_differs MemWmask)) in
    record { within = within; distance = distance; mask_is = some_is shows.mask (ones away len) mask_found }

place_by : {core : Core} {shown : Shown} {retired : Retired} {va pa len value : ℕ} (paddr : Option ℕ)
    (shows : ShowsAccess core shown) → IsStored retired va pa len value × GoesTo core va pa len
    → RowAgrees retired shown → distance_in_window va len shows.address ≡ Some (above va shows.address)
    → shown MemPaddr ≡ paddr
    → (is_some paddr || not (translates_data core)) ≡ true
    → pa ≡ (unwrap_or paddr shows.address + above va shows.address) % 2 ^ 64
place_by {core} {shown} {va} None shows stored agrees near is known =
    stored.1.physical (negated (translates_data core) known)
    ∙ own_distance va shows.address stored.0.va_fits (word_of shown MemAddr shows.address agrees.words shows.address_is)
  where
    negated : (b : Bool) → not b ≡ true → b ≡ false
    negated true h = cc
    negated false h = refl
place_by {shown} {retired} {va} {pa} {len} {value} (Some place) shows stored agrees near is known =
    let named = shows.address in
    let access = store_at va pa len value in
    let made_in = access_is retired stored.0.effects access stored.0.effects_are stored.0.made in
    let back = moved_back pa (above va named) in
    let want : expected_signal retired shown MemPaddr ≡ whole back =
    physical_wanted retired shown access named made_in shows.address_is
    ∙ ap (λ d. where_known (option_map (moved_back pa) d)) near in
    let differs =
    difference_at retired shown MemPaddr (Some place) (whole back) is want (agrees.none_differs MemPaddr) in
    let shown_at : Some place ≡ Some back =
    found_is MemPaddr (Some place) back refl (word_of shown MemPaddr place agrees.words is)
    (mod_below (pa + (2 ^ 64 - above va named)) (2 ^ 64) (lit< tt)) differs in
    let away_fits : above va named < 2 ^ 64 = mod_below (va + (2 ^ 64 - named)) (2 ^ 64) (lit< tt) in
    back_place place pa (above va named) stored.1.pa_fits away_fits (some_is place _ shown_at)

-- the shown store is that of the instruction
shows_stored : {core : Core} {shown : Shown} {retired : Retired} {va pa len value : ℕ}
    (shows : ShowsAccess core shown) → IsStored retired va pa len value → GoesTo core va pa len
    → RowAgrees retired shown → ShowsStored (store_shown shown) pa len value (above va shows.address)
unfolding store_shown
shows_stored {shown} {retired} {va} {pa} {len} {value} shows stored goes agrees =
    let access = store_at va pa len value in
    let named = shows.address in
    let away = above va named in
    let words = agrees.words in
    let made_in = access_is retired stored.effects access stored.effects_are stored.made in
    let window = shows_mask shows stored agrees in
    let want : ExpectedSignal = record { value = moved_up value away; mask = byte_ones away len } in
    let bytes_want : expected_signal retired shown MemWdata ≡ Some want =
    written_wanted retired shown access named made_in shows.address_is
    ∙ ap (λ d. data_at len d (Some value)) window.distance in
    let bytes_same =
    same_under MemWdata shows.bytes want
    (difference_at retired shown MemWdata (Some shows.bytes) (Some want) shows.bytes_are bytes_want
    (agrees.none_differs MemWdata)) in
    let place_is : unwrap_or (shown MemPaddr) (unwrap_or (shown MemAddr) 0) ≡ unwrap_or (shown MemPaddr) named =
    ap (λ a. unwrap_or (shown MemPaddr) (unwrap_or a 0)) shows.address_is in
    record {
      place = place_word (shown MemPaddr) (shown MemAddr) (words MemPaddr) (words MemAddr);
      within = window.within;
      begins = place_by (shown MemPaddr) shows (stored, goes) agrees window.distance refl shows.place_known
          ∙ ap (λ p. (p + away) % 2 ^ 64) (sym place_is);
      fits = goes.end_fits;
      mask = ap (λ m. unwrap_or m 0) shows.mask_is ∙ window.mask_is;
      bytes = bytes_same ∙ ap (λ d. bit_and (unwrap_or d 0) (byte_ones away len)) (sym shows.bytes_are);
    }
  where
    place_word : (paddr address : Option ℕ) → IfSome paddr (λ v. v < 2 ^ 64) → IfSome address (λ v. v < 2 ^ 64)
        → unwrap_or paddr (unwrap_or address 0) < 2 ^ 64
    place_word None None p a = lit< tt
    place_word None (Some address) p a = a
    place_word (Some place) address p a = p

-- ---- and its bytes are those that are written

-- what the test of the bytes that are shown tells
known_by : (place translates lies : Bool) → (not translates || (place && not lies)) ≡ true
    → (place || not translates) ≡ true
known_by true translates lies holds = refl
known_by false false lies holds = refl
known_by false true lies holds = absurd cc

one_by : (place translates lies : Bool) → (not translates || (place && not lies)) ≡ true → translates ≡ true
    → lies ≡ false
one_by place translates false holds on = refl
one_by true true true holds on = absurd cc
one_by false true true holds on = absurd cc
one_by place false true holds on = absurd cc

access_of : (shown : Shown) (core : Core) → shows_bytes core shown ≡ true → ShowsAccess core shown
unfolding shows_bytes
access_of shown core shows = by (shown MemAddr) (shown MemWmask) (shown MemWdata) refl refl refl shows
  where
    by : (address mask bytes : Option ℕ) → shown MemAddr ≡ address → shown MemWmask ≡ mask → shown MemWdata ≡ bytes
        → (is_some address && is_some mask && is_some bytes
        && (not (translates_data core)
        || (is_some (shown MemPaddr) && not (lies_in_two_pages (unwrap_or address 0) (unwrap_or mask 0))))) ≡ true
        → ShowsAccess core shown
    by (Some address) (Some mask) (Some bytes) a m b holds = record {
      address = address;
      mask = mask;
      bytes = bytes;
      address_is = a;
      mask_is = m;
      bytes_are = b;
      place_known =
          known_by (is_some (shown MemPaddr)) (translates_data core) (lies_in_two_pages address mask) holds;
      one_page = one_by (is_some (shown MemPaddr)) (translates_data core) (lies_in_two_pages address mask) holds;
    }
    by (Some address) (Some mask) None a m b holds = absurd cc
    by (Some address) None bytes a m b holds = absurd cc
    by None mask bytes a m b holds = absurd cc

written_by : {store : ShownStore} {len value away : ℕ} (map : Map) (place : Place) (io : Bool) (bytes : Bytes) (x : ℕ)
    → ShowsStored store place.pa len value away
    → (if io then is_device map.io place.pa len else holds_all map.ram place.pa len) ≡ true
    → bytes_put map.ram store 8 bytes x
    ≡ after_writes (if io then [] else record { pa = place.pa; len = len; value = value } ∷ []) bytes x
unfolding after_writes
written_by {len} map place true bytes x shows stands =
    put_to_device map.ram bytes x shows (device_apart map place.pa len x stands)
written_by map place false bytes x shows stands = put_to_ram map.ram bytes x shows stands

low_place : (pa : ℕ) (size : AccessSize) → pa + bytes_of size ≤ 2 ^ 64 → pa < 2 ^ 64
low_place pa Byte fits = omega (arith, fits)
low_place pa Halfword fits = omega (arith, fits)
low_place pa Word fits = omega (arith, fits)
low_place pa Doubleword fits = omega (arith, fits)

-- a store that the row shows
record IsShownStore (core : Core) (shown : Shown) (retired : Retired) (effects : Effects) : Type 0 where
  pub effects_are : retired.effects ≡ Ok effects
  pub shows : ShowsAccess core shown
  pub agrees : RowAgrees retired shown

-- to one place
alone_is_true : {core : Core} {shown : Shown} {retired : Retired} {effects : Effects} {wrote : List Write}
    (place : Place) (bytes : Bytes) → StoresAt core (place, None) effects.access wrote
    → IsShownStore core shown retired effects
    → (x : ℕ) → bytes_put core.map.ram (store_shown shown) 8 bytes x ≡ after_writes wrote bytes x
alone_is_true {core} {shown} {retired} {effects} place bytes stores is x =
    let len = bytes_of stores.request.size in
    let fits = place_fits core.map len place place.is_device refl stores.stands.stands in
    let stored : IsStored retired stores.request.address place.pa len stores.value = record {
      effects = effects;
      effects_are = is.effects_are;
      made = stores.made;
      va_fits = stores.address;
      at_most_8 = few_bytes stores.request.size;
    } in
    let goes : GoesTo core stores.request.address place.pa len = record {
      pa_fits = low_place place.pa stores.request.size fits;
      end_fits = fits;
      physical = stores.stands.physical;
    } in
    written_by core.map place place.is_device bytes x (shows_stored is.shows stored goes is.agrees) stores.stands.stands
    ∙ ap (λ w. after_writes w bytes x) (sym stores.wrote_is)

-- to two: without translation as to one, and with it no row shows it so
two_are_true : {core : Core} {shown : Shown} {retired : Retired} {effects : Effects} {wrote : List Write}
    (first second : Place) (bytes : Bytes) → StoresAt core (first, Some second) effects.access wrote
    → IsShownStore core shown retired effects
    → (x : ℕ) → bytes_put core.map.ram (store_shown shown) 8 bytes x ≡ after_writes wrote bytes x
unfolding after_writes
two_are_true {core} {shown} {retired} {effects} {wrote} first second bytes stores is x =
    by (translates_data core) refl
  where
    stored : IsStored retired stores.request.address first.pa (bytes_of stores.request.size) stores.value
    stored = record {
      effects = effects;
      effects_are = is.effects_are;
      made = stores.made;
      va_fits = stores.address;
      at_most_8 = few_bytes stores.request.size;
    }

    by : (translates : Bool) → translates_data core ≡ translates
        → bytes_put core.map.ram (store_shown shown) 8 bytes x ≡ after_writes wrote bytes x
    by true on =
        let va = stores.request.address in
        let len = bytes_of stores.request.size in
        let window = shows_mask is.shows stored is.agrees in
        let word = word_of shown MemAddr is.shows.address is.agrees.words is.shows.address_is in
        let apart : lies_in_two_pages is.shows.address is.shows.mask ≡ true =
        ap (lies_in_two_pages is.shows.address) window.mask_is
        ∙ two_pages va len is.shows.address stores.address word window.within stores.stands.two in
        let both : true ≡ false = sym apart ∙ is.shows.one_page on in
        absurd cc
    by false off =
        let va = stores.request.address in
        let len = bytes_of stores.request.size in
        let near : AreNeighbours core.map.ram va len first.pa second.pa = record {
          here = stores.stands.first_at off;
          next = stores.stands.second_at off;
          low = stores.stands.low;
          high = stores.stands.high;
        } in
        let held = whole_in_ram near in
        let place : Place = record { pa = va; is_device = false } in
        let fits = place_fits core.map len place false refl held in
        let goes : GoesTo core va va len =
        record { pa_fits = stores.address; end_fits = fits; physical = λ none. refl } in
        let here : IsStored retired va va len stores.value =
        subst (λ pa. IsStored retired va pa len stores.value) near.here stored in
        put_to_ram core.map.ram bytes x (shows_stored is.shows here goes is.agrees) held
        ∙ sym (parts_as_one stores.value bytes x near)
        ∙ ap (λ w. after_writes w bytes x) (sym stores.wrote_is)

pub store_is_true : {core : Core} {shown : Shown} {retired : Retired} {effects : Effects} {wrote : List Write}
    (bytes : Bytes) → Stores core effects.access wrote → retired.effects ≡ Ok effects → shows_bytes core shown ≡ true
    → RowAgrees retired shown
    → (x : ℕ) → bytes_put core.map.ram (store_shown shown) 8 bytes x ≡ after_writes wrote bytes x
store_is_true {core} {shown} {retired} {effects} {wrote} bytes stores is shows agrees x =
    by stores.places stores.at
  where
    known : IsShownStore core shown retired effects
    known = record { effects_are = is; shows = access_of shown core shows; agrees = agrees }

    by : (places : Places) → StoresAt core places effects.access wrote
        → bytes_put core.map.ram (store_shown shown) 8 bytes x ≡ after_writes wrote bytes x
    by (place, None) at = alone_is_true place bytes at known x
    by (first, Some second) at = two_are_true first second bytes at known x

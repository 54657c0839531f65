-- The bytes that a store's row shows are those that the store writes.
use Rattle.std.proofs.Common.{◌≡◌, ◌⊎◌, inl, inr, ℕ, zero, suc, ◌+◌, ◌-◌, ◌*◌, ◌/◌, ◌%◌, ◌^◌, ◌<◌, ◌≤◌, ◌==◌, Bool}
use Rattle.std.proofs.Common.{true, false, not, ◌&&◌, nat_le, nat_lt, bit_and, Some, None, if◌then◌else◌, refl, sym, ap}
use Rattle.std.proofs.Common.{◌∙◌, arith, lit<, subst}
use Rattle.std.specs.Prelude.{◌||◌}
use Rattle.std.proofs.Math.Nat.{div-div-eq-div-mul, mul-div_cancel_left, pow-suc}
use Rattle.std.proofs.lemmas.Nat.{and_mask, and_mod, and_shr, pow-add}
use Rattle.std.proofs.lemmas.Nat.Bits.{bit_at_mask_above, bit_at_mask_below, bit_at_mask_inside}
use Rattle.std.proofs.lemmas.Bool.{false_from_ne_true}
use Rattle.std.proofs.lemmas.Bool.Decides.{nat_tests}
use Rattle.hart_words.specs.declared.span.Span.{Span}
use Rattle.hart_words.specs.Memory.{Bytes, is_within, bytes_after_store}
use Rattle.hart_words.specs.Spans.{holds_all, is_in}
use Rattle.hart_words.proofs.Powers.{bits_of_bytes}
use Rattle.csr_file.specs.Fields.{bit_is_set}
use Rattle.rvfi_rows.specs.Window.{above, distance_in_window, moved_up}
use Rattle.row_compare.specs.Memory.{byte_ones, ones}
use Rattle.hart_step.specs.declared.shown_store.ShownStore.{ShownStore}
use Rattle.hart_step.specs.PlainRows.{byte_after, bytes_put}
use Rattle.hart_step.proofs.ShownBytes.{put_all}

-- ---- the bytes that a mask has

-- one byte
byte_under : (x mask bit : ℕ) → mask / 2 ^ bit % 256 ≡ 255 → bit_and x mask / 2 ^ bit % 256 ≡ x / 2 ^ bit % 256
byte_under x mask bit all =
    let moved : bit_and x mask / 2 ^ bit % 256 ≡ bit_and (x / 2 ^ bit) (mask / 2 ^ bit) % 256 =
    ap (λ v. v % 256) (and_shr x mask bit) in
    let cut : bit_and (x / 2 ^ bit) (mask / 2 ^ bit) % 256 ≡ bit_and (x / 2 ^ bit % 256) (mask / 2 ^ bit % 256) =
    and_mod (x / 2 ^ bit) (mask / 2 ^ bit) 8 in
    let kept : bit_and (x / 2 ^ bit % 256) 255 ≡ x / 2 ^ bit % 256 % 256 = and_mask (x / 2 ^ bit % 256) 8 in
    let twice : x / 2 ^ bit % 256 % 256 ≡ x / 2 ^ bit % 256 = omega arith in
    moved ∙ cut ∙ ap (bit_and (x / 2 ^ bit % 256)) all ∙ kept ∙ twice

mask_byte : (x mask k : ℕ) → mask / 256 ^ k % 256 ≡ 255 → bit_and x mask / 256 ^ k % 256 ≡ x / 256 ^ k % 256
mask_byte x mask k all =
    let Kept : ℕ → Type 0 = λ power. mask / power % 256 ≡ 255 → bit_and x mask / power % 256 ≡ x / power % 256 in
    subst Kept (sym (bits_of_bytes k)) (byte_under x mask (8 * k)) all

-- all bytes from one to another, by trying all
unfoldable pub all_below : ℕ → (ℕ → Bool) → Bool
all_below zero p = true
all_below (suc n) p = p n && all_below n p

both : (a b : Bool) → (a && b) ≡ true → (a ≡ true) × (b ≡ true)
both true b h = (refl, h)
both false b h = cc

tried_by : (n : ℕ) (p : ℕ → Bool) (i : ℕ) → p n ≡ true → (i < n → p i ≡ true) → i < suc n → (i ≡ n) ⊎ (i < n)
    → p i ≡ true
tried_by n p i last rest few (inl same) = ap p same ∙ last
tried_by n p i last rest few (inr less) = rest less

last_or_less : (i n : ℕ) → i < suc n → (i ≡ n) ⊎ (i < n)
last_or_less i zero few = inl (omega (arith, few))
last_or_less zero (suc n) few = inr (omega arith)
last_or_less (suc i) (suc n) few = elim (last_or_less i n (omega (arith, few))) [
  | inl same ↦ inl (ap suc same)
  | inr less ↦ inr (omega (arith, less))
]

pub tried : (n : ℕ) (p : ℕ → Bool) → all_below n p ≡ true → (i : ℕ) → i < n → p i ≡ true
unfolding all_below
tried zero p all i few = absurd (omega (arith, few))
tried (suc n) p all i few =
    let parts = both (p n) (all_below n p) all in
    tried_by n p i parts.0 (tried n p parts.1 i) few (last_or_less i n few)

has_whole : ℕ → ℕ → ℕ → Bool
has_whole k low high = not (nat_le low k && nat_lt k high) || ((256 ^ high - 256 ^ low) / 256 ^ k % 256 == 255)

all_whole : all_below 8 (λ k. all_below 9 (λ low. all_below 9 (λ high. has_whole k low high))) ≡ true
unfolding all_below has_whole
all_whole = refl

whole_at : (k low high : ℕ) → k < 8 → low < 9 → high < 9 → has_whole k low high ≡ true
whole_at k low high a b c =
    tried 9 (has_whole k low)
    (tried 9 (λ low. all_below 9 (λ high. has_whole k low high))
    (tried 8 (λ k. all_below 9 (λ low. all_below 9 (λ high. has_whole k low high))) all_whole k a) low b) high c

whole_byte : (k low high : ℕ) → high < 9 → low ≤ k → k < high → (256 ^ high - 256 ^ low) / 256 ^ k % 256 ≡ 255
unfolding has_whole
whole_byte k low high most from to =
    let is = whole_at k low high (omega (arith, most, to)) (omega (arith, most, from, to)) most in
    let low_is : nat_le low k ≡ true = grind (arith, nat_tests, from) in
    let high_is : nat_lt k high ≡ true = grind (arith, nat_tests, to) in
    second (nat_le low k) (nat_lt k high) ((256 ^ high - 256 ^ low) / 256 ^ k % 256 == 255) low_is high_is is refl
  where
    second : (a b : Bool) (c : Bool) → a ≡ true → b ≡ true → (not (a && b) || c) ≡ true
        → ((256 ^ high - 256 ^ low) / 256 ^ k % 256 == 255) ≡ c → (256 ^ high - 256 ^ low) / 256 ^ k % 256 ≡ 255
    second true true true one two is same = grind (arith, nat_tests, same)
    second true true false one two is same = absurd cc
    second true false c one two is same = absurd cc
    second false b c one two is same = absurd cc

-- a word has the low bytes of a number
word_byte : (y k : ℕ) → k < 8 → y % 2 ^ 64 / 256 ^ k % 256 ≡ y / 256 ^ k % 256
word_byte y k low =
    let all : (2 ^ 64 - 1) / 256 ^ k % 256 ≡ 255 = whole_byte k 0 8 (lit< tt) (omega arith) low in
    let same : bit_and y (2 ^ 64 - 1) ≡ y % 2 ^ 64 = and_mask y 64 in
    ap (λ v. v / 256 ^ k % 256) (sym same) ∙ mask_byte y (2 ^ 64 - 1) k all

-- ---- a row that shows a store of a value: `away` is how far its bytes begin above the place that is shown

pub record ShowsStored (store : ShownStore) (pa len value away : ℕ) : Type 0 where
  pub place : store.place < 2 ^ 64
  pub within : away + len ≤ 8
  pub begins : pa ≡ (store.place + away) % 2 ^ 64
  pub fits : pa + len ≤ 2 ^ 64
  pub mask : store.mask ≡ ones away len
  pub bytes : bit_and (moved_up value away) (byte_ones away len) ≡ bit_and store.value (byte_ones away len)

-- ---- a byte of the data that are shown

positive : (k : ℕ) → 0 < 256 ^ k
positive zero = lit< tt
positive (suc k) = rw (pow-suc 256 k) (omega (arith, positive k))

moved_byte : (value away k : ℕ) → away ≤ k → value * 256 ^ away / 256 ^ k ≡ value / 256 ^ (k - away)
moved_byte value away k from =
    let split : k ≡ away + (k - away) = omega (arith, from) in
    let power : 256 ^ k ≡ 256 ^ away * 256 ^ (k - away) = ap (λ e. 256 ^ e) split ∙ pow-add 256 away (k - away) in
    let turned : value * 256 ^ away ≡ 256 ^ away * value = omega arith in
    ap (λ d. value * 256 ^ away / d) power
    ∙ sym (div-div-eq-div-mul (value * 256 ^ away) (256 ^ away) (256 ^ (k - away)))
    ∙ ap (λ v. v / 256 ^ away / 256 ^ (k - away)) turned
    ∙ ap (λ v. v / 256 ^ (k - away)) (mul-div_cancel_left value (positive away))

shown_byte : {store : ShownStore} {pa len value away : ℕ} (k : ℕ) → ShowsStored store pa len value away → away ≤ k
    → k < away + len → store.value / 256 ^ k % 256 ≡ value / 256 ^ (k - away) % 256
shown_byte {store} {len} {value} {away} k shows from to =
    let within : away + len ≤ 8 = shows.within in
    let all : byte_ones away len / 256 ^ k % 256 ≡ 255 =
    whole_byte k away (away + len) (omega (arith, within)) from to in
    sym (mask_byte store.value (byte_ones away len) k all)
    ∙ ap (λ v. v / 256 ^ k % 256) (sym shows.bytes)
    ∙ mask_byte (moved_up value away) (byte_ones away len) k all
    ∙ word_byte (value * 256 ^ away) k (omega (arith, to, within))
    ∙ ap (λ v. v % 256) (moved_byte value away k from)

-- the bits of the mask
bit_by : (b : ℕ) (test : Bool) → (test ≡ true → b ≡ 1) → (test ≡ false → b ≡ 0) → (b == 1) ≡ test
bit_by b true one none = ap (λ v. v == 1) (one refl)
bit_by b false one none = ap (λ v. v == 1) (none refl)

mask_bit : (away len k : ℕ) → bit_is_set (ones away len) k ≡ (nat_le away k && nat_lt k (away + len))
mask_bit away len k = bit_by _ (nat_le away k && nat_lt k (away + len)) inside outside
  where
    inside : (nat_le away k && nat_lt k (away + len)) ≡ true → ones away len / 2 ^ k % 2 ≡ 1
    inside is = bit_at_mask_inside away (away + len) k (grind (arith, nat_tests, is)) (grind (arith, nat_tests, is))

    below_or_above : (nat_le away k && nat_lt k (away + len)) ≡ false → (k < away) ⊎ (away + len ≤ k)
    below_or_above is = grind (arith, nat_tests, is)

    outside : (nat_le away k && nat_lt k (away + len)) ≡ false → ones away len / 2 ^ k % 2 ≡ 0
    outside is = elim (below_or_above is) [
      | inl below ↦ bit_at_mask_below away (away + len) k below
      | inr over ↦ bit_at_mask_above away (away + len) k over
    ]

-- ---- where the bytes fall

-- an address of the access, by its distance from the place that is shown
in_window : {store : ShownStore} {pa len value away : ℕ} (x : ℕ) → ShowsStored store pa len value away → x < 2 ^ 64
    → pa ≤ x → x < pa + len → above x store.place ≡ away + (x - pa)
in_window {store} {pa} {len} {away} x shows in_range from to =
    let offset : x ≡ pa + (x - pa) = omega (arith, from) in
    let less : x - pa < len = omega (arith, from, to) in
    omega (arith, shows.begins, offset, less, shows.within, shows.place, in_range, shows.fits)

out_window : {store : ShownStore} {pa len value away : ℕ} (x : ℕ) → ShowsStored store pa len value away → x < 2 ^ 64
    → away ≤ above x store.place → above x store.place < away + len → (pa ≤ x) × (x < pa + len)
out_window {store} {pa} {len} {away} x shows in_range from to =
    let place : store.place < 2 ^ 64 = shows.place in
    let at : x ≡ (store.place + above x store.place) % 2 ^ 64 = omega (arith, place, in_range) in
    let here : x ≡ pa + (above x store.place - away) =
    omega (arith, at, shows.begins, from, to, shows.within, shows.fits, place) in
    (omega (arith, here), omega (arith, here, from, to))

-- ---- the bytes as a whole

picked : (near : Bool) (store : ShownStore) (k old : ℕ) → near ≡ true → bit_is_set store.mask k ≡ true
    → byte_after store (if near then Some k else None) old ≡ store.value / 256 ^ k % 256
picked true store k old is set = ap (λ (t : Bool). if t then store.value / 256 ^ k % 256 else old) set
picked false store k old is set = absurd cc

passed_over : (near : Bool) (store : ShownStore) (k old : ℕ) → bit_is_set store.mask k ≡ false
    → byte_after store (if near then Some k else None) old ≡ old
passed_over true store k old none = ap (λ (t : Bool). if t then store.value / 256 ^ k % 256 else old) none
passed_over false store k old none = refl

among : (pa len x : ℕ) → is_within pa len x ≡ true → (pa ≤ x) × (x < pa + len)
among pa len x is = (grind (arith, nat_tests, is), grind (arith, nat_tests, is))

bit_of : {store : ShownStore} {pa len value away : ℕ} {test : Bool} (k : ℕ) → ShowsStored store pa len value away
    → (nat_le away k && nat_lt k (away + len)) ≡ test → bit_is_set store.mask k ≡ test
bit_of {len} {away} k shows is = ap (λ mask. bit_is_set mask k) shows.mask ∙ mask_bit away len k ∙ is

stored_here : {store : ShownStore} {pa len value away : ℕ} (x old : ℕ) → ShowsStored store pa len value away
    → x < 2 ^ 64 → is_within pa len x ≡ true
    → byte_after store (distance_in_window x 1 store.place) old ≡ value / 256 ^ (x - pa) % 256
stored_here {store} {pa} {len} {value} {away} x old shows in_range is =
    let ends = among pa len x is in
    let k = above x store.place in
    let at : k ≡ away + (x - pa) = in_window x shows in_range ends.0 ends.1 in
    let from : away ≤ k = omega (arith, at) in
    let to : k < away + len = omega (arith, at, ends.0, ends.1) in
    let near : nat_le (k + 1) 8 ≡ true = grind (arith, nat_tests, to, shows.within) in
    let set : (nat_le away k && nat_lt k (away + len)) ≡ true = grind (arith, nat_tests, from, to) in
    let offset : k - away ≡ x - pa = omega (arith, at) in
    picked (nat_le (k + 1) 8) store k old near (bit_of k shows set)
    ∙ shown_byte k shows from to
    ∙ ap (λ j. value / 256 ^ j % 256) offset

never_set : {store : ShownStore} {pa len value away : ℕ} (x : ℕ) → ShowsStored store pa len value away → x < 2 ^ 64
    → is_within pa len x ≡ false
    → (nat_le away (above x store.place) && nat_lt (above x store.place) (away + len)) ≡ false
never_set {store} {pa} {len} {away} x shows in_range out =
    false_from_ne_true (nat_le away (above x store.place) && nat_lt (above x store.place) (away + len)) set
  where
    set : (nat_le away (above x store.place) && nat_lt (above x store.place) (away + len)) ≡ true → ⊥
    set is =
        let ends = out_window x shows in_range (grind (arith, nat_tests, is)) (grind (arith, nat_tests, is)) in
        let inside : is_within pa len x ≡ true = grind (arith, nat_tests, ends.0, ends.1) in
        cc

stored_elsewhere : {store : ShownStore} {pa len value away : ℕ} (x old : ℕ) → ShowsStored store pa len value away
    → x < 2 ^ 64 → is_within pa len x ≡ false
    → byte_after store (distance_in_window x 1 store.place) old ≡ old
stored_elsewhere {store} x old shows in_range out =
    let k = above x store.place in
    passed_over (nat_le (k + 1) 8) store k old (bit_of k shows (never_set x shows in_range out))

in_ram : (ram : Span) (x : ℕ) → is_in ram x ≡ true → x < 2 ^ 64
in_ram ram x inside = let end = ram.below in grind (arith, nat_tests, inside)

-- a store to RAM
out_of_ram : (ram : Span) (pa len x : ℕ) (test : Bool) → holds_all ram pa len ≡ true → is_in ram x ≡ false
    → is_within pa len x ≡ test → test ≡ false
out_of_ram ram pa len x false held out is = refl
out_of_ram ram pa len x true held out is =
    let inside : is_in ram x ≡ true = grind (arith, nat_tests, held, is) in absurd cc

pub put_to_ram : {store : ShownStore} {pa len value away : ℕ} (ram : Span) (bytes : Bytes) (x : ℕ)
    → ShowsStored store pa len value away → holds_all ram pa len ≡ true
    → bytes_put ram store 8 bytes x ≡ bytes_after_store pa len value bytes x
unfolding bytes_after_store
put_to_ram {store} {pa} {len} {value} ram bytes x shows held =
    put_all ram store bytes x shows.place ∙ by (is_in ram x) (is_within pa len x) refl refl
  where
    by : (inside within : Bool) → is_in ram x ≡ inside → is_within pa len x ≡ within
        → (if inside then byte_after store (distance_in_window x 1 store.place) (bytes x) else bytes x)
        ≡ (if within then value / 256 ^ (x - pa) % 256 else bytes x)
    by true true inside within = stored_here x (bytes x) shows (in_ram ram x inside) within
    by true false inside within = stored_elsewhere x (bytes x) shows (in_ram ram x inside) within
    by false true inside within = absurd (let none = out_of_ram ram pa len x true held inside within in cc)
    by false false inside within = refl

-- and one to a device, none of whose bytes are in RAM
pub put_to_device : {store : ShownStore} {pa len value away : ℕ} (ram : Span) (bytes : Bytes) (x : ℕ)
    → ShowsStored store pa len value away → (is_in ram x ≡ true → is_within pa len x ≡ false)
    → bytes_put ram store 8 bytes x ≡ bytes x
put_to_device {store} ram bytes x shows apart = put_all ram store bytes x shows.place ∙ by (is_in ram x) refl
  where
    by : (inside : Bool) → is_in ram x ≡ inside
        → (if inside then byte_after store (distance_in_window x 1 store.place) (bytes x) else bytes x) ≡ bytes x
    by true inside = stored_elsewhere x (bytes x) shows (in_ram ram x inside) (apart inside)
    by false inside = refl

-- The bytes of a store fall where they are shown: one by one, and so all of them.
use Rattle.std.proofs.Common.{◌≡◌, ◌≢◌, ◌⊎◌, inl, inr, ℕ, zero, suc, ◌+◌, ◌/◌, ◌%◌, ◌^◌, ◌<◌, ◌≤◌, ◌==◌, ◌&&◌, Bool}
use Rattle.std.proofs.Common.{true, false, nat_le, nat_lt, Some, None, if◌then◌else◌, refl, sym, ap, ◌∙◌, arith}
use Rattle.std.proofs.Math.Nat.{div-one}
use Rattle.std.proofs.lemmas.Bool.Decides.{eqb_tells, nat_tests}
use Rattle.hart_words.specs.declared.span.Span.{Span}
use Rattle.hart_words.specs.Memory.{Bytes, bytes_after_store}
use Rattle.hart_words.specs.Spans.{is_in}
use Rattle.hart_words.proofs.Stores.{stored-inside, stored-outside}
use Rattle.csr_file.specs.Fields.{bit_is_set}
use Rattle.rvfi_rows.specs.Window.{above, distance_in_window}
use Rattle.hart_step.specs.declared.shown_store.ShownStore.{ShownStore}
use Rattle.hart_words.specs.Signals.{Shown}
use Rattle.hart_step.specs.declared.state.Core.{Core}
use Rattle.hart_step.specs.PlainRows.{byte_after, byte_place, byte_put, bytes_put, memory_shown, stores_byte}
use Rattle.hart_step.specs.PlainRows.{shows_store, store_shown}

-- the byte with this number falls at the addresses that lie so far above the store's place
pub falls_there : (place number address : ℕ) → place < 2 ^ 64 → number < 8 → address < 2 ^ 64
    → above address place ≡ number → (place + number) % 2 ^ 64 ≡ address
falls_there place number address p n a e = omega arith

pub falls_nowhere_else : (place number address : ℕ) → place < 2 ^ 64 → number < 8 → address < 2 ^ 64
    → (place + number) % 2 ^ 64 ≡ address → above address place ≡ number
falls_nowhere_else place number address p n a e = omega arith

here : (masked inside : Bool) (pa value : ℕ) (bytes : Bytes) (a : ℕ) → pa ≡ a → inside ≡ true
    → (if masked && inside then bytes_after_store pa 1 value bytes else bytes) a
    ≡ (if masked then value % 256 else bytes a)
here true true pa value bytes a at holds =
    let place : a ≡ pa + 0 = omega (arith, at) in
    ap (bytes_after_store pa 1 value bytes) place ∙ stored-inside pa 1 value 0 bytes (omega arith)
    ∙ ap (λ v. v % 256) (div-one value)
here true false pa value bytes a at holds = absurd cc
here false inside pa value bytes a at holds = refl

apart : (test : Bool) (pa value : ℕ) (bytes : Bytes) (a : ℕ) → pa ≢ a
    → (if test then bytes_after_store pa 1 value bytes else bytes) a ≡ bytes a
apart true pa value bytes a at = stored-outside pa 1 value a bytes (grind arith)
apart false pa value bytes a at = refl

-- a byte of those that were put, if the store has it
among : Bool → ShownStore → ℕ → ℕ → ℕ
among false store away old = old
among true store away old = if bit_is_set store.mask away then store.value / 256 ^ away % 256 else old

same_byte : (store : ShownStore) (away number old before : ℕ) → away ≡ number → before ≡ old
    → (if bit_is_set store.mask number then store.value / 256 ^ number % 256 else before)
    ≡ (if bit_is_set store.mask away then store.value / 256 ^ away % 256 else old)
same_byte store away number old before e b =
    ap (λ k. if bit_is_set store.mask k then store.value / 256 ^ k % 256 else before) (sym e)
    ∙ ap (λ o. if bit_is_set store.mask away then store.value / 256 ^ away % 256 else o) b

below : (ram : Span) (a : ℕ) → is_in ram a ≡ true → a < 2 ^ 64
below ram a inside = let end = ram.below in grind (arith, nat_tests)

-- after so many bytes, each address of RAM has that of the store which falls there
put_at : (ram : Span) (store : ShownStore) (count : ℕ) (bytes : Bytes) (a : ℕ) → store.place < 2 ^ 64 → count ≤ 8
    → is_in ram a ≡ true
    → bytes_put ram store count bytes a
    ≡ among (nat_lt (above a store.place) count) store (above a store.place) (bytes a)
unfolding bytes_put among
put_at ram store zero bytes a p n inside =
    let none : nat_lt (above a store.place) 0 ≡ false = grind (arith, nat_tests) in
    ap (λ t. among t store (above a store.place) (bytes a)) (sym none)
put_at ram store (suc count) bytes a p n inside =
    by (below ram a inside) (put_at ram store count bytes a p (omega (arith, n)) inside)
    (eqb_tells (above a store.place) count)
  where
    by : a < 2 ^ 64
        → bytes_put ram store count bytes a
        ≡ among (nat_lt (above a store.place) count) store (above a store.place) (bytes a)
        → ((above a store.place == count) ≡ true) × (above a store.place ≡ count)
        ⊎ ((above a store.place == count) ≡ false) × (above a store.place ≢ count)
        → byte_put ram store count (bytes_put ram store count bytes) a
        ≡ among (nat_lt (above a store.place) (suc count)) store (above a store.place) (bytes a)
    by fits is (inl same) =
        let away : above a store.place ≡ count = same.1 in
        let low : nat_lt (above a store.place) count ≡ false = grind (arith, nat_tests) in
        let high : nat_lt (above a store.place) (suc count) ≡ true = grind (arith, nat_tests) in
        let before = bytes_put ram store count bytes in
        let was : before a ≡ bytes a = is ∙ ap (λ t. among t store (above a store.place) (bytes a)) low in
        let place = falls_there store.place count a p (omega (arith, n)) fits away in
        here (bit_is_set store.mask count) (is_in ram (byte_place store count)) (byte_place store count)
        (store.value / 256 ^ count) before a place (ap (is_in ram) place ∙ inside)
        ∙ same_byte store (above a store.place) count (bytes a) (before a) away was
        ∙ ap (λ t. among t store (above a store.place) (bytes a)) (sym high)
    by fits is (inr other) =
        let away : above a store.place ≢ count = other.1 in
        let same : nat_lt (above a store.place) count ≡ nat_lt (above a store.place) (suc count) =
        grind (arith, nat_tests) in
        let place : byte_place store count ≢ a =
        λ at. away (falls_nowhere_else store.place count a p (omega (arith, n)) fits at) in
        apart (stores_byte ram store count) (byte_place store count) (store.value / 256 ^ count)
        (bytes_put ram store count bytes) a place
        ∙ is ∙ ap (λ t. among t store (above a store.place) (bytes a)) same

-- bytes outside RAM are passed over
put_outside : (ram : Span) (store : ShownStore) (count : ℕ) (bytes : Bytes) (a : ℕ) → is_in ram a ≡ false
    → bytes_put ram store count bytes a ≡ bytes a
unfolding bytes_put
put_outside ram store zero bytes a outside = refl
put_outside ram store (suc count) bytes a outside =
    by (bit_is_set store.mask count) (is_in ram (byte_place store count)) refl
    ∙ put_outside ram store count bytes a outside
  where
    by : (masked inside : Bool) → is_in ram (byte_place store count) ≡ inside
        → (if masked && inside
        then bytes_after_store (byte_place store count) 1 (store.value / 256 ^ count) (bytes_put ram store count bytes)
        else bytes_put ram store count bytes) a
        ≡ bytes_put ram store count bytes a
    by false inside is = refl
    by true false is = refl
    by true true is =
        let other : byte_place store count ≢ a =
        λ same. absurd (let both : true ≡ false = sym is ∙ ap (is_in ram) same ∙ outside in cc) in
        apart true (byte_place store count) (store.value / 256 ^ count) (bytes_put ram store count bytes) a other

eight : (test : Bool) (store : ShownStore) (away old : ℕ)
    → among test store away old ≡ byte_after store (if test then Some away else None) old
unfolding among
eight true store away old = refl
eight false store away old = refl

put_by : (inside : Bool) (ram : Span) (store : ShownStore) (bytes : Bytes) (a : ℕ) → is_in ram a ≡ inside
    → store.place < 2 ^ 64
    → bytes_put ram store 8 bytes a
    ≡ (if inside then byte_after store (distance_in_window a 1 store.place) (bytes a) else bytes a)
put_by false ram store bytes a there place = put_outside ram store 8 bytes a there
put_by true ram store bytes a there place =
    let count : nat_lt (above a store.place) 8 ≡ nat_le (above a store.place + 1) 8 = grind (arith, nat_tests) in
    put_at ram store 8 bytes a place (omega arith) there
    ∙ ap (λ t. among t store (above a store.place) (bytes a)) count
    ∙ eight (nat_le (above a store.place + 1) 8) store (above a store.place) (bytes a)

pub put_all : (ram : Span) (store : ShownStore) (bytes : Bytes) (a : ℕ) → store.place < 2 ^ 64
    → bytes_put ram store 8 bytes a
    ≡ (if is_in ram a then byte_after store (distance_in_window a 1 store.place) (bytes a) else bytes a)
put_all ram store bytes a place = put_by (is_in ram a) ram store bytes a refl place

pub shown_at : (core : Core) (shown : Shown) (bytes : Bytes) (a : ℕ) → shows_store shown ≡ true
    → (store_shown shown).place < 2 ^ 64
    → memory_shown core shown bytes a
    ≡ (if is_in core.map.ram a then byte_after (store_shown shown) (distance_in_window a 1 (store_shown shown).place)
    (bytes a) else bytes a)
unfolding memory_shown
shown_at core shown bytes a stores place =
    ap (λ (t : Bool). (if t then bytes_put core.map.ram (store_shown shown) 8 bytes else bytes) a) stores
    ∙ put_all core.map.ram (store_shown shown) bytes a place

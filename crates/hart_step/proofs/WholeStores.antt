-- A store of so many low bytes, all of which lie in RAM, is one write of a number.
use Rattle.std.proofs.Common.{◌≡◌, ◌⊎◌, inl, inr, ℕ, ◌+◌, ◌-◌, ◌/◌, ◌%◌, ◌^◌, ◌<◌, ◌≤◌, Bool, true, false, nat_le}
use Rattle.std.proofs.Common.{nat_lt, Some, None, if◌then◌else◌, refl, sym, subst, ap, ◌∙◌, lit<, arith}
use Rattle.std.proofs.Math.Nat.{pow-le-pow_right}
use Rattle.std.proofs.Math.Path.{fun_ext}
use Rattle.std.proofs.lemmas.Bool.{cases_lt}
use Rattle.std.proofs.lemmas.Bool.Decides.{nat_tests}
use Rattle.std.proofs.lemmas.Nat.{div_below, pow_pos}
use Rattle.std.proofs.lemmas.Nat.Bits.{bit_at_ones}
use Rattle.hart_words.specs.declared.span.Span.{Span}
use Rattle.hart_words.specs.Memory.{Bytes, bytes_after_store}
use Rattle.hart_words.specs.Spans.{IsPlace, is_in}
use Rattle.hart_words.proofs.Stores.{stored-inside, stored-outside}
use Rattle.csr_file.specs.Fields.{bit_is_set}
use Rattle.rvfi_rows.specs.Window.{above, distance_in_window}
use Rattle.hart_step.specs.declared.shown_store.ShownStore.{ShownStore}
use Rattle.hart_step.specs.PlainRows.{byte_after, bytes_put}
use Rattle.hart_step.proofs.ShownBytes.{put_all}

-- the mask of so many low bytes has their bits alone
low_bits : (len bit : ℕ) → bit_is_set (2 ^ len - 1) bit ≡ nat_lt bit len
low_bits len bit = elim (cases_lt bit len) [
  | inl low ↦
      let set : (2 ^ len - 1) / 2 ^ bit % 2 ≡ 1 = bit_at_ones len bit low in
      grind (arith, nat_tests)
  | inr high ↦
      let more : 2 ^ len ≤ 2 ^ bit = pow-le-pow_right {n = 2} (lit< tt) high in
      let some : 0 < 2 ^ len = pow_pos len in
      let none : (2 ^ len - 1) / 2 ^ bit < 1 = div_below (2 ^ len - 1) (2 ^ bit) 1 (pow_pos bit) (omega arith) in
      let zero : (2 ^ len - 1) / 2 ^ bit ≡ 0 = omega arith in
      grind (arith, nat_tests)
]

has_bit : (mask len bit : ℕ) (test : Bool) → mask ≡ 2 ^ len - 1 → nat_lt bit len ≡ test → bit_is_set mask bit ≡ test
has_bit mask len bit test is low = ap (λ m. bit_is_set m bit) is ∙ low_bits len bit ∙ low

-- the byte that falls at an address, or the old one
abbrev fallen : Span → ShownStore → Bytes → ℕ → ℕ
fallen ram store bytes a =
    if is_in ram a then byte_after store (distance_in_window a 1 store.place) (bytes a) else bytes a

inside : (ram : Span) (store : ShownStore) (len k : ℕ) (bytes : Bytes) → IsPlace ram store.place len
    → store.mask ≡ 2 ^ len - 1 → k < len
    → fallen ram store bytes (store.place + k) ≡ bytes_after_store store.place len store.value bytes (store.place + k)
inside ram store len k bytes place mask below =
    let here : is_in ram (store.place + k) ≡ true = grind (arith, nat_tests) in
    let away : above (store.place + k) store.place ≡ k = omega arith in
    let near : nat_le (k + 1) 8 ≡ true = grind (arith, nat_tests) in
    let low : nat_lt k len ≡ true = grind (arith, nat_tests) in
    rw (
      here,
      away,
      near,
      has_bit store.mask len k true mask low,
      stored-inside store.place len store.value k bytes below,
    ) refl

unmet : (store : ShownStore) (away old : ℕ) (near : Bool) → (bit_is_set store.mask away ≡ false) ⊎ (near ≡ false)
    → byte_after store (if near then Some away else None) old ≡ old
unmet store away old false reason = refl
unmet store away old true (inl unset) = rw unset refl
unmet store away old true (inr far) = absurd cc

apart : {ram : Span} (store : ShownStore) (len a old : ℕ) → IsPlace ram store.place len → store.mask ≡ 2 ^ len - 1
    → a < 2 ^ 64 → (a < store.place) ⊎ (store.place + len ≤ a)
    → byte_after store (distance_in_window a 1 store.place) old ≡ old
apart store len a old place mask fits (inl before) =
    let far : nat_le (above a store.place + 1) 8 ≡ false = grind (arith, nat_tests) in
    unmet store (above a store.place) old (nat_le (above a store.place + 1) 8) (inr far)
apart store len a old place mask fits (inr following) =
    let high : nat_lt (above a store.place) len ≡ false = grind (arith, nat_tests) in
    unmet store (above a store.place) old (nat_le (above a store.place + 1) 8)
    (inl (has_bit store.mask len (above a store.place) false mask high))

kept : (test : Bool) (new old : ℕ) → (test ≡ true → new ≡ old) → (if test then new else old) ≡ old
kept true new old same = same refl
kept false new old same = refl

below : (ram : Span) (a : ℕ) → is_in ram a ≡ true → a < 2 ^ 64
below ram a here = let end = ram.below in grind (arith, nat_tests)

outside : (ram : Span) (store : ShownStore) (len a : ℕ) (bytes : Bytes) → IsPlace ram store.place len
    → store.mask ≡ 2 ^ len - 1 → (a < store.place) ⊎ (store.place + len ≤ a)
    → fallen ram store bytes a ≡ bytes_after_store store.place len store.value bytes a
outside ram store len a bytes place mask away =
    kept (is_in ram a) (byte_after store (distance_in_window a 1 store.place) (bytes a)) (bytes a)
    (λ here. apart store len a (bytes a) place mask (below ram a here) away)
    ∙ sym (stored-outside store.place len store.value a bytes away)

fallen_at : (ram : Span) (store : ShownStore) (len a : ℕ) (bytes : Bytes) → IsPlace ram store.place len
    → store.mask ≡ 2 ^ len - 1 → fallen ram store bytes a ≡ bytes_after_store store.place len store.value bytes a
fallen_at ram store len a bytes place mask = elim (cases_lt a store.place) [
  | inl before ↦ outside ram store len a bytes place mask (inl before)
  | inr from ↦ elim (cases_lt a (store.place + len)) [
    | inl low ↦
        let at : store.place + (a - store.place) ≡ a = omega arith in
        let P : ℕ → Type 0 = λ x. fallen ram store bytes x ≡ bytes_after_store store.place len store.value bytes x in
        subst P at (inside ram store len (a - store.place) bytes place mask (omega arith))
    | inr following ↦ outside ram store len a bytes place mask (inr following)
  ]
]

-- the bytes after a store of so many low bytes are those after one write
pub put_at_once : (ram : Span) (store : ShownStore) (len : ℕ) (bytes : Bytes) → IsPlace ram store.place len
    → store.mask ≡ 2 ^ len - 1 → bytes_put ram store 8 bytes ≡ bytes_after_store store.place len store.value bytes
put_at_once ram store len bytes place mask =
    fun_ext (λ a. put_all ram store bytes a (omega (arith, place.narrow)) ∙ fallen_at ram store len a bytes place mask)

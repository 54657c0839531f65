-- What a hart loses hangs on the bytes that were written, and not on the writes that put them there.
use Rattle.std.proofs.Common.{◌≡◌, ◌⊎◌, ℕ, ◌-◌, ◌/◌, ◌%◌, ◌^◌, ◌<◌, ◌+◌, ◌≤◌, Bool, true, false, ◌||◌, Option, Some, None}
use Rattle.std.proofs.Common.{List, [], ◌∷◌, refl, sym, ap, ◌∙◌, max, arith, inl, inr, if◌then◌else◌}
use Rattle.std.proofs.lemmas.Bool.{cases_Bool}
use Rattle.std.proofs.lemmas.Bool.Decides.{nat_tests}
use Rattle.hart_words.specs.declared.accesses.Write.{Write}
use Rattle.hart_words.specs.Memory.{Bytes, after_writes, bytes_after_store, is_within}
use Rattle.rv_atomic.specs.declared.reservation.Block.{Block}
use Rattle.rv_atomic.specs.declared.reservation.Reservation.{Reservation}
use Rattle.rv_atomic.specs.Blocks.{is_touched, IsReserved}
use Rattle.rvfi_rows.specs.Meanings.{lost_by}
use Rattle.hart_step.specs.declared.state.Core.{Core}
use Rattle.hart_step.specs.Meanings.{core_meaning, is_written, LosesAlike}
use Rattle.hart_step.proofs.Lost.{left_false, loses_by_bytes, right_false, touched_at}

-- ---- which bytes were written can be read off a memory of numbers that are no bytes

stored_by : (test : Bool) (new old : ℕ) → test ≡ false → (if test then new else old) ≡ old
stored_by false new old is = refl
stored_by true new old is = absurd cc

put_by : (test : Bool) (number old : ℕ) → test ≡ true → (if test then number % 256 else old) < 256
put_by true number old is = omega arith
put_by false number old is = absurd cc

unwritten : (writes : List Write) (bytes : Bytes) (address : ℕ) → is_written writes address ≡ false
    → after_writes writes bytes address ≡ bytes address
unfolding after_writes bytes_after_store
unwritten [] bytes address none = refl
unwritten (write ∷ writes) bytes address none =
    unwritten writes (bytes_after_store write.pa write.len write.value bytes) address
    (right_false (is_within write.pa write.len address) (is_written writes address) none)
    ∙ stored_by (is_within write.pa write.len address) (write.value / 256 ^ (address - write.pa) % 256) (bytes address)
    (left_false (is_within write.pa write.len address) (is_written writes address) none)

or_left : (one other : Bool) → (one || other) ≡ true → other ≡ false → one ≡ true
or_left true other some none = refl
or_left false other some none = absurd cc

written : (writes : List Write) (bytes : Bytes) (address : ℕ) → is_written writes address ≡ true
    → after_writes writes bytes address < 256
unfolding after_writes bytes_after_store
written [] bytes address some = absurd cc
written (write ∷ writes) bytes address some =
    let now = bytes_after_store write.pa write.len write.value bytes in
    elim (cases_Bool (is_written writes address)) [
      | inl later ↦ written writes now address later
      | inr last ↦
          let same : after_writes writes now address ≡ now address = unwritten writes now address last in
          let here : is_within write.pa write.len address ≡ true =
          or_left (is_within write.pa write.len address) (is_written writes address) some last in
          let small : now address < 256 =
          put_by (is_within write.pa write.len address) (write.value / 256 ^ (address - write.pa)) (bytes address)
          here in
          omega (arith, same, small)
    ]

same_tests : (one other : Bool) (x y : ℕ) → (one ≡ true → x < 256) → (one ≡ false → x ≡ 256)
    → (other ≡ true → y < 256) → (other ≡ false → y ≡ 256) → x ≡ y → one ≡ other
same_tests true true x y a b c d e = refl
same_tests false false x y a b c d e = refl
same_tests true false x y a b c d e = let low = a refl in let high = d refl in absurd (omega arith)
same_tests false true x y a b c d e = let low = c refl in let high = b refl in absurd (omega arith)

same_written : (one other : List Write) (address : ℕ)
    → ((bytes : Bytes) → after_writes one bytes ≡ after_writes other bytes)
    → is_written one address ≡ is_written other address
same_written one other address same =
    let marks : Bytes = λ at. 256 in
    same_tests (is_written one address) (is_written other address) (after_writes one marks address)
    (after_writes other marks address) (written one marks address) (unwritten one marks address)
    (written other marks address) (unwritten other marks address) (ap (λ b. b address) (same marks))

-- ---- a byte of the block was written, or none

abbrev SomeWritten : Option Block → List Write → Type 0
SomeWritten block writes = (address : ℕ) × (IsReserved block address × (is_written writes address ≡ true))

abbrev NoneWritten : Option Block → List Write → Type 0
NoneWritten block writes = (address : ℕ) → IsReserved block address → is_written writes address ≡ false

first_of : (block : Option Block) (pa len : ℕ) → is_touched block pa len ≡ true
    → (address : ℕ) × (IsReserved block address × (is_within pa len address ≡ true))
first_of None pa len touched = absurd cc
first_of (Some block) pa len touched =
    let first = max pa block.address in
    let low : block.address ≤ first = grind (arith, nat_tests) in
    let high : first < block.address + block.size = grind (arith, nat_tests) in
    let within : is_within pa len first ≡ true = grind (arith, nat_tests) in
    (first, ((low, high), within))

not_within : (block : Option Block) (pa len address : ℕ) → is_touched block pa len ≡ false → IsReserved block address
    → is_within pa len address ≡ false
not_within block pa len address apart reserved = elim (cases_Bool (is_within pa len address)) [
  | inl within ↦ let touched = touched_at block pa len address reserved within in absurd cc
  | inr without ↦ without
]

or_true : (one other : Bool) → one ≡ true → (one || other) ≡ true
or_true true other is = refl
or_true false other is = absurd cc

or_later : (one other : Bool) → other ≡ true → (one || other) ≡ true
or_later true other is = refl
or_later false other is = is

or_none : (one other : Bool) → one ≡ false → other ≡ false → (one || other) ≡ false
or_none false other none is = is
or_none true other none is = absurd cc

some_or_none : (block : Option Block) (writes : List Write) → SomeWritten block writes ⊎ NoneWritten block writes
some_or_none block [] = inr (λ address reserved. refl)
some_or_none block (write ∷ writes) = elim (cases_Bool (is_touched block write.pa write.len)) [
  | inl touched ↦
      let at = first_of block write.pa write.len touched in
      inl (at.0, (at.1.0, or_true (is_within write.pa write.len at.0) (is_written writes at.0) at.1.1))
  | inr apart ↦ elim (some_or_none block writes) [
    | inl at ↦ inl (at.0, (at.1.0, or_later (is_within write.pa write.len at.0) (is_written writes at.0) at.1.1))
    | inr none ↦
        inr (λ address reserved. or_none (is_within write.pa write.len address) (is_written writes address)
        (not_within block write.pa write.len address apart reserved) (none address reserved))
  ]
]

-- ---- so the same is lost

with_block : (core : Core) (one other : Reservation) → one.block ≡ None → other.block ≡ None
    → record core { reservation = one } ≡ record core { reservation = other }
with_block core one other nothing no_more =
    ap (λ (b : Option Block). record core { reservation = record { block = b } }) (nothing ∙ sym no_more)

pub loses_alike : (core : Core) (one other : List Write) → LosesAlike core one other
loses_alike core one other same =
    let by_one = loses_by_bytes core one in
    let by_other = loses_by_bytes core other in
    elim (some_or_none core.reservation.block one) [
      | inl at ↦
          let there = sym (same_written one other at.0 same) ∙ at.1.1 in
          by_one.alone
          ∙ with_block core (lost_by core_meaning one core).reservation (lost_by core_meaning other core).reservation
          (by_one.lost at.0 at.1.0 at.1.1) (by_other.lost at.0 at.1.0 there)
          ∙ sym by_other.alone
      | inr none ↦
          by_one.kept none
          ∙ sym
          (by_other.kept
          (λ address reserved. sym (same_written one other address same) ∙ none address reserved))
    ]

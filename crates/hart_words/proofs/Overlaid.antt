-- What memory has after entries of page tables were set.
use Rattle.std.proofs.Common.{◌≡◌, ℕ, ◌+◌, ◌-◌, ◌/◌, ◌%◌, ◌^◌, ◌<◌, ◌≤◌, ◌⊎◌, List, [], ◌∷◌, length}
use Rattle.std.proofs.Common.{true, false, add-one, take, get_or, refl, sym, ap, ◌∙◌, subst, arith}
use Rattle.std.proofs.Math.Nat.{mod-eq_of_lt}
use Rattle.std.proofs.Math.Seq.{take-suc}
use Rattle.hart_words.specs.declared.accesses.Write.{Write}
use Rattle.hart_words.specs.Memory.{Bytes, number_at, is_within, bytes_after_store, after_writes}
use Rattle.hart_words.specs.EntryWrites.{IsEntryWrite}
use Rattle.hart_words.proofs.Runs.{after_writes-append}
use Rattle.hart_words.proofs.Stores.{number_after_store, number_apart_from_store}

-- the write at a place of a list
abbrev pub write_at : List Write → ℕ → Write
write_at writes i = get_or writes i (record { pa = 0; len = 0; value = 0 })

one_more : (writes : List Write) (i : ℕ) (bytes : Bytes) → i < length writes
    → after_writes (take (i + 1) writes) bytes
    ≡ bytes_after_store (write_at writes i).pa (write_at writes i).len (write_at writes i).value
    (after_writes (take i writes) bytes)
unfolding after_writes
one_more writes i bytes below =
    ap (λ n. after_writes (take n writes) bytes) (add-one i)
    ∙ ap (λ w. after_writes w bytes) (take-suc writes i (record { pa = 0; len = 0; value = 0 }) below)
    ∙ after_writes-append (take i writes) (get_or writes i (record { pa = 0; len = 0; value = 0 }) ∷ []) bytes

-- the entry that is written is read
same_entry : (write : Write) (pa : ℕ) (bytes : Bytes) → IsEntryWrite write → write.pa ≡ pa
    → number_at (bytes_after_store write.pa write.len write.value bytes) pa 8 ≡ write.value
same_entry write pa bytes is same =
    let P : ℕ → Type 0 = λ a. number_at (bytes_after_store write.pa write.len write.value bytes) a 8 ≡ write.value in
    let Q : ℕ → Type 0 = λ l. number_at (bytes_after_store write.pa l write.value bytes) write.pa 8 ≡ write.value in
    subst P same
    (subst Q (sym is.whole) (number_after_store bytes write.pa 8 write.value ∙ mod-eq_of_lt is.fits))

-- two entries that differ do not overlap
pub apart : (one other : ℕ) → one % 8 ≡ 0 → other % 8 ≡ 0 → (one ≡ other → ⊥) → (other + 8 ≤ one) ⊎ (one + 8 ≤ other)
apart one other o t differ = grind (arith)

-- every other is as it was
other_entry : (write : Write) (pa : ℕ) (bytes : Bytes) → IsEntryWrite write → pa % 8 ≡ 0 → (write.pa ≡ pa → ⊥)
    → number_at (bytes_after_store write.pa write.len write.value bytes) pa 8 ≡ number_at bytes pa 8
other_entry write pa bytes is aligned differ =
    let Q : ℕ → Type 0 = λ l.
    number_at (bytes_after_store write.pa l write.value bytes) pa 8 ≡ number_at bytes pa 8 in
    subst Q (sym is.whole)
    (number_apart_from_store bytes write.pa 8 write.value pa 8 (apart write.pa pa is.aligned aligned differ))

pub entry_set : (writes : List Write) (i pa : ℕ) (bytes : Bytes) → i < length writes
    → IsEntryWrite (write_at writes i) → (write_at writes i).pa ≡ pa
    → number_at (after_writes (take (i + 1) writes) bytes) pa 8 ≡ (write_at writes i).value
entry_set writes i pa bytes below is same =
    let P : Bytes → Type 0 = λ b. number_at b pa 8 ≡ (write_at writes i).value in
    subst P (sym (one_more writes i bytes below))
    (same_entry (write_at writes i) pa (after_writes (take i writes) bytes) is same)

pub entry_stays : (writes : List Write) (i pa : ℕ) (bytes : Bytes) → i < length writes
    → IsEntryWrite (write_at writes i) → pa % 8 ≡ 0 → ((write_at writes i).pa ≡ pa → ⊥)
    → number_at (after_writes (take (i + 1) writes) bytes) pa 8
    ≡ number_at (after_writes (take i writes) bytes) pa 8
entry_stays writes i pa bytes below is aligned differ =
    let P : Bytes → Type 0 = λ b. number_at b pa 8 ≡ number_at (after_writes (take i writes) bytes) pa 8 in
    subst P (sym (one_more writes i bytes below))
    (other_entry (write_at writes i) pa (after_writes (take i writes) bytes) is aligned differ)

-- so with its bytes
pub byte_set : (writes : List Write) (i pa : ℕ) (bytes : Bytes) → i < length writes
    → IsEntryWrite (write_at writes i) → is_within (write_at writes i).pa 8 pa ≡ true
    → after_writes (take (i + 1) writes) bytes pa
    ≡ (write_at writes i).value / 256 ^ (pa - (write_at writes i).pa) % 256
unfolding bytes_after_store
byte_set writes i pa bytes below is over =
    ap (λ b. b pa) (one_more writes i bytes below) ∙ rw (is.whole, over) refl

pub byte_stays : (writes : List Write) (i pa : ℕ) (bytes : Bytes) → i < length writes
    → IsEntryWrite (write_at writes i) → is_within (write_at writes i).pa 8 pa ≡ false
    → after_writes (take (i + 1) writes) bytes pa ≡ after_writes (take i writes) bytes pa
unfolding bytes_after_store
byte_stays writes i pa bytes below is over =
    ap (λ b. b pa) (one_more writes i bytes below) ∙ rw (is.whole, over) refl

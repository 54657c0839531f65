-- A memory of three entries, for tests.
use Rattle.std.proofs.Common.{◌≡◌, ℕ, ◌^◌, ◌<◌, inr, Bool, true, false, not, ◌&&◌, ◌||◌, refl, sym, ◌∙◌, ap, subst}
use Rattle.std.proofs.Common.{lit≤}
use Rattle.std.specs.Prelude.{◌==◌, Option, Some, None}
use Rattle.std.proofs.lemmas.Bool.{cond-true, ne_eqb}
use Rattle.std.proofs.Math.Nat.{mod-eq_of_lt}
use Rattle.hart_words.specs.Memory.{Bytes, number_at, bytes_after_store, entry_of}
use Rattle.hart_words.proofs.Stores.{number_after_store, number_apart_from_store}

abbrev pub Three : ℕ → ℕ → ℕ → Bytes
Three root middle last =
    bytes_after_store 2147483656 8 root
    (bytes_after_store 2147487760 8 middle (bytes_after_store 2147491864 8 last (λ a. 0)))

abbrev pub CanRead : ℕ → ℕ → Bool
CanRead hidden pa = not (pa == hidden) && (pa == 2147483656 || pa == 2147487760 || pa == 2147491864)

kept : (bytes : Bytes) (at value : ℕ) → value < 2 ^ 64 → number_at (bytes_after_store at 8 value bytes) at 8 ≡ value
kept bytes at value h = number_after_store bytes at 8 value ∙ mod-eq_of_lt h

first_of_three : (root middle last : ℕ) → root < 2 ^ 64 → number_at (Three root middle last) 2147483656 8 ≡ root
first_of_three root middle last h =
    kept (bytes_after_store 2147487760 8 middle (bytes_after_store 2147491864 8 last (λ a. 0))) 2147483656 root h

second_of_three : (root middle last : ℕ) → middle < 2 ^ 64 → number_at (Three root middle last) 2147487760 8 ≡ middle
second_of_three root middle last h =
    let below : Bytes = bytes_after_store 2147491864 8 last (λ a. 0) in
    number_apart_from_store (bytes_after_store 2147487760 8 middle below) 2147483656 8 root 2147487760 8
    (inr (lit≤ tt)) ∙ kept below 2147487760 middle h

third_of_three : (root middle last : ℕ) → last < 2 ^ 64 → number_at (Three root middle last) 2147491864 8 ≡ last
third_of_three root middle last h =
    let two : Bytes = bytes_after_store 2147491864 8 last (λ a. 0) in
    let one : Bytes = bytes_after_store 2147487760 8 middle two in
    number_apart_from_store one 2147483656 8 root 2147491864 8 (inr (lit≤ tt))
    ∙ number_apart_from_store two 2147487760 8 middle 2147491864 8 (inr (lit≤ tt)) ∙ kept (λ a. 0) 2147491864 last h

-- such entries, and an address that may not be read
pub record ThreeEntries : Type 0 where
  pub root : ℕ
  pub middle : ℕ
  pub last : ℕ
  pub hidden : ℕ

abbrev pub bytes_of : ThreeEntries → Bytes
bytes_of entries = Three entries.root entries.middle entries.last

-- what a walk sees at an address
abbrev pub entry_seen : ThreeEntries → ℕ → Option ℕ
entry_seen entries pa = entry_of (CanRead entries.hidden) (bytes_of entries) pa

seen : (entries : ThreeEntries) (at : ℕ) {pa value : ℕ} → pa ≡ at → (pa ≡ entries.hidden → ⊥)
    → CanRead entries.hidden at ≡ not (at == entries.hidden) → number_at (bytes_of entries) at 8 ≡ value
    → Some value ≡ entry_seen entries pa
seen entries at {pa} {value} e shown is_one got =
    let can : CanRead entries.hidden at ≡ true =
    is_one ∙ ap (λ b. not b) (ne_eqb at entries.hidden (λ same. shown (e ∙ same))) in
    let P : ℕ → Type 0 = λ a. Some value ≡ entry_seen entries a in
    subst P (sym e)
    (ap (λ v. Some v) (sym got)
    ∙ sym (cond-true (CanRead entries.hidden at) (Some (number_at (bytes_of entries) at 8)) None can))

one_of : (b : Bool) → (b && true) ≡ b
one_of true = refl
one_of false = refl

pub first_entry : (entries : ThreeEntries) {pa value : ℕ} → pa ≡ 2147483656 → (pa ≡ entries.hidden → ⊥)
    → value ≡ entries.root → value < 2 ^ 64 → Some value ≡ entry_seen entries pa
first_entry entries e shown same h =
    seen entries 2147483656 e shown (one_of (not (2147483656 == entries.hidden)))
    (first_of_three entries.root entries.middle entries.last (subst (λ (v : ℕ). v < 2 ^ 64) same h) ∙ sym same)

pub second_entry : (entries : ThreeEntries) {pa value : ℕ} → pa ≡ 2147487760 → (pa ≡ entries.hidden → ⊥)
    → value ≡ entries.middle → value < 2 ^ 64 → Some value ≡ entry_seen entries pa
second_entry entries e shown same h =
    seen entries 2147487760 e shown (one_of (not (2147487760 == entries.hidden)))
    (second_of_three entries.root entries.middle entries.last (subst (λ (v : ℕ). v < 2 ^ 64) same h) ∙ sym same)

pub third_entry : (entries : ThreeEntries) {pa value : ℕ} → pa ≡ 2147491864 → (pa ≡ entries.hidden → ⊥)
    → value ≡ entries.last → value < 2 ^ 64 → Some value ≡ entry_seen entries pa
third_entry entries e shown same h =
    seen entries 2147491864 e shown (one_of (not (2147491864 == entries.hidden)))
    (third_of_three entries.root entries.middle entries.last (subst (λ (v : ℕ). v < 2 ^ 64) same h) ∙ sym same)

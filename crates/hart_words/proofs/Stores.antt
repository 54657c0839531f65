-- What is read after a store.
use Rattle.std.proofs.Common.{◌≡◌, ℕ, zero, suc, ◌+◌, ◌*◌, ◌-◌, ◌/◌, ◌%◌, ◌^◌, ◌<◌, ◌≤◌, ◌⊎◌, inl, inr, true, false}
use Rattle.std.proofs.Common.{refl, ap, sym, ◌∙◌, arith}
use Rattle.std.proofs.Common.{lit<}
use Rattle.std.proofs.Math.Nat.{div-one, div-div-eq-div-mul, pow-suc, pow-succ', mod-one}
use Rattle.std.proofs.Math.Arith.{mod-mul}
use Rattle.std.proofs.lemmas.Bool.Decides.{nat_tests}
use Rattle.hart_words.specs.Memory.{Bytes, number_at, is_within, bytes_after_store}

pub within-true : (pa len k : ℕ) → k < len → is_within pa len (pa + k) ≡ true
within-true pa len k below = grind (arith, nat_tests)

pub within_from : (pa len at : ℕ) → pa ≤ at → at < pa + len → is_within pa len at ≡ true
within_from pa len at from before = grind (arith, nat_tests)

pub within-false : (pa len at : ℕ) → (at < pa) ⊎ (pa + len ≤ at) → is_within pa len at ≡ false
within-false pa len at (inl before) = grind (arith, nat_tests)
within-false pa len at (inr after) = grind (arith, nat_tests)

pub stored-inside : (pa len value k : ℕ) (bytes : Bytes) → k < len
    → bytes_after_store pa len value bytes (pa + k) ≡ value / 256 ^ k % 256
unfolding bytes_after_store
stored-inside pa len value k bytes below =
    let offset : pa + k - pa ≡ k = omega arith in
    rw (within-true pa len k below, offset) refl

pub stored-outside : (pa len value at : ℕ) (bytes : Bytes) → (at < pa) ⊎ (pa + len ≤ at)
    → bytes_after_store pa len value bytes at ≡ bytes at
unfolding bytes_after_store
stored-outside pa len value at bytes apart = rw (within-false pa len at apart) refl

-- a number of bytes has room for 0
pub positive : (k : ℕ) → 0 < 256 ^ k
positive zero = lit< tt
positive (suc k) = rw (pow-suc 256 k) (omega (arith, positive k))

-- the number of bytes that are a number's from its lowest on
pub number_of_digits : (len pa value : ℕ) (bytes : Bytes)
    → ((k : ℕ) → k < len → bytes (pa + k) ≡ value / 256 ^ k % 256) → number_at bytes pa len ≡ value % 256 ^ len
unfolding number_at
number_of_digits zero pa value bytes digits = sym (mod-one value)
number_of_digits (suc len) pa value bytes digits =
    let start : pa ≡ pa + 0 = omega arith in
    let here : bytes pa ≡ value % 256 = ap bytes start ∙ digits 0 (omega arith) ∙ ap (λ v. v % 256) (div-one value) in
    let later : (k : ℕ) → k < len → bytes (pa + 1 + k) ≡ value / 256 / 256 ^ k % 256 = λ k below.
    let place : pa + 1 + k ≡ pa + suc k = omega arith in
    let quotient : value / 256 ^ suc k ≡ value / 256 / 256 ^ k =
    ap (λ d. value / d) (pow-succ' 256 k) ∙ sym (div-div-eq-div-mul value 256 (256 ^ k)) in
    ap bytes place ∙ digits (suc k) (omega arith) ∙ ap (λ q. q % 256) quotient in
    let rest = number_of_digits len (pa + 1) (value / 256) bytes later in
    let whole : value % 256 ^ suc len ≡ (value / 256 % 256 ^ len) * 256 + value % 256 =
    ap (λ d. value % d) (pow-suc 256 len) ∙ mod-mul value (positive len) (lit< tt) in
    rw (here, rest, whole) (omega arith)

-- the number of bytes that are the same
pub number_at-equal : (len pa : ℕ) (one other : Bytes) → ((k : ℕ) → k < len → one (pa + k) ≡ other (pa + k))
    → number_at one pa len ≡ number_at other pa len
unfolding number_at
number_at-equal zero pa one other same = refl
number_at-equal (suc len) pa one other same =
    let start : pa ≡ pa + 0 = omega arith in
    let here : one pa ≡ other pa = ap one start ∙ same 0 (omega arith) ∙ ap other (sym start) in
    let later : (k : ℕ) → k < len → one (pa + 1 + k) ≡ other (pa + 1 + k) = λ k below.
    let place : pa + 1 + k ≡ pa + suc k = omega arith in
    ap one place ∙ same (suc k) (omega arith) ∙ ap other (sym place) in
    rw (here, number_at-equal len (pa + 1) one other later) refl

pub number_after_store : (bytes : Bytes) (pa len value : ℕ)
    → number_at (bytes_after_store pa len value bytes) pa len ≡ value % 256 ^ len
number_after_store bytes pa len value =
    number_of_digits len pa value (bytes_after_store pa len value bytes)
    (λ k below. stored-inside pa len value k bytes below)

apart_at : (at size pa len k : ℕ) → (pa + len ≤ at) ⊎ (at + size ≤ pa) → k < len → (pa + k < at) ⊎ (at + size ≤ pa + k)
apart_at at size pa len k (inl before) below = inl (omega arith)
apart_at at size pa len k (inr after) below = inr (omega arith)

pub number_apart_from_store : (bytes : Bytes) (at size value pa len : ℕ) → (pa + len ≤ at) ⊎ (at + size ≤ pa)
    → number_at (bytes_after_store at size value bytes) pa len ≡ number_at bytes pa len
number_apart_from_store bytes at size value pa len apart =
    number_at-equal len pa (bytes_after_store at size value bytes) bytes
    (λ k below. stored-outside at size value (pa + k) bytes (apart_at at size pa len k apart below))

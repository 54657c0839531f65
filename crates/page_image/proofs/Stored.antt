-- A number put byte by byte.
use Rattle.std.proofs.Common.{◌≡◌, ℕ, suc, ◌+◌, ◌-◌, ◌*◌, ◌/◌, ◌%◌, ◌^◌, ◌<◌, ◌≤◌, ◌⊎◌, inl, inr, sym, ◌∙◌, ap, arith}
use Rattle.std.proofs.Common.{subst, if◌then◌else◌}
use Rattle.std.specs.Prelude.{◌==◌}
use Rattle.std.proofs.Math.Path.{fun_ext}
use Rattle.std.proofs.Math.Nat.{div-one, div-div-eq-div-mul, pow-suc, mod-eq_of_lt}
use Rattle.std.proofs.lemmas.Bool.{cases_eq, cases_lt}
use Rattle.image_text.proofs.Pages.{eq_same, eq_other}
use Rattle.hart_words.specs.Memory.{Bytes, number_at, bytes_after_store}
use Rattle.hart_words.proofs.Powers.{seven_bytes}
use Rattle.hart_words.proofs.Stores.{stored-inside, stored-outside}

-- no byte is put
pub stored-none : (pa value : ℕ) (bytes : Bytes) → bytes_after_store pa 0 value bytes ≡ bytes
stored-none pa value bytes =
    fun_ext
    (λ a. stored-outside pa 0 value a bytes
    (elim (cases_lt a pa) [ inl before ↦ inl before | inr after ↦ inr (omega arith) ]))

-- the byte at the place is put
stored-here : (pa value : ℕ) (bytes : Bytes) → value < 256 → bytes_after_store pa 1 value bytes pa ≡ value
stored-here pa value bytes small =
    let start : pa + 0 ≡ pa = omega arith in
    ap (bytes_after_store pa 1 value bytes) (sym start) ∙ stored-inside pa 1 value 0 bytes (omega arith)
    ∙ ap (λ v. v % 256) (div-one value) ∙ mod-eq_of_lt small

aside : (at pa : ℕ) → (at ≡ pa → ⊥) → (at < pa) ⊎ (pa + 1 ≤ at)
aside at pa apart = elim (cases_lt at pa) [ inl before ↦ inl before | inr after ↦ inr (omega arith) ]

-- one byte is put
pub stored-byte : (pa value at : ℕ) (bytes : Bytes) → value < 256
    → bytes_after_store pa 1 value bytes at ≡ (if at == pa then value else bytes at)
stored-byte pa value at bytes small = elim (cases_eq at pa) [
  | inl same ↦ rw (same, eq_same pa) (stored-here pa value bytes small)
  | inr apart ↦ rw (eq_other at pa apart) (stored-outside pa 1 value at bytes (aside at pa apart))
]

-- one more byte is put
pub stored-more : (pa k value byte : ℕ) (bytes : Bytes) → byte ≡ value / 256 ^ k % 256 → byte < 256
    → bytes_after_store (pa + k) 1 byte (bytes_after_store pa k value bytes) ≡ bytes_after_store pa (k + 1) value bytes
stored-more pa k value byte bytes is small = fun_ext at
  where
    inside : (j : ℕ) → j < k
        → bytes_after_store pa k value bytes (pa + j) ≡ bytes_after_store pa (k + 1) value bytes (pa + j)
    inside j below = stored-inside pa k value j bytes below ∙ sym (stored-inside pa (k + 1) value j bytes (omega arith))

    other : (a : ℕ) → (a ≡ pa + k → ⊥)
        → bytes_after_store pa k value bytes a ≡ bytes_after_store pa (k + 1) value bytes a
    other a apart = elim (cases_lt a pa) [
      | inl before ↦
          stored-outside pa k value a bytes (inl before) ∙ sym (stored-outside pa (k + 1) value a bytes (inl before))
      | inr after ↦ elim (cases_lt a (pa + k)) [
        | inl within ↦
            let j : pa + (a - pa) ≡ a = omega arith in
            let P : ℕ → Type 0 =
            λ n. bytes_after_store pa k value bytes n ≡ bytes_after_store pa (k + 1) value bytes n in
            subst P j (inside (a - pa) (omega arith))
        | inr past ↦
            stored-outside pa k value a bytes (inr past)
            ∙ sym (stored-outside pa (k + 1) value a bytes (inr (omega arith)))
      ]
    ]

    at : (a : ℕ)
        → bytes_after_store (pa + k) 1 byte (bytes_after_store pa k value bytes) a
        ≡ bytes_after_store pa (k + 1) value bytes a
    at a = elim (cases_eq a (pa + k)) [
      | inl same ↦
          rw same (stored-here (pa + k) byte (bytes_after_store pa k value bytes) small ∙ is
          ∙ sym (stored-inside pa (k + 1) value k bytes (omega arith)))
      | inr apart ↦
          stored-outside (pa + k) 1 byte a (bytes_after_store pa k value bytes) (aside a (pa + k) apart) ∙ other a apart
    ]

-- one more byte of a number is left over
pub rest_more : (value k rest : ℕ) → rest ≡ value / 256 ^ k → rest / 256 ≡ value / 256 ^ (k + 1)
rest_more value k rest is = rw (is, div-div-eq-div-mul value (256 ^ k) 256) (ap (λ d. value / d) (sym (pow-more k)))
  where
    pow-more : (k : ℕ) → 256 ^ (k + 1) ≡ 256 ^ k * 256
    pow-more k = let next : k + 1 ≡ suc k = omega arith in rw next (pow-suc 256 k)

-- the number read so far, with one more byte below it
pub number_at-more : (pa k n : ℕ) (bytes : Bytes) → n ≡ k + 1
    → number_at bytes pa n ≡ number_at bytes (pa + 1) k * 256 + bytes pa
unfolding number_at
number_at-more pa k n bytes is = let next : n ≡ suc k = omega arith in rw next (omega arith)

-- all of a number within a page
pub same_page : (pa len k : ℕ) → pa % 4096 + len ≤ 4096 → k < len → (pa + k) / 4096 ≡ pa / 4096
same_page pa len k inside below = grind arith

-- a number of fewer bytes, with one more, fits
pub number_grows : (n b k : ℕ) → n < 256 ^ k → b < 256 → n * 256 + b < 256 ^ (k + 1)
number_grows n b k below small =
    let next : k + 1 ≡ suc k = omega arith in
    rw (next, pow-suc 256 k) (omega arith)

pub number_fits : (n b k : ℕ) → n < 256 ^ k → b < 256 → k ≤ 7 → n * 256 + b < 2 ^ 64
number_fits n b k below small few =
    let most = seven_bytes k few in
    omega (arith, most)

-- bytes from a place on, of which the first is small, are small where those after it are
pub one_more : (bytes : Bytes) (place byte at : ℕ) → bytes place ≡ byte → byte < 256 → place ≤ at
    → (place + 1 ≤ at → bytes at < 256) → bytes at < 256
one_more bytes place byte at is small from later = elim (cases_eq at place) [
  | inl same ↦ rw (same, is) small
  | inr apart ↦ later (omega (arith, from, apart))
]

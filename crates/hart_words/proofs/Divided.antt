-- Quotients, remainders and halves of products that fit a word.
use Rattle.std.proofs.Common.{◌≡◌, ◌≢◌, ℕ, zero, suc, ◌+◌, ◌-◌, ◌*◌, ◌/◌, ◌%◌, ◌^◌, ◌<◌, ◌≤◌, true, false, nat_eq}
use Rattle.std.proofs.Common.{nat_lt, arith, ◌⊎◌, refl, sym, ap, ◌∙◌, inl, inr, ℤ, pos, negsuc, ◌+ℤ◌, ◌*ℤ◌, ◌≤ℤ◌}
use Rattle.std.proofs.Common.{unsigned_abs, neg_ℤ}
use Rattle.std.specs.Int.{w64, cast_signed, cast_unsigned, int_div_euclid, int_wrap}
use Rattle.std.specs.Int.RustNames.{int_div, int_rem}
use Rattle.std.specs.Int.Signed.{mag}
use Rattle.std.proofs.lemmas.Bool.{cases_lt}
use Rattle.std.proofs.lemmas.Bool.Decides.{nat_tests}
use Rattle.std.proofs.lemmas.Int.{ints, int_wrap_fits, quot-rem, rem_below, of_z-to_z, wrapping_mul-bits}
use Rattle.std.proofs.lemmas.Int.{int_rem_euclid_is, unsigned_abs-mul}
use Rattle.std.proofs.lemmas.Nat.{div_below, mul-le, mod_below, div-add-mod'}
use Rattle.std.proofs.Math.Nat.{div-le_self, mod-le}
use Rattle.hart_words.specs.Words.{residue, quotient_signed, quotient_unsigned, remainder_signed, remainder_unsigned}
use Rattle.hart_words.specs.Words.{high_signed, high_mixed, high_unsigned}
use Rattle.hart_words.specs.WordLaws.{value, IsSignedDivision, DividesSigned, DividesUnsigned, DividesByZero, Overflows}
use Rattle.hart_words.specs.WordLaws.{HasHalves}

-- what fits a word is the signed value of its residue
wrapped : (z : ℤ) → mag z < 2 ^ 63 → cast_signed w64 (residue w64 z) ≡ z
unfolding int_wrap
wrapped z fits = int_wrap_fits w64 z (record { sfits = fits })

pos_or_negsuc : (a : ℕ) → a < 2 ^ 64
    → ((a < 2 ^ 63) × (value a ≡ pos a)) ⊎ ((2 ^ 63 ≤ a) × (value a ≡ negsuc (2 ^ 64 - suc a)))
pos_or_negsuc a h = elim (cases_lt a (2 ^ 63)) [
  | inl under ↦ let test : nat_lt a (2 ^ 63) ≡ true = grind (arith, nat_tests) in inl (under, rw test refl)
  | inr over ↦ let test : nat_lt a (2 ^ 63) ≡ false = grind (arith, nat_tests) in inr (over, rw test refl)
]

value_fits : (a : ℕ) → a < 2 ^ 64 → mag (value a) < 2 ^ 63
value_fits a h = elim (pos_or_negsuc a h) [
  | inl w ↦ rw w.1 w.0
  | inr w ↦ rw w.1 (omega (arith, w.0))
]

size_fits : (a : ℕ) → a < 2 ^ 64 → unsigned_abs (value a) ≤ 2 ^ 63
size_fits a h = elim (pos_or_negsuc a h) [
  | inl w ↦ rw w.1 (omega (arith, w.0))
  | inr w ↦ rw w.1 (omega (arith, w.0))
]

has_size : (a : ℕ) → a < 2 ^ 64 → 0 < a → 0 < unsigned_abs (value a)
has_size a h some = elim (pos_or_negsuc a h) [
  | inl w ↦ rw w.1 some
  | inr w ↦ rw w.1 (omega arith)
]

pos_is_not : (m n : ℕ) → pos m ≡ negsuc n → ⊥
pos_is_not m n e = cc

negsuc_same : (m n : ℕ) → negsuc m ≡ negsuc n → m ≡ n
negsuc_same m n e = cc

-- the word of a negative number
word_of : (a n : ℕ) → a < 2 ^ 64 → value a ≡ negsuc n → a + suc n ≡ 2 ^ 64
word_of a n h e = elim (pos_or_negsuc a h) [
  | inl w ↦ absurd (pos_is_not a n (sym w.1 ∙ e))
  | inr w ↦ omega (arith, negsuc_same _ _ (sym w.1 ∙ e), w.0)
]

mag_neg : (n m : ℕ) → n ≤ suc m → mag (neg_ℤ (pos n)) ≤ m
mag_neg zero m h = omega arith
mag_neg (suc n) m h = omega arith

quotient_fits : (x y : ℤ) → mag x < 2 ^ 63 → (y ≡ negsuc 0 → x ≢ negsuc (2 ^ 63 - 1)) → mag (int_div x y) < 2 ^ 63
quotient_fits (pos a) (pos b) fits but = let less : a / b ≤ a = div-le_self a b in omega arith
quotient_fits (pos a) (negsuc b) fits but =
    let less : a / suc b ≤ a = div-le_self a (suc b) in
    let small : mag (neg_ℤ (pos (a / suc b))) ≤ a = mag_neg (a / suc b) a (omega arith) in
    omega arith
quotient_fits (negsuc a) (pos b) fits but =
    let less : suc a / b ≤ suc a = div-le_self (suc a) b in
    let small : mag (neg_ℤ (pos (suc a / b))) ≤ a = mag_neg (suc a / b) a less in
    omega arith
quotient_fits (negsuc a) (negsuc zero) fits but =
    let differs : a ≢ 2 ^ 63 - 1 = λ e. but refl (ap negsuc e) in
    div_below (suc a) 1 (2 ^ 63) (omega arith) (omega arith)
quotient_fits (negsuc a) (negsuc (suc b)) fits but =
    div_below (suc a) (suc (suc b)) (2 ^ 63) (omega arith) (omega arith)

remainder_fits : (x y : ℤ) → mag x < 2 ^ 63 → mag (int_rem x y) < 2 ^ 63
remainder_fits (pos a) y fits = let less : a % unsigned_abs y ≤ a = mod-le a (unsigned_abs y) in omega arith
remainder_fits (negsuc a) y fits =
    let less : suc a % unsigned_abs y ≤ suc a = mod-le (suc a) (unsigned_abs y) in
    let small : mag (neg_ℤ (pos (suc a % unsigned_abs y))) ≤ a = mag_neg (suc a % unsigned_abs y) a less in
    omega arith

keeps_not_negative : (x y : ℤ) → pos 0 ≤ℤ x → pos 0 ≤ℤ int_rem x y
keeps_not_negative (pos a) y h = omega (arith, ints)
keeps_not_negative (negsuc a) y h = absurd (omega (arith, ints))

keeps_not_positive : (x y : ℤ) → x ≤ℤ pos 0 → int_rem x y ≤ℤ pos 0
keeps_not_positive (pos a) y h = let less : a % unsigned_abs y ≤ a = mod-le a (unsigned_abs y) in omega (arith, ints)
keeps_not_positive (negsuc a) y h = omega (arith, ints)

parts : (x y q r : ℤ) → q ≡ int_div x y → r ≡ int_rem x y → 0 < unsigned_abs y → IsSignedDivision x y q r
parts x y q r e f some =
    rw (e, f) (record {
      whole = quot-rem x y;
      smaller = rem_below x y some;
      not_negative =
          keeps_not_negative x y;
      not_positive = keeps_not_positive x y;
    })

pub divided : DividesSigned
unfolding quotient_signed remainder_signed
divided a b low high some but =
    let test : nat_eq b 0 ≡ false = grind (arith, nat_tests) in
    let q : quotient_signed w64 a b ≡ residue w64 (int_div (value a) (value b)) = rw test refl in
    let r : remainder_signed w64 a b ≡ residue w64 (int_rem (value a) (value b)) = rw test refl in
    let fits : mag (value a) < 2 ^ 63 = value_fits a low in
    let apart : value b ≡ negsuc 0 → value a ≢ negsuc (2 ^ 63 - 1) =
    λ e f. but (omega (arith, word_of b 0 high e)) (omega (arith, word_of a (2 ^ 63 - 1) low f)) in
    parts (value a) (value b) _ _
    (ap value q ∙ wrapped (int_div (value a) (value b)) (quotient_fits (value a) (value b) fits apart))
    (ap value r ∙ wrapped (int_rem (value a) (value b)) (remainder_fits (value a) (value b) fits))
    (has_size b high some)

pub divided_unsigned : DividesUnsigned
unfolding quotient_unsigned remainder_unsigned
divided_unsigned a b some =
    let test : nat_eq b 0 ≡ false = grind (arith, nat_tests) in
    rw test (div-add-mod' a b, mod_below a b some)

pub by_zero : (a : ℕ) → DividesByZero a
unfolding quotient_signed remainder_signed quotient_unsigned remainder_unsigned
by_zero a =
    record { signed_quotient = refl; signed_remainder = refl; unsigned_quotient = refl; unsigned_remainder = refl }

pub overflows : Overflows
unfolding quotient_signed remainder_signed
overflows = (refl, refl)

-- a whole number over 2 ^ 64
euclid : (z : ℤ) → int_div_euclid z (pos (2 ^ 64)) *ℤ pos (2 ^ 64) +ℤ pos (residue w64 z) ≡ z
euclid (pos n) = omega (arith, ints)
euclid (negsuc n) = omega (arith, ints)

high_fits : (z : ℤ) → unsigned_abs z < 2 ^ 127 → mag (int_div_euclid z (pos (2 ^ 64))) < 2 ^ 63
high_fits (pos n) h = omega arith
high_fits (negsuc n) h = omega arith

pub residue_below : (z : ℤ) → residue w64 z < 2 ^ 64
residue_below (pos n) = omega arith
residue_below (negsuc n) = omega arith

-- the product of two words as numbers of either kind, and its residue
low_signed : (a b : ℕ) → a < 2 ^ 64 → b < 2 ^ 64 → a * b % 2 ^ 64 ≡ residue w64 (value a *ℤ value b)
unfolding int_wrap
low_signed a b low high =
    let below : a * b % 2 ^ 64 < 2 ^ 64 = omega arith in
    sym (of_z-to_z w64 (a * b % 2 ^ 64) below) ∙ ap (cast_unsigned w64) (wrapping_mul-bits w64 a b low high)
    ∙ of_z-to_z w64 _ (residue_below (value a *ℤ value b))

difference : (m k j : ℕ) → m + j ≡ k → neg_ℤ (pos m) +ℤ pos k ≡ pos j
difference m k j e = omega (arith, ints)

minus : (a b n : ℕ) → a + suc n ≡ 2 ^ 64 → negsuc n *ℤ pos b +ℤ pos (b * 2 ^ 64) ≡ pos (a * b)
minus a b n e =
    let scaled : (a + suc n) * b ≡ 2 ^ 64 * b = ap (λ s. s * b) e in
    difference (suc n * b) (b * 2 ^ 64) (a * b) (omega arith)

low_mixed : (a b : ℕ) → a < 2 ^ 64 → a * b % 2 ^ 64 ≡ residue w64 (value a *ℤ pos b)
low_mixed a b low = elim (pos_or_negsuc a low) [
  | inl w ↦ rw w.1 refl
  | inr w ↦
      rw w.1 (sym (ap unsigned_abs (int_rem_euclid_is _ (pos (2 ^ 64)) (2 ^ 64) b (a * b) (omega arith) refl
      (minus a b (2 ^ 64 - suc a) (omega arith)))))
]

size : (x y : ℤ) (m n : ℕ) → unsigned_abs x ≤ m → unsigned_abs y ≤ n → m * n < 2 ^ 127 → unsigned_abs (x *ℤ y) < 2 ^ 127
size x y m n p q h =
    let less : unsigned_abs x * unsigned_abs y ≤ m * n = mul-le _ _ m n p q in rw (unsigned_abs-mul x y) (omega arith)

joined : (z : ℤ) (h l : ℕ) → value h ≡ int_div_euclid z (pos (2 ^ 64)) → l ≡ residue w64 z
    → value h *ℤ pos (2 ^ 64) +ℤ pos l ≡ z
joined z h l e f = rw (e, f) (euclid z)

halves_of : (z : ℤ) (l : ℕ) → unsigned_abs z < 2 ^ 127 → l ≡ residue w64 z
    → value (residue w64 (int_div_euclid z (pos (2 ^ 64)))) *ℤ pos (2 ^ 64) +ℤ pos l ≡ z
halves_of z l fits low = joined z _ l (wrapped (int_div_euclid z (pos (2 ^ 64))) (high_fits z fits)) low

pub halves : (a b : ℕ) → a < 2 ^ 64 → b < 2 ^ 64 → HasHalves a b
unfolding high_signed high_mixed high_unsigned
halves a b low high = record {
  signed =
      halves_of (value a *ℤ value b) _
      (size (value a) (value b) (2 ^ 63) (2 ^ 63) (size_fits a low) (size_fits b high) (omega arith))
      (low_signed a b low high);
  mixed =
      halves_of (value a *ℤ pos b) _
      (size (value a) (pos b) (2 ^ 63) (2 ^ 64 - 1) (size_fits a low) (omega arith) (omega arith)) (low_mixed a b low);
  unsigned = div-add-mod' (a * b) (2 ^ 64);
}

-- A quotient of significands stands for the quotient of the numbers.
use Rattle.std.proofs.Common.{◌≡◌, ℕ, suc, ◌+◌, ◌-◌, ◌*◌, ◌/◌, ◌%◌, ◌^◌, ◌<◌, ◌≤◌, refl, sym, ap, ◌∙◌, subst}
use Rattle.std.proofs.Common.{arith}
use Rattle.std.proofs.Common.{inl, inr, Bool, mul-le-mul_right, mul_assoc, mul_comm, mul_left_comm}
use Rattle.std.proofs.Common.{mul-pos, mul-lt-mul_of_pos_right}
use Rattle.std.proofs.lemmas.Bool.{cases_lt}
use Rattle.std.proofs.lemmas.Nat.{leading_top}
use Rattle.std.proofs.Math.Pow.{pow-add, pow_pos, pow_mono}
use Rattle.std.specs.Int.Count.{count_leading_zeros}
use Rattle.float_rounding.specs.declared.format.Format.{Format}
use Rattle.float_rounding.specs.declared.format.RoundingMode.{RoundingMode}
use Rattle.float_rounding.specs.Formats.{fraction_bits}
use Rattle.float_rounding.specs.Rounding.{rounded}
use Rattle.std.proofs.Common.{not, nat_eq, div-add-mod'}
use Rattle.std.proofs.lemmas.Nat.{mod_below}
use Rattle.float_rounding.specs.Sticky.{StandsFor, Rounds}
use Rattle.rv_float.specs.Significands.{with_sticky, IsWordOf}
use Rattle.rv_float.proofs.Sticky.{scaled, divided}
use Rattle.float_rounding.proofs.Digits.{few_bits}
use Rattle.float_rounding.proofs.Rounds.{rounds, same_value}

pub word_is : (m k n j : ℕ) → 0 < m → m < 2 ^ 64 → n ≡ m * 2 ^ count_leading_zeros 64 m % 2 ^ 64
    → j ≡ k + 64 - count_leading_zeros 64 m → IsWordOf m k n j
word_is m k n j some fits is power =
    let t = leading_top 64 m some fits in
    let shift = count_leading_zeros 64 m in
    let at : t.0 + shift ≡ 63 = omega (arith, t.1) in
    let at' : suc t.0 + shift ≡ 64 = omega (arith, t.1) in
    let sum : shift + j ≡ k + 64 = omega (arith, t.1) in
    let low : 2 ^ t.0 * 2 ^ shift ≡ 2 ^ 63 = sym (pow-add 2 t.0 shift) ∙ ap (λ (k : ℕ). 2 ^ k) at in
    let high : 2 ^ suc t.0 * 2 ^ shift ≡ 2 ^ 64 = sym (pow-add 2 (suc t.0) shift) ∙ ap (λ (k : ℕ). 2 ^ k) at' in
    let least : 2 ^ t.0 * 2 ^ shift ≤ m * 2 ^ shift = mul-le-mul_right (2 ^ shift) t.2 in
    let most : m * 2 ^ shift < 2 ^ suc t.0 * 2 ^ shift = mul-lt-mul_of_pos_right t.3 (pow_pos shift) in
    let whole : n ≡ m * 2 ^ shift = omega arith in
    record {
      least = omega arith;
      most = omega arith;
      same = ap (λ (k : ℕ). k * 2 ^ j) whole ∙ mul_assoc m (2 ^ shift) (2 ^ j)
          ∙ ap (λ (k : ℕ). m * k) (sym (pow-add 2 shift j) ∙ ap (λ (k : ℕ). 2 ^ k) sum);
      power = omega arith;
    }

many : (p q b num : ℕ) → p ≤ 60 → b < 2 ^ 64 → 2 ^ 127 ≤ num → num < q * b + b → 2 ^ (p + 2) ≤ q
many p q b num few small large next = elim (cases_lt q (2 ^ 62)) [
  | inl less ↦
      let most : q * b ≤ 2 ^ 62 * b = mul-le-mul_right b (omega arith) in
      absurd (omega arith)
  | inr enough ↦
      let most : 2 ^ (p + 2) ≤ 2 ^ 62 = pow_mono {i = p + 2} {j = 62} (omega arith) in
      omega arith
]

with_digits : (p q u num : ℕ) → StandsFor q u num → 2 ^ (p + 2) ≤ q → Rounds p q u num
with_digits p q u num (inl same) h = inl same
with_digits p q u num (inr near) h = inr (near, h)

swapped : (a w i u : ℕ) → a * w * (i * u) ≡ a * i * (w * u)
swapped a w i u = simp (mul_assoc, mul_comm, mul_left_comm)

gathered : (x w u : ℕ) → x * w * (w * u) ≡ x * u * (w * w)
gathered x w u = simp (mul_assoc, mul_comm, mul_left_comm)

turned : (j w b : ℕ) → j * w * b ≡ b * j * w
turned j w b = simp (mul_assoc, mul_comm, mul_left_comm)

numerator : (a i m k u : ℕ) → a * 2 ^ i ≡ m * 2 ^ (k + 64) → a * 2 ^ 64 * 2 ^ (i + u) ≡ m * 2 ^ k * 2 ^ u * 2 ^ 128
numerator a i m k u same =
    let w = 2 ^ 64 in
    let r : 2 ^ 128 ≡ w * w = refl in
    let x : a * w * 2 ^ (i + u) ≡ a * 2 ^ i * (w * 2 ^ u) = ap (λ (n : ℕ). a * w * n) (pow-add 2 i u)
    ∙ swapped a w (2 ^ i) (2 ^ u) in
    let y : a * 2 ^ i ≡ m * 2 ^ k * w = same ∙ ap (λ (n : ℕ). m * n) (pow-add 2 k 64) ∙ sym (mul_assoc m (2 ^ k) w) in
    x ∙ ap (λ (n : ℕ). n * (w * 2 ^ u)) y ∙ gathered (m * 2 ^ k) w (2 ^ u)

denominator : (b j m k : ℕ) → b * 2 ^ j ≡ m * 2 ^ (k + 64) → 2 ^ (j + 64) * b ≡ m * 2 ^ k * 2 ^ 128
denominator b j m k same =
    let w = 2 ^ 64 in
    let x : 2 ^ (j + 64) * b ≡ b * 2 ^ j * w = ap (λ (n : ℕ). n * b) (pow-add 2 j 64) ∙ turned (2 ^ j) w b in
    let y : b * 2 ^ j ≡ m * 2 ^ k * w = same ∙ ap (λ (n : ℕ). m * n) (pow-add 2 k 64) ∙ sym (mul_assoc m (2 ^ k) w) in
    x ∙ ap (λ (n : ℕ). n * w) y ∙ mul_assoc (m * 2 ^ k) w w

-- a and b are the significands of A and B, u is the unit's exponent
pub quotient_rounds : (f : Format) (mode : RoundingMode) (negative : Bool) (m k m' k' a i b j u q : ℕ)
    → IsWordOf m k a i → IsWordOf m' k' b j → 0 < m' → StandsFor q b (a * 2 ^ 64)
    → rounded f mode negative (q * 2 ^ (i + u)) (2 ^ (j + 64)) ≡ rounded f mode negative (m * 2 ^ k * 2 ^ u)
    (m' * 2 ^ k')
quotient_rounds f mode negative m k m' k' a i b j u q one other some stands =
    let p = fraction_bits f in
    let e = i + u in
    let num = a * 2 ^ 64 * 2 ^ e in
    let few : p ≤ 60 = omega (arith, few_bits f) in
    let unit : b * 2 ^ e ≡ 2 ^ e * b = mul_comm b (2 ^ e) in
    let b_pos : 0 < b = omega (arith, other.least) in
    let scaled_up : StandsFor q (b * 2 ^ e) num = scaled q b (a * 2 ^ 64) (2 ^ e) (pow_pos e) stands in
    let rounds_q : Rounds p q (2 ^ e * b) num = subst (λ (n : ℕ). Rounds p q n num) unit
    (elim stands [
      | inl same ↦ inl (sym (mul_assoc q b (2 ^ e)) ∙ ap (λ (n : ℕ). n * 2 ^ e) same)
      | inr near ↦ with_digits p q (b * 2 ^ e) num scaled_up
          (many p q b (a * 2 ^ 64) few other.most (omega (arith, one.least)) near.2)
    ]) in
    let top : num ≡ m * 2 ^ k * 2 ^ u * 2 ^ 128 = numerator a i m k u one.same in
    let bottom : 2 ^ (j + 64) * b ≡ m' * 2 ^ k' * 2 ^ 128 = denominator b j m' k' other.same in
    rounds f mode negative q e (j + 64) b num b_pos rounds_q
    ∙ (λ z. rounded f mode negative (top z) (bottom z))
    ∙ sym (same_value f mode negative (m * 2 ^ k * 2 ^ u) (m' * 2 ^ k') (2 ^ 128) (mul-pos some (pow_pos k'))
    (pow_pos 128))

pub quotient_stands : (a b n d q : ℕ) → n ≡ a → d ≡ b → a < 2 ^ 64 → 0 < b
    → q ≡ with_sticky (n * 2 ^ 64 % 2 ^ 128 / d) (not (nat_eq (n * 2 ^ 64 % 2 ^ 128 % d) 0))
    → StandsFor q b (a * 2 ^ 64)
quotient_stands a b n d q same_a same_b small some is =
    let top : n * 2 ^ 64 % 2 ^ 128 ≡ a * 2 ^ 64 = omega arith in
    let num = a * 2 ^ 64 in
    let whole : q ≡ with_sticky (num / b) (not (nat_eq (num % b) 0)) =
    is ∙ (λ i. with_sticky (top i / same_b i) (not (nat_eq (top i % same_b i) 0))) in
    subst (λ (m : ℕ). StandsFor m b num) (sym whole)
    (divided (num / b) (num % b) b num _ (sym (div-add-mod' num b)) (mod_below num b some) refl)

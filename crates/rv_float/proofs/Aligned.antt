-- The sum of two aligned terms is the exact sum, rounded.
use Rattle.std.proofs.Common.{◌≡◌, ℕ, ◌+◌, ◌-◌, ◌*◌, ◌^◌, ◌<◌, ◌≤◌, refl, sym, ap, ◌∙◌}
use Rattle.std.proofs.Common.{arith}
use Rattle.std.proofs.Common.{inl, inr, Bool, true, false, add_comm}
use Rattle.std.proofs.lemmas.Bool.{lt-ltb, le-ltb, cases_Bool, cases_order}
use Rattle.std.proofs.Common.{mul-pos, mul-lt-mul_of_pos_right, le_of_lt, zero-mul, add-mul, sub-add_cancel}
use Rattle.std.proofs.Common.{mul_assoc}
use Rattle.std.proofs.Math.Pow.{pow_pos, pow-add}
use Rattle.float_rounding.specs.declared.format.Format.{Format}
use Rattle.float_rounding.specs.declared.format.RoundingMode.{RoundingMode}
use Rattle.float_rounding.specs.Formats.{fraction_bits}
use Rattle.float_rounding.specs.Rounding.{rounded}
use Rattle.float_rounding.specs.Sticky.{StandsFor}
use Rattle.rv_float.specs.Significands.{IsHigh, IsNormalOf}
use Rattle.rv_float.specs.Arithmetic.{unlike}
use Rattle.rv_float.specs.Sums.{is_down, sum_of}
use Rattle.rv_float.proofs.Sticky.{Slight, slight, plus, less, over, equal}
use Rattle.float_rounding.proofs.Rounds.{rounds_one, same_value, zero_value}
use Rattle.float_rounding.proofs.Digits.{few_bits}

-- the four ways of a sum
pub like : (f : Format) (mode : RoundingMode) (s : Bool) (a : ℕ) (t : Bool) (b den : ℕ) → unlike s t ≡ false
    → sum_of f mode s a t b den ≡ rounded f mode s (a + b) den
like f mode s a t b den test = rw test refl

pub under : (f : Format) (mode : RoundingMode) (s : Bool) (a : ℕ) (t : Bool) (b den : ℕ) → unlike s t ≡ true → a < b
    → sum_of f mode s a t b den ≡ rounded f mode t (b - a) den
under f mode s a t b den test less = rw (test, lt-ltb a b less) refl

pub above : (f : Format) (mode : RoundingMode) (s : Bool) (a : ℕ) (t : Bool) (b den : ℕ) → unlike s t ≡ true → b < a
    → sum_of f mode s a t b den ≡ rounded f mode s (a - b) den
above f mode s a t b den test less = rw (test, le-ltb a b (omega arith), lt-ltb b a less) refl

pub level : (f : Format) (mode : RoundingMode) (s : Bool) (a : ℕ) (t : Bool) (b den : ℕ) → unlike s t ≡ true → a ≡ b
    → sum_of f mode s a t b den ≡ rounded f mode (is_down mode) 0 den
level f mode s a t b den test same = rw (test, le-ltb a b (omega arith), le-ltb b a (omega arith)) refl

module _ (f : Format) (mode : RoundingMode) (s t : Bool) (x i y j c small : ℕ)
    (x_high : IsHigh x) (y_high : IsHigh y) (order : j ≤ i) (stands : StandsFor small (2 ^ (i - j)) y) where
  few : fraction_bits f ≤ 60
  few = omega (arith, few_bits f)

  is : Slight small (2 ^ i) (y * 2 ^ j)
  is = slight small (i - j) i j y y_high stands (omega arith)

  pub aligned_like : unlike s t ≡ false
      → rounded f mode s ((x + small) * 2 ^ i) (2 ^ c) ≡ sum_of f mode s (x * 2 ^ i) t (y * 2 ^ j) (2 ^ c)
  aligned_like test =
      rounds_one f mode s (x + small) i c (x * 2 ^ i + y * 2 ^ j)
      (plus (fraction_bits f) x small (2 ^ i) (y * 2 ^ j) few x_high is)
      ∙ sym (like f mode s (x * 2 ^ i) t (y * 2 ^ j) (2 ^ c) test)

  pub aligned_above : unlike s t ≡ true → small < x
      → rounded f mode s ((x - small) * 2 ^ i) (2 ^ c) ≡ sum_of f mode s (x * 2 ^ i) t (y * 2 ^ j) (2 ^ c)
  aligned_above test h =
      let l = less (fraction_bits f) x small (2 ^ i) (y * 2 ^ j) few (pow_pos i) x_high h is in
      rounds_one f mode s (x - small) i c (x * 2 ^ i - y * 2 ^ j) l.1
      ∙ sym (above f mode s (x * 2 ^ i) t (y * 2 ^ j) (2 ^ c) test l.0)

  pub aligned_under : unlike s t ≡ true → x < small
      → rounded f mode t ((small - x) * 2 ^ i) (2 ^ c) ≡ sum_of f mode s (x * 2 ^ i) t (y * 2 ^ j) (2 ^ c)
  aligned_under test h =
      let l = over (fraction_bits f) x small (2 ^ i) (y * 2 ^ j) (pow_pos i) x_high h is in
      rounds_one f mode t (small - x) i c (y * 2 ^ j - x * 2 ^ i) l.1
      ∙ sym (under f mode s (x * 2 ^ i) t (y * 2 ^ j) (2 ^ c) test l.0)

  pub aligned_level : unlike s t ≡ true → small ≡ x
      → rounded f mode (is_down mode) (0 * 2 ^ i) (2 ^ c) ≡ sum_of f mode s (x * 2 ^ i) t (y * 2 ^ j) (2 ^ c)
  aligned_level test same =
      let none : 0 * 2 ^ i ≡ 0 = omega arith in
      ap (λ (n : ℕ). rounded f mode (is_down mode) n (2 ^ c)) none
      ∙ sym (level f mode s (x * 2 ^ i) t (y * 2 ^ j) (2 ^ c) test (equal x small (2 ^ i) (y * 2 ^ j) x_high same is))

-- the order of the terms is free
unlike_turned : (s t : Bool) → unlike s t ≡ unlike t s
unlike_turned true true = refl
unlike_turned true false = refl
unlike_turned false true = refl
unlike_turned false false = refl

same_sign : (s t : Bool) → unlike s t ≡ false → s ≡ t
same_sign true true e = refl
same_sign false false e = refl
same_sign true false e = cc
same_sign false true e = cc

pub turned : (f : Format) (mode : RoundingMode) (s : Bool) (a : ℕ) (t : Bool) (b den : ℕ)
    → sum_of f mode s a t b den ≡ sum_of f mode t b s a den
turned f mode s a t b den = elim (cases_Bool (unlike s t)) [
  | inl differs ↦
      let differs2 : unlike t s ≡ true = sym (unlike_turned s t) ∙ differs in
      elim (cases_order a b) [
        | inl same ↦ level f mode s a t b den differs same ∙ sym (level f mode t b s a den differs2 (sym same))
        | inr (inl h) ↦ under f mode s a t b den differs h ∙ sym (above f mode t b s a den differs2 h)
        | inr (inr h) ↦ above f mode s a t b den differs h ∙ sym (under f mode t b s a den differs2 h)
      ]
  | inr agrees ↦
      like f mode s a t b den agrees ∙ ap (λ (x : Bool). rounded f mode x (a + b) den) (same_sign s t agrees)
      ∙ ap (λ (n : ℕ). rounded f mode t n den) (add_comm a b)
      ∙ sym (like f mode t b s a den (sym (unlike_turned s t) ∙ agrees))
]

-- terms in other units
pub scaled : (f : Format) (mode : RoundingMode) (s : Bool) (a : ℕ) (t : Bool) (b den w : ℕ) → 0 < den → 0 < w
    → sum_of f mode s (a * w) t (b * w) (den * w) ≡ sum_of f mode s a t b den
scaled f mode s a t b den w pos some = elim (cases_Bool (unlike s t)) [
  | inl differs ↦ elim (cases_order a b) [
    | inl same ↦
        level f mode s (a * w) t (b * w) (den * w) differs (ap (λ (n : ℕ). n * w) same)
        ∙ zero_value f mode (is_down mode) (den * w) den (mul-pos pos some) pos
        ∙ sym (level f mode s a t b den differs same)
    | inr (inl h) ↦
        under f mode s (a * w) t (b * w) (den * w) differs (mul-lt-mul_of_pos_right h some)
        ∙ ap (λ (n : ℕ). rounded f mode t n (den * w)) (apart a b w (le_of_lt h))
        ∙ sym (same_value f mode t (b - a) den w pos some) ∙ sym (under f mode s a t b den differs h)
    | inr (inr h) ↦
        above f mode s (a * w) t (b * w) (den * w) differs (mul-lt-mul_of_pos_right h some)
        ∙ ap (λ (n : ℕ). rounded f mode s n (den * w)) (apart b a w (le_of_lt h))
        ∙ sym (same_value f mode s (a - b) den w pos some) ∙ sym (above f mode s a t b den differs h)
  ]
  | inr agrees ↦
      like f mode s (a * w) t (b * w) (den * w) agrees
      ∙ ap (λ (n : ℕ). rounded f mode s n (den * w)) (sym (add-mul a b w))
      ∙ sym (same_value f mode s (a + b) den w pos some) ∙ sym (like f mode s a t b den agrees)
]
  where
    apart : (a b w : ℕ) → a ≤ b → b * w - a * w ≡ (b - a) * w
    apart a b w h =
        let d : (b - a) * w + a * w ≡ b * w = sym (add-mul (b - a) a w) ∙ ap (λ (n : ℕ). n * w) (sub-add_cancel h) in
        omega arith

-- with both terms high, 128 powers up
pub normal_sum : (f : Format) (mode : RoundingMode) (s t : Bool) (m e n i m' e' n' i' c : ℕ) → IsNormalOf m e n i
    → IsNormalOf m' e' n' i'
    → sum_of f mode s (n * 2 ^ i) t (n' * 2 ^ i') (2 ^ (c + 128)) ≡ sum_of f mode s (m * 2 ^ e) t (m' * 2 ^ e')
    (2 ^ c)
normal_sum f mode s t m e n i m' e' n' i' c one other =
    let a : n * 2 ^ i ≡ m * 2 ^ e * 2 ^ 128 = one.same ∙ ap (λ (k : ℕ). m * k) (pow-add 2 e 128)
    ∙ sym (mul_assoc m (2 ^ e) (2 ^ 128)) in
    let b : n' * 2 ^ i' ≡ m' * 2 ^ e' * 2 ^ 128 = other.same ∙ ap (λ (k : ℕ). m' * k) (pow-add 2 e' 128)
    ∙ sym (mul_assoc m' (2 ^ e') (2 ^ 128)) in
    (λ k. sum_of f mode s (a k) t (b k) (pow-add 2 c 128 k))
    ∙ scaled f mode s (m * 2 ^ e) t (m' * 2 ^ e') (2 ^ c) (2 ^ 128) (pow_pos c) (pow_pos 128)

pub left_zero : (f : Format) (mode : RoundingMode) (s : Bool) (a : ℕ) (t : Bool) (b den : ℕ) → a ≡ 0 → 0 < b
    → rounded f mode t b den ≡ sum_of f mode s a t b den
left_zero f mode s a t b den none some = elim (cases_Bool (unlike s t)) [
  | inl differs ↦
      let whole : b ≡ b - a = omega arith in
      ap (λ (n : ℕ). rounded f mode t n den) whole ∙ sym (under f mode s a t b den differs (omega arith))
  | inr agrees ↦
      let whole : b ≡ a + b = omega arith in
      ap (λ (n : ℕ). rounded f mode t n den) whole
      ∙ ap (λ (x : Bool). rounded f mode x (a + b) den) (sym (same_sign s t agrees))
      ∙ sym (like f mode s a t b den agrees)
]

pub powers : (m e : ℕ) → 0 < m → 0 < m * 2 ^ e
powers m e some = mul-pos some (pow_pos e)

pub no_power : (m e : ℕ) → m ≡ 0 → m * 2 ^ e ≡ 0
no_power m e none = ap (λ (n : ℕ). n * 2 ^ e) none ∙ zero-mul (2 ^ e)

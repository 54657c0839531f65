-- The order of numbers is that of their bits.
use Rattle.std.proofs.Common.{◌≡◌, ℕ, zero, suc, ◌-◌, ◌/◌, ◌%◌, ◌^◌, ◌<◌, ◌≤◌, refl, sym, ap, ◌∙◌}
use Rattle.std.proofs.Common.{arith}
use Rattle.std.proofs.Common.{inl, inr, Bool, true, false, if◌then◌else◌, nat_lt, nat_eq, not, ◌||◌, ◌&&◌}
use Rattle.std.proofs.Common.{pos, neg_ℤ}
use Rattle.std.specs.Prelude.{int_lt}
use Rattle.std.proofs.lemmas.Bool.{cases_lt, cases_order, lt-ltb, le-ltb, eq-eqb, ne_eqb}
use Rattle.float_rounding.specs.declared.format.Format.{Format}
use Rattle.float_rounding.specs.Formats.{finite, infinite, quiet, signaling, units_at, magnitude_value}
use Rattle.float_rounding.specs.Formats.{infinity, fraction_bits}
use Rattle.rv_float.specs.Arithmetic.{signals}
use Rattle.rv_float.specs.Comparisons.{number_of, is_below, bits_below, is_nan}
use Rattle.rv_float.specs.Choices.{is_negative}
use Rattle.std.proofs.lemmas.Nat.{pow_pos}
use Rattle.float_rounding.specs.declared.format.Format.TheVariants.{Single, Double}
use Rattle.float_rounding.proofs.Steps.{units_mono}

-- a test that a rising function keeps
kept : (p a b : ℕ) → nat_lt (units_at p a) (units_at p b) ≡ nat_lt a b
kept p a b = elim (cases_order a b) [
  | inl same ↦ le-ltb _ _ (omega (arith, ap (units_at p) same)) ∙ sym (le-ltb a b (omega arith))
  | inr (inl less) ↦ lt-ltb _ _ (units_mono p a b less) ∙ sym (lt-ltb a b less)
  | inr (inr more) ↦ le-ltb _ _ (omega (arith, units_mono p b a more)) ∙ sym (le-ltb a b (omega arith))
]

negatives : (a b : ℕ) → int_lt (neg_ℤ (pos a)) (neg_ℤ (pos b)) ≡ nat_lt b a
negatives zero zero = refl
negatives zero (suc b) = sym (le-ltb (suc b) zero (omega arith))
negatives (suc a) zero = sym (lt-ltb zero (suc a) (omega arith))
negatives (suc a) (suc b) = elim (cases_lt b a) [
  | inl less ↦ lt-ltb b a less ∙ sym (lt-ltb (suc b) (suc a) (omega arith))
  | inr more ↦ le-ltb b a more ∙ sym (le-ltb (suc b) (suc a) (omega arith))
]

apart : (a b : ℕ) → int_lt (neg_ℤ (pos a)) (pos b) ≡ (nat_lt 0 a || nat_lt 0 b)
apart zero b = ap (λ (x : Bool). x || nat_lt 0 b) (sym (le-ltb 0 0 (omega arith)))
apart (suc a) b = ap (λ (x : Bool). x || nat_lt 0 b) (sym (lt-ltb 0 (suc a) (omega arith)))

never : (a b : ℕ) → int_lt (pos a) (neg_ℤ (pos b)) ≡ false
never a zero = le-ltb a 0 (omega arith)
never a (suc b) = refl

numbers : (s t : Bool) (p x y : ℕ) → units_at p 0 ≡ 0
    → int_lt (number_of s (units_at p x)) (number_of t (units_at p y)) ≡ bits_below s x t y
numbers true true p x y none = negatives (units_at p x) (units_at p y) ∙ kept p y x
numbers true false p x y none =
    apart (units_at p x) (units_at p y)
    ∙ ap (λ (n : ℕ). nat_lt n (units_at p x) || nat_lt n (units_at p y)) (sym none)
    ∙ (λ i. kept p 0 x i || kept p 0 y i)
numbers false true p x y none = never (units_at p x) (units_at p y)
numbers false false p x y none = kept p x y

pub nothing : (p : ℕ) → units_at p 0 ≡ 0
nothing p = elim (cases_lt 0 (2 ^ p))
    [ inl some ↦ rw (lt-ltb 0 (2 ^ p) some) refl | inr none ↦ absurd (omega (arith, pow_pos p)) ]

-- the three kinds of magnitudes
pub is_finite : (f : Format) (s : Bool) (x : ℕ) → x < infinity f
    → magnitude_value f s x ≡ finite s (units_at (fraction_bits f) x)
is_finite f s x less = rw (lt-ltb x (infinity f) less) refl

pub is_infinite : (f : Format) (s : Bool) (x : ℕ) → x ≡ infinity f → magnitude_value f s x ≡ infinite s
is_infinite f s x same = rw (le-ltb x (infinity f) (omega arith), eq-eqb x (infinity f) same) refl

-- code: neither is a NaN
pub ordered : (f : Format) (s t : Bool) (x y : ℕ) → x ≤ infinity f → y ≤ infinity f
    → is_below (magnitude_value f s x) (magnitude_value f t y) ≡ bits_below s x t y
ordered f s t x y few less = elim (cases_lt x (infinity f)) [
  | inl a ↦ elim (cases_lt y (infinity f)) [
    | inl b ↦
        (λ i. is_below (is_finite f s x a i) (is_finite f t y b i))
        ∙ numbers s t (fraction_bits f) x y (nothing (fraction_bits f))
    | inr b ↦
        let e : y ≡ infinity f = omega arith in
        (λ i. is_below (is_finite f s x a i) (is_infinite f t y e i)) ∙ before s t x y (omega arith)
  ]
  | inr a ↦
      let d : x ≡ infinity f = omega arith in
      elim (cases_lt y (infinity f)) [
        | inl b ↦ (λ i. is_below (is_infinite f s x d i) (is_finite f t y b i)) ∙ after s t x y (omega arith)
        | inr b ↦
            let e : y ≡ infinity f = omega arith in
            (λ i. is_below (is_infinite f s x d i) (is_infinite f t y e i))
            ∙ ends s t x y (omega arith) (omega (arith, infinity_some f))
      ]
]
  where
    infinity_some : (f : Format) → 0 < infinity f
    infinity_some Single = omega arith
    infinity_some Double = omega arith

    before : (s t : Bool) (x y : ℕ) → x < y → not t ≡ bits_below s x t y
    before true true x y h = sym (le-ltb y x (omega arith))
    before true false x y h =
        sym (ap (λ (b : Bool). nat_lt 0 x || b) (lt-ltb 0 y (omega arith)) ∙ or_true (nat_lt 0 x))
      where
        or_true : (b : Bool) → (b || true) ≡ true
        or_true true = refl
        or_true false = refl
    before false true x y h = refl
    before false false x y h = sym (lt-ltb x y h)

    after : (s t : Bool) (x y : ℕ) → y < x → s ≡ bits_below s x t y
    after true true x y h = sym (lt-ltb y x h)
    after true false x y h = sym (ap (λ (b : Bool). b || nat_lt 0 y) (lt-ltb 0 x (omega arith)))
    after false true x y h = refl
    after false false x y h = sym (le-ltb x y (omega arith))

    ends : (s t : Bool) (x y : ℕ) → x ≡ y → 0 < x → (s && not t) ≡ bits_below s x t y
    ends true true x y h some = sym (le-ltb y x (omega arith))
    ends true false x y h some = sym (ap (λ (b : Bool). b || nat_lt 0 y) (lt-ltb 0 x some))
    ends false true x y h some = refl
    ends false false x y h some = sym (le-ltb x y (omega arith))

pub nan_is : (f : Format) (s : Bool) (x : ℕ) → is_nan (magnitude_value f s x) ≡ nat_lt (infinity f) x
nan_is f s x = elim (cases_order x (infinity f)) [
  | inl same ↦ ap is_nan (is_infinite f s x same) ∙ sym (le-ltb (infinity f) x (omega arith))
  | inr (inl less) ↦ ap is_nan (is_finite f s x less) ∙ sym (le-ltb (infinity f) x (omega arith))
  | inr (inr more) ↦
      rw (le-ltb x (infinity f) (omega arith), ne_eqb x (infinity f) (λ e. omega arith))
      (either (nat_eq (x / 2 ^ (fraction_bits f - 1) % 2) 1))
      ∙ sym (lt-ltb (infinity f) x more)
]
  where
    either : (b : Bool) → is_nan (if b then quiet else signaling) ≡ true
    either true = refl
    either false = refl

pub negative_is : (f : Format) (s : Bool) (x : ℕ) → x ≤ infinity f → is_negative (magnitude_value f s x) ≡ s
negative_is f s x few = elim (cases_lt x (infinity f)) [
  | inl less ↦ ap is_negative (is_finite f s x less)
  | inr more ↦ let e : x ≡ infinity f = omega arith in ap is_negative (is_infinite f s x e)
]

pub signals_is : (f : Format) (s : Bool) (x : ℕ)
    → signals (magnitude_value f s x) ≡ (nat_lt (infinity f) x && not (nat_eq (x / 2 ^ (fraction_bits f - 1) % 2) 1))
signals_is f s x = elim (cases_order x (infinity f)) [
  | inl same ↦ ap signals (is_infinite f s x same)
      ∙ ap (λ (b : Bool). b && not (nat_eq (x / 2 ^ (fraction_bits f - 1) % 2) 1))
      (sym (le-ltb (infinity f) x (omega arith)))
  | inr (inl less) ↦ ap signals (is_finite f s x less)
      ∙ ap (λ (b : Bool). b && not (nat_eq (x / 2 ^ (fraction_bits f - 1) % 2) 1))
      (sym (le-ltb (infinity f) x (omega arith)))
  | inr (inr more) ↦
      rw (le-ltb x (infinity f) (omega arith), ne_eqb x (infinity f) (λ e. omega arith))
      (either (nat_eq (x / 2 ^ (fraction_bits f - 1) % 2) 1))
      ∙ ap (λ (b : Bool). b && not (nat_eq (x / 2 ^ (fraction_bits f - 1) % 2) 1)) (sym (lt-ltb (infinity f) x more))
]
  where
    either : (b : Bool) → signals (if b then quiet else signaling) ≡ not b
    either true = refl
    either false = refl

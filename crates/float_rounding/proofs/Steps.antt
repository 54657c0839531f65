-- The bits of magnitudes count them upwards, and rounding is to a neighbour.
use Rattle.std.proofs.Common.{◌≡◌, ℕ, zero, suc, ◌+◌, ◌-◌, ◌*◌, ◌/◌, ◌%◌, ◌^◌, ◌<◌, ◌≤◌, refl, sym, ap, ◌∙◌, subst}
use Rattle.std.proofs.Common.{arith}
use Rattle.std.proofs.Common.{inl, inr, mul-le-mul_right, mul_assoc, mul_comm}
use Rattle.std.proofs.Common.{mul-one, add-mul, pow-suc}
use Rattle.std.proofs.Common.{lt_trans, eq-zero-or-pos, div-add-mod', mul-pos}
use Rattle.std.proofs.lemmas.Bool.{cases_lt, lt-ltb, le-ltb}
use Rattle.std.proofs.lemmas.Nat.{mod_below, pow_pos, le-div}
use Rattle.float_rounding.specs.Formats.{units_at}
use Rattle.float_rounding.specs.Rounding.{scale}
use Rattle.float_rounding.proofs.Places.{quotient, remainder}
use Rattle.float_rounding.proofs.Scales.{scale_fits, scale_full}

low : (p bits : ℕ) → bits < 2 ^ p → units_at p bits ≡ bits
low p bits small = rw (lt-ltb bits (2 ^ p) small) refl

-- e + 1 in the exponent's field, and t in the fraction's
high : (p e t : ℕ) → t < 2 ^ p → units_at p ((e + 1) * 2 ^ p + t) ≡ (2 ^ p + t) * 2 ^ e
high p e t small =
    let bits = (e + 1) * 2 ^ p + t in
    let q : bits / 2 ^ p ≡ e + 1 = quotient bits (2 ^ p) (e + 1) t refl small in
    let r : bits % 2 ^ p ≡ t = remainder bits (2 ^ p) (e + 1) t refl small in
    let over : 2 ^ p ≤ bits = omega (arith, mul-le-mul_right {m = 1} {n = e + 1} (2 ^ p) (omega arith)) in
    let less : e + 1 - 1 ≡ e = omega arith in
    rw (le-ltb bits (2 ^ p) over, q, r, less) refl

-- what rounding to t * 2 ^ k units gives
pub units_cut : (p k t : ℕ) → t < 2 ^ suc p → (0 < k → 2 ^ p ≤ t) → units_at p (k * 2 ^ p + t) ≡ t * 2 ^ k
units_cut p k t small full = elim (cases_lt t (2 ^ p)) [
  | inl few ↦
      let none : k ≡ 0 = no_scale k (λ some. omega (arith, full some)) in
      let is : k * 2 ^ p + t ≡ t = rw none (omega arith) in
      let one : t * 2 ^ k ≡ t = rw none (mul-one t) in
      ap (units_at p) is ∙ low p t few ∙ sym one
  | inr many ↦
      let rest : t - 2 ^ p < 2 ^ p = omega (arith, pow-suc 2 p) in
      let is : k * 2 ^ p + t ≡ (k + 1) * 2 ^ p + (t - 2 ^ p) = omega (arith, add-mul k 1 (2 ^ p)) in
      let back : 2 ^ p + (t - 2 ^ p) ≡ t = omega arith in
      ap (units_at p) is ∙ high p k (t - 2 ^ p) rest ∙ ap (λ (n : ℕ). n * 2 ^ k) back
]
  where
    no_scale : (k : ℕ) → (0 < k → ⊥) → k ≡ 0
    no_scale k h = elim (eq-zero-or-pos k) [ inl none ↦ none | inr some ↦ absurd (h some) ]

pub units_next : (p k t : ℕ) → t < 2 ^ suc p → (0 < k → 2 ^ p ≤ t) → units_at p (k * 2 ^ p + t + 1) ≡ (t + 1) * 2 ^ k
units_next p k t small full = elim (cases_lt (t + 1) (2 ^ suc p)) [
  | inl fits ↦
      let is : k * 2 ^ p + t + 1 ≡ k * 2 ^ p + (t + 1) = omega arith in
      ap (units_at p) is ∙ units_cut p k (t + 1) fits (λ some. omega (arith, full some))
  | inr whole ↦
      let top : t + 1 ≡ 2 ^ p + 2 ^ p = omega (arith, pow-suc 2 p) in
      let is : k * 2 ^ p + t + 1 ≡ (k + 1) * 2 ^ p + 2 ^ p = omega (arith, add-mul k 1 (2 ^ p)) in
      let twice : 2 ^ p * 2 ^ (k + 1) ≡ (2 ^ p + 2 ^ p) * 2 ^ k =
      ap (λ (n : ℕ). 2 ^ p * n) (pow_one k) ∙ spread (2 ^ p) (2 ^ k) in
      ap (units_at p) is
      ∙ units_cut p (k + 1) (2 ^ p) (omega (arith, pow-suc 2 p, pow_pos p)) (λ some. omega arith)
      ∙ twice ∙ ap (λ (n : ℕ). n * 2 ^ k) (sym top)
]
  where
    pow_one : (k : ℕ) → 2 ^ (k + 1) ≡ 2 ^ k + 2 ^ k
    pow_one k = ap (λ (n : ℕ). 2 ^ n) (one k) ∙ pow-suc 2 k ∙ two (2 ^ k)
      where
        one : (k : ℕ) → k + 1 ≡ suc k
        one k = omega arith

        two : (n : ℕ) → n * 2 ≡ n + n
        two n = omega arith

    spread : (a b : ℕ) → a * (b + b) ≡ (a + a) * b
    spread a b = omega arith

-- a value lies between two neighbours, and the bits of the lower one are what is kept
pub record Between (p num den lower : ℕ) : Type 0 where
  pub least : units_at p lower * den ≤ num
  pub most : num < units_at p (lower + 1) * den

pub between : (p num den : ℕ) → 0 < den
    → Between p num den (scale p num den * 2 ^ p + num / (den * 2 ^ scale p num den))
between p num den pos =
    let k = scale p num den in
    let gap = den * 2 ^ k in
    let t = num / gap in
    let gap_pos : 0 < gap = mul-pos pos (pow_pos k) in
    let parts : t * gap + num % gap ≡ num = div-add-mod' num gap in
    let rest : num % gap < gap = mod_below num gap gap_pos in
    let here : units_at p (k * 2 ^ p + t) * den ≡ t * gap =
    ap (λ (n : ℕ). n * den) (units_cut p k t (scale_fits p num den) (scale_full p num den)) ∙ turned t (2 ^ k) den in
    let next : units_at p (k * 2 ^ p + t + 1) * den ≡ (t + 1) * gap =
    ap (λ (n : ℕ). n * den) (units_next p k t (scale_fits p num den) (scale_full p num den))
    ∙ turned (t + 1) (2 ^ k) den in
    record { least = omega arith; most = omega (arith, add-mul t 1 gap) }
  where
    turned : (t w d : ℕ) → t * w * d ≡ t * (d * w)
    turned t w d = mul_assoc t w d ∙ ap (λ (n : ℕ). t * n) (mul_comm w d)

-- ---- the bits count upwards

-- the scale and the digits of a magnitude's bits
pub record Split (p bits : ℕ) : Type 0 where
  pub k : ℕ
  pub t : ℕ
  pub is : bits ≡ k * 2 ^ p + t
  pub small : t < 2 ^ suc p
  pub full : 0 < k → 2 ^ p ≤ t

pub split : (p bits : ℕ) → Split p bits
split p bits = elim (cases_lt bits (2 ^ p)) [
  | inl few ↦ record {
    k = 0;
    t = bits;
    is = omega arith;
    small = omega (arith, pow-suc 2 p);
    full = λ some. absurd
        (omega arith);
  }
  | inr many ↦
      let parts : bits / 2 ^ p * 2 ^ p + bits % 2 ^ p ≡ bits = div-add-mod' bits (2 ^ p) in
      let rest : bits % 2 ^ p < 2 ^ p = mod_below bits (2 ^ p) (pow_pos p) in
      let some : 1 ≤ bits / 2 ^ p = le-div 1 bits (2 ^ p) (pow_pos p) (omega arith) in
      record {
        k = bits / 2 ^ p - 1;
        t = 2 ^ p + bits % 2 ^ p;
        is = sym parts ∙ sym (regroup (bits / 2 ^ p) (2 ^ p) (bits % 2 ^ p) some);
        small = omega (arith, pow-suc 2 p);
        full = λ more. omega arith;
      }
]
  where
    regroup : (q w r : ℕ) → 1 ≤ q → (q - 1) * w + (w + r) ≡ q * w + r
    regroup q w r some =
        let one : q - 1 + 1 ≡ q = omega arith in
        let whole : (q - 1) * w + 1 * w ≡ q * w = sym (add-mul (q - 1) 1 w) ∙ ap (λ (n : ℕ). n * w) one in
        omega arith

units_step : (p bits : ℕ) → units_at p bits < units_at p (bits + 1)
units_step p bits =
    let s = split p bits in
    let here : units_at p bits ≡ s.t * 2 ^ s.k = ap (units_at p) s.is ∙ units_cut p s.k s.t s.small s.full in
    let next : units_at p (bits + 1) ≡ (s.t + 1) * 2 ^ s.k = ap (λ (n : ℕ). units_at p (n + 1)) s.is
    ∙ units_next p s.k s.t s.small s.full in
    omega (arith, add-mul s.t 1 (2 ^ s.k), pow_pos s.k)

pub units_mono : (p a b : ℕ) → a < b → units_at p a < units_at p b
units_mono p a zero h = absurd (omega arith)
units_mono p a (suc b) h =
    let step : units_at p b < units_at p (suc b) = subst (λ (n : ℕ). units_at p b < units_at p n) (one b)
    (units_step p b) in
    elim (cases_lt a b) [
      | inl less ↦ lt_trans (units_mono p a b less) step
      | inr same ↦ let e : b ≡ a = omega arith in subst (λ (n : ℕ). units_at p n < units_at p (suc b)) e step
    ]
  where
    one : (b : ℕ) → b + 1 ≡ suc b
    one b = omega arith

-- One more binade below the least normal number is enough to detect tininess.
use Rattle.std.proofs.Common.{◌≡◌, ℕ, zero, suc, ◌+◌, ◌*◌, ◌/◌, ◌%◌, ◌^◌, ◌<◌, ◌≤◌, refl, sym, ap, ◌∙◌, subst}
use Rattle.std.proofs.Common.{arith}
use Rattle.std.proofs.Common.{inl, inr, Bool, true, false, ◌==◌, nat_lt, if◌then◌else◌, mul-le-mul_right}
use Rattle.std.proofs.Common.{mul-lt-mul_of_pos_right, mul_assoc, mul_comm, mul_left_comm, add-mul}
use Rattle.std.proofs.Common.{mul-one, pow-suc, mul-pos, div-add-mod'}
use Rattle.std.proofs.Common.{le-div_iff_mul-le, div-lt_iff_lt-mul}
use Rattle.std.proofs.Common.{lt_of_mul-lt-mul_right, eq-zero-or-pos}
use Rattle.std.proofs.lemmas.Bool.{cases_lt, lt-ltb, le-ltb}
use Rattle.std.proofs.lemmas.Nat.{mod_below}
use Rattle.std.proofs.Math.Pow.{pow-add, pow_pos}
use Rattle.float_rounding.specs.declared.format.RoundingMode.{RoundingMode}
use Rattle.float_rounding.specs.Cuts.{IsCut}
use Rattle.float_rounding.specs.Laws.{OneBinadeIsEnough}
use Rattle.float_rounding.specs.Rounding.{place_of, goes_up, scale, magnitude, is_tiny}
use Rattle.float_rounding.proofs.Places.{quotient, remainder}
use Rattle.float_rounding.proofs.Places as places
use Rattle.float_rounding.proofs.Rounds.{bits_are}
use Rattle.float_rounding.proofs.Scales.{scale_is, scale_fits, scale_full}
use Rattle.float_rounding.proofs.Scales.{below_of_pow}

own_cut : (p num den : ℕ)
    → IsCut p num den (scale p num den) (num / (den * 2 ^ scale p num den))
    (place_of (num % (den * 2 ^ scale p num den)) (den * 2 ^ scale p num den))
own_cut p num den = record { scales = refl; lowers = refl; places = refl }

-- a normal number, so many binades up
shifted_cut : (p num den j : ℕ) → 0 < den → 2 ^ p * den ≤ num
    → IsCut p (num * 2 ^ j) den (scale p num den + j) (num / (den * 2 ^ scale p num den))
    (place_of (num % (den * 2 ^ scale p num den)) (den * 2 ^ scale p num den))
shifted_cut p num den j pos normal =
    let k = scale p num den in
    let gap = den * 2 ^ k in
    let t = num / gap in
    let wide : den * 2 ^ (k + j) ≡ gap * 2 ^ j = ap (λ (n : ℕ). den * n) (pow-add 2 k j)
    ∙ sym (mul_assoc den (2 ^ k) (2 ^ j)) in
    let gap_pos : 0 < gap = mul-pos pos (pow_pos k) in
    let parts : t * gap + num % gap ≡ num = div-add-mod' num gap in
    let is : num * 2 ^ j ≡ t * (gap * 2 ^ j) + num % gap * 2 ^ j = ap (λ (n : ℕ). n * 2 ^ j) (sym parts)
    ∙ spread t gap (num % gap) (2 ^ j) in
    let small : num % gap * 2 ^ j < gap * 2 ^ j = mul-lt-mul_of_pos_right (mod_below num gap gap_pos) (pow_pos j) in
    let q : num * 2 ^ j / (den * 2 ^ (k + j)) ≡ t =
    ap (λ (n : ℕ). num * 2 ^ j / n) wide ∙ quotient (num * 2 ^ j) (gap * 2 ^ j) t (num % gap * 2 ^ j) is small in
    let full : 2 ^ p ≤ t = elim (eq-zero-or-pos k) [
      | inl none ↦
          let one : gap ≡ den = ap (λ (n : ℕ). den * 2 ^ n) none ∙ mul-one den in
          (le-div_iff_mul-le gap_pos).1 (subst (λ (n : ℕ). 2 ^ p * n ≤ num) (sym one) normal)
      | inr some ↦ scale_full p num den some
    ] in
    record {
      scales = scale_is p (num * 2 ^ j) den (k + j) (subst (λ (n : ℕ). n < 2 ^ suc p) (sym q) (scale_fits p num den))
          (λ some. subst (λ (n : ℕ). 2 ^ p ≤ n) (sym q) full);
      lowers = q;
      places = ap (λ (n : ℕ). place_of (num * 2 ^ j % n) n) wide
          ∙ ap (λ (n : ℕ). place_of n (gap * 2 ^ j))
          (remainder (num * 2 ^ j) (gap * 2 ^ j) t (num % gap * 2 ^ j) is small)
          ∙ places.scaled (num % gap) gap (2 ^ j) (pow_pos j);
    }
  where
    spread : (q g r s : ℕ) → (q * g + r) * s ≡ q * (g * s) + r * s
    spread q g r s = omega arith

up_by : (b : Bool) → (if b then 1 else 0) ≤ 1
up_by true = omega arith
up_by false = omega arith

normal_shift : (p : ℕ) (mode : RoundingMode) (negative : Bool) (num den j : ℕ) → 0 < den → 2 ^ p * den ≤ num
    → magnitude p mode negative (num * 2 ^ j) den ≡ magnitude p mode negative num den + j * 2 ^ p
normal_shift p mode negative num den j pos normal =
    let k = scale p num den in
    let t = num / (den * 2 ^ k) in
    let at = place_of (num % (den * 2 ^ k)) (den * 2 ^ k) in
    let one = bits_are p mode negative num den k t at (own_cut p num den) in
    let other = bits_are p mode negative (num * 2 ^ j) den (k + j) t at (shifted_cut p num den j pos normal) in
    other ∙ regroup k j t (2 ^ p) (if goes_up mode negative (t % 2 == 1) at then 1 else 0)
    ∙ ap (λ (n : ℕ). n + j * 2 ^ p) (sym one)
  where
    regroup : (k j t w u : ℕ) → (k + j) * w + t + u ≡ k * w + t + u + j * w
    regroup k j t w u = omega (arith, add-mul k j w)

-- what is below a normal number, so many binades up, is rounded to that at most
low_shift : (p : ℕ) (mode : RoundingMode) (negative : Bool) (num den j : ℕ) → 0 < den → num < 2 ^ p * den
    → magnitude p mode negative (num * 2 ^ j) den < (j + 2) * 2 ^ p
low_shift p mode negative num den j pos low =
    let k = scale p (num * 2 ^ j) den in
    let gap = den * 2 ^ k in
    let t = num * 2 ^ j / gap in
    let at = place_of (num * 2 ^ j % gap) gap in
    let is = bits_are p mode negative (num * 2 ^ j) den k t at (own_cut p (num * 2 ^ j) den) in
    let fits : t < 2 ^ suc p = scale_fits p (num * 2 ^ j) den in
    let up = up_by (goes_up mode negative (t % 2 == 1) at) in
    let under : num * 2 ^ j < 2 ^ p * den * 2 ^ j = mul-lt-mul_of_pos_right low (pow_pos j) in
    elim (eq-zero-or-pos k) [
      | inl none ↦
          let one : gap ≡ den = ap (λ (n : ℕ). den * 2 ^ n) none ∙ mul-one den in
          let at_once : j ≡ 0 → t < 2 ^ p = λ e.
          (div-lt_iff_lt-mul (mul-pos pos (pow_pos k))).1
          (subst (λ (n : ℕ). num * 2 ^ j < n) (same_bound (2 ^ p) den gap j e one) under) in
          at_zero j k t _ none at_once fits up is
      | inr some ↦
          let over : 2 ^ p * gap ≤ num * 2 ^ j = (le-div_iff_mul-le (mul-pos pos (pow_pos k))).0
          (scale_full p (num * 2 ^ j) den some) in
          let a : 2 ^ k * (2 ^ p * den) < 2 ^ j * (2 ^ p * den) = omega
          (arith, turned (2 ^ p) den (2 ^ k), swapped (2 ^ p) den (2 ^ j)) in
          let b : 2 ^ k < 2 ^ j = lt_of_mul-lt-mul_right (2 ^ p * den) a in
          let d : k + 1 ≤ j = omega (arith, below_of_pow k j b) in
          let most : (k + 1) * 2 ^ p ≤ j * 2 ^ p = mul-le-mul_right (2 ^ p) d in
          above_zero j k t _ most fits up is
    ]
  where
    turned : (w d k : ℕ) → w * (d * k) ≡ k * (w * d)
    turned w d k = sym (mul_assoc w d k) ∙ mul_comm (w * d) k

    swapped : (w d j : ℕ) → w * d * j ≡ j * (w * d)
    swapped w d j = mul_comm (w * d) j

    same_bound : (w d g j : ℕ) → j ≡ 0 → g ≡ d → w * d * 2 ^ j ≡ w * g
    same_bound w d g j none e = ap (λ (n : ℕ). w * d * 2 ^ n) none ∙ mul-one (w * d) ∙ ap (λ (n : ℕ). w * n) (sym e)

    at_zero : (j k t u : ℕ) → k ≡ 0 → (j ≡ 0 → t < 2 ^ p) → t < 2 ^ suc p → u ≤ 1
        → magnitude p mode negative (num * 2 ^ j) den ≡ k * 2 ^ p + t + u
        → magnitude p mode negative (num * 2 ^ j) den < (j + 2) * 2 ^ p
    at_zero zero k t u none once fits up is =
        let a : t < 2 ^ p = once refl in
        let b : k * 2 ^ p ≡ 0 = ap (λ (n : ℕ). n * 2 ^ p) none ∙ omega arith in
        omega (arith, pow-suc 2 p)
    at_zero (suc j) k t u none once fits up is =
        let b : k * 2 ^ p ≡ 0 = ap (λ (n : ℕ). n * 2 ^ p) none ∙ omega arith in
        let most : 3 * 2 ^ p ≤ (suc j + 2) * 2 ^ p = mul-le-mul_right (2 ^ p) (omega arith) in
        omega (arith, pow-suc 2 p, pow_pos p)

    above_zero : (j k t u : ℕ) → (k + 1) * 2 ^ p ≤ j * 2 ^ p → t < 2 ^ suc p → u ≤ 1
        → magnitude p mode negative (num * 2 ^ j) den ≡ k * 2 ^ p + t + u
        → magnitude p mode negative (num * 2 ^ j) den < (j + 2) * 2 ^ p
    above_zero j k t u most fits up is =
        omega (arith, add-mul j 2 (2 ^ p), add-mul k 1 (2 ^ p), pow-suc 2 p, pow_pos p)

shifted_test : (m w j : ℕ) → nat_lt (m + j * w) ((j + 2) * w) ≡ nat_lt m (2 * w)
shifted_test m w j = elim (cases_lt m (2 * w)) [
  | inl less ↦ lt-ltb (m + j * w) ((j + 2) * w) (omega (arith, add-mul j 2 w)) ∙ sym (lt-ltb m (2 * w) less)
  | inr more ↦ le-ltb (m + j * w) ((j + 2) * w) (omega (arith, add-mul j 2 w)) ∙ sym (le-ltb m (2 * w) more)
]

pub enough : OneBinadeIsEnough
unfolding is_tiny
enough p mode negative num den j pos =
    let y = 2 * num in
    let same : num * 2 ^ (j + 1) ≡ y * 2 ^ j = ap (λ (n : ℕ). num * n) (pow-add 2 j 1) ∙ gathered num (2 ^ j) in
    let two : 2 ^ suc p ≡ 2 * 2 ^ p = pow-suc 2 p ∙ mul_comm (2 ^ p) 2 in
    elim (cases_lt y (2 ^ p * den)) [
      | inl low ↦
          let here : magnitude p mode negative (y * 2 ^ 0) den < (0 + 2) * 2 ^ p = low_shift p mode negative y den 0
          pos low in
          let here' : magnitude p mode negative y den < 2 * 2 ^ p =
          subst (λ (n : ℕ). magnitude p mode negative n den < 2 * 2 ^ p) (mul-one y) (omega arith) in
          lt-ltb _ _ (subst (λ (n : ℕ). magnitude p mode negative y den < n) (sym two) here')
          ∙ sym (lt-ltb _ _ (subst (λ (n : ℕ). magnitude p mode negative n den < (j + 2) * 2 ^ p) (sym same)
          (low_shift p mode negative y den j pos low)))
      | inr normal ↦
          ap (λ (n : ℕ). nat_lt (magnitude p mode negative y den) n) two
          ∙ sym (ap (λ (n : ℕ). nat_lt (magnitude p mode negative n den) ((j + 2) * 2 ^ p)) same
          ∙ ap (λ (n : ℕ). nat_lt n ((j + 2) * 2 ^ p)) (normal_shift p mode negative y den j pos normal)
          ∙ shifted_test (magnitude p mode negative y den) (2 ^ p) j)
    ]
  where
    gathered : (n w : ℕ) → n * (w * 2) ≡ 2 * n * w
    gathered n w = simp (mul_assoc, mul_comm, mul_left_comm)

-- What stands for a number: after a division, a shift, a scaling, beside a high number.
use Rattle.std.proofs.Common.{◌≡◌, ℕ, suc, ◌+◌, ◌-◌, ◌*◌, ◌/◌, ◌%◌, ◌^◌, ◌<◌, ◌≤◌, refl, sym, ap, ◌∙◌, subst}
use Rattle.std.proofs.Common.{arith}
use Rattle.std.proofs.Common.{◌⊎◌, inl, inr, Bool, true, false, not, nat_eq, mul-le-mul_right, mul-le-mul_left}
use Rattle.std.proofs.Common.{mul-lt-mul_of_pos_right, mul_assoc}
use Rattle.std.proofs.Common.{lt_of_mul-lt-mul_right, lt_of_le_of_lt, le_of_lt}
use Rattle.std.proofs.Common.{div-add-mod', add-mul, sub-add_cancel}
use Rattle.std.proofs.lemmas.Bool.{eq-eqb, ne_eqb, cases_eq, cases_lt}
use Rattle.std.proofs.lemmas.Nat.{mod_below, leading_top, one_shl}
use Rattle.std.proofs.Math.Pow.{pow-add, pow_pos, pow_mono}
use Rattle.std.specs.Int.Count.{count_leading_zeros}
use Rattle.float_rounding.specs.Sticky.{IsNear, StandsFor, Rounds}
use Rattle.float_rounding.proofs.Scales.{below_of_pow}
use Rattle.rv_float.specs.Significands.{with_sticky, IsHigh, IsNormalOf}

rough : (x q r u num : ℕ) → x ≡ q / 2 * 2 + 1 → 0 < r → r < u → num ≡ q * u + r → IsNear x u num
rough x q r u num is some small parts =
    let a : q ≤ x = omega arith in
    let b : x ≤ q + 1 = omega arith in
    (omega arith, omega (arith, mul-le-mul_right u b), omega (arith, mul-le-mul_right u a))

-- a quotient with what was lost
pub divided : (q r u num : ℕ) (lost : Bool) → num ≡ q * u + r → r < u → lost ≡ not (nat_eq r 0)
    → StandsFor (with_sticky q lost) u num
divided q r u num lost parts small is = elim (cases_eq r 0) [
  | inl none ↦
      let no : lost ≡ false = is ∙ ap not (eq-eqb r 0 none) in
      let whole : q * u ≡ num = omega arith in
      inl (rw no whole)
  | inr some ↦
      let yes : lost ≡ true = is ∙ ap not (ne_eqb r 0 some) in
      inr (subst (λ (b : Bool). IsNear (with_sticky q b) u num) (sym yes)
      (rough (q / 2 * 2 + 1) q r u num refl (omega arith) small parts))
]

pub shifted : (m d : ℕ) (lost : Bool) → d < 128 → lost ≡ not (nat_eq (m % (1 * 2 ^ d % 2 ^ 128)) 0)
    → StandsFor (with_sticky (m / 2 ^ d) lost) (2 ^ d) m
shifted m d lost few is =
    let one : 1 * 2 ^ d % 2 ^ 128 ≡ 2 ^ d = one_shl d 128 few in
    divided (m / 2 ^ d) (m % 2 ^ d) (2 ^ d) m lost (sym (div-add-mod' m (2 ^ d))) (mod_below m (2 ^ d) (pow_pos d))
    (is ∙ ap (λ (n : ℕ). not (nat_eq (m % n) 0)) one)

pub shifted_out : (m d : ℕ) (lost : Bool) → 128 ≤ d → m < 2 ^ 128 → lost ≡ not (nat_eq m 0)
    → StandsFor (with_sticky 0 lost) (2 ^ d) m
shifted_out m d lost many fits is =
    let wide : 2 ^ 128 ≤ 2 ^ d = pow_mono {i = 128} {j = d} many in
    divided 0 m (2 ^ d) m lost (omega arith) (omega arith) is

pub scaled : (m u num w : ℕ) → 0 < w → StandsFor m u num → StandsFor m (u * w) (num * w)
scaled m u num w some (inl same) = inl (sym (mul_assoc m u w) ∙ ap (λ (n : ℕ). n * w) same)
scaled m u num w some (inr near) =
    inr (
      near.0,
      omega (arith, mul-lt-mul_of_pos_right near.1 some),
      omega
          (arith, mul-lt-mul_of_pos_right near.2 some),
    )

pub normal_is : (m e n j : ℕ) → 0 < m → m < 2 ^ 106 → n ≡ m * 2 ^ (count_leading_zeros 128 m - 2) % 2 ^ 128
    → j ≡ e + 128 - (count_leading_zeros 128 m - 2) → IsNormalOf m e n j
normal_is m e n j some few is power =
    let t = leading_top 128 m some (omega arith) in
    let top : t.0 < 106 = below_of_pow t.0 106 (lt_of_le_of_lt t.2 few) in
    let shift = count_leading_zeros 128 m - 2 in
    let at : t.0 + shift ≡ 125 = omega (arith, t.1) in
    let low : 2 ^ t.0 * 2 ^ shift ≡ 2 ^ 125 = sym (pow-add 2 t.0 shift) ∙ ap (λ (k : ℕ). 2 ^ k) at in
    let at' : suc t.0 + shift ≡ 126 = omega (arith, t.1) in
    let high : 2 ^ suc t.0 * 2 ^ shift ≡ 2 ^ 126 = sym (pow-add 2 (suc t.0) shift) ∙ ap (λ (k : ℕ). 2 ^ k) at' in
    let least : 2 ^ t.0 * 2 ^ shift ≤ m * 2 ^ shift = mul-le-mul_right (2 ^ shift) t.2 in
    let most : m * 2 ^ shift < 2 ^ suc t.0 * 2 ^ shift = mul-lt-mul_of_pos_right t.3 (pow_pos shift) in
    let whole : n ≡ m * 2 ^ shift = omega arith in
    let two : shift ≡ shift - 2 + 2 = omega arith in
    let sum : shift + j ≡ e + 128 = omega arith in
    let four : m * 2 ^ shift ≡ m * 2 ^ (shift - 2) * 4 =
    ap (λ (k : ℕ). m * k) (ap (λ (k : ℕ). 2 ^ k) two ∙ pow-add 2 (shift - 2) 2)
    ∙ sym (mul_assoc m (2 ^ (shift - 2)) 4) in
    record {
      high = record { least = omega arith; most = omega arith; low = omega arith };
      same = ap (λ (k : ℕ). k * 2 ^ j) whole ∙ mul_assoc m (2 ^ shift) (2 ^ j)
          ∙ ap (λ (k : ℕ). m * k) (sym (pow-add 2 shift j) ∙ ap (λ (k : ℕ). 2 ^ k) sum);
      power = omega arith;
    }

-- ---- beside a high number

-- s stands for a number, and where it is not exact it is below the high numbers
pub Slight : ℕ → ℕ → ℕ → Type 0
Slight s u num = (s * u ≡ num) ⊎ (IsNear s u num × (s ≤ 2 ^ 124))

-- where the number is a multiple of the unit, nothing is off
whole : (s u y : ℕ) → IsNear s u (y * u) → s ≡ y
whole s u y near =
    let a : s < y + 1 = lt_of_mul-lt-mul_right u (omega (arith, near.1)) in
    let b : y < s + 1 = lt_of_mul-lt-mul_right u (omega (arith, near.2)) in
    omega arith

pub slight : (s d i j y : ℕ) → IsHigh y → StandsFor s (2 ^ d) y → d + j ≡ i → Slight s (2 ^ i) (y * 2 ^ j)
unfolding Slight
slight s d i j y high stands at =
    let unit : 2 ^ d * 2 ^ j ≡ 2 ^ i = sym (pow-add 2 d j) ∙ ap (λ (n : ℕ). 2 ^ n) at in
    elim stands [
      | inl same ↦ inl (ap (λ (n : ℕ). s * n) (sym unit) ∙ sym (mul_assoc s (2 ^ d) (2 ^ j))
          ∙ ap (λ (n : ℕ). n * 2 ^ j) same)
      | inr near ↦ elim (cases_lt d 3) [
        | inl few ↦
            let m = y / 4 * 2 ^ (2 - d) in
            let is : y ≡ m * 2 ^ d = by_four y d (omega arith) high.low in
            let same : s ≡ m = whole s (2 ^ d) m (subst (λ (n : ℕ). IsNear s (2 ^ d) n) is near) in
            let back : s * 2 ^ d ≡ y = ap (λ (n : ℕ). n * 2 ^ d) same ∙ sym is in
            inl (ap (λ (n : ℕ). s * n) (sym unit) ∙ sym (mul_assoc s (2 ^ d) (2 ^ j))
            ∙ ap (λ (n : ℕ). n * 2 ^ j) back)
        | inr many ↦
            let wide : 2 ^ 3 ≤ 2 ^ d = pow_mono {i = 3} {j = d} many in
            let room : 2 ^ 124 * 2 ^ 3 ≤ 2 ^ 124 * 2 ^ d = mul-le-mul_left (2 ^ 124) wide in
            let less : s < 2 ^ 124 + 1 = lt_of_mul-lt-mul_right (2 ^ d)
            (small (2 ^ d) (s * 2 ^ d) y near.1 high.most room) in
            inr (
              subst (λ (n : ℕ). IsNear s n (y * 2 ^ j)) unit (scale_near s (2 ^ d) y (2 ^ j) (pow_pos j) near),
              omega arith,
            )
      ]
    ]
  where
    by_four : (y d : ℕ) → d ≤ 2 → y % 4 ≡ 0 → y ≡ y / 4 * 2 ^ (2 - d) * 2 ^ d
    by_four y d few low =
        let four : 2 ^ (2 - d) * 2 ^ d ≡ 4 = sym (pow-add 2 (2 - d) d) ∙ ap (λ (n : ℕ). 2 ^ n) (two d few) in
        let quarter : y ≡ y / 4 * 4 = omega arith in
        quarter ∙ ap (λ (n : ℕ). y / 4 * n) (sym four) ∙ sym (mul_assoc (y / 4) (2 ^ (2 - d)) (2 ^ d))
      where
        two : (d : ℕ) → d ≤ 2 → 2 - d + d ≡ 2
        two d few = omega arith

    small : (u t y : ℕ) → t < y + u → y < 2 ^ 126 → 2 ^ 124 * 2 ^ 3 ≤ 2 ^ 124 * u → t < (2 ^ 124 + 1) * u
    small u t y a b c = omega arith

    scale_near : (m u num w : ℕ) → 0 < w → IsNear m u num → IsNear m (u * w) (num * w)
    scale_near m u num w some near = (
      near.0,
      omega (arith, mul-lt-mul_of_pos_right near.1 some),
      omega
          (arith, mul-lt-mul_of_pos_right near.2 some),
    )

pub plus : (p x s u b : ℕ) → p ≤ 60 → IsHigh x → Slight s u b → Rounds p (x + s) u (x * u + b)
unfolding Slight
plus p x s u b few high (inl same) = inl (omega arith)
plus p x s u b few high (inr near) =
    let most : 2 ^ (p + 2) ≤ 2 ^ 62 = pow_mono {i = p + 2} {j = 62} (omega arith) in
    inr (
      (omega (arith, near.0.0, high.low), omega (arith, near.0.1), omega (arith, near.0.2)),
      omega
          (arith, high.least),
    )

pub less : (p x s u b : ℕ) → p ≤ 60 → 0 < u → IsHigh x → s < x → Slight s u b
    → (b < x * u) × Rounds p (x - s) u (x * u - b)
unfolding Slight
less p x s u b few pos high under (inl same) =
    let d : (x - s) * u + s * u ≡ x * u = joined x s u (omega arith) in
    (omega (arith, mul-lt-mul_of_pos_right under pos), inl (omega arith))
  where
    joined : (x s u : ℕ) → s ≤ x → (x - s) * u + s * u ≡ x * u
    joined x s u h = sym (add-mul (x - s) s u) ∙ ap (λ (n : ℕ). n * u) (sub-add_cancel h)
less p x s u b few pos high under (inr near) =
    let most : 2 ^ (p + 2) ≤ 2 ^ 62 = pow_mono {i = p + 2} {j = 62} (omega arith) in
    let next : (s + 1) * u ≤ x * u = mul-le-mul_right u (omega arith) in
    let p : b < x * u = omega (arith, near.0.2) in
    let d : (x - s) * u + s * u ≡ x * u = joined x s u (omega arith) in (
      p,
      inr (
        (omega (arith, near.0.0, high.low), omega (arith, near.0.2), omega (arith, near.0.1)),
        omega
            (arith, near.1, high.least),
      ),
    )
  where
    joined : (x s u : ℕ) → s ≤ x → (x - s) * u + s * u ≡ x * u
    joined x s u h = sym (add-mul (x - s) s u) ∙ ap (λ (n : ℕ). n * u) (sub-add_cancel h)

pub over : (p x s u b : ℕ) → 0 < u → IsHigh x → x < s → Slight s u b → (x * u < b) × Rounds p (s - x) u (b - x * u)
unfolding Slight
over p x s u b pos high above (inl same) =
    let d : (s - x) * u + x * u ≡ s * u = sym (add-mul (s - x) x u)
    ∙ ap (λ (n : ℕ). n * u) (sub-add_cancel (le_of_lt above)) in
    (omega (arith, mul-lt-mul_of_pos_right above pos), inl (omega arith))
over p x s u b pos high above (inr near) = absurd (omega (arith, near.1, high.least))

pub equal : (x s u b : ℕ) → IsHigh x → s ≡ x → Slight s u b → x * u ≡ b
unfolding Slight
equal x s u b high same (inl is) = ap (λ (n : ℕ). n * u) (sym same) ∙ is
equal x s u b high same (inr near) = absurd (omega (arith, near.1, high.least))

pub leading_two : (m : ℕ) → 0 < m → m < 2 ^ 106 → 2 ≤ count_leading_zeros 128 m
leading_two m some few =
    let t = leading_top 128 m some (omega arith) in
    let top : t.0 < 106 = below_of_pow t.0 106 (lt_of_le_of_lt t.2 few) in
    omega (arith, t.1)

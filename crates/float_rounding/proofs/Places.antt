-- Where a number stands between two neighbours.
use Rattle.std.proofs.Common.{◌≡◌, ℕ, ◌+◌, ◌-◌, ◌*◌, ◌/◌, ◌%◌, ◌^◌, ◌<◌, ◌≤◌, refl, sym, ap, ◌∙◌}
use Rattle.std.proofs.Common.{arith}
use Rattle.std.proofs.Common.{inl, inr, mul-le-mul_right, mul-lt-mul_of_pos_right, mul_assoc, mul_comm}
use Rattle.std.proofs.Common.{div-add-mod'}
use Rattle.std.proofs.lemmas.Nat.{mod_below, one_shl}
use Rattle.std.proofs.Math.Pow.{pow_mono}
use Rattle.std.proofs.lemmas.Bool.{lt-ltb, le-ltb, eq-eqb, ne_eqb, cases_lt, cases_order, cases_eq}
use Rattle.std.proofs.Math.Arith.{digits_div, digits_mod}
use Rattle.float_rounding.specs.declared.format.Place.TheVariants.{Exact, BelowHalf, Half, AboveHalf}
use Rattle.float_rounding.specs.Rounding.{place_of}
use Rattle.float_rounding.specs.Sticky.{StandsFor}

pub exact : (rest gap : ℕ) → rest ≡ 0 → place_of rest gap ≡ Exact
exact rest gap none = rw (eq-eqb rest 0 none) refl

pub below : (rest gap : ℕ) → 0 < rest → 2 * rest < gap → place_of rest gap ≡ BelowHalf
below rest gap some less = rw (ne_eqb rest 0 (λ e. omega arith), lt-ltb (2 * rest) gap less) refl

pub half : (rest gap : ℕ) → 0 < rest → 2 * rest ≡ gap → place_of rest gap ≡ Half
half rest gap some same =
    rw (ne_eqb rest 0 (λ e. omega arith), le-ltb (2 * rest) gap (omega arith), eq-eqb (2 * rest) gap same) refl

pub above : (rest gap : ℕ) → 0 < rest → gap < 2 * rest → place_of rest gap ≡ AboveHalf
above rest gap some more =
    rw (
      ne_eqb rest 0 (λ e. omega arith),
      le-ltb (2 * rest) gap (omega arith),
      ne_eqb (2 * rest) gap
          (λ e. omega arith),
    )
    refl

-- a greater unit changes nothing
pub scaled : (rest gap u : ℕ) → 0 < u → place_of (rest * u) (gap * u) ≡ place_of rest gap
scaled rest gap u some = elim (cases_eq rest 0) [
  | inl none ↦ exact (rest * u) (gap * u) (rw none (omega arith)) ∙ sym (exact rest gap none)
  | inr more ↦
      let pos : 0 < rest = omega arith in
      let pos' : 0 < rest * u = omega (arith, mul-lt-mul_of_pos_right pos some) in
      elim (cases_order (2 * rest) gap) [
        | inl same ↦
            let same' : 2 * (rest * u) ≡ gap * u = sym (mul_assoc 2 rest u) ∙ ap (λ n. n * u) same in
            half (rest * u) (gap * u) pos' same' ∙ sym (half rest gap pos same)
        | inr (inl less) ↦
            let less' : 2 * (rest * u) < gap * u = omega (arith, mul-lt-mul_of_pos_right less some) in
            below (rest * u) (gap * u) pos' less' ∙ sym (below rest gap pos less)
        | inr (inr over) ↦
            let over' : gap * u < 2 * (rest * u) = omega (arith, mul-lt-mul_of_pos_right over some) in
            above (rest * u) (gap * u) pos' over' ∙ sym (above rest gap pos over)
      ]
]

-- q whole gaps and a rest
module _ (num gap q rest : ℕ) (is : num ≡ q * gap + rest) (small : rest < gap) where
  pub quotient : num / gap ≡ q
  quotient = ap (λ n. n / gap) is ∙ digits_div q small

  pub remainder : num % gap ≡ rest
  remainder = ap (λ n. n % gap) is ∙ digits_mod q small

-- what is left of num, where m = q * (4 * h) + r stands for it
data Left : ℕ → ℕ → ℕ → ℕ → Type 0 where
  left : {r u h rest : ℕ} → rest < u * (4 * h) → place_of rest (u * (4 * h)) ≡ place_of r (4 * h) → Left r u h rest

left_near : (r u h rest : ℕ) → 0 < u → r < 4 * h → r % 2 ≡ 1 → r * u < rest + u → rest < r * u + u → Left r u h rest
left_near r u h rest some fits odd low high =
    let next : (r + 1) * u ≤ 4 * h * u = mul-le-mul_right u (omega arith) in
    let one : 1 * u ≤ r * u = mul-le-mul_right u (omega arith) in
    let pos : 0 < rest = omega arith in
    elim (cases_lt r (2 * h)) [
      | inl less ↦
          let up : (r + 1) * u ≤ 2 * h * u = mul-le-mul_right u (omega arith) in
          left (omega arith) (below rest (u * (4 * h)) pos (omega arith)
          ∙ sym (below r (4 * h) (omega arith) (omega arith)))
      | inr more ↦
          let up : (2 * h + 1) * u ≤ r * u = mul-le-mul_right u (omega arith) in
          left (omega arith) (above rest (u * (4 * h)) pos (omega arith)
          ∙ sym (above r (4 * h) (omega arith) (omega arith)))
    ]

left_same : (r u h rest : ℕ) → 0 < u → r < 4 * h → r * u ≡ rest → Left r u h rest
left_same r u h rest some fits same =
    left (omega (arith, mul-lt-mul_of_pos_right fits some))
    (ap (λ n. place_of n (u * (4 * h))) (sym same) ∙ ap (λ n. place_of (r * u) n) (mul_comm u (4 * h))
    ∙ scaled r (4 * h) u some)

-- what stands for a number has its quotient and its place at a gap of 4 * h
pub record Alike (m u h num : ℕ) : Type 0 where
  pub quotients : num / (u * (4 * h)) ≡ m / (4 * h)
  pub places : place_of (num % (u * (4 * h))) (u * (4 * h)) ≡ place_of (m % (4 * h)) (4 * h)

alike_by : (m u h num rest : ℕ) → num ≡ m / (4 * h) * (u * (4 * h)) + rest → Left (m % (4 * h)) u h rest
    → Alike m u h num
alike_by m u h num rest is (left small same) = record {
  quotients = quotient num (u * (4 * h)) (m / (4 * h)) rest is small;
  places = ap (λ n. place_of n (u * (4 * h))) (remainder num (u * (4 * h)) (m / (4 * h)) rest is small) ∙ same;
}

pub alike : (m u h num : ℕ) → 0 < u → 0 < h → StandsFor m u num → Alike m u h num
alike m u h num some pos stands =
    let q = m / (4 * h) in
    let r = m % (4 * h) in
    let parts : q * (4 * h) + r ≡ m = div-add-mod' m (4 * h) in
    let spread : q * (u * (4 * h)) + r * u ≡ m * u = spread_out q (4 * h) r u ∙ ap (λ n. n * u) parts in
    let fits : r < 4 * h = mod_below m (4 * h) (omega arith) in
    elim stands [
      | inl same ↦ alike_by m u h num (r * u) (sym same ∙ sym spread) (left_same r u h (r * u) some fits refl)
      | inr near ↦
          let odd : r % 2 ≡ 1 = odd_rest m h near.0 in
          let one : 1 * u ≤ r * u = mul-le-mul_right u (omega arith) in
          let over : q * (u * (4 * h)) ≤ num = omega (arith, near.1) in
          alike_by m u h num (num - q * (u * (4 * h))) (omega arith)
          (left_near r u h (num - q * (u * (4 * h))) some fits odd (omega (arith, near.1)) (omega (arith, near.2)))
    ]
  where
    spread_out : (q g r u : ℕ) → q * (u * g) + r * u ≡ (q * g + r) * u
    spread_out q g r u = omega arith

    odd_rest : (m h : ℕ) → m % 2 ≡ 1 → m % (4 * h) % 2 ≡ 1
    odd_rest m h odd = omega (arith, div-add-mod' m (4 * h))

-- a number of at most so many digits, cut at more of them
pub cut_whole : (m digits : ℕ) → 0 < m → m < 2 ^ 128 → 128 < digits
    → (0 ≡ m / 2 ^ digits) × (BelowHalf ≡ place_of (m % 2 ^ digits) (2 ^ digits))
cut_whole m digits some fits many =
    let wide : 2 ^ 129 ≤ 2 ^ digits = pow_mono {i = 129} {j = digits} (omega arith) in
    let is : m ≡ 0 * 2 ^ digits + m = omega arith in
    let small : m < 2 ^ digits = omega arith in (
      sym (quotient m (2 ^ digits) 0 m is small),
      sym (ap (λ (n : ℕ). place_of n (2 ^ digits)) (remainder m (2 ^ digits) 0 m is small)
          ∙ below m (2 ^ digits) some (omega arith)),
    )

pub half_fits : (digits : ℕ) → 0 < digits → digits < 128 → 1 * 2 ^ (digits - 1) % 2 ^ 128 < 2 ^ 127 + 1
half_fits digits some few =
    let is : 1 * 2 ^ (digits - 1) % 2 ^ 128 ≡ 2 ^ (digits - 1) = one_shl (digits - 1) 128 (omega arith) in
    let most : 2 ^ (digits - 1) ≤ 2 ^ 127 = pow_mono {i = digits - 1} {j = 127} (omega arith) in
    omega arith

-- A root is rounded by where it stands between two neighbours, by squares.
use Rattle.std.proofs.Common.{◌≡◌, ℕ, zero, suc, ◌+◌, ◌-◌, ◌*◌, ◌/◌, ◌%◌, ◌^◌, ◌<◌, ◌≤◌, refl, sym, ap, ◌∙◌, subst}
use Rattle.std.proofs.Common.{arith, ◌⊎◌, inl, inr, Bool, true, false, nat_lt, ◌==◌, if◌then◌else◌}
use Rattle.std.proofs.Common.{mul-le-mul_right, pow-suc, mul_assoc, mul_comm, mul_left_comm, lt_of_le_of_lt}
use Rattle.std.proofs.Common.{lt_of_lt_of_le}
use Rattle.std.proofs.lemmas.Bool.{cases_lt, cases_eq, cases_order, lt-ltb, le-ltb, eq-eqb, ne_eqb}
use Rattle.std.proofs.lemmas.Nat.{mul-le}
use Rattle.std.proofs.Math.Pow.{pow_pos, pow_mono, pow-add}
use Rattle.std.specs.Float.Ieee.{size, root_below, root_twice}
use Rattle.float_rounding.specs.declared.format.Format.{Format}
use Rattle.float_rounding.specs.declared.format.RoundingMode.{RoundingMode}
use Rattle.float_rounding.specs.declared.format.Place.{Place}
use Rattle.float_rounding.specs.declared.format.Place.TheVariants.{Exact, BelowHalf, Half, AboveHalf}
use Rattle.float_rounding.specs.Formats.{fraction_bits, unit_exponent, units_at}
use Rattle.float_rounding.specs.Rounding.{place_of, goes_up, is_at_lower}
use Rattle.float_rounding.specs.Laws.{LiesBetween}
use Rattle.float_rounding.proofs.Places as places
use Rattle.float_rounding.proofs.Digits.{few_bits}
use Rattle.float_rounding.proofs.Lawful.{neighbours}
use Rattle.float_rounding.proofs.Nearest.{fraction_some}
use Rattle.float_rounding.proofs.Steps.{Split, split, units_cut, units_next}
use Rattle.rv_float.specs.Laws.{root_place, RoundsTheRoot, RootsRoundBySquares}
use Rattle.rv_float.proofs.Roots.{IsTwice, twice_is, less_by_square, large_unit}

square_up : (a b : ℕ) → a ≤ b → a * a ≤ b * b
square_up a b h = mul-le a a b b h h

square_over : (a b : ℕ) → a < b → a * a < b * b
square_over a b h = omega (arith, square_up (a + 1) b (omega arith))

-- ---- the place, by squares

exact_place : (n x y : ℕ) → n ≡ x * x → root_place n x y ≡ Exact
exact_place n x y same = rw (eq-eqb n (x * x) same) refl

below_place : (n x y : ℕ) → (n ≡ x * x → ⊥) → 4 * n < (x + y) * (x + y) → root_place n x y ≡ BelowHalf
below_place n x y differs less =
    rw (ne_eqb n (x * x) differs, lt-ltb (4 * n) ((x + y) * (x + y)) less) refl

half_place : (n x y : ℕ) → (n ≡ x * x → ⊥) → 4 * n ≡ (x + y) * (x + y) → root_place n x y ≡ Half
half_place n x y differs same =
    rw (
      ne_eqb n (x * x) differs,
      le-ltb (4 * n) ((x + y) * (x + y)) (omega arith),
      eq-eqb (4 * n) ((x + y) * (x + y)) same,
    ) refl

above_place : (n x y : ℕ) → (n ≡ x * x → ⊥) → (x + y) * (x + y) < 4 * n → root_place n x y ≡ AboveHalf
above_place n x y differs more =
    rw (
      ne_eqb n (x * x) differs,
      le-ltb (4 * n) ((x + y) * (x + y)) (omega arith),
      ne_eqb (4 * n) ((x + y) * (x + y)) (λ e. omega arith),
    ) refl

-- w is the whole part of the root of n, twice the root or the odd number beside; h is half-way
module _ (n w twice x y h : ℕ) (t : IsTwice n w twice) (half : x + y ≡ 2 * h) (low : x ≤ w) (high : w < y) where
  sum : (x + y) * (x + y) ≡ 4 * (h * h)
  sum = ap (λ (k : ℕ). k * k) half ∙ four h
    where
      four : (h : ℕ) → 2 * h * (2 * h) ≡ 4 * (h * h)
      four h = omega arith

  either : ((w * w ≡ n) × (twice ≡ 2 * w)) ⊎ ((w * w < n) × (twice ≡ 2 * w + 1))
  either = elim (cases_eq (w * w) n) [
    | inl same ↦ inl (same, t.exact same)
    | inr differs ↦
        let less : w * w < n = omega (arith, t.below) in
        inr (less, t.between less)
  ]

  by_squares : place_of (twice - x * 2) (y * 2 - x * 2) ≡ root_place n x y
  by_squares = elim (cases_eq (twice - x * 2) 0) [
    | inl none ↦ elim either [
      | inl even ↦
          let same : w ≡ x = omega (arith, even.1) in
          places.exact (twice - x * 2) (y * 2 - x * 2) none
          ∙ sym (exact_place n x y (sym even.0 ∙ ap (λ (k : ℕ). k * k) same))
      | inr odd ↦ absurd (omega (arith, odd.1))
    ]
    | inr some ↦
        let other : n ≡ x * x → ⊥ = λ e. apart some e in
        elim (cases_order twice (2 * h)) [
          | inl same ↦
              places.half (twice - x * 2) (y * 2 - x * 2) (omega arith) (omega arith)
              ∙ sym (half_place n x y other (level same))
          | inr (inl less) ↦
              places.below (twice - x * 2) (y * 2 - x * 2) (omega arith) (omega arith)
              ∙ sym (below_place n x y other (under less))
          | inr (inr more) ↦
              places.above (twice - x * 2) (y * 2 - x * 2) (omega arith) (omega arith)
              ∙ sym (above_place n x y other (over more))
        ]
  ]
    where
      apart : (twice - x * 2 ≡ 0 → ⊥) → n ≡ x * x → ⊥
      apart some e =
          let a : w < x + 1 = less_by_square w (x + 1) (omega (arith, t.below)) in
          let same : w ≡ x = omega arith in
          let b : twice ≡ 2 * w = t.exact (ap (λ (k : ℕ). k * k) same ∙ sym e) in
          some (omega arith)

      level : twice ≡ 2 * h → 4 * n ≡ (x + y) * (x + y)
      level same = elim either [
        | inl even ↦
            let at : w ≡ h = omega (arith, even.1) in
            omega (arith, even.0, ap (λ (k : ℕ). k * k) at, sum)
        | inr odd ↦ absurd (omega (arith, odd.1))
      ]

      under : twice < 2 * h → 4 * n < (x + y) * (x + y)
      under less = elim either [
        | inl even ↦ omega (arith, even.0, sum, square_over w h (omega (arith, even.1)))
        | inr odd ↦ omega (arith, t.above, sum, square_up (w + 1) h (omega (arith, odd.1)))
      ]

      over : 2 * h < twice → (x + y) * (x + y) < 4 * n
      over more = elim either [
        | inl even ↦ omega (arith, even.0, sum, square_over h w (omega (arith, even.1)))
        | inr odd ↦ omega (arith, odd.0, sum, square_up h w (omega (arith, odd.1)))
      ]

-- the neighbours of a large number are even, in units
halfway : (p lower w : ℕ) → p ≤ 52 → 2 ^ 64 ≤ w → w < units_at p (lower + 1)
    → (h : ℕ) × (units_at p lower + units_at p (lower + 1) ≡ 2 * h)
halfway p lower w few large under =
    let s = split p lower in
    let here : units_at p lower ≡ s.t * 2 ^ s.k = ap (units_at p) s.is ∙ units_cut p s.k s.t s.small s.full in
    let next : units_at p (lower + 1) ≡ (s.t + 1) * 2 ^ s.k =
    ap (λ (n : ℕ). units_at p (n + 1)) s.is ∙ units_next p s.k s.t s.small s.full in
    by s.k s.t s.small here next
  where
    twice_of : (t g w : ℕ) → w ≡ g * 2 → t * w + (t + 1) * w ≡ 2 * (t * g + (t + 1) * g)
    twice_of t g w e = ap (λ (n : ℕ). t * n + (t + 1) * n) e ∙ spread t g
      where
        spread : (t g : ℕ) → t * (g * 2) + (t + 1) * (g * 2) ≡ 2 * (t * g + (t + 1) * g)
        spread t g = omega arith

    by : (k t : ℕ) → t < 2 ^ suc p → units_at p lower ≡ t * 2 ^ k → units_at p (lower + 1) ≡ (t + 1) * 2 ^ k
        → (h : ℕ) × (units_at p lower + units_at p (lower + 1) ≡ 2 * h)
    by zero t small here next =
        let most : 2 ^ suc p ≤ 2 ^ 53 = pow_mono {i = suc p} {j = 53} (omega arith) in
        absurd (omega arith)
    by (suc k) t small here next =
        let even : 2 ^ suc k ≡ 2 ^ k * 2 = pow-suc 2 k in
        (t * 2 ^ k + (t + 1) * 2 ^ k, (λ i. here i + next i) ∙ twice_of t (2 ^ k) (2 ^ suc k) even)

pub roots_round_by_squares : RootsRoundBySquares
roots_round_by_squares f units some =
    let p = fraction_bits f in
    let u = 2 ^ unit_exponent f in
    let n = units * u in
    let w = root_below (size n) n in
    let t : IsTwice n w (root_twice n) = twice_is n in
    let wide : 2 ^ 128 ≤ u = pow_mono {i = 128} {j = unit_exponent f} (large_unit f) in
    let least : 1 * u ≤ n = mul-le-mul_right u some in
    let large : 2 ^ 64 < w + 1 = less_by_square (2 ^ 64) (w + 1) (omega (arith, t.above)) in
    let around = neighbours p (root_twice n) 2 (fraction_some f) (omega arith) in
    let lower = around.0 in
    let is = around.1 in
    let x = units_at p lower in
    let y = units_at p (lower + 1) in
    let twice_low : root_twice n ≤ 2 * w + 1 = bound n w (root_twice n) t in
    let twice_high : 2 * w ≤ root_twice n = bound_up n w (root_twice n) t in
    let low : x ≤ w = omega (arith, is.not_above) in
    let high : w < y = omega (arith, is.next_above) in
    let mid = halfway p lower w (few_bits f) (omega arith) high in
    let place : place_of (root_twice n - x * 2) (y * 2 - x * 2) ≡ root_place n x y =
    by_squares n w (root_twice n) x y mid.0 t mid.1 low high in (
      lower,
      record {
        not_above = omega (arith, square_up x w low, t.below);
        next_above = omega (arith, square_up (w + 1) y (omega arith), t.above);
        chosen = λ mode. is.chosen mode false
            ∙ ap (λ (z : Place). lower + (if goes_up mode false (lower % 2 == 1) z then 1 else 0)) place;
        unchanged = is.unchanged ∙ ap is_at_lower place;
      },
    )
  where
    bound : (n w twice : ℕ) → IsTwice n w twice → twice ≤ 2 * w + 1
    bound n w twice t = elim (cases_eq (w * w) n) [
      | inl same ↦ omega (arith, t.exact same)
      | inr differs ↦ omega (arith, t.between (omega (arith, t.below)))
    ]

    bound_up : (n w twice : ℕ) → IsTwice n w twice → 2 * w ≤ twice
    bound_up n w twice t = elim (cases_eq (w * w) n) [
      | inl same ↦ omega (arith, t.exact same)
      | inr differs ↦ omega (arith, t.between (omega (arith, t.below)))
    ]

-- A root of a significand stands for the root of the number.
use Rattle.std.proofs.Common.{◌≡◌, ℕ, suc, ◌+◌, ◌-◌, ◌*◌, ◌/◌, ◌%◌, ◌^◌, ◌<◌, ◌≤◌, refl, sym, ap, ◌∙◌, subst}
use Rattle.std.proofs.Common.{arith}
use Rattle.std.proofs.Common.{inl, inr, Bool, true, false, cond, eqb, not, mul-le-mul_right, mul_assoc}
use Rattle.std.proofs.Common.{mul_comm, mul_left_comm, mul-pos}
use Rattle.std.proofs.Common.{lt_of_not-le, not-le_of_lt, lt_of_le_of_lt, lt_of_lt_of_le, le_of_lt, add-zero}
use Rattle.std.proofs.Common.{mul-lt-mul_of_pos_right}
use Rattle.std.specs.Int.Count.{count_leading_zeros}
use Rattle.float_rounding.proofs.Scales.{below_of_pow}
use Rattle.std.proofs.lemmas.Bool.{cases_eq, eq-eqb, ne_eqb}
use Rattle.std.proofs.lemmas.Nat.{mul-le, leading_top}
use Rattle.std.proofs.Math.Pow.{pow-add, pow_pos, pow_mono}
use Rattle.std.specs.Float.Ieee.{size, root_below, root_twice}
use lib.Ieee.Root.{whole_part}
use Rattle.float_rounding.specs.declared.format.Format.{Format}
use Rattle.float_rounding.specs.declared.format.RoundingMode.{RoundingMode}
use Rattle.float_rounding.specs.declared.format.Format.TheVariants.{Single, Double}
use mir.Val.{bool_byte}
use Rattle.std.proofs.Common.{if◌then◌else◌, ◌==◌}
use Rattle.float_rounding.specs.declared.format.Outcome.{Outcome}
use Rattle.float_rounding.specs.Formats.{fraction_bits, unit_exponent}
use Rattle.float_rounding.specs.Rounding.{rounded}
use Rattle.float_rounding.specs.Sticky.{IsNear, StandsFor}
use Rattle.float_rounding.proofs.Digits.{few_bits}
use Rattle.float_rounding.proofs.Rounds.{rounds_one}

pub less_by_square : (a b : ℕ) → a * a < b * b → a < b
less_by_square a b h = lt_of_not-le (λ (g : b ≤ a). not-le_of_lt h (mul-le b b a a g g))

-- what `root_twice` gives, by the whole part of the root
pub record IsTwice (n whole twice : ℕ) : Type 0 where
  pub below : whole * whole ≤ n
  pub above : n < (whole + 1) * (whole + 1)
  pub exact : whole * whole ≡ n → twice ≡ 2 * whole
  pub between : whole * whole < n → twice ≡ 2 * whole + 1

pub twice_is : (n : ℕ) → IsTwice n (root_below (size n) n) (root_twice n)
unfolding root_twice
twice_is n =
    let r = root_below (size n) n in
    let root = whole_part n in
    record {
      below = root.0;
      above = root.1;
      exact = λ same. ap (λ (b : Bool). 2 * r + cond b 0 1) (eq-eqb (r * r) n same) ∙ add-zero (2 * r);
      between = λ less. ap (λ (b : Bool). 2 * r + cond b 0 1) (ne_eqb (r * r) n (λ e. omega arith));
    }

-- n has the root r, or one between r and r + 1; x is n times a square
module _ (n r w x : ℕ) (some : 0 < w) (is : x ≡ n * (w * w)) (low : r * r ≤ n) (high : n < (r + 1) * (r + 1)) where
  squared : (a : ℕ) → a * w * (a * w) ≡ a * a * (w * w)
  squared a = simp (mul_assoc, mul_comm, mul_left_comm)

  ww_pos : 0 < w * w
  ww_pos = mul-pos some some

  at_least : r * w * (r * w) ≤ x
  at_least = omega (arith, squared r, mul-le-mul_right (w * w) low)

  under : x < (r + 1) * w * ((r + 1) * w)
  under = omega (arith, squared (r + 1), mul-lt-mul_of_pos_right high ww_pos)

  whole_exact : (whole twice : ℕ) → IsTwice x whole twice → r * r ≡ n → 2 * r * w ≡ twice
  whole_exact whole twice t same =
      let sq : r * w * (r * w) ≡ x = squared r ∙ ap (λ (k : ℕ). k * (w * w)) same ∙ sym is in
      let a : whole < r * w + 1 = less_by_square whole (r * w + 1) (omega (arith, t.below)) in
      let b : r * w < whole + 1 = less_by_square (r * w) (whole + 1) (omega (arith, t.above)) in
      let e : whole ≡ r * w = omega arith in
      mul_assoc 2 r w ∙ ap (λ (k : ℕ). 2 * k) (sym e) ∙ sym (t.exact (ap (λ (k : ℕ). k * k) e ∙ sq))

  near : (whole twice : ℕ) → IsTwice x whole twice → r * r < n → IsNear (2 * r + 1) w twice
  near whole twice t less =
      let over : r * w * (r * w) < x = omega (arith, squared r, mul-lt-mul_of_pos_right less ww_pos) in
      let a : r * w < whole + 1 = less_by_square (r * w) (whole + 1) (lt_of_lt_of_le over (le_of_lt t.above)) in
      let b : whole < (r + 1) * w = less_by_square whole ((r + 1) * w) (lt_of_le_of_lt t.below under) in
      elim (cases_eq (whole * whole) x) [
        | inl same ↦
            let e : twice ≡ 2 * whole = t.exact same in
            let c : r * w < whole = less_by_square (r * w) whole (omega arith) in
            (omega arith, omega arith, omega arith)
        | inr differs ↦
            let e : twice ≡ 2 * whole + 1 = t.between (omega (arith, t.below)) in
            (omega arith, omega arith, omega arith)
      ]

  pub stands : (m : ℕ) → (r * r ≡ n → m ≡ 2 * r) → (r * r < n → m ≡ 2 * r + 1) → StandsFor m w (root_twice x)
  stands m exact between = elim (cases_eq (r * r) n) [
    | inl same ↦ inl (ap (λ (k : ℕ). k * w) (exact same)
        ∙ whole_exact (root_below (size x) x) (root_twice x) (twice_is x) same)
    | inr differs ↦
        let less : r * r < n = omega arith in
        inr (subst (λ (k : ℕ). IsNear k w (root_twice x)) (sym (between less))
        (near (root_below (size x) x) (root_twice x) (twice_is x) less))
  ]

-- the code's root
pub root_rounds : (f : Format) (mode : RoundingMode) (m e s h n r q x : ℕ) → n ≡ m * 2 ^ s → s + 2 * h ≡ e
    → 2 ^ 126 ≤ n
    → r * r ≤ n → n < (r + 1) * (r + 1) → (r * r ≡ n → q ≡ 2 * r) → (r * r < n → q ≡ 2 * r + 1) → x ≡ m * 2 ^ e
    → rounded f mode false (q * 2 ^ h) (2 ^ 1) ≡ rounded f mode false (root_twice x) 2
root_rounds f mode m e s h n r q x is sum large low high exact between whole =
    let p = fraction_bits f in
    let square : 2 ^ h * 2 ^ h ≡ 2 ^ (2 * h) = sym (pow-add 2 h h) ∙ ap (λ (k : ℕ). 2 ^ k) double in
    let parts : x ≡ n * (2 ^ h * 2 ^ h) =
    whole ∙ ap (λ (k : ℕ). m * 2 ^ k) (sym sum) ∙ ap (λ (k : ℕ). m * k) (pow-add 2 s (2 * h))
    ∙ sym (mul_assoc m (2 ^ s) (2 ^ (2 * h)))
    ∙ (λ i. sym is i * sym square i) in
    let big : 2 ^ 63 < r + 1 = less_by_square (2 ^ 63) (r + 1) (omega arith) in
    let most : 2 ^ (p + 2) ≤ 2 ^ 54 = pow_mono {i = p + 2} {j = 54} (omega (arith, few_bits f)) in
    rounds_one f mode false q h 1 (root_twice x)
    (elim (stands n r (2 ^ h) x (pow_pos h) parts low high q exact between) [
      | inl same ↦ inl same
      | inr close ↦ inr (
        close,
        elim (cases_eq (r * r) n) [
          | inl same ↦ omega (arith, exact same)
          | inr differs ↦ omega (arith, between (omega arith))
        ],
      )
    ])
  where
    double : h + h ≡ 2 * h
    double = omega arith

-- the shift keeps the power even
pub even_power : (m e : ℕ) → 0 < m → m < 2 ^ 53 → 128 ≤ e
    → (count_leading_zeros 128 m - (count_leading_zeros 128 m + e) % 2 ≤ 127)
    × (count_leading_zeros 128 m - (count_leading_zeros 128 m + e) % 2
    + 2 * ((e - (count_leading_zeros 128 m - (count_leading_zeros 128 m + e) % 2)) / 2) ≡ e)
even_power m e some fits large =
    let t = leading_top 128 m some (omega arith) in
    let top : t.0 < 53 = below_of_pow t.0 53 (lt_of_le_of_lt t.2 fits) in
    (omega (arith, t.1), omega (arith, t.1))

pub shifted_high : (m s : ℕ) → 0 < m → m < 2 ^ 53 → s ≤ count_leading_zeros 128 m → count_leading_zeros 128 m ≤ s + 1
    → (2 ^ 126 ≤ m * 2 ^ s % 2 ^ 128) × (m * 2 ^ s % 2 ^ 128 ≡ m * 2 ^ s)
shifted_high m s some fits most least =
    let t = leading_top 128 m some (omega arith) in
    let a : 2 ^ t.0 * 2 ^ s ≤ m * 2 ^ s = mul-le-mul_right (2 ^ s) t.2 in
    let b : m * 2 ^ s < 2 ^ suc t.0 * 2 ^ s = mul-lt-mul_of_pos_right t.3 (pow_pos s) in
    let c : 2 ^ 126 ≤ 2 ^ (t.0 + s) = pow_mono {i = 126} {j = t.0 + s} (omega (arith, t.1)) in
    let d : 2 ^ (suc t.0 + s) ≤ 2 ^ 128 = pow_mono {i = suc t.0 + s} {j = 128} (omega (arith, t.1)) in
    let k : m * 2 ^ s < 2 ^ 128 = omega (arith, pow-add 2 (suc t.0) s) in
    (omega (arith, pow-add 2 t.0 s), omega arith)

pub room_some : (m w e : ℕ) → w ≡ m → 0 < m → m < 2 ^ 53
    → (count_leading_zeros 128 w + e) % 2 ≤ count_leading_zeros 128 w
room_some m w e same some fits =
    let t = leading_top 128 w (omega arith) (omega arith) in
    let top : t.0 < 53 = below_of_pow t.0 53 (lt_of_le_of_lt t.2 (omega arith)) in
    omega (arith, t.1)

odd_by : (t : Bool) (byte r : ℕ) → byte ≡ bool_byte (not t) → t ≡ true → 2 * r + byte ≡ 2 * r
odd_by true byte r e refl' = omega (arith, e)
odd_by false byte r e wrong = cc

even_by : (t : Bool) (byte r : ℕ) → byte ≡ bool_byte (not t) → t ≡ false → 2 * r + byte ≡ 2 * r + 1
even_by false byte r e refl' = omega (arith, e)
even_by true byte r e wrong = cc

pub root_code : (f : Format) (mode : RoundingMode) (m w k u r byte : ℕ) → w ≡ m → 0 < m → m < 2 ^ 53 → 128 ≤ u
    → r * r ≤ w * 2 ^ (count_leading_zeros 128 w - (count_leading_zeros 128 w + (k + u)) % 2) % 2 ^ 128
    → w * 2 ^ (count_leading_zeros 128 w - (count_leading_zeros 128 w + (k + u)) % 2) % 2 ^ 128 < (r + 1) * (r + 1)
    → byte ≡ bool_byte (not
    (eqb (r * r) (w * 2 ^ (count_leading_zeros 128 w - (count_leading_zeros 128 w + (k + u)) % 2) % 2 ^ 128)))
    → rounded f mode false
    ((2 * r + byte) * 2 ^ ((k + u - (count_leading_zeros 128 w - (count_leading_zeros 128 w + (k + u)) % 2)) / 2))
    (2 ^ 1)
    ≡ rounded f mode false (root_twice (m * 2 ^ k * 2 ^ u)) 2
root_code f mode m w k u r byte same some fits large low high odd =
    let z = count_leading_zeros 128 w in
    let e = k + u in
    let s = z - (z + e) % 2 in
    let n = w * 2 ^ s % 2 ^ 128 in
    let w_some : 0 < w = omega arith in
    let w_fits : w < 2 ^ 53 = omega arith in
    let even = even_power w e w_some w_fits (omega arith) in
    let up = shifted_high w s w_some w_fits (omega arith) (omega arith) in
    root_rounds f mode m e s ((e - s) / 2) n r (2 * r + byte) (m * 2 ^ k * 2 ^ u)
    (up.1 ∙ ap (λ (x : ℕ). x * 2 ^ s) same) even.1 up.0 low high
    (λ exact. odd_by (eqb (r * r) n) byte r odd (eq-eqb (r * r) n exact))
    (λ less. even_by (eqb (r * r) n) byte r odd (ne_eqb (r * r) n (λ e. omega arith)))
    (mul_assoc m (2 ^ k) (2 ^ u) ∙ ap (λ (x : ℕ). m * x) (sym (pow-add 2 k u)))

pub large_unit : (f : Format) → 128 ≤ unit_exponent f
large_unit Single = omega arith
large_unit Double = omega arith

pub chosen_second : (n : ℕ) (s : Bool) (x y z : Outcome) → 0 < n → s ≡ true
    → y ≡ (if n == 0 then x else (if s then y else z))
chosen_second n s x y z some e = rw (ne_eqb n 0 (λ e. omega arith), e) refl

pub chosen_third : (n : ℕ) (s : Bool) (x y z : Outcome) → 0 < n → s ≡ false
    → z ≡ (if n == 0 then x else (if s then y else z))
chosen_third n s x y z some e = rw (ne_eqb n 0 (λ e. omega arith), e) refl

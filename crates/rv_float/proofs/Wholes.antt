-- The whole number that a number is rounded to.
use Rattle.std.proofs.Common.{◌≡◌, ℕ, ◌+◌, ◌-◌, ◌*◌, ◌/◌, ◌%◌, ◌^◌, ◌<◌, ◌≤◌, refl, sym, ap, ◌∙◌}
use Rattle.std.proofs.Common.{arith}
use Rattle.std.proofs.Common.{inl, inr, Bool, true, false, ◌==◌, if◌then◌else◌, mul-le-mul_right}
use Rattle.std.proofs.Common.{mul-lt-mul_of_pos_right, mul_assoc, div-add-mod', zero-mul}
use Rattle.std.proofs.lemmas.Nat.{mod_below}
use Rattle.std.proofs.Math.Pow.{pow-add, pow_pos, pow_mono}
use mir.Val.{bool_byte}
use Rattle.float_rounding.specs.declared.format.RoundingMode.{RoundingMode}
use Rattle.float_rounding.specs.declared.format.Place.{Place}
use Rattle.float_rounding.specs.declared.format.Place.TheVariants.{Exact}
use Rattle.float_rounding.specs.Rounding.{place_of, is_at_lower, goes_up}
use Rattle.rv_float.specs.Conversions.{whole_of, is_whole, IsWholeOf}
use Rattle.float_rounding.proofs.Places.{quotient, remainder}
use Rattle.float_rounding.proofs.Places as places

-- a fraction whose quotient and place are known
by_cut : (mode : RoundingMode) (negative : Bool) (num den lower : ℕ) (place : Place) → num / den ≡ lower
    → place_of (num % den) den ≡ place
    → (whole_of mode negative num den ≡ lower + (if goes_up mode negative (lower % 2 == 1) place then 1 else 0))
    × (is_whole num den ≡ is_at_lower place)
by_cut mode negative num den lower place q r =
    ((λ i. q i + (if goes_up mode negative (q i % 2 == 1) (r i) then 1 else 0)), ap is_at_lower r)

byte_is : (b : Bool) → bool_byte b ≡ (if b then 1 else 0)
byte_is true = refl
byte_is false = refl

pub whole_down : (mode : RoundingMode) (negative : Bool) (m k u lower up : ℕ) (place : Place) (exact : Bool) → k < u
    → lower ≡ m / 2 ^ (u - k) → place ≡ place_of (m % 2 ^ (u - k)) (2 ^ (u - k))
    → up ≡ bool_byte (goes_up mode negative (lower % 2 == 1) place) → exact ≡ is_at_lower place
    → IsWholeOf mode negative (m * 2 ^ k) (2 ^ u) (lower + up) exact
whole_down mode negative m k u lower up place exact under low at ups ex =
    let g = 2 ^ (u - k) in
    let wide : 2 ^ u ≡ g * 2 ^ k = ap (λ (n : ℕ). 2 ^ n) (back u k under) ∙ pow-add 2 (u - k) k in
    let parts : m / g * g + m % g ≡ m = div-add-mod' m g in
    let is : m * 2 ^ k ≡ m / g * (g * 2 ^ k) + m % g * 2 ^ k = ap (λ (n : ℕ). n * 2 ^ k) (sym parts)
    ∙ spread (m / g) g (m % g) (2 ^ k) in
    let small : m % g * 2 ^ k < g * 2 ^ k = mul-lt-mul_of_pos_right (mod_below m g (pow_pos (u - k))) (pow_pos k) in
    let q : m * 2 ^ k / 2 ^ u ≡ lower =
    ap (λ (n : ℕ). m * 2 ^ k / n) wide ∙ quotient (m * 2 ^ k) (g * 2 ^ k) (m / g) (m % g * 2 ^ k) is small
    ∙ sym low in
    let r : place_of (m * 2 ^ k % 2 ^ u) (2 ^ u) ≡ place =
    ap (λ (n : ℕ). place_of (m * 2 ^ k % n) n) wide
    ∙ ap (λ (n : ℕ). place_of n (g * 2 ^ k)) (remainder (m * 2 ^ k) (g * 2 ^ k) (m / g) (m % g * 2 ^ k) is small)
    ∙ places.scaled (m % g) g (2 ^ k) (pow_pos k) ∙ sym at in
    let c = by_cut mode negative (m * 2 ^ k) (2 ^ u) lower place q r in
    record {
      value = inl (ap (λ (n : ℕ). lower + n) (ups ∙ byte_is (goes_up mode negative (lower % 2 == 1) place))
          ∙ sym c.0);
      same = ex ∙ sym c.1;
    }
  where
    back : (u k : ℕ) → k < u → u ≡ u - k + k
    back u k h = omega arith

    spread : (q g r s : ℕ) → (q * g + r) * s ≡ q * (g * s) + r * s
    spread q g r s = omega arith

-- a number of whole units
up_cut : (mode : RoundingMode) (negative : Bool) (m k u : ℕ) → u ≤ k
    → (whole_of mode negative (m * 2 ^ k) (2 ^ u) ≡ m * 2 ^ (k - u)) × (is_whole (m * 2 ^ k) (2 ^ u) ≡ true)
up_cut mode negative m k u over =
    let q = m * 2 ^ (k - u) in
    let is : m * 2 ^ k ≡ q * 2 ^ u + 0 =
    ap (λ (n : ℕ). m * 2 ^ n) (back u k over) ∙ ap (λ (n : ℕ). m * n) (pow-add 2 (k - u) u)
    ∙ sym (mul_assoc m (2 ^ (k - u)) (2 ^ u)) ∙ nothing (q * 2 ^ u) in
    let lower : m * 2 ^ k / 2 ^ u ≡ q = quotient (m * 2 ^ k) (2 ^ u) q 0 is (pow_pos u) in
    let place : place_of (m * 2 ^ k % 2 ^ u) (2 ^ u) ≡ Exact =
    places.exact (m * 2 ^ k % 2 ^ u) (2 ^ u) (remainder (m * 2 ^ k) (2 ^ u) q 0 is (pow_pos u)) in
    let c = by_cut mode negative (m * 2 ^ k) (2 ^ u) q Exact lower place in
    (c.0 ∙ sym (nothing q), c.1)
  where
    back : (u k : ℕ) → u ≤ k → k ≡ k - u + u
    back u k h = omega arith

    nothing : (n : ℕ) → n ≡ n + 0
    nothing n = omega arith

pub whole_none : (mode : RoundingMode) (negative : Bool) (m k u : ℕ) → u ≤ k → m ≡ 0
    → IsWholeOf mode negative (m * 2 ^ k) (2 ^ u) 0 true
whole_none mode negative m k u over none =
    let c = up_cut mode negative m k u over in
    record { value = inl (sym (c.0 ∙ ap (λ (n : ℕ). n * 2 ^ (k - u)) none ∙ zero-mul (2 ^ (k - u)))); same = sym c.1 }

pub whole_up : (mode : RoundingMode) (negative : Bool) (m k u : ℕ) → u ≤ k → m < 2 ^ 53 → k - u < 64
    → IsWholeOf mode negative (m * 2 ^ k) (2 ^ u) (m * 2 ^ (k - u) % 2 ^ 128) true
whole_up mode negative m k u over few near =
    let c = up_cut mode negative m k u over in
    let most : m * 2 ^ (k - u) < 2 ^ 53 * 2 ^ (k - u) = mul-lt-mul_of_pos_right few (pow_pos (k - u)) in
    let wide : 2 ^ (k - u) ≤ 2 ^ 63 = pow_mono {i = k - u} {j = 63} (omega arith) in
    let whole : m * 2 ^ (k - u) % 2 ^ 128 ≡ m * 2 ^ (k - u) = omega arith in
    record { value = inl (whole ∙ sym c.0); same = sym c.1 }

pub whole_far : (mode : RoundingMode) (negative : Bool) (m k u : ℕ) → u ≤ k → 0 < m → 64 ≤ k - u
    → IsWholeOf mode negative (m * 2 ^ k) (2 ^ u) (2 ^ 64) true
whole_far mode negative m k u over some far =
    let c = up_cut mode negative m k u over in
    let wide : 2 ^ 64 ≤ 2 ^ (k - u) = pow_mono {i = 64} {j = k - u} far in
    let least : 1 * 2 ^ (k - u) ≤ m * 2 ^ (k - u) = mul-le-mul_right (2 ^ (k - u)) some in
    record { value = inr (omega arith, omega (arith, c.0)); same = sym c.1 }

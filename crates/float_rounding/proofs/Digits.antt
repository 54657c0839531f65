-- What the code computes of a number of 128 bits is its cut.
use Rattle.std.proofs.Common.{◌≡◌, ℕ, suc, ◌+◌, ◌-◌, ◌*◌, ◌/◌, ◌%◌, ◌^◌, ◌<◌, ◌≤◌, refl, sym, ap, ◌∙◌, subst}
use Rattle.std.proofs.Common.{arith}
use Rattle.std.proofs.Common.{mul-le-mul_right, mul-lt-mul_of_pos_right, mul_assoc}
use Rattle.std.proofs.Common.{le-div_iff_mul-le, div-lt_iff_lt-mul, mul-pos, div-add-mod'}
use Rattle.std.proofs.lemmas.Nat.{mod_below, leading_top, mul-le}
use Rattle.std.proofs.Math.Pow.{pow-add, pow_pos, pow_mono}
use Rattle.std.specs.Int.Count.{count_leading_zeros}
use Rattle.float_rounding.specs.declared.format.Place.{Place}
use Rattle.float_rounding.specs.declared.format.Place.TheVariants.{Exact}
use Rattle.std.proofs.Common.{◌==◌, Bool, true, false, if◌then◌else◌}
use mir.Val.{bool_byte}
use Rattle.std.proofs.Common.{pow-suc}
use Rattle.float_rounding.specs.declared.format.Format.{Format}
use Rattle.float_rounding.specs.declared.format.Format.TheVariants.{Single, Double}
use Rattle.float_rounding.specs.Formats.{fraction_bits}
use Rattle.float_rounding.specs.declared.format.RoundingMode.{RoundingMode}
use Rattle.float_rounding.specs.Rounding.{place_of, scale, goes_up, magnitude}
use Rattle.float_rounding.proofs.Rounds.{bits_are}
use Rattle.float_rounding.proofs.Places.{quotient, remainder}
use Rattle.float_rounding.proofs.Places as places
use Rattle.float_rounding.specs.Cuts.{IsCut}
use Rattle.float_rounding.proofs.Scales.{scale_is}

-- m has j + 1 digits
module _ (p m e c j k : ℕ) (least : 2 ^ j ≤ m) (most : m < 2 ^ suc j) (is : k ≡ suc j + e - (c + p + 1)) where
  gap_is : 2 ^ c * 2 ^ k ≡ 2 ^ (c + k)
  gap_is = sym (pow-add 2 c k)

  fits : m * 2 ^ e / (2 ^ c * 2 ^ k) < 2 ^ suc p
  fits =
      let a : m * 2 ^ e < 2 ^ suc j * 2 ^ e = mul-lt-mul_of_pos_right most (pow_pos e) in
      let b : 2 ^ suc j * 2 ^ e ≡ 2 ^ (suc j + e) = sym (pow-add 2 (suc j) e) in
      let d : 2 ^ (suc j + e) ≤ 2 ^ (suc p + (c + k)) = pow_mono {i = suc j + e} {j = suc p + (c + k)}
      (omega arith) in
      let f : 2 ^ (suc p + (c + k)) ≡ 2 ^ suc p * (2 ^ c * 2 ^ k) = pow-add 2 (suc p) (c + k)
      ∙ ap (λ (n : ℕ). 2 ^ suc p * n) (sym gap_is) in
      (div-lt_iff_lt-mul (mul-pos (pow_pos c) (pow_pos k))).1 (omega arith)

  full : 0 < k → 2 ^ p ≤ m * 2 ^ e / (2 ^ c * 2 ^ k)
  full some =
      let a : 2 ^ j * 2 ^ e ≤ m * 2 ^ e = mul-le-mul_right (2 ^ e) least in
      let b : 2 ^ j * 2 ^ e ≡ 2 ^ (j + e) = sym (pow-add 2 j e) in
      let d : 2 ^ (j + e) ≡ 2 ^ (p + (c + k)) = ap (λ (n : ℕ). 2 ^ n) (omega arith) in
      let f : 2 ^ (p + (c + k)) ≡ 2 ^ p * (2 ^ c * 2 ^ k) = pow-add 2 p (c + k)
      ∙ ap (λ (n : ℕ). 2 ^ p * n) (sym gap_is) in
      (le-div_iff_mul-le (mul-pos (pow_pos c) (pow_pos k))).1 (omega arith)

  scales : scale p (m * 2 ^ e) (2 ^ c) ≡ k
  scales = scale_is p (m * 2 ^ e) (2 ^ c) k fits full

  pub cut_up : c + k ≤ e
      → IsCut p (m * 2 ^ e) (2 ^ c) k (m * 2 ^ (e - (c + k))) Exact × (m * 2 ^ (e - (c + k)) < 2 ^ suc p)
  cut_up above =
      let gap = 2 ^ c * 2 ^ k in
      let q = m * 2 ^ (e - (c + k)) in
      let split : 2 ^ e ≡ 2 ^ (e - (c + k)) * gap =
      ap (λ (n : ℕ). 2 ^ n) (omega arith) ∙ pow-add 2 (e - (c + k)) (c + k)
      ∙ ap (λ (n : ℕ). 2 ^ (e - (c + k)) * n) (sym gap_is) in
      let parts : m * 2 ^ e ≡ q * gap + 0 = omega
      (arith, ap (λ (n : ℕ). m * n) split, mul_assoc m (2 ^ (e - (c + k))) gap) in
      let pos : 0 < gap = mul-pos (pow_pos c) (pow_pos k) in
      let lower : m * 2 ^ e / gap ≡ q = quotient (m * 2 ^ e) gap q 0 parts pos in (
        record {
          scales = scales;
          lowers = lower;
          places = places.exact (m * 2 ^ e % gap) gap (remainder (m * 2 ^ e) gap q 0 parts pos);
        },
        subst (λ (n : ℕ). n < 2 ^ suc p) lower fits,
      )

  pub cut_down : e < c + k
      → IsCut p (m * 2 ^ e) (2 ^ c) k (m / 2 ^ (c + k - e)) (place_of (m % 2 ^ (c + k - e)) (2 ^ (c + k - e)))
      × (m / 2 ^ (c + k - e) < 2 ^ suc p)
  cut_down under =
      let g = 2 ^ (c + k - e) in
      let wide : 2 ^ c * 2 ^ k ≡ g * 2 ^ e = gap_is ∙ ap (λ (n : ℕ). 2 ^ n) (omega arith) ∙ pow-add 2 (c + k - e) e in
      let parts : m / g * g + m % g ≡ m = div-add-mod' m g in
      let is : m * 2 ^ e ≡ m / g * (g * 2 ^ e) + m % g * 2 ^ e = ap (λ (n : ℕ). n * 2 ^ e) (sym parts)
      ∙ spread (m / g) g (m % g) (2 ^ e) in
      let small : m % g * 2 ^ e < g * 2 ^ e = mul-lt-mul_of_pos_right (mod_below m g (pow_pos (c + k - e)))
      (pow_pos e) in
      let lower : m * 2 ^ e / (2 ^ c * 2 ^ k) ≡ m / g =
      ap (λ (n : ℕ). m * 2 ^ e / n) wide ∙ quotient (m * 2 ^ e) (g * 2 ^ e) (m / g) (m % g * 2 ^ e) is small in (
        record {
          scales = scales;
          lowers = lower;
          places = ap (λ (n : ℕ). place_of (m * 2 ^ e % n) n) wide
              ∙ ap (λ (n : ℕ). place_of n (g * 2 ^ e))
              (remainder (m * 2 ^ e) (g * 2 ^ e) (m / g) (m % g * 2 ^ e) is small)
              ∙ places.scaled (m % g) g (2 ^ e) (pow_pos e);
        },
        subst (λ (n : ℕ). n < 2 ^ suc p) lower fits,
      )
    where
      spread : (q g r s : ℕ) → (q * g + r) * s ≡ q * (g * s) + r * s
      spread q g r s = omega arith

-- the digits of m, and what the code takes of them
module _ (p m e c k : ℕ) (some : 0 < m) (fits128 : m < 2 ^ 128)
    (is : k ≡ 128 - count_leading_zeros 128 m + e - (c + p + 1)) where
  pub take_up : p ≤ 60 → c + k ≤ e
      → IsCut p (m * 2 ^ e) (2 ^ c) k (m * 2 ^ (e - (c + k)) % 2 ^ 128) Exact
      × (m * 2 ^ (e - (c + k)) % 2 ^ 128 < 2 ^ suc p)
  take_up few above =
      let t = leading_top 128 m some fits128 in
      let cut = cut_up p m e c t.0 k t.2 t.3 (omega (arith, t.1)) above in
      let most : 2 ^ suc p ≤ 2 ^ 61 = pow_mono {i = suc p} {j = 61} (omega arith) in
      let same : m * 2 ^ (e - (c + k)) % 2 ^ 128 ≡ m * 2 ^ (e - (c + k)) = omega (arith, cut.1) in
      subst (λ (n : ℕ). IsCut p (m * 2 ^ e) (2 ^ c) k n Exact × (n < 2 ^ suc p)) (sym same) cut

  pub take_down : e < c + k
      → IsCut p (m * 2 ^ e) (2 ^ c) k (m / 2 ^ (c + k - e)) (place_of (m % 2 ^ (c + k - e)) (2 ^ (c + k - e)))
      × (m / 2 ^ (c + k - e) < 2 ^ suc p)
  take_down under =
      let t = leading_top 128 m some fits128 in
      cut_down p m e c t.0 k t.2 t.3 (omega (arith, t.1)) under

pub sum_fits : (k p lower up : ℕ) → k < 2 ^ 20 → p ≤ 60 → lower < 2 ^ suc p → up ≤ 1
    → k * (1 * 2 ^ p % 2 ^ 128) + lower + up < 2 ^ 128
sum_fits k p lower up few low small one =
    let most : 2 ^ p ≤ 2 ^ 60 = pow_mono {i = p} {j = 60} low in
    let twice : 2 ^ suc p ≤ 2 ^ 61 = pow_mono {i = suc p} {j = 61} (omega arith) in
    let whole : 1 * 2 ^ p % 2 ^ 128 ≡ 2 ^ p = omega arith in
    let product : k * 2 ^ p ≤ 2 ^ 20 * 2 ^ 60 = mul-le k (2 ^ p) (2 ^ 20) (2 ^ 60) (omega arith) most in
    omega (arith, ap (λ (n : ℕ). k * n) whole)

byte_is : (b : Bool) → bool_byte b ≡ (if b then 1 else 0)
byte_is true = refl
byte_is false = refl

pub recut : (p num den k lower lower' : ℕ) (place place' : Place) → IsCut p num den k lower place → lower' ≡ lower
    → place' ≡ place
    → IsCut p num den k lower' place'
recut p num den k lower lower' place place' is l r =
    record { scales = is.scales; lowers = is.lowers ∙ sym l; places = is.places ∙ sym r }

pub code_bits : (p : ℕ) (mode : RoundingMode) (negative : Bool) (num den k lower : ℕ) (place : Place) (wide up : ℕ)
    → IsCut p num den k lower place → p ≤ 60 → wide ≡ k
    → up ≡ bool_byte (goes_up mode negative (lower % 2 == 1) place)
    → wide * (1 * 2 ^ p % 2 ^ 128) + lower + up ≡ magnitude p mode negative num den
code_bits p mode negative num den k lower place wide up cut few w u =
    let most : 2 ^ p ≤ 2 ^ 60 = pow_mono {i = p} {j = 60} few in
    let whole : 1 * 2 ^ p % 2 ^ 128 ≡ 2 ^ p = omega arith in
    (λ i. w i * whole i + lower + (u ∙ byte_is (goes_up mode negative (lower % 2 == 1) place)) i)
    ∙ sym (bits_are p mode negative num den k lower place cut)

pub up_fits : (b : Bool) (up : ℕ) → up ≡ bool_byte b → up ≤ 1
up_fits true up e = omega (arith, e)
up_fits false up e = omega (arith, e)

-- neither format has many fraction bits
pub few_bits : (f : Format) → fraction_bits f ≤ 52
few_bits Single = omega arith
few_bits Double = omega arith

pub limit_is : (f : Format) (p : ℕ) → p ≡ fraction_bits f → 2 * 2 ^ p % 2 ^ 128 ≡ 2 ^ suc p
limit_is f p is =
    let few : p ≤ 52 = omega (arith, few_bits f) in
    let most : 2 ^ p ≤ 2 ^ 52 = pow_mono {i = p} {j = 52} few in
    omega (arith, pow-suc 2 p)

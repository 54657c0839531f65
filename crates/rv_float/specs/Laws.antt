-- How the operations hang together.
use Rattle.std.specs.Prelude.{◌≡◌, ◌⊎◌, ℕ, ◌+◌, ◌*◌, ◌%◌, ◌^◌, ◌<◌, ◌≤◌, ◌==◌, nat_lt, true, false, if◌then◌else◌}
use Rattle.std.specs.Float.Ieee.{root_twice}
use Rattle.float_rounding.specs.declared.format.Place.{Place}
use Rattle.float_rounding.specs.declared.format.Place.TheVariants.{Exact, BelowHalf, Half, AboveHalf}
use Rattle.float_rounding.specs.Rounding.{magnitude, is_exact, is_at_lower, goes_up}
use Rattle.float_rounding.specs.declared.format.Format.{Format}
use Rattle.float_rounding.specs.declared.format.Format.TheVariants.{Single, Double}
use Rattle.float_rounding.specs.declared.format.RoundingMode.{RoundingMode}
use Rattle.float_rounding.specs.declared.format.Outcome.{Outcome}
use Rattle.float_rounding.specs.Flags.{nothing}
use Rattle.float_rounding.specs.Formats.{finite, value_of, fraction_bits, unit_exponent, infinity, sign_bit, units_at}
use Rattle.rv_float.specs.Arithmetic.{multiplied}
use Rattle.rv_float.specs.Sums.{added, fused}
use Rattle.rv_float.specs.Quotients.{divided, rooted}
use Rattle.rv_float.specs.Comparisons.{is_nan, answer, less, at_most, equal}

-- the bits of 1
abbrev pub one : Format → ℕ
one Single = 127 * 2 ^ 23
one Double = 1023 * 2 ^ 52

-- the bits of minus zero are the sign bit alone
abbrev pub minus_zero : Format → ℕ
minus_zero f = sign_bit f

-- the same result, but that two zeros may differ in sign
abbrev pub AgreeButForZeros : Format → Outcome → Outcome → Type 0
AgreeButForZeros f x y = (x ≡ y) ⊎ ((x.flags ≡ y.flags) × (x.bits % sign_bit f ≡ 0) × (y.bits % sign_bit f ≡ 0))

-- FMADD with minus zero as the addend is FMUL
abbrev pub MinusZeroAddsNothing : Type 0
MinusZeroAddsNothing =
    (f : Format) (mode : RoundingMode) (a b : ℕ)
    → AgreeButForZeros f (fused f mode (value_of f a) (value_of f b) (value_of f (minus_zero f)))
    (multiplied f mode a b)

-- FMADD with 1 as a factor is FADD
abbrev pub OneMultipliesNothing : Type 0
OneMultipliesNothing =
    (f : Format) (mode : RoundingMode) (a c : ℕ)
    → fused f mode (value_of f a) (value_of f (one f)) (value_of f c) ≡ added f mode a c

-- bits of a format's width that are no NaN's
pub record IsNumber (f : Format) (a : ℕ) : Type 0 where
  pub fits : a < 2 * sign_bit f
  pub number : is_nan (value_of f a) ≡ false

-- a number over 1 is itself
abbrev pub OneDividesNothing : Type 0
OneDividesNothing =
    (f : Format) (mode : RoundingMode) (a : ℕ) → IsNumber f a
    → divided f mode a (one f) ≡ record { bits = a; flags = nothing }

-- the root of the square of a value is that value: in units, the square's is so many times 2 to the power of the
-- unit's
-- exponent
abbrev pub RootsOfSquares : Type 0
RootsOfSquares =
    (f : Format) (mode : RoundingMode) (a bits units : ℕ) → value_of f a ≡ finite false units → bits < infinity f
    → units * 2 ^ unit_exponent f ≡ units_at (fraction_bits f) bits * units_at (fraction_bits f) bits
    → rooted f mode a ≡ record { bits = bits; flags = nothing }

-- numbers are in a total order, in which minus zero equals plus zero
pub record AreOrdered (f : Format) (a b c : ℕ) : Type 0 where
  pub reflexive : at_most f a a ≡ answer true
  pub antisymmetric : at_most f a b ≡ answer true → at_most f b a ≡ answer true → equal f a b ≡ answer true
  pub transitive : at_most f a b ≡ answer true → at_most f b c ≡ answer true → at_most f a c ≡ answer true
  pub total : (at_most f a b ≡ answer true) ⊎ (at_most f b a ≡ answer true)
  pub strict : less f a b ≡ answer true → at_most f b a ≡ answer false
  pub only_zeros : equal f a b ≡ answer true → (a ≡ b) ⊎ ((a % sign_bit f ≡ 0) × (b % sign_bit f ≡ 0))
  pub zeros : a % sign_bit f ≡ 0 → b % sign_bit f ≡ 0 → equal f a b ≡ answer true

abbrev pub NumbersAreOrdered : Type 0
NumbersAreOrdered = (f : Format) (a b c : ℕ) → IsNumber f a → IsNumber f b → IsNumber f c → AreOrdered f a b c

-- where a root stands between two neighbours, by squares: the sum of the neighbours is twice what is half-way
abbrev pub root_place : ℕ → ℕ → ℕ → Place
root_place square lower upper =
    if square == lower * lower then Exact
    else (if nat_lt (4 * square) ((lower + upper) * (lower + upper)) then BelowHalf
    else (if 4 * square == (lower + upper) * (lower + upper) then Half else AboveHalf))

-- the root of so many units is rounded to the neighbour below or the one above, by where it stands between them
pub record RoundsTheRoot (f : Format) (units lower : ℕ) : Type 0 where
  pub not_above : units_at (fraction_bits f) lower * units_at (fraction_bits f) lower ≤ units * 2 ^ unit_exponent f
  pub next_above : units * 2 ^ unit_exponent f
      < units_at (fraction_bits f) (lower + 1) * units_at (fraction_bits f) (lower + 1)
  pub chosen : (mode : RoundingMode)
      → magnitude (fraction_bits f) mode false (root_twice (units * 2 ^ unit_exponent f)) 2
      ≡ lower
      + (if goes_up mode false (lower % 2 == 1)
      (root_place (units * 2 ^ unit_exponent f) (units_at (fraction_bits f) lower)
      (units_at (fraction_bits f) (lower + 1)))
      then 1 else 0)
  pub unchanged : is_exact (fraction_bits f) (root_twice (units * 2 ^ unit_exponent f)) 2
      ≡ is_at_lower (root_place (units * 2 ^ unit_exponent f) (units_at (fraction_bits f) lower)
      (units_at (fraction_bits f) (lower + 1)))

abbrev pub RootsRoundBySquares : Type 0
RootsRoundBySquares = (f : Format) (units : ℕ) → 0 < units → (lower : ℕ) × RoundsTheRoot f units lower

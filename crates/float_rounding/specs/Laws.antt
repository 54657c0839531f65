-- What rounding is, in the words of numerical analysis. A value of the format with no greatest exponent is
-- units_at p bits, for any bits.
use Rattle.std.specs.Prelude.{◌≡◌, ◌≢◌, ◌⊎◌, ℕ, ◌+◌, ◌-◌, ◌*◌, ◌%◌, ◌^◌, ◌<◌, ◌≤◌, ◌==◌, nat_lt, Bool, not}
use Rattle.std.specs.Prelude.{if◌then◌else◌}
use Rattle.std.specs.Float.Ieee.{Format as StdFormat, binary32, binary64, round, to_bits}
use Rattle.float_rounding.specs.declared.format.Format.{Format}
use Rattle.float_rounding.specs.declared.format.Format.TheVariants.{Single, Double}
use Rattle.float_rounding.specs.declared.format.Flags.{Flags}
use Rattle.float_rounding.specs.declared.format.Outcome.{Outcome}
use Rattle.float_rounding.specs.declared.format.RoundingMode.{RoundingMode}
use Rattle.float_rounding.specs.declared.format.RoundingMode.TheVariants.{NearestEven, TowardZero, Down, Up}
use Rattle.float_rounding.specs.declared.format.RoundingMode.TheVariants.{NearestMaxMagnitude}
use Rattle.float_rounding.specs.Flags.{nothing}
use Rattle.float_rounding.specs.Formats.{fraction_bits, infinity, unit_exponent, units_at}
use Rattle.float_rounding.specs.Rounding.{place_of, goes_up, is_at_lower, magnitude, is_exact, is_tiny, signed}
use Rattle.float_rounding.specs.Rounding.{rounded}

-- how far the value of bits is from a number, as a numerator
abbrev pub distance : ℕ → ℕ → ℕ → ℕ → ℕ
distance p bits num den = (units_at p bits * den - num) + (num - units_at p bits * den)

-- the bits of the greatest magnitude that is not above a value, and the choice between it and the next one, by where
-- the value stands between the two
pub record LiesBetween (p num den lower : ℕ) : Type 0 where
  pub not_above : units_at p lower * den ≤ num
  pub next_above : num < units_at p (lower + 1) * den
  pub chosen : (mode : RoundingMode) (negative : Bool)
      → magnitude p mode negative num den
      ≡ lower
      + (if goes_up mode negative (lower % 2 == 1)
      (place_of (num - units_at p lower * den) (units_at p (lower + 1) * den - units_at p lower * den))
      then 1 else 0)
  pub unchanged : is_exact p num den
      ≡ is_at_lower (place_of (num - units_at p lower * den) (units_at p (lower + 1) * den - units_at p lower * den))

abbrev pub RoundsToANeighbour : Type 0
RoundsToANeighbour = (p num den : ℕ) → 0 < p → 0 < den → (lower : ℕ) × LiesBetween p num den lower

-- more bits are a greater magnitude
abbrev pub BitsCountUpwards : Type 0
BitsCountUpwards = (p a b : ℕ) → a < b → units_at p a < units_at p b

-- rounding sees the value of a fraction alone
abbrev pub ValueAlone : Type 0
ValueAlone =
    (f : Format) (mode : RoundingMode) (negative : Bool) (num den s : ℕ) → 0 < den → 0 < s
    → rounded f mode negative num den ≡ rounded f mode negative (num * s) (den * s)

-- tininess is the same with any more binades below the least normal number: with j + 1 of them a value is tiny where,
-- so
-- many binades up, it rounds to less than the least normal number so many binades up, whose bits are (j + 2) * 2 ^ p
abbrev pub OneBinadeIsEnough : Type 0
OneBinadeIsEnough =
    (p : ℕ) (mode : RoundingMode) (negative : Bool) (num den j : ℕ) → 0 < den
    → is_tiny p mode negative num den ≡ nat_lt (magnitude p mode negative (num * 2 ^ (j + 1)) den) ((j + 2) * 2 ^ p)

-- a finite value of the format rounds to itself, and raises nothing
abbrev pub ValuesStay : Type 0
ValuesStay =
    (f : Format) (mode : RoundingMode) (negative : Bool) (bits : ℕ) → bits < infinity f
    → rounded f mode negative (units_at (fraction_bits f) bits) 1
    ≡ record { bits = signed f negative bits; flags = nothing }

-- no value lies between a number and what it is rounded to
abbrev pub NoneBetween : Type 0
NoneBetween =
    (p : ℕ) (mode : RoundingMode) (negative : Bool) (num den bits : ℕ) → 0 < p → 0 < den
    → (num < units_at p bits * den → magnitude p mode negative num den ≤ bits)
    × (units_at p bits * den < num → bits ≤ magnitude p mode negative num den)

-- rounding to the nearest: no value is nearer. Of two that are as near, the one with even bits is taken, or the
-- greater
pub record IsNearest (p : ℕ) (mode : RoundingMode) (negative : Bool) (num den bits : ℕ) : Type 0 where
  pub none_nearer : distance p (magnitude p mode negative num den) num den ≤ distance p bits num den
  pub to_even : mode ≡ NearestEven → bits ≢ magnitude p mode negative num den
      → distance p bits num den ≡ distance p (magnitude p mode negative num den) num den
      → magnitude p mode negative num den % 2 ≡ 0
  pub to_greater : mode ≡ NearestMaxMagnitude → bits ≢ magnitude p mode negative num den
      → distance p bits num den ≡ distance p (magnitude p mode negative num den) num den
      → bits < magnitude p mode negative num den

abbrev pub NoneNearer : Type 0
NoneNearer =
    (p : ℕ) (mode : RoundingMode) (negative : Bool) (num den bits : ℕ) → 0 < p → 0 < den
    → (mode ≡ NearestEven) ⊎ (mode ≡ NearestMaxMagnitude) → IsNearest p mode negative num den bits

-- of two magnitudes, the greater is not rounded to less
abbrev pub OrderStays : Type 0
OrderStays =
    (f : Format) (mode : RoundingMode) (negative : Bool) (num den num' den' : ℕ) → 0 < den → 0 < den'
    → num * den' ≤ num' * den
    → (rounded f mode negative num den).bits ≤ (rounded f mode negative num' den').bits

-- the mode that rounds a number's opposite to its result's opposite
abbrev pub mirrored : RoundingMode → RoundingMode
mirrored NearestEven = NearestEven
mirrored TowardZero = TowardZero
mirrored Down = Up
mirrored Up = Down
mirrored NearestMaxMagnitude = NearestMaxMagnitude

-- two results of opposite signs, the same otherwise
pub record AreOpposites (f : Format) (negative : Bool) (one other : Outcome) : Type 0 where
  pub size : ℕ
  pub fits : size ≤ infinity f
  pub flags : Flags
  pub first : one ≡ record { bits = signed f negative size; flags = flags }
  pub second : other ≡ record { bits = signed f (not negative) size; flags = flags }

abbrev pub OppositesMirror : Type 0
OppositesMirror =
    (f : Format) (mode : RoundingMode) (negative : Bool) (num den : ℕ)
    → AreOpposites f negative (rounded f mode negative num den) (rounded f (mirrored mode) (not negative) num den)

-- to the nearest, ties to even, a number is rounded as std rounds it, whose floats are Rust's
abbrev pub std_format : Format → StdFormat
std_format Single = binary32
std_format Double = binary64

abbrev pub NearestEvenIsStd : Type 0
NearestEvenIsStd =
    (f : Format) (negative : Bool) (num den : ℕ) → 0 < den
    → (rounded f NearestEven negative num den).bits
    ≡ to_bits (std_format f) (round (std_format f) negative num (den * 2 ^ unit_exponent f))

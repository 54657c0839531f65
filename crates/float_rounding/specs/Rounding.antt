-- Rounding. An exact positive value is a fraction, so many units over a denominator.
use Rattle.std.specs.Prelude.{ℕ, suc, ◌+◌, ◌-◌, ◌*◌, ◌/◌, ◌%◌, ◌^◌, ◌==◌, nat_lt, nat_le, Bool, true, false}
use Rattle.std.specs.Prelude.{if◌then◌else◌}
use Rattle.std.specs.Prelude.{not}
use Rattle.std.specs.Float.Ieee.{size}
use Rattle.float_rounding.specs.declared.format.Format.{Format}
use Rattle.float_rounding.specs.declared.format.RoundingMode.{RoundingMode}
use Rattle.float_rounding.specs.declared.format.RoundingMode.TheVariants.{NearestEven, TowardZero, Down, Up}
use Rattle.float_rounding.specs.declared.format.RoundingMode.TheVariants.{NearestMaxMagnitude}
use Rattle.float_rounding.specs.declared.format.Place.{Place}
use Rattle.float_rounding.specs.declared.format.Place.TheVariants.{Exact, BelowHalf, Half, AboveHalf}
use Rattle.float_rounding.specs.declared.format.Outcome.{Outcome}
use Rattle.float_rounding.specs.Formats.{fraction_bits, infinity, sign_bit}
use Rattle.float_rounding.specs.Flags.{overflow, imprecision}

-- where a number stands between two neighbours, by how far it is above the lower one, and how far they are apart
abbrev pub place_of : ℕ → ℕ → Place
place_of rest gap =
    if rest == 0 then Exact
    else (if nat_lt (2 * rest) gap then BelowHalf else (if 2 * rest == gap then Half else AboveHalf))

abbrev pub is_at_lower : Place → Bool
is_at_lower Exact = true
is_at_lower BelowHalf = false
is_at_lower Half = false
is_at_lower AboveHalf = false

-- whether a magnitude is rounded to the upper neighbour: by the mode, the sign, and whether the lower one is odd
abbrev pub goes_up : RoundingMode → Bool → Bool → Place → Bool
goes_up mode negative odd Exact = false
goes_up NearestEven negative odd BelowHalf = false
goes_up NearestEven negative odd Half = odd
goes_up NearestEven negative odd AboveHalf = true
goes_up TowardZero negative odd place = false
goes_up Down negative odd place = negative
goes_up Up negative odd place = not negative
goes_up NearestMaxMagnitude negative odd BelowHalf = false
goes_up NearestMaxMagnitude negative odd Half = true
goes_up NearestMaxMagnitude negative odd AboveHalf = true

-- neighbours are 2 to the power of this many units apart: the least such that p + 1 digits of the whole part are kept
abbrev pub scale : ℕ → ℕ → ℕ → ℕ
scale p num den = size (num / den) - suc p

-- the bits of the lower neighbour, or the next ones
abbrev pub chosen_bits : ℕ → RoundingMode → Bool → ℕ → ℕ → Place → ℕ
chosen_bits p mode negative k lower place =
    k * 2 ^ p + lower + (if goes_up mode negative (lower % 2 == 1) place then 1 else 0)

-- the bits of the rounded magnitude, with an exponent field as large as it has to be
unfoldable pub magnitude : ℕ → RoundingMode → Bool → ℕ → ℕ → ℕ
magnitude p mode negative num den =
    let k = scale p num den in
    let gap = den * 2 ^ k in
    chosen_bits p mode negative k (num / gap) (place_of (num % gap) gap)

-- whether rounding changes nothing
unfoldable pub is_exact : ℕ → ℕ → ℕ → Bool
is_exact p num den = let gap = den * 2 ^ scale p num den in is_at_lower (place_of (num % gap) gap)

-- tininess, detected after rounding: with one more binade below the least normal number, 2 ^ p units, the value still
-- rounds to less than it. So twice the value rounds to less than 2 ^ (p + 1) units
unfoldable pub is_tiny : ℕ → RoundingMode → Bool → ℕ → ℕ → Bool
is_tiny p mode negative num den = nat_lt (magnitude p mode negative (2 * num) den) (2 ^ suc p)

-- what is beyond the greatest finite number becomes infinity, or that number
abbrev pub beyond : Format → RoundingMode → Bool → ℕ
beyond f NearestEven negative = infinity f
beyond f TowardZero negative = infinity f - 1
beyond f Down negative = if negative then infinity f else infinity f - 1
beyond f Up negative = if negative then infinity f - 1 else infinity f
beyond f NearestMaxMagnitude negative = infinity f

abbrev pub signed : Format → Bool → ℕ → ℕ
signed f negative bits = if negative then sign_bit f + bits else bits

-- a rounded magnitude as a result: an overflow where it is not finite
abbrev pub packed : Format → RoundingMode → Bool → ℕ → Bool → Bool → Outcome
packed f mode negative bits exact tiny =
    if nat_le (infinity f) bits
    then record { bits = signed f negative (beyond f mode negative); flags = overflow }
    else record { bits = signed f negative bits; flags = imprecision (not exact) tiny }

-- num / den units, negative or not, rounded
unfoldable pub rounded : Format → RoundingMode → Bool → ℕ → ℕ → Outcome
rounded f mode negative num den =
    let p = fraction_bits f in
    packed f mode negative (magnitude p mode negative num den) (is_exact p num den) (is_tiny p mode negative num den)

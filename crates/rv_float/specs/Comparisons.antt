-- Comparisons.
use Rattle.std.specs.Prelude.{ℕ, nat_lt, ℤ, pos, neg_ℤ, int_lt, Bool, true, false, not, ◌&&◌, ◌||◌, if◌then◌else◌}
use Rattle.float_rounding.specs.declared.format.Format.{Format}
use Rattle.float_rounding.specs.declared.format.Outcome.{Outcome}
use Rattle.float_rounding.specs.Flags.{nothing, invalid_operation}
use Rattle.float_rounding.specs.Formats.{Value, finite, infinite, quiet, signaling, value_of}
use Rattle.rv_float.specs.Arithmetic.{signals}

-- a number of units with its sign
abbrev pub number_of : Bool → ℕ → ℤ
number_of negative units = if negative then neg_ℤ (pos units) else pos units

abbrev pub is_nan : Value → Bool
is_nan (finite s a) = false
is_nan (infinite s) = false
is_nan quiet = true
is_nan signaling = true

-- the order of numbers: zeros are equal, and infinities are at the ends
abbrev pub is_below : Value → Value → Bool
is_below (finite s a) (finite t b) = int_lt (number_of s a) (number_of t b)
is_below (finite s a) (infinite t) = not t
is_below (infinite s) (finite t b) = s
is_below (infinite s) (infinite t) = s && not t
is_below x y = false

-- an answer is 1 or 0, and raises nothing
abbrev pub answer : Bool → Outcome
answer true = record { bits = 1; flags = nothing }
answer false = record { bits = 0; flags = nothing }

-- a NaN compares with nothing, so the answer is 0
abbrev pub unordered_answer : Bool → Outcome
unordered_answer signal = record { bits = 0; flags = if signal then invalid_operation else nothing }

-- FEQ: invalid only where a NaN signals
abbrev pub equal_of : Value → Value → Outcome
equal_of x y =
    if is_nan x || is_nan y then unordered_answer (signals x || signals y)
    else answer (not (is_below x y) && not (is_below y x))

-- FLT and FLE: invalid at any NaN
abbrev pub less_of : Value → Value → Outcome
less_of x y = if is_nan x || is_nan y then unordered_answer true else answer (is_below x y)

abbrev pub at_most_of : Value → Value → Outcome
at_most_of x y = if is_nan x || is_nan y then unordered_answer true else answer (not (is_below y x))

unfoldable pub equal : Format → ℕ → ℕ → Outcome
equal f a b = equal_of (value_of f a) (value_of f b)

unfoldable pub less : Format → ℕ → ℕ → Outcome
less f a b = less_of (value_of f a) (value_of f b)

unfoldable pub at_most : Format → ℕ → ℕ → Outcome
at_most f a b = at_most_of (value_of f a) (value_of f b)

-- the order of numbers, by their signs and the other bits
abbrev pub bits_below : Bool → ℕ → Bool → ℕ → Bool
bits_below true x true y = nat_lt y x
bits_below true x false y = nat_lt 0 x || nat_lt 0 y
bits_below false x true y = false
bits_below false x false y = nat_lt x y

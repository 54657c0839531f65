-- The classes of values.
use Rattle.std.specs.Prelude.{ℕ, ◌^◌, ◌==◌, nat_lt, if◌then◌else◌}
use Rattle.float_rounding.specs.declared.format.Format.{Format}
use Rattle.float_rounding.specs.Formats.{Value, finite, infinite, quiet, signaling, fraction_bits}
use Rattle.rv_float.specs.declared.classes.Class.{Class}
use Rattle.rv_float.specs.declared.classes.Class.TheVariants.{NegativeInfinity, NegativeNormal, NegativeSubnormal}
use Rattle.rv_float.specs.declared.classes.Class.TheVariants.{NegativeZero}
use Rattle.rv_float.specs.declared.classes.Class.TheVariants.{PositiveZero, PositiveSubnormal, PositiveNormal}
use Rattle.rv_float.specs.declared.classes.Class.TheVariants.{PositiveInfinity}
use Rattle.rv_float.specs.declared.classes.Class.TheVariants.{SignalingNan, QuietNan}

-- below 2 to the power of the fraction's bits, in units, a number is subnormal
abbrev pub class_of : Format → Value → Class
class_of f (finite s a) =
    if a == 0 then (if s then NegativeZero else PositiveZero)
    else (if nat_lt a (2 ^ fraction_bits f) then (if s then NegativeSubnormal else PositiveSubnormal)
    else (if s then NegativeNormal else PositiveNormal))
class_of f (infinite s) = if s then NegativeInfinity else PositiveInfinity
class_of f signaling = SignalingNan
class_of f quiet = QuietNan

-- FCLASS
abbrev pub mask_of : Class → ℕ
mask_of NegativeInfinity = 2 ^ 0
mask_of NegativeNormal = 2 ^ 1
mask_of NegativeSubnormal = 2 ^ 2
mask_of NegativeZero = 2 ^ 3
mask_of PositiveZero = 2 ^ 4
mask_of PositiveSubnormal = 2 ^ 5
mask_of PositiveNormal = 2 ^ 6
mask_of PositiveInfinity = 2 ^ 7
mask_of SignalingNan = 2 ^ 8
mask_of QuietNan = 2 ^ 9

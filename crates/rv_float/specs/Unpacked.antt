-- What the code has of a value.
use Rattle.std.specs.Prelude.{ℕ, ◌*◌, ◌^◌}
use Rattle.rv_float.specs.declared.unpacked.Number.{Number}
use Rattle.rv_float.specs.declared.unpacked.Unpacked.{Unpacked}
use Rattle.rv_float.specs.declared.unpacked.Unpacked.TheVariants.{Finite, Infinite, Quiet, Signaling}
use Rattle.float_rounding.specs.Formats.{Value, finite, infinite, quiet, signaling}

-- a finite number is m * 2 ^ k units
abbrev pub units_of : Number → ℕ
units_of number = number.m * 2 ^ number.k

abbrev pub value_shown : Unpacked → Value
value_shown (Finite number) = finite number.negative (units_of number)
value_shown (Infinite negative) = infinite negative
value_shown Quiet = quiet
value_shown Signaling = signaling

-- The exceptions that a result raises.
use Rattle.std.specs.Prelude.{Bool, true, false, ◌&&◌}
use Rattle.float_rounding.specs.declared.format.Flags.{Flags}

abbrev pub nothing : Flags
nothing = record { invalid = false; divides_by_zero = false; overflows = false; underflows = false; inexact = false }

abbrev pub invalid_operation : Flags
invalid_operation =
    record { invalid = true; divides_by_zero = false; overflows = false; underflows = false; inexact = false }

abbrev pub division_by_zero : Flags
division_by_zero =
    record { invalid = false; divides_by_zero = true; overflows = false; underflows = false; inexact = false }

-- a number beyond the greatest finite one, which is always inexact
abbrev pub overflow : Flags
overflow = record { invalid = false; divides_by_zero = false; overflows = true; underflows = false; inexact = true }

-- an underflow is a tiny result that is inexact
abbrev pub imprecision : Bool → Bool → Flags
imprecision inexact tiny =
    record {
      invalid = false;
      divides_by_zero = false;
      overflows = false;
      underflows = inexact && tiny;
      inexact = inexact;
    }

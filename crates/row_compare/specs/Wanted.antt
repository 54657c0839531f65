-- What is wanted of a signal: a value, in the bits of a mask.
use Rattle.std.specs.Prelude.{ℕ, Option, Some, None}
use Rattle.csr_file.specs.Fields.{all_bits}
use Rattle.row_compare.specs.declared.expected_signal.ExpectedSignal.{ExpectedSignal}

-- a value in all its bits
abbrev pub whole : ℕ → Option ExpectedSignal
whole value = Some (record { value = value; mask = all_bits })

-- the same where the value is known
abbrev pub where_known : Option ℕ → Option ExpectedSignal
where_known None = None
where_known (Some value) = whole value

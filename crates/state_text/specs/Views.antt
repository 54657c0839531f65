-- What definitions see of the code's own types.
use Rattle.state_text.specs.declared.remaining.Remaining as code
use Rattle.state_text.specs.Reading.{Remaining}

-- what is left of a text
abbrev pub remaining_of : code.Remaining → Remaining
remaining_of remaining = record { line = remaining.line; text = remaining.text.now }

-- a value that was read, and what is left after it
abbrev pub value_and_remaining : {A : Type 0} → A × code.Remaining → A × Remaining
value_and_remaining read = (read.0, remaining_of read.1)

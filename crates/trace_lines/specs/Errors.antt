-- Why no lines were taken.
use Rattle.std.specs.Prelude.{Bool, true, false}
use Rattle.trace_lines.specs.declared.piece.LineError.{LineError}
use Rattle.trace_lines.specs.declared.piece.LineError.TheVariants.{ReadFault, NoMemory}

-- whether the shelf failed
abbrev pub is_read_fault : LineError → Bool
is_read_fault ReadFault = true
is_read_fault NoMemory = false

use Rattle.std.proofs.Common.{◌≡◌, length}
use Rattle.csv_line.specs.Fields.{trimmed_start_of}
use Rattle.csv_line.proofs.trim_start.Given as goal

abbrev pub invariant-loop-rest : goal.invariant-loop-rest
invariant-loop-rest l = trimmed_start_of l.rest ≡ trimmed_start_of l.fn.text

abbrev pub decreases-loop-rest : goal.decreases-loop-rest
decreases-loop-rest l = length l.rest

use Rattle.std.proofs.Common.{◌≡◌, drop}
use Rattle.csv.specs.declared.parser.State.TheVariants.{StartField}
use Rattle.csv_line.specs.SharedLines.{machine_state_after, machine_state_of}
use Rattle.csv_line.proofs.first_line.closes_quotes.Given as goal

abbrev pub invariant-bytes : goal.invariant-bytes
invariant-bytes l =
    machine_state_after (machine_state_of l.place) (drop l.byte-index l.line) ≡ machine_state_after StartField l.line

use Rattle.std.proofs.Common.{◌∙◌}
use Rattle.std.proofs.lemmas.List.Elements.{All-get_or}
use Rattle.csv.specs.declared.parser.State.TheVariants.{StartField}
use Rattle.csv_line.specs.SharedLines.{EndsNoRecord, machine_state_after, machine_state_of}
use Rattle.csv_line.proofs.Machine.{scan_byte, scan_end}
use Rattle.csv_line.proofs.first_line.closes_quotes.Goals as goal

pub bytes-preserved : goal.bytes-preserved
bytes-preserved c =
    let ends = All-get_or EndsNoRecord c.args.line.now c.bytes.byte-index 0 c.bytes-test.true c.requires in
    scan_byte (machine_state_of c.bytes.place) (machine_state_of c.next_place-place.result)
    (machine_state_after StartField c.args.line.now) c.args.line.now c.bytes.byte-index c.bytes-test.true
    c.bytes.invariant (c.next_place-place.ensures ends)

pub returns : goal.returns
returns c =
    let last =
    scan_end (machine_state_of c.bytes.place) (machine_state_after StartField c.args.line.now) c.args.line.now
    c.bytes.byte-index c.bytes-test.false c.bytes.invariant in
    λ yes quoted. c.is_outside.ensures yes (last ∙ quoted)

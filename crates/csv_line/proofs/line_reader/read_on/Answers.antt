use Rattle.std.proofs.Common.{Ok, ap, ◌∙◌}
use Rattle.std.proofs.lemmas.Result.{IfOk-weaker}
use Rattle.csv.specs.Records.{fields_of}
use Rattle.csv_line.proofs.Readers.{stands_on}
use Rattle.csv_line.proofs.line_reader.read_on.Goals as goal

pub returns : goal.returns
returns c =
    IfOk-weaker c.found_of.result _ _
    (λ found same yes text line rest stands shared.
    let is = same ∙ ap Ok yes in
    let read = c.read_byte_record.ensures in
    stands_on (fields_of c.read_byte_record.new.row) c.args.reader.now c.read_byte_record.new.self stands shared
    (rw is at read.reads stands.trim stands.ready)
    (rw is at read.flexible)
    (rw is at read.ready stands.trim))
    c.found_of.ensures

use Rattle.std.proofs.Common.{sym, ◌∙◌}
use Rattle.csv_line.proofs.Readers.{none_left}
use Rattle.csv_line.proofs.line_reader.LineReader.next.Goals as goal

pub returns-then-is_empty-clause-read : goal.returns-then-is_empty-clause-read
returns-then-is_empty-clause-read c =
    none_left c.self.inside.rest.now c.args.self.now c.args.fields.now (sym c.is_empty.ensures ∙ c.if-is_empty.true)
    c.self.view_is

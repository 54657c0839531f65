use Rattle.std.proofs.Common.{◌∙◌}
use Rattle.csv_line.proofs.FirstLines.{returns_found}
use Rattle.csv_line.proofs.first_line.returns_in.Goals as goal

pub returns : goal.returns
returns c = c.is_some.ensures ∙ returns_found c.args.line.now c.memchr.result c.memchr.ensures

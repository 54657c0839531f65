use Rattle.csv_line.proofs.FirstLines.{last_lines}
use Rattle.csv_line.proofs.first_line.last_line.Goals as goal

pub returns-clause-lines : goal.returns-clause-lines
returns-clause-lines c = last_lines c.args.text.now c.requires.nonempty c.requires.line

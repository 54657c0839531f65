use Rattle.csv_line.proofs.FirstLines.{ended_lines, ended_shared}
use Rattle.csv_line.proofs.first_line.ended_line.Goals as goal

pub returns-clause-lines : goal.returns-clause-lines
returns-clause-lines c = ended_lines c.args.text.now c.args.end c.requires.ended

pub returns-clause-shared : goal.returns-clause-shared
returns-clause-shared c = λ yes. ended_shared c.args.text.now c.args.end c.requires.ended (c.requires.shareable yes)

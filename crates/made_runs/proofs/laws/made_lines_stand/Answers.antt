use Rattle.made_runs.proofs.TraceLines.{lines_are, trace_len}
use Rattle.made_runs.proofs.laws.made_lines_stand.Goals as goal

pub returns-clause-lines : goal.returns-clause-lines
returns-clause-lines c = lines_are

pub returns-clause-short : goal.returns-clause-short
returns-clause-short c = trace_len

use Rattle.trace_lines.proofs.CallLemmas.{pieces_so_far, last_ends, short_ends, lines_of-last}
use Rattle.trace_lines.proofs.laws.pieces_are_the_file.Goals as goal

pub returns-clause-so_far : goal.returns-clause-so_far
returns-clause-so_far c = pieces_so_far

pub returns-clause-ended : goal.returns-clause-ended
returns-clause-ended c = last_ends

pub returns-clause-short : goal.returns-clause-short
returns-clause-short c = short_ends

pub returns-clause-ending : goal.returns-clause-ending
returns-clause-ending c = lines_of-last

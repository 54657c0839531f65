use Rattle.segment_judge.proofs.Alone.{judges_alone, rows_first}
use Rattle.segment_judge.proofs.laws.one_hart_judges_alone.Goals as goal

pub returns-clause-alone : goal.returns-clause-alone
returns-clause-alone c = λ core rows. judges_alone rows core

pub returns-clause-rows : goal.returns-clause-rows
returns-clause-rows c = rows_first

use Rattle.verdict_join.proofs.Rounds.{none_again, settle_all}
use Rattle.verdict_join.proofs.laws.rounds_settle_all.Goals as goal

pub returns-clause-all : goal.returns-clause-all
returns-clause-all c = settle_all

pub returns-clause-none : goal.returns-clause-none
returns-clause-none c = none_again

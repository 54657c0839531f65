use Rattle.sv39_walk.proofs.Marked.{sets_its_last, writes_at_most_one, writes_none_under_fault}
use Rattle.sv39_walk.proofs.laws.translation_sets_its_last_entry.Goals as goal

pub returns-clause-one : goal.returns-clause-one
returns-clause-one c = writes_at_most_one

pub returns-clause-last : goal.returns-clause-last
returns-clause-last c = sets_its_last

pub returns-clause-none : goal.returns-clause-none
returns-clause-none c = writes_none_under_fault

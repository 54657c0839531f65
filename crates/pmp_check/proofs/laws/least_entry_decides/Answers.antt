use Rattle.pmp_check.proofs.Deciding.{whole_decides, part_decides, none_decides, no_entry_allows}
use Rattle.pmp_check.proofs.laws.least_entry_decides.Goals as goal

pub returns-clause-whole : goal.returns-clause-whole
returns-clause-whole c = whole_decides

pub returns-clause-part : goal.returns-clause-part
returns-clause-part c = part_decides

pub returns-clause-none : goal.returns-clause-none
returns-clause-none c = none_decides

pub returns-clause-no_entry : goal.returns-clause-no_entry
returns-clause-no_entry c = no_entry_allows

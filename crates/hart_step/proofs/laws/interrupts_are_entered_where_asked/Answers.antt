use Rattle.hart_step.proofs.Phases.{asked_asks, asks_asked, enters, stays, takes_none, lacks_rightly}
use Rattle.hart_step.proofs.laws.interrupts_are_entered_where_asked.Goals as goal

pub returns-clause-asked : goal.returns-clause-asked
returns-clause-asked c = asked_asks

pub returns-clause-asks : goal.returns-clause-asks
returns-clause-asks c = asks_asked

pub returns-clause-entered : goal.returns-clause-entered
returns-clause-entered c = enters

pub returns-clause-elsewhere : goal.returns-clause-elsewhere
returns-clause-elsewhere c = stays

pub returns-clause-none : goal.returns-clause-none
returns-clause-none c = takes_none

pub returns-clause-lacks : goal.returns-clause-lacks
returns-clause-lacks c = lacks_rightly

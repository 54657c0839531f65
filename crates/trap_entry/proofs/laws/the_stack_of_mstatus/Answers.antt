use Rattle.trap_entry.proofs.Stacks.{stacked_for_machine, stacked_for_supervisor, unstacked_by_mret, unstacked_by_sret}
use Rattle.trap_entry.proofs.laws.the_stack_of_mstatus.Goals as goal

pub returns-clause-into_machine : goal.returns-clause-into_machine
returns-clause-into_machine c = stacked_for_machine

pub returns-clause-into_supervisor : goal.returns-clause-into_supervisor
returns-clause-into_supervisor c = stacked_for_supervisor

pub returns-clause-by_mret : goal.returns-clause-by_mret
returns-clause-by_mret c = unstacked_by_mret

pub returns-clause-by_sret : goal.returns-clause-by_sret
returns-clause-by_sret c = unstacked_by_sret

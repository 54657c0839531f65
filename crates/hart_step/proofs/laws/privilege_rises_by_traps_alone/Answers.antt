use Rattle.hart_step.proofs.Phases.{begun_mode, next_halted}
use Rattle.hart_step.proofs.Modes.{elsewhere, rises, everywhere, falls}
use Rattle.hart_step.proofs.laws.privilege_rises_by_traps_alone.Goals as goal

pub returns-clause-elsewhere : goal.returns-clause-elsewhere
returns-clause-elsewhere c = elsewhere

pub returns-clause-halted : goal.returns-clause-halted
returns-clause-halted c = next_halted

pub returns-clause-interrupts : goal.returns-clause-interrupts
returns-clause-interrupts c = begun_mode

pub returns-clause-traps : goal.returns-clause-traps
returns-clause-traps c = rises

pub returns-clause-everywhere : goal.returns-clause-everywhere
returns-clause-everywhere c = everywhere

pub returns-clause-falls : goal.returns-clause-falls
returns-clause-falls c = falls

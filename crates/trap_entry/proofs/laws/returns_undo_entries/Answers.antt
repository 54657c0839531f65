use Rattle.trap_entry.proofs.Undone.{mret_undoes, sret_undoes}
use Rattle.trap_entry.proofs.laws.returns_undo_entries.Goals as goal

pub returns-clause-mret : goal.returns-clause-mret
returns-clause-mret c = mret_undoes

pub returns-clause-sret : goal.returns-clause-sret
returns-clause-sret c = sret_undoes

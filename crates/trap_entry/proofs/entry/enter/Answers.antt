use Rattle.std.proofs.Common.{subst, sym}
use Rattle.csr_file.specs.Legal.{IsLegal}
use Rattle.trap_entry.proofs.Legal.{machine_legal, supervisor_legal}
use Rattle.trap_entry.proofs.entry.enter.Goals as goal

pub returns-then-is_delegated-clause-legal : goal.returns-then-is_delegated-clause-legal
returns-then-is_delegated-clause-legal c =
    λ legal even. subst IsLegal (sym c.enter_supervisor.ensures) (supervisor_legal _ _ _ _ _ legal even)

pub returns-else-is_delegated-clause-legal : goal.returns-else-is_delegated-clause-legal
returns-else-is_delegated-clause-legal c =
    λ legal even. subst IsLegal (sym c.enter_machine.ensures) (machine_legal _ _ _ _ _ legal even)

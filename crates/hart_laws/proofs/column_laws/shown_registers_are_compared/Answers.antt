use Rattle.hart_laws.proofs.Columns.{compared_after, compared_before}
use Rattle.hart_laws.proofs.column_laws.shown_registers_are_compared.Goals as goal

pub returns-clause-before : goal.returns-clause-before
returns-clause-before c = compared_before

pub returns-clause-after : goal.returns-clause-after
returns-clause-after c = compared_after

use Rattle.hart_step.proofs.Rows.{refused_outlasts, forbidden_outlasts, uncovered_outlasts}
use Rattle.hart_step.proofs.protection_laws.refused_bytes_are_preserved.Goals as goal

pub returns-clause-refused : goal.returns-clause-refused
returns-clause-refused c = refused_outlasts

pub returns-clause-forbidden : goal.returns-clause-forbidden
returns-clause-forbidden c = forbidden_outlasts

pub returns-clause-uncovered : goal.returns-clause-uncovered
returns-clause-uncovered c = uncovered_outlasts

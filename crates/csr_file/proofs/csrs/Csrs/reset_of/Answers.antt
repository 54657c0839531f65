use Rattle.std.proofs.Common.{subst, sym}
use Rattle.csr_file.specs.Legal.{IsLegal}
use Rattle.csr_file.proofs.Legal.{reset_legal}
use Rattle.csr_file.proofs.csrs.Csrs.reset_of.Goals as goal

pub returns-clause-legal : goal.returns-clause-legal
returns-clause-legal c = subst IsLegal (sym c.with_fixed.ensures) (reset_legal _)

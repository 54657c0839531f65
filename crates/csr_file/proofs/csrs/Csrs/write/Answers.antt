use Rattle.std.proofs.Common.{subst, sym}
use Rattle.csr_file.specs.Legal.{IsLegal}
use Rattle.csr_file.specs.Values.{csr_write_of}
use Rattle.csr_file.proofs.Legal.{write_legal}
use Rattle.csr_file.proofs.csrs.Csrs.write.Goals as goal

pub returns-then-may_write-clause-legal : goal.returns-then-may_write-clause-legal
returns-then-may_write-clause-legal c = λ legal.
    subst IsLegal (sym c.write_csr.ensures)
    (subst (λ kind. IsLegal (csr_write_of c.args.self.now kind c.args.value)) (sym c.kind.ensures)
    (write_legal _ _ _ legal))

use Rattle.std.proofs.Common.{◌≡◌, refl, subst, sym}
use Rattle.csr_file.specs.declared.stored_csr.StoredCsr.TheVariants.{Sepc}
use Rattle.csr_file.specs.Legal.{IsLegal}
use Rattle.csr_file.proofs.LegalTests.{legal_even}
use Rattle.trap_entry.specs.Returns.{sret_of}
use Rattle.trap_entry.proofs.Legal.{sret_legal}
use Rattle.trap_entry.proofs.returns.sret.Goals as goal

pub returns-clause-legal : goal.returns-clause-legal
unfolding sret_of
returns-clause-legal c = λ legal.
    let same : c.set.new.self ≡ sret_of c.args.csrs.now = cc in
    subst IsLegal (sym same) (sret_legal _ legal)

pub returns-clause-even : goal.returns-clause-even
returns-clause-even c = λ legal.
    rw c.get-pc.ensures (legal_even c.args.csrs.now.profile Sepc _ refl (legal.values Sepc))

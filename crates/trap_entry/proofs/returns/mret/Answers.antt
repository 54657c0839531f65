use Rattle.std.proofs.Common.{◌≡◌, refl, subst, sym}
use Rattle.csr_file.specs.declared.stored_csr.StoredCsr.TheVariants.{Mepc}
use Rattle.csr_file.specs.Legal.{IsLegal}
use Rattle.csr_file.proofs.LegalTests.{legal_even}
use Rattle.trap_entry.specs.Returns.{mret_of}
use Rattle.trap_entry.proofs.Legal.{mret_legal}
use Rattle.trap_entry.proofs.returns.mret.Goals as goal

pub returns-clause-legal : goal.returns-clause-legal
unfolding mret_of
returns-clause-legal c = λ legal.
    let same : c.set.new.self ≡ mret_of c.args.csrs.now = cc in
    subst IsLegal (sym same) (mret_legal _ legal)

pub returns-clause-even : goal.returns-clause-even
returns-clause-even c = λ legal.
    rw c.get-pc.ensures (legal_even c.args.csrs.now.profile Mepc _ refl (legal.values Mepc))

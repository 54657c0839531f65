use Rattle.std.proofs.Common.{ap, arith}
use Rattle.std.proofs.lemmas.List.FromFn.{fill_by_all}
use Rattle.csr_file.specs.Registers.{no_entry}
use Rattle.csr_file.specs.Values.{entry_after_write, configurations_write_of}
use Rattle.csr_file.proofs.csrs.Csrs.write_configurations.Goals as goal

pub returns : goal.returns
unfolding configurations_write_of
returns c =
    let each = entry_after_write c.args.self.now c.args.first c.args.value in
    ap (λ written. record c.args.self.now { entries = written })
    (fill_by_all each _ _ no_entry c.loop-i.invariant.whole (λ k lt. c.loop-i.invariant.done k (omega arith)))

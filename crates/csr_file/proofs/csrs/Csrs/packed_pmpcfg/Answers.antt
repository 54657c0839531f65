use Rattle.std.proofs.Common.{ap, arith, ◌∙◌}
use Rattle.std.specs.Int.{w64, from_le_bytes}
use Rattle.csr_file.specs.Values.{configuration_of, packed_pmpcfg_of}
use Rattle.csr_file.proofs.Protection.{filled_from}
use Rattle.csr_file.proofs.csrs.Csrs.packed_pmpcfg.Goals as goal

pub returns : goal.returns
unfolding packed_pmpcfg_of
returns c =
    c.from_le_bytes.ensures
    ∙ ap (from_le_bytes w64)
    (filled_from (configuration_of c.args.self.now) c.args.first 8 _ c.loop-i.invariant.whole
    (λ k lt. c.loop-i.invariant.done k (omega arith)))

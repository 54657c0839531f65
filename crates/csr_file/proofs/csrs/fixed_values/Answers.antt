use Rattle.std.proofs.Common.{arith}
use Rattle.csr_file.specs.Profiles.{fixed_bits}
use Rattle.csr_file.proofs.Places.{filled}
use Rattle.csr_file.proofs.csrs.fixed_values.Goals as goal

pub returns : goal.returns
returns c =
    filled (fixed_bits c.args.profile.now) _ c.loop-i.invariant.whole
    (λ k lt. c.loop-i.invariant.done k (omega arith))

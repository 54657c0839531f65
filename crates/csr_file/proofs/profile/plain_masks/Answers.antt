use Rattle.std.proofs.Common.{arith}
use Rattle.csr_file.specs.Profiles.{plain_mask}
use Rattle.csr_file.proofs.Places.{filled}
use Rattle.csr_file.proofs.profile.plain_masks.Goals as goal

pub returns : goal.returns
returns c = filled plain_mask _ c.loop-i.invariant.whole (λ k lt. c.loop-i.invariant.done k (omega arith))

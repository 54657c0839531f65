use Rattle.std.proofs.Common.{refl}
use Rattle.read_footprint.specs.Sets.{has_read, has_written}
use Rattle.read_footprint.proofs.footprint.Footprint.remember.Goals as goal

pub returns-clause-same : goal.returns-clause-same
unfolding has_read has_written
returns-clause-same c = record { read = λ address. refl; wrote = λ address. refl }

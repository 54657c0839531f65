use Rattle.read_footprint.proofs.Rows.{footprint_joined}
use Rattle.read_footprint.proofs.laws.footprints_join.Goals as goal

pub returns : goal.returns
returns c = footprint_joined

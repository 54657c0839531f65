use Rattle.read_footprint.proofs.bytes.+same_range.Given as goal

abbrev pub decreases-same_range : goal.decreases-same_range
decreases-same_range g l = l.range.power

use Rattle.read_footprint.proofs.bytes.+move_range.Given as goal

abbrev pub decreases-move_range : goal.decreases-move_range
decreases-move_range g l = l.range.power

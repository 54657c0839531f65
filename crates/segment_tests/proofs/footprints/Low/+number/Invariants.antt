use Rattle.segment_tests.proofs.footprints.Low.+number.Given as goal

abbrev pub decreases-number : goal.decreases-number
decreases-number l = l.len

use Rattle.segment_tests.proofs.footprints.Low.+put.Given as goal

abbrev pub decreases-put : goal.decreases-put
decreases-put l = l.len

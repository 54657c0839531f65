use Rattle.judge_tests.proofs.segments.settle_cut.Given as goal

abbrev pub ghosts-settle_few : goal.ghosts-settle_few
ghosts-settle_few g a = record { name = a.blank.name; parts = a.blank.parts }

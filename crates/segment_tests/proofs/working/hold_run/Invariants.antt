use Rattle.segment_tests.proofs.working.hold_run.Given as goal

abbrev pub ghosts-hold_counted : goal.ghosts-hold_counted
ghosts-hold_counted g a = record { name = a.blank.name; parts = a.blank.parts }

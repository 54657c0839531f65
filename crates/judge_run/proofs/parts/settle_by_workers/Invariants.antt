use Rattle.judge_run.proofs.parts.settle_by_workers.Given as goal

abbrev pub ghosts-settle_from_blank : goal.ghosts-settle_from_blank
ghosts-settle_from_blank g a = record { name = a.blank.name; parts = a.blank.parts }

use Rattle.mem_access.proofs.tests.Counted.+number.Given as goal

abbrev pub decreases-number : goal.decreases-number
decreases-number l = l.len

use Rattle.std.proofs.Common.{length}
use Rattle.hart_words.proofs.Pairs.{AreLeft}
use Rattle.hart_words.proofs.numbers.short_hexadecimal.Given as goal

abbrev pub invariant-loop-rest : goal.invariant-loop-rest
invariant-loop-rest l = AreLeft l.digits l.rest l.value

abbrev pub decreases-loop-rest : goal.decreases-loop-rest
decreases-loop-rest l = length l.rest

abbrev pub invariant-loop-fours : goal.invariant-loop-fours
invariant-loop-fours l = AreLeft l.digits l.fours l.value

abbrev pub decreases-loop-fours : goal.decreases-loop-fours
decreases-loop-fours l = length l.fours

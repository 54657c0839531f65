use Rattle.std.proofs.Common.{arith}
use Rattle.hart_words.proofs.Digits.{digit_more}
use Rattle.hart_words.proofs.numbers.value_of.Goals as goal

pub loop-digit-preserved : goal.loop-digit-preserved
loop-digit-preserved c =
    digit_more _ c.args.digits.now c.loop-digit.digit-index (omega arith)
    (omega arith) c.loop-digit.invariant c.in-Some.ensures c.more-value.ensures

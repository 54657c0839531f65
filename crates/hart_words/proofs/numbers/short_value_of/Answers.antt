use Rattle.std.proofs.Common.{◌+◌, ◌*◌, ◌<◌, ◌^◌, arith}
use Rattle.hart_words.proofs.Digits.{below_more, room, short_digits_more, short_value_more}
use Rattle.hart_words.proofs.numbers.short_value_of.Goals as goal

pub overflow_mul-value : goal.overflow_mul-value
overflow_mul-value c =
    let fits : c.loop-digit.value * c.args.radix + c.in-Some.digit < 2 ^ 64 =
    room _ c.args.digits.now c.loop-digit.digit-index c.loop-digit-test.true
    (omega arith) c.requires.short c.loop-digit.invariant.below c.in-Some.ensures in
    rw c.from.ensures (omega arith)

pub overflow_add-value : goal.overflow_add-value
overflow_add-value c =
    let fits : c.loop-digit.value * c.args.radix + c.in-Some.digit < 2 ^ 64 =
    room _ c.args.digits.now c.loop-digit.digit-index c.loop-digit-test.true
    (omega arith) c.requires.short c.loop-digit.invariant.below c.in-Some.ensures in
    rw (c.from.ensures, c.from-in-Some.ensures) (omega arith)

pub loop-digit-preserved : goal.loop-digit-preserved
loop-digit-preserved c = record {
  digits =
      short_digits_more _ c.args.digits.now c.loop-digit.digit-index c.in-Some.digit c.loop-digit-test.true
      c.loop-digit.invariant.digits c.in-Some.ensures;
  value =
      rw (c.from.ensures, c.from-in-Some.ensures)
      (short_value_more _ c.args.digits.now c.loop-digit.digit-index c.loop-digit.value c.in-Some.digit
      c.loop-digit-test.true c.loop-digit.invariant.value c.in-Some.ensures);
  below =
      rw (c.from.ensures, c.from-in-Some.ensures)
      (below_more _ c.args.digits.now c.loop-digit.digit-index c.loop-digit.value c.in-Some.digit
      c.loop-digit.invariant.below c.in-Some.ensures);
}

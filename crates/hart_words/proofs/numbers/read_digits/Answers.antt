use Rattle.std.proofs.Common.{◌≤◌, ◌^◌, length, arith}
use Rattle.std.proofs.Math.Nat.{pow-le-pow_right}
use Rattle.hart_words.proofs.numbers.read_digits.Goals as goal

pub short_value_of-requires-clause-short : goal.short_value_of-requires-clause-short
short_value_of-requires-clause-short c =
    let fewer : c.args.radix ^ length c.args.digits.now ≤ c.args.radix ^ c.args.most =
    pow-le-pow_right (omega arith) (omega arith) in
    omega arith

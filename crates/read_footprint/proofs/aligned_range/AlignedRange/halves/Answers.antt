use Rattle.std.proofs.Common.{◌-◌, ◌^◌, arith}
use Rattle.std.proofs.Math.Nat.{mod-lt}
use Rattle.std.proofs.lemmas.Nat.{pow_pos}
use Rattle.read_footprint.proofs.Ranges.{halved, halves_of, one_shifted, twice}
use Rattle.read_footprint.proofs.aligned_range.AlignedRange.halves.Goals as goal

pub overflow_shl-front : goal.overflow_shl-front
overflow_shl-front c = omega (arith, c.half-half.ensures.at_most_32)

pub nonzero_rem-front : goal.nonzero_rem-front
nonzero_rem-front c =
    rw (one_shifted c.half-half.result (omega (arith, c.half-half.ensures.at_most_32))) (pow_pos c.half-half.result)

pub overflow_shr-back : goal.overflow_shr-back
overflow_shr-back c = omega (arith, c.half-half.ensures.at_most_32)

pub overflow_add-back : goal.overflow_add-back
overflow_add-back c =
    let halves = halves_of c.args.self c.requires (omega arith) in
    record { fits = omega (arith, halves.inside, c.half-half.ensures.is) }

pub invariant_of-front : goal.invariant_of-front
invariant_of-front c =
    let halves = halves_of c.args.self c.requires (omega arith) in
    record {
      at_most_6 = omega (arith, c.args.self.at_most_6);
      aligned = halves.front;
      fits =
          rw (one_shifted c.half-half.result (omega (arith, c.half-half.ensures.at_most_32)), c.half-half.ensures.is)
          (mod-lt c.args.self.bits (pow_pos (2 ^ (c.args.self.power - 1))));
    }

pub invariant_of-back : goal.invariant_of-back
invariant_of-back c =
    let halves = halves_of c.args.self c.requires (omega arith) in
    record {
      at_most_6 = omega (arith, c.args.self.at_most_6);
      aligned = rw c.half-half.ensures.is halves.back;
      fits = rw c.half-half.ensures.is halves.high;
    }

pub returns-clause-counts : goal.returns-clause-counts
returns-clause-counts c = λ address.
    let twice = twice (c.args.self.power - 1) c.args.self.power (omega (arith, c.requires)) in
    rw (one_shifted c.half-half.result (omega (arith, c.half-half.ensures.at_most_32)), c.half-half.ensures.is)
    (halved c.args.self.pa (2 ^ c.args.self.power) (2 ^ (c.args.self.power - 1)) c.args.self.bits address twice)

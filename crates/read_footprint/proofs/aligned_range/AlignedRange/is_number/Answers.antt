use Rattle.std.proofs.Common.{◌<◌, ◌-◌, ◌^◌, ap, arith, ◌∙◌}
use Rattle.std.proofs.lemmas.Bool.{eqb-true}
use Rattle.std.proofs.lemmas.Nat.{pow_pos}
use Rattle.read_footprint.proofs.Ranges.{full_bits, number_at_most_8, one_shifted}
use Rattle.read_footprint.proofs.aligned_range.AlignedRange.is_number.Goals as goal

pub overflow_shl-result : goal.overflow_shl-result
overflow_shl-result c =
    rw c.len.ensures (let at_most_8 = number_at_most_8 c.args.self.power c.if-self-le3.true in omega (arith, at_most_8))

pub overflow_sub-result : goal.overflow_sub-result
overflow_sub-result c =
    let at_most_8 = number_at_most_8 c.args.self.power c.if-self-le3.true in
    let below : c.len.result < 64 = omega (arith, at_most_8, c.len.ensures) in
    rw (one_shifted c.len.result below) (pow_pos c.len.result)

pub returns-then-self-le3-clause-all : goal.returns-then-self-le3-clause-all
returns-then-self-le3-clause-all c = λ is k within.
    let at_most_8 = number_at_most_8 c.args.self.power c.if-self-le3.true in
    let below : c.len.result < 64 = omega (arith, at_most_8, c.len.ensures) in
    let full =
    eqb-true c.args.self.bits _ is
    ∙ ap (λ n. n - 1) (one_shifted c.len.result below ∙ ap (λ n. 2 ^ n) c.len.ensures) in
    full_bits (2 ^ c.args.self.power) c.args.self.bits k full within

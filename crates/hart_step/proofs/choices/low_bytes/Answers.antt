use Rattle.std.proofs.Common.{arith}
use Rattle.std.proofs.Math.Nat.{mod-lt}
use Rattle.hart_words.proofs.Powers.{bits_of_bytes, eight_bytes, some_bytes}
use Rattle.hart_step.proofs.choices.low_bytes.Goals as goal

pub pow-requires : goal.pow-requires
pow-requires c =
    let most = eight_bytes c.from-2.result (omega arith) in
    omega arith

pub nonzero_rem-result : goal.nonzero_rem-result
nonzero_rem-result c =
    let least = some_bytes c.from-2.result in
    omega arith

pub returns-clause-fits : goal.returns-clause-fits
returns-clause-fits c =
    let least = some_bytes c.args.len in
    rw (← bits_of_bytes c.args.len, c.pow.ensures, c.from-2.ensures) (mod-lt c.from.result least)

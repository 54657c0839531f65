use Rattle.std.proofs.Common.{arith, sym}
use Rattle.std.proofs.lemmas.Bool.{leb-true}
use Rattle.read_footprint.proofs.NotedBytes.{ones_are_bytes}
use Rattle.read_footprint.proofs.noted_bytes.NotedBytes.has_all.Goals as goal

pub returns-then-pa-self : goal.returns-then-pa-self
returns-then-pa-self c = λ all.
    let ones = leb-true _ _ all in
    ones_are_bytes c.args.pa c.args.len _ _ (omega (arith, c.well_formed)) c.if-pa-self.true
    (rw (sym c.from.ensures, sym c.trailing_ones.ensures) ones)

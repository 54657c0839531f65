use Rattle.std.proofs.Common.{◌+◌, ◌≤◌, ◌∙◌, ap, arith, drop, length, sym}
use Rattle.std.proofs.lemmas.List.{at_drop_all, at_drop_more}
use Rattle.rvfi_rows.specs.Meanings.{lost_by}
use Rattle.hart_set.proofs.set.HartSet.lose.Goals as goal

pub loop-write-preserved : goal.loop-write-preserved
unfolding lost_by
loop-write-preserved g c =
    let m = g.C.CoreStep.meaning in
    let i = c.loop-write.write-index in
    let writes = c.args.writes.now in
    ap (lost_by m (drop (i + 1) writes)) c.lose.ensures
    ∙ sym
    (at_drop_more (λ ws. lost_by m ws c.loop-write.core) writes i (record { pa = 0; len = 0; value = 0 })
    c.loop-write-test.true)
    ∙ c.loop-write.invariant

pub returns : goal.returns
unfolding lost_by
returns g c =
    let m = g.C.CoreStep.meaning in
    let i = c.loop-write.write-index in
    let writes = c.args.writes.now in
    let all : length writes ≤ i = omega (arith, c.loop-write-test.false) in
    sym (at_drop_all (λ ws. lost_by m ws c.loop-write.core) writes i all) ∙ c.loop-write.invariant

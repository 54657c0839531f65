use Rattle.std.proofs.Common.{◌<◌, ◌≤◌, ◌∙◌, ap, arith, length}
use Rattle.rvfi_rows.specs.Meanings.{lost_by}
use Rattle.hart_set.proofs.Places.{all_turned, as_long_after, found_at, passed, turned}
use Rattle.hart_set.proofs.set.HartSet.lose_beside.Goals.{then-other-number, else-other-number}
use Rattle.hart_set.proofs.set.HartSet.lose_beside.Goals as goal

pub loop-other-preserved : goal.loop-other-preserved
loop-other-preserved g c =
    let lose = lost_by g.C.CoreStep.meaning c.args.writes.now in
    let at = c.loop-other in
    let before = c.args.self.now.cores.items in
    elim c.if-other-number.branch [
      | then-other-number w ↦
          let within : at.other < length at.self.cores.items =
          omega (arith, c.loop-other-test.true, at.self.cores.ok, c.args.self.now.cores.ok, at.invariant.as_many) in
          let within_before : at.other < length before = omega (arith, within, at.invariant.as_many) in
          let now = w.lose.new.core in
          record {
            cores = λ core there. ap (λ s. s.cores.items) w.self-is
                ∙ turned lose c.args.number at.other core w.index_mut.result.now now before at.self.cores.items there
                w.if-other-number.true within_before (at.invariant.cores core there)
                (found_at at.self.cores.items at.other w.index_mut.result.now within w.index_mut.ensures.value)
                w.lose.ensures;
            as_many = ap (λ s. length s.cores.items) w.self-is
                ∙ as_long_after at.self.cores.items at.other now ∙ at.invariant.as_many;
            mem = ap (λ s. s.mem) w.self-is ∙ at.invariant.mem;
          }
      | else-other-number w ↦ record {
        cores = λ core there. ap (λ s. s.cores.items) w.self-is
            ∙ passed lose c.args.number at.other core before at.self.cores.items there w.if-other-number.false
            (at.invariant.cores core there);
        as_many = ap (λ s. length s.cores.items) w.self-is ∙ at.invariant.as_many;
        mem = ap (λ s. s.mem) w.self-is ∙ at.invariant.mem;
      }
    ]

pub returns-clause-cores : goal.returns-clause-cores
returns-clause-cores g c = λ core there.
    let lose = lost_by g.C.CoreStep.meaning c.args.writes.now in
    let at = c.loop-other in
    let before = c.args.self.now.cores.items in
    let all : length before ≤ at.other = omega (arith, c.loop-other-test.false, c.args.self.now.cores.ok) in
    all_turned lose c.args.number at.other core before at.self.cores.items there all (at.invariant.cores core there)

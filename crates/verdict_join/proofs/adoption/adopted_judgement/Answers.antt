use Rattle.hart_step.specs.HartSets.{set_state_of}
use Rattle.segment_judge.proofs.Ends.{stands}
use Rattle.verdict_join.proofs.Adopted.{none_missed}
use Rattle.verdict_join.proofs.adoption.adopted_judgement.Goals as goal

pub returns-then-is_met-clause-misses : goal.returns-then-is_met-clause-misses
returns-then-is_met-clause-misses g c = λ same tells rows judgement.
    let bytes_of = g.M.PhysMem.bytes in
    none_missed bytes_of same (set_state_of bytes_of c.args.guess.now) (set_state_of bytes_of c.args.now.now)
    c.in-Some.is
    c.if-is_met.true (rw c.in-Some.is at judgement) (c.is_met.ensures.met same tells)

pub returns-then-is_met-clause-concludes : goal.returns-then-is_met-clause-concludes
returns-then-is_met-clause-concludes g c = λ rows judgement.
    let bytes_of = g.M.PhysMem.bytes in
    c.is_met.ensures.concludes c.if-is_met.true rows
    (stands bytes_of (set_state_of bytes_of c.args.guess.now) rows c.in-Some.judged.now (rw c.in-Some.is at judgement))

pub returns-then-is_met-clause-kept : goal.returns-then-is_met-clause-kept
returns-then-is_met-clause-kept g c = λ origin rows judgement kept.
    c.is_met.ensures.kept c.if-is_met.true origin rows (rw c.in-Some.is at judgement) (rw c.in-Some.is at kept)

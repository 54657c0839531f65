use Rattle.std.proofs.Common.{subst}
use Rattle.hart_step.specs.HartSets.{set_state_of}
use Rattle.read_footprint.specs.Sets.{LiesInRam}
use Rattle.segment_judge.specs.Judged.{IsUsable}
use Rattle.verdict_join.proofs.Adopted.{same_ram}
use Rattle.verdict_join.proofs.Histories.{kept_there}
use Rattle.verdict_join.proofs.Passed.{concludes}
use Rattle.verdict_join.proofs.adoption.is_met.Goals as goal

pub agree-requires-clause-other : goal.agree-requires-clause-other
agree-requires-clause-other g c =
    let cores_are = c.same_but_memory.ensures.0 c.if-same_but_memory.true in
    subst (λ ram. LiesInRam ram c.args.judged.now.footprint)
    (same_ram c.args.guess.now.cores.items c.args.now.now.cores.items cores_are c.requires.guess c.requires.now)
    c.requires.usable.within

pub returns-then-same_but_memory-clause-usable : goal.returns-then-same_but_memory-clause-usable
returns-then-same_but_memory-clause-usable g c = λ met.
    let cores_are = c.same_but_memory.ensures.0 c.if-same_but_memory.true in
    subst (λ ram. IsUsable g.M.PhysMem.ram ram c.args.judged.now)
    (same_ram c.args.guess.now.cores.items c.args.now.now.cores.items cores_are c.requires.guess c.requires.now)
    c.requires.usable

pub returns-then-same_but_memory-clause-concludes : goal.returns-then-same_but_memory-clause-concludes
returns-then-same_but_memory-clause-concludes g c = λ met rows stands.
    concludes g.M.PhysMem.bytes (set_state_of g.M.PhysMem.bytes c.args.guess.now)
    (set_state_of g.M.PhysMem.bytes c.args.now.now) rows c.args.judged.now
    (c.same_but_memory.ensures.0 c.if-same_but_memory.true) (c.agree.ensures.same.0 met) stands

pub returns-then-same_but_memory-clause-kept : goal.returns-then-same_but_memory-clause-kept
returns-then-same_but_memory-clause-kept g c = λ met origin rows judgement kept.
    kept_there g.M.PhysMem.bytes (set_state_of g.M.PhysMem.bytes c.args.guess.now)
    (set_state_of g.M.PhysMem.bytes c.args.now.now) rows c.args.judged.now origin
    (c.same_but_memory.ensures.0 c.if-same_but_memory.true) (c.agree.ensures.same.0 met) judgement kept

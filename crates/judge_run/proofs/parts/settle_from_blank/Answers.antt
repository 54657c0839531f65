use Rattle.hart_step.specs.HartSets.{set_state_of}
use Rattle.judge_run.proofs.Settled.{PromisesRounds, settled_by_rounds}
use Rattle.judge_run.proofs.parts.settle_from_blank.Goals as goal

pub returns-clause-settled : goal.returns-clause-settled
returns-clause-settled g c =
    let rounds = c.settle_in_rounds.ensures in
    let promised : PromisesRounds g.M.PhysMem.bytes g.M.PhysMem.ram c.args.columns.now c.args.part.now
    (set_state_of g.M.PhysMem.bytes c.args.start) _ _ c.settle_in_rounds.result =
    record { settles = rounds.rounds; can_step = rounds.can_step } in
    settled_by_rounds c.settle_in_rounds.result c.requires.can_step.sound rounds.words promised

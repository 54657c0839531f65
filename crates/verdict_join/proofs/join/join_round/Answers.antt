use Rattle.std.proofs.lemmas.Result.{IfOk-weaker}
use Rattle.hart_step.specs.HartSets.{set_state_of}
use Rattle.verdict_join.proofs.Coded.{round_in_code}
use Rattle.verdict_join.proofs.join.join_round.Goals as goal

pub returns-clause-settled : goal.returns-clause-settled
returns-clause-settled g c =
    IfOk-weaker c.walk.result _ _
    (λ round walks.
    (round_in_code g.M.PhysMem.bytes c.args.founds.items (set_state_of g.M.PhysMem.bytes c.args.start) round
    c.requires.one_each c.requires.lawful walks).within) c.walk.ensures.walks

pub returns-clause-settles_one : goal.returns-clause-settles_one
returns-clause-settles_one g c =
    IfOk-weaker c.walk.result _ _
    (λ round walks.
    (round_in_code g.M.PhysMem.bytes c.args.founds.items (set_state_of g.M.PhysMem.bytes c.args.start) round
    c.requires.one_each c.requires.lawful walks).at_least_one) c.walk.ensures.walks

pub returns-clause-again : goal.returns-clause-again
returns-clause-again g c =
    IfOk-weaker c.walk.result _ _
    (λ round walks.
    (round_in_code g.M.PhysMem.bytes c.args.founds.items (set_state_of g.M.PhysMem.bytes c.args.start) round
    c.requires.one_each c.requires.lawful walks).at_most_one_again) c.walk.ensures.walks

pub returns-clause-verdict : goal.returns-clause-verdict
returns-clause-verdict g c =
    IfOk-weaker c.walk.result _ _
    (λ round walks.
    (round_in_code g.M.PhysMem.bytes c.args.founds.items (set_state_of g.M.PhysMem.bytes c.args.start) round
    c.requires.one_each c.requires.lawful walks).verdict) c.walk.ensures.walks

pub returns-clause-end : goal.returns-clause-end
returns-clause-end g c =
    IfOk-weaker c.walk.result _ _
    (λ round walks.
    (round_in_code g.M.PhysMem.bytes c.args.founds.items (set_state_of g.M.PhysMem.bytes c.args.start) round
    c.requires.one_each c.requires.lawful walks).end) c.walk.ensures.walks

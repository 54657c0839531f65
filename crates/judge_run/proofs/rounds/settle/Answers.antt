use Rattle.std.proofs.lemmas.Result.{IfOk-weaker}
use Rattle.judge_run.proofs.Settled.{come_to, none_rejudged}
use Rattle.judge_run.proofs.rounds.settle.Goals as goal

pub returns-clause-verdict : goal.returns-clause-verdict
returns-clause-verdict g c =
    IfOk-weaker c.settle_in_rounds.result _ _ (λ joined settles. (come_to joined settles).verdict)
    c.settle_in_rounds.ensures.rounds

pub returns-clause-end : goal.returns-clause-end
returns-clause-end g c =
    IfOk-weaker c.settle_in_rounds.result _ _ (λ joined settles. (come_to joined settles).end)
    c.settle_in_rounds.ensures.rounds

pub returns-clause-one_round : goal.returns-clause-one_round
returns-clause-one_round g c = λ some.
    IfOk-weaker c.settle_in_rounds.result _ _ (λ joined settles. (come_to joined settles).one_round some)
    c.settle_in_rounds.ensures.rounds

pub returns-clause-count : goal.returns-clause-count
returns-clause-count g c =
    IfOk-weaker c.settle_in_rounds.result _ _ (λ joined settles. (come_to joined settles).count)
    c.settle_in_rounds.ensures.rounds

pub returns-clause-none : goal.returns-clause-none
returns-clause-none g c = λ faults shows.
    IfOk-weaker c.settle_in_rounds.result _ _
    (λ joined settles. none_rejudged joined c.requires.can_step.sound c.settle_in_rounds.ensures.words faults shows
    settles)
    c.settle_in_rounds.ensures.rounds

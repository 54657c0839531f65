use Rattle.std.proofs.Common.{◌∙◌, refl}
use Rattle.trace_maker.proofs.Runs.{made_first, made_later}
use Rattle.trace_maker.proofs.run.Run.step.Goals as goal

pub returns-then-order-eq0-clause-row : goal.returns-then-order-eq0-clause-row
returns-then-order-eq0-clause-row c =
    c.first_row.ensures ∙ made_first c.args.self.now.number c.args.order c.if-order-eq0.true

pub returns-clause-row : goal.returns-clause-row
returns-clause-row c =
    c.row.ensures
    ∙ made_later c.go_on.new.self c.args.self.now.number c.args.order _ c.go_on.ensures.number c.if-order-eq0.false
    refl c.go_on.ensures.before

use Rattle.std.proofs.Common.{◌≡◌, ◌∙◌, false}
use Rattle.rvfi_rows.specs.Cells.{shown_in}
use Rattle.hart_step.specs.Choices.{asks_interrupt}
use Rattle.hart_step.proofs.Ways.{enters_at_once}
use Rattle.hart_step.proofs.state.Core.begin.Goals as goal

pub returns-in-Ok-clause-state : goal.returns-in-Ok-clause-state
returns-in-Ok-clause-state g c =
    let quiet : asks_interrupt c.args.self.now (shown_in c.args.row.now) ≡ false = cc in
    let enters = enters_at_once c.args.self.now (shown_in c.args.row.now) quiet in
    c.in-Ok.ensures.state ∙ enters.before

pub returns-in-Ok-clause-lacks : goal.returns-in-Ok-clause-lacks
returns-in-Ok-clause-lacks g c =
    let quiet : asks_interrupt c.args.self.now (shown_in c.args.row.now) ≡ false = cc in
    let enters = enters_at_once c.args.self.now (shown_in c.args.row.now) quiet in
    enters.lacks_is

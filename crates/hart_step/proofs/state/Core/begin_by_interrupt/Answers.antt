use Rattle.std.proofs.Common.{◌∙◌}
use Rattle.rvfi_rows.specs.Cells.{shown_in}
use Rattle.hart_step.proofs.Ways.{enters_interrupt}
use Rattle.hart_step.proofs.state.Core.begin_by_interrupt.Goals as goal

pub returns-in-Ok-clause-state : goal.returns-in-Ok-clause-state
returns-in-Ok-clause-state g c =
    let enters =
    enters_interrupt c.args.self.now (shown_in c.args.row.now) c.requires.asks
    c.take_interrupt-lacks_interrupt.ensures.state c.take_interrupt-lacks_interrupt.ensures.lacks in
    c.in-Ok.ensures.state ∙ enters.before

pub returns-in-Ok-clause-lacks : goal.returns-in-Ok-clause-lacks
returns-in-Ok-clause-lacks g c =
    let enters =
    enters_interrupt c.args.self.now (shown_in c.args.row.now) c.requires.asks
    c.take_interrupt-lacks_interrupt.ensures.state c.take_interrupt-lacks_interrupt.ensures.lacks in
    enters.lacks_is

use Rattle.rvfi_rows.specs.Cells.{shown_in}
use Rattle.hart_step.proofs.KeptChoices.{put_keeps}
use Rattle.hart_step.proofs.core_step.CoreCoreStep.step_into.Goals as goal

pub returns-clause-choices : goal.returns-clause-choices
returns-clause-choices g c =
    put_keeps c.args.self.now c.step_into.new.self (shown_in c.args.row.now) c.step_into.new.stepped.expected
    c.step_into.new.stepped.seen c.step_into.new.stepped.wrote c.step_into.result (g.M.PhysMem.bytes c.args.mem.now) (g.M.PhysMem.bytes c.step_into.new.mem)
    c.step_into.ensures.stepped c.step_into.ensures.err

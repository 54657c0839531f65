use Rattle.std.proofs.Common.{◌≡◌, ◌∙◌, [], ap}
use Rattle.rvfi_rows.specs.Cells.{shown_in}
use Rattle.hart_step.specs.Instructions.{InstructionRun}
use Rattle.hart_step.specs.Changes.{run_by}
use Rattle.hart_step.proofs.KeptChoices.{begun_keeps}
use Rattle.hart_step.proofs.Ways.{step_halted, step_done, step_began, gave_parts}
use Rattle.hart_step.proofs.state.Core.step_into.Goals as goal

pub returns-then-self-clause-stepped : goal.returns-then-self-clause-stepped
returns-then-self-clause-stepped g c =
    rw (c.set_halted.ensures.expected, c.set_halted.ensures.seen, c.set_halted.ensures.wrote)
    (step_halted c.args.self.now (shown_in c.args.row.now) [] [] (g.M.PhysMem.bytes c.args.mem.now) c.if-self.true)

pub returns-clause-stepped : goal.returns-clause-stepped
returns-clause-stepped g c =
    let core = c.args.self.now in
    let shown = shown_in c.args.row.now in
    let before = c.begin.new.self in
    let done : InstructionRun = run_by before c.begin.new.notes in
    let begins : before ≡ _ = c.in-Ok.ensures.state in
    let kept : before.choices ≡ core.choices =
    ap (λ b. b.choices) begins ∙ begun_keeps core shown in
    step_done core shown done c.if-self.false
    (gave_parts core shown done begins kept c.in-Ok.ensures.lacks c.end.ensures.state
    c.end.ensures.expected)
    (rw (c.copy_from.ensures, c.copy_from-2.ensures)
    (step_began core shown begins c.in-Ok.ensures.ran))

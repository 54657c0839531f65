use Rattle.std.proofs.Common.{Ok, Err, None, refl}
use Rattle.rvfi_rows.specs.Cells.{shown_in}
use Rattle.rv_decode.specs.Operands.{operands_of}
use Rattle.hart_step.specs.Choices.{row_choices_of}
use Rattle.hart_step.specs.declared.changes.Change.TheVariants.{Registers}
use Rattle.hart_step.specs.Instructions.{completion_of, core_at_next, core_after_retirement, after_access, next_address}
use Rattle.hart_step.specs.Instructions.{execution_of, system_execution}
use Rattle.hart_step.specs.Changes.{completion_by}
use Rattle.hart_step.proofs.Ways.{chosen_as, executed_as, executed_pure, executed_access, retired_as}
use Rattle.hart_step.proofs.Ways.{accessed_as, nothing_stored}
use Rattle.hart_step.proofs.state.Core.execute.Goals as goal

pub returns-in-Value-clause-executed : goal.returns-in-Value-clause-executed
returns-in-Value-clause-executed g c =
    let core = c.args.self.now in
    let i = c.args.instruction.now in
    let choices = row_choices_of (shown_in c.args.row.now) (operands_of i.op).rd in
    let accesses = c.args.accesses.now in
    nothing_stored (execution_of core choices i) c.requires.blank
    (executed_as core choices i c.operands-operands.ensures c.get-a.ensures c.get-b.ensures
    c.in-Value.ensures.value
    (executed_pure (completion_of (core_at_next core i c.in-Value.value))
    (completion_by core (Registers c.to_next.result) (Ok None)) accesses.seen accesses.sets
    (g.M.PhysMem.bytes c.args.mem.now)
    (retired_as core i c.in-Value.value (next_address core i) c.to_next.ensures.value)))

pub returns-in-Jump-clause-executed : goal.returns-in-Jump-clause-executed
returns-in-Jump-clause-executed g c =
    let core = c.args.self.now in
    let i = c.args.instruction.now in
    let choices = row_choices_of (shown_in c.args.row.now) (operands_of i.op).rd in
    let accesses = c.args.accesses.now in
    nothing_stored (execution_of core choices i) c.requires.blank
    (executed_as core choices i c.operands-operands.ensures c.get-a.ensures c.get-b.ensures
    c.in-Jump.ensures.value
    (executed_pure (completion_of (core_after_retirement core i c.in-Jump.link c.in-Jump.target))
    (completion_by core (Registers c.of.result) (Ok None)) accesses.seen accesses.sets
    (g.M.PhysMem.bytes c.args.mem.now)
    (retired_as core i c.in-Jump.link c.in-Jump.target c.of.ensures)))

pub returns-in-Continue-clause-executed : goal.returns-in-Continue-clause-executed
returns-in-Continue-clause-executed g c =
    let core = c.args.self.now in
    let i = c.args.instruction.now in
    let choices = row_choices_of (shown_in c.args.row.now) (operands_of i.op).rd in
    let accesses = c.args.accesses.now in
    nothing_stored (execution_of core choices i) c.requires.blank
    (executed_as core choices i c.operands-operands.ensures c.get-a.ensures c.get-b.ensures
    c.in-Continue.ensures.value
    (executed_pure (completion_of (core_after_retirement core i 0 c.in-Continue.next_pc))
    (completion_by core (Registers c.of-in-Continue.result) (Ok None)) accesses.seen accesses.sets
    (g.M.PhysMem.bytes c.args.mem.now)
    (retired_as core i 0 c.in-Continue.next_pc c.of-in-Continue.ensures)))

pub returns-in-Err-clause-executed : goal.returns-in-Err-clause-executed
unfolding after_access
returns-in-Err-clause-executed g c =
    let core = c.args.self.now in
    let i = c.args.instruction.now in
    let choices = c.row_choices_of-choices in
    chosen_as core (shown_in c.args.row.now) i c.operands-operands.ensures choices.ensures
    (executed_as core choices.result i c.operands-operands.ensures c.get-a.ensures c.get-b.ensures
    c.in-Access.ensures.value
    (executed_access core choices.result i c.in-Access.request refl c.in-Err.ensures.accessed))

pub returns-in-Ok-clause-executed : goal.returns-in-Ok-clause-executed
returns-in-Ok-clause-executed g c =
    let core = c.args.self.now in
    let i = c.args.instruction.now in
    let choices = c.row_choices_of-choices in
    chosen_as core (shown_in c.args.row.now) i c.operands-operands.ensures choices.ensures
    (executed_as core choices.result i c.operands-operands.ensures c.get-a.ensures c.get-b.ensures
    c.in-Access.ensures.value
    (executed_access core choices.result i c.in-Access.request
    (accessed_as core i c.in-Ok.answer c.to_next-done.ensures.value) c.in-Ok.ensures.accessed))

pub returns-in-Ok-execute_system-clause-executed : goal.returns-in-Ok-execute_system-clause-executed
returns-in-Ok-execute_system-clause-executed g c =
    let core = c.args.self.now in
    let i = c.args.instruction.now in
    let choices = c.row_choices_of-choices-in-System in
    let accesses = c.args.accesses.now in
    nothing_stored (execution_of core (row_choices_of (shown_in c.args.row.now) (operands_of i.op).rd) i)
    c.requires.blank
    (chosen_as core (shown_in c.args.row.now) i c.operands-operands.ensures choices.ensures
    (executed_as core choices.result i c.operands-operands.ensures c.get-a.ensures c.get-b.ensures
    c.in-System.ensures.value
    (executed_pure (system_execution core choices.result i c.in-System.request)
    (completion_by core c.in-Ok-execute_system.done (Ok None)) accesses.seen accesses.sets
    (g.M.PhysMem.bytes c.args.mem.now) c.in-Ok-execute_system.ensures.executed)))

pub returns-in-Err-execute_system-clause-executed : goal.returns-in-Err-execute_system-clause-executed
returns-in-Err-execute_system-clause-executed g c =
    let core = c.args.self.now in
    let i = c.args.instruction.now in
    let choices = c.row_choices_of-choices-in-System in
    let accesses = c.args.accesses.now in
    nothing_stored (execution_of core (row_choices_of (shown_in c.args.row.now) (operands_of i.op).rd) i)
    c.requires.blank
    (chosen_as core (shown_in c.args.row.now) i c.operands-operands.ensures choices.ensures
    (executed_as core choices.result i c.operands-operands.ensures c.get-a.ensures c.get-b.ensures
    c.in-System.ensures.value
    (executed_pure (system_execution core choices.result i c.in-System.request)
    (Err c.in-Err-execute_system.exception) accesses.seen accesses.sets (g.M.PhysMem.bytes c.args.mem.now)
    c.in-Err-execute_system.ensures.executed)))

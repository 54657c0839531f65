use Rattle.std.proofs.Common.{◌∙◌, ap, refl, Some, None}
use Rattle.rvfi_rows.specs.Cells.{shown_in}
use Rattle.hart_words.specs.declared.privilege.Cause.TheVariants.{IllegalInstruction}
use Rattle.hart_step.specs.Instructions.{instruction_run, run_of_exception}
use Rattle.hart_step.proofs.WritePlaces.{fetched_in_ram}
use Rattle.hart_step.proofs.Ways.{nothing_stored, ran_refused, ran_decoded, ran_executed, ran_raised, executed_pure}
use Rattle.hart_step.proofs.state.Core.run.Goals as goal

pub returns-in-Err-clause-set_in_ram : goal.returns-in-Err-clause-set_in_ram
returns-in-Err-clause-set_in_ram g c =
    fetched_in_ram c.args.self.now (g.M.PhysMem.bytes c.args.mem.now) c.args.accesses.now.sets c.requires.unset
    c.fetch-fetched.ensures.looked.wrote_is

pub returns-in-None-clause-set_in_ram : goal.returns-in-None-clause-set_in_ram
returns-in-None-clause-set_in_ram g c =
    fetched_in_ram c.args.self.now (g.M.PhysMem.bytes c.args.mem.now) c.args.accesses.now.sets c.requires.unset
    c.fetch-fetched.ensures.looked.wrote_is

pub execute-requires-clause-sets_in_ram : goal.execute-requires-clause-sets_in_ram
execute-requires-clause-sets_in_ram g c =
    fetched_in_ram c.args.self.now (g.M.PhysMem.bytes c.args.mem.now) c.args.accesses.now.sets c.requires.unset
    c.fetch-fetched.ensures.looked.wrote_is

pub returns-in-Err-clause-ran : goal.returns-in-Err-clause-ran
returns-in-Err-clause-ran g c =
    let core = c.args.self.now in
    let shown = shown_in c.args.row.now in
    nothing_stored (instruction_run core shown) (c.fetch-fetched.ensures.stores ∙ c.requires.blank)
    (ran_raised core shown None c.in-Err.exception c.trap.ensures
    (ran_refused core shown c.in-Err.exception c.in-Err.ensures.looked))

pub returns-in-None-clause-ran : goal.returns-in-None-clause-ran
returns-in-None-clause-ran g c =
    let core = c.args.self.now in
    let shown = shown_in c.args.row.now in
    let word = c.in-Ok.word in
    let bits = c.from-bits.result in
    nothing_stored (instruction_run core shown) (c.fetch-fetched.ensures.stores ∙ c.requires.blank)
    (ran_raised core shown (Some bits) (IllegalInstruction, bits) c.trap-in-None.ensures
    (ran_decoded core shown word.0 word.1 c.in-Ok.ensures.looked c.in-None.ensures.meaning
    (executed_pure (run_of_exception core (Some word.0) (IllegalInstruction, word.0))
    (run_of_exception core (Some bits) (IllegalInstruction, bits)) c.fetch-fetched.new.accesses.seen
    c.fetch-fetched.new.accesses.sets (g.M.PhysMem.bytes c.args.mem.now)
    (ap (λ b. run_of_exception core (Some b) (IllegalInstruction, b)) c.from-bits.ensures))))

pub returns-in-Ok-execute-clause-ran : goal.returns-in-Ok-execute-clause-ran
returns-in-Ok-execute-clause-ran g c =
    let core = c.args.self.now in
    let shown = shown_in c.args.row.now in
    ran_decoded core shown c.in-Ok.word.0 c.in-Ok.word.1
    c.in-Ok.ensures.looked c.in-Some.ensures.meaning
    (rw (← c.from-bits.ensures, ← c.from.ensures)
    (ran_executed core shown c.from-bits.result c.from.result c.in-Some.op refl
    c.in-Ok-execute.ensures.executed))

pub returns-in-Err-execute-clause-ran : goal.returns-in-Err-execute-clause-ran
returns-in-Err-execute-clause-ran g c =
    let core = c.args.self.now in
    let shown = shown_in c.args.row.now in
    ran_raised core shown (Some c.from-bits.result) c.in-Err-execute.exception c.trap-in-Err-execute.ensures
    (ran_decoded core shown c.in-Ok.word.0 c.in-Ok.word.1
    c.in-Ok.ensures.looked c.in-Some.ensures.meaning
    (rw (← c.from-bits.ensures, ← c.from.ensures)
    (ran_executed core shown c.from-bits.result c.from.result c.in-Some.op refl
    c.in-Err-execute.ensures.executed)))

use Rattle.std.proofs.Common.{◌≡◌, ◌∙◌, sym, subst, Err, None}
use Rattle.hart_words.specs.declared.privilege.Cause.{Cause}
use Rattle.hart_words.specs.Actions.{Notes}
use Rattle.hart_step.specs.MemoryAccess.{memory_access, number_written}
use Rattle.hart_step.proofs.ReservedBlocks.{answer_sound}
use Rattle.hart_step.proofs.Ways.{nothing_stored, access_refused, access_refused_there, access_made, puts_nothing, puts_value}
use Rattle.hart_step.proofs.state.Core.access.Goals as goal

pub returns-in-Err-clause-accessed : goal.returns-in-Err-clause-accessed
returns-in-Err-clause-accessed g c =
    let core = c.args.self.now in
    let request = c.args.request.now in
    nothing_stored (memory_access core c.args.choices.now request) (c.locate.ensures.stores ∙ c.requires.blank)
    (access_refused core c.args.choices.now request c.in-Err.ensures.located)

pub returns-then-device_refuses-clause-accessed : goal.returns-then-device_refuses-clause-accessed
returns-then-device_refuses-clause-accessed g c =
    let core = c.args.self.now in
    let choices = c.args.choices.now in
    let request = c.args.request.now in
    let P : Cause → Type 0 =
    λ cause. Notes (memory_access core choices request) (Err (cause, request.address)) c.args.accesses.now.seen
    c.locate.new.accesses.seen c.args.accesses.now.sets c.locate.new.accesses.sets
    (g.M.PhysMem.bytes c.args.mem.now) in
    nothing_stored (memory_access core choices request) (c.locate.ensures.stores ∙ c.requires.blank)
    (subst P (sym c.fault_of.ensures)
    (access_refused_there core choices request c.in-Ok.ensures.located
    (sym c.device_refuses.ensures ∙ c.if-device_refuses.true)))

pub returns-in-Some-clause-accessed : goal.returns-in-Some-clause-accessed
returns-in-Some-clause-accessed g c =
    let core = c.args.self.now in
    let request = c.args.request.now in
    let found = c.in-Ok.found in
    access_made core c.args.choices.now request c.in-Ok.ensures.located
    (sym c.device_refuses.ensures ∙ c.if-device_refuses.false) c.access_result-answer.ensures
    (puts_value (found.0, found.1) request (sym c.number_written.ensures ∙ c.in-Some.is)
    (c.note_store.ensures.put c.locate.new.accesses.seen c.locate.new.accesses.sets
    (g.M.PhysMem.bytes c.args.mem.now)))

pub returns-in-Some-clause-stored : goal.returns-in-Some-clause-stored
returns-in-Some-clause-stored g c = c.note_store.ensures.stored c.args.self.now.map.ram c.in-Ok.ensures.in_ram

pub returns-in_default-clause-accessed : goal.returns-in_default-clause-accessed
returns-in_default-clause-accessed g c =
    let core = c.args.self.now in
    let request = c.args.request.now in
    let found = c.in-Ok.found in
    let stores : c.locate.new.accesses.stores ≡ _ = c.locate.ensures.stores ∙ c.requires.blank in
    let nothing : number_written c.access_result-answer.result.access ≡ None =
    sym c.number_written.ensures ∙ c.in_default.is in
    nothing_stored (memory_access core c.args.choices.now request) stores
    (access_made core c.args.choices.now request c.in-Ok.ensures.located
    (sym c.device_refuses.ensures ∙ c.if-device_refuses.false) c.access_result-answer.ensures
    (puts_nothing (found.0, found.1) request c.locate.new.accesses.seen c.locate.new.accesses.sets
    (g.M.PhysMem.bytes c.args.mem.now) nothing))

pub returns-in-Some-clause-reserved : goal.returns-in-Some-clause-reserved
returns-in-Some-clause-reserved g c = λ sound.
    answer_sound c.args.self.now c.args.choices.now c.args.request.now c.in-Ok.found c.access_result-answer.result _
    sound.reserved c.in-Ok.ensures.located.value_is c.access_result-answer.ensures

pub returns-in_default-clause-reserved : goal.returns-in_default-clause-reserved
returns-in_default-clause-reserved g c = λ sound.
    answer_sound c.args.self.now c.args.choices.now c.args.request.now c.in-Ok.found c.access_result-answer.result _
    sound.reserved c.in-Ok.ensures.located.value_is c.access_result-answer.ensures

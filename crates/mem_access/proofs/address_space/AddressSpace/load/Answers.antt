use Rattle.std.proofs.Common.{sym, subst, ◌∙◌}
use Rattle.std.specs.Prelude.{IfOk}
use Rattle.mem_access.specs.declared.place.AccessRequest.{AccessRequest}
use Rattle.mem_access.specs.Accesses.{LieInRam}
use Rattle.mem_access.proofs.Looks.{load_trapped}
use Rattle.mem_access.proofs.address_space.AddressSpace.load.Goals as goal

pub returns-then-va-from-eq0-clause-placed : goal.returns-then-va-from-eq0-clause-placed
returns-then-va-from-eq0-clause-placed g c =
    let P : AccessRequest → Type 0 = λ request.
    IfOk c.load_whole.result (λ found. LieInRam c.args.self.now.map.now.ram c.args.va request.len (found.0, found.1)) in
    subst P c.data_request-request.ensures c.load_whole.ensures.placed

pub returns-then-is_trapped-clause-looked : goal.returns-then-is_trapped-clause-looked
returns-then-is_trapped-clause-looked g c =
    let space = c.args.self.now in
    load_trapped space.csrs.now space.map.now space.choices.now space.mode c.args.va c.args.len c.args.atomicity
    (rw c.from.ensures at c.if-va-from-eq0.false, sym c.is_trapped.ensures ∙ c.if-is_trapped.true)

pub returns-clause-placed : goal.returns-clause-placed
returns-clause-placed g c =
    let P : AccessRequest → Type 0 = λ request.
    IfOk c.load_split.result (λ found. LieInRam c.args.self.now.map.now.ram c.args.va request.len (found.0, found.1)) in
    subst P c.data_request-request.ensures (subst P c.without_devices-request.ensures c.load_split.ensures.placed)

use Rattle.std.proofs.Common.{sym, ◌∙◌}
use Rattle.mem_access.proofs.Looks.{store_trapped}
use Rattle.mem_access.proofs.address_space.AddressSpace.store_place.Goals as goal

pub returns-then-is_trapped-clause-looked : goal.returns-then-is_trapped-clause-looked
returns-then-is_trapped-clause-looked g c =
    let space = c.args.self.now in
    store_trapped space.csrs.now space.map.now space.choices.now space.mode c.args.va c.args.len c.args.atomicity
    (rw c.from.ensures at c.if-va-from-eq0.false, sym c.is_trapped.ensures ∙ c.if-is_trapped.true)

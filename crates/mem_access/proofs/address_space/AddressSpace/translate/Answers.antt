use Rattle.std.proofs.Common.{sym, ◌∙◌}
use Rattle.mem_access.proofs.Looks.{untranslated}
use Rattle.mem_access.proofs.address_space.AddressSpace.translate.Goals as goal

pub returns-then-not-is_translated-clause-translated : goal.returns-then-not-is_translated-clause-translated
returns-then-not-is_translated-clause-translated g c =
    let space = c.args.self.now in
    untranslated space.csrs.now space.map.now space.choices.now c.args.request c.args.va
    (sym c.is_translated.ensures ∙ c.if-not-is_translated.true)

use Rattle.std.proofs.Common.{sym, ◌∙◌}
use Rattle.sv39_walk.proofs.Noted.{from_root, not_canonical, sets_at_most_one, sets_none}
use Rattle.sv39_walk.proofs.walk.translate.Goals as goal

pub returns-then-not-is_canonical-clause-translation : goal.returns-then-not-is_canonical-clause-translation
returns-then-not-is_canonical-clause-translation g c =
    not_canonical _ c.args.satp c.args.flags c.args.va c.args.access
    (sym c.is_canonical.ensures ∙ c.if-not-is_canonical.true) c.page_fault.ensures

pub returns-clause-translation : goal.returns-clause-translation
returns-clause-translation g c =
    from_root _ c.args.satp c.args.flags c.args.va c.args.access
    (sym c.is_canonical.ensures ∙ c.if-not-is_canonical.false) c.walk.ensures.walk

pub returns-clause-walk_sets : goal.returns-clause-walk_sets
returns-clause-walk_sets g c =
    sets_at_most_one _ c.args.satp c.args.flags c.args.va c.args.access (returns-clause-translation g c)

pub returns-clause-walk_sets_none : goal.returns-clause-walk_sets_none
returns-clause-walk_sets_none g c =
    sets_none _ c.args.satp c.args.flags c.args.va c.args.access (returns-clause-translation g c)

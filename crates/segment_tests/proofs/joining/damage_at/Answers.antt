use Rattle.std.proofs.lemmas.List.Elements.{All-set}
use Rattle.hart_step.specs.HartSets.{SetCanStep}
use Rattle.segment_tests.proofs.joining.damage_at.Goals as goal

pub returns-clause-can_step : goal.returns-clause-can_step
returns-clause-can_step c =
    All-set (SetCanStep (λ mem. mem.ram)) c.args.guesses.now c.args.number c.damage_harts.new.harts
    c.damage_harts.ensures c.requires.can_step

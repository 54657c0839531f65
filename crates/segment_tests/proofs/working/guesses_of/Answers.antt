use Rattle.std.proofs.lemmas.List.Elements.{All-push}
use Rattle.hart_step.specs.HartSets.{SetCanStep}
use Rattle.segment_tests.proofs.working.guesses_of.Goals as goal

pub guesses-preserved : goal.guesses-preserved
guesses-preserved c =
    rw c.in_ok-push.ensures.items (
    All-push (SetCanStep (λ mem. mem.ram)) c.guesses.guesses.items c.in_ok-at.field-0 c.guesses.invariant
    c.in_ok-at.ensures
    )

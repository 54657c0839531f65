use Rattle.std.proofs.Common.{true}
use Rattle.std.proofs.lemmas.List.Elements.{All-push}
use Rattle.page_layers.specs.Memories.{map_bytes}
use Rattle.segment_judge.specs.Founds.{IsLawfulFound}
use Rattle.segment_tests.proofs.joining.founds_of.Goals as goal

pub finds-preserved : goal.finds-preserved
finds-preserved c =
    let trial = c.args.trial.now in
    rw c.in_ok-push.ensures.items (
    All-push
    (IsLawfulFound true map_bytes (λ mem. mem.ram) trial.columns trial.segments.items trial.guesses.items)
    c.finds.founds.items c.in_ok-found_of.field-0 c.finds.invariant c.in_ok-found_of.ensures
    )

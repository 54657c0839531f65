use Rattle.std.proofs.Common.{true}
use Rattle.std.specs.List.{All}
use Rattle.page_layers.specs.Memories.{map_bytes}
use Rattle.segment_judge.specs.Founds.{IsLawfulFound}
use Rattle.segment_tests.proofs.joining.founds_of.Given as goal

abbrev pub invariant-finds : goal.invariant-finds
invariant-finds l =
    All
    (IsLawfulFound true map_bytes (λ mem. mem.ram) l.fn.trial.columns l.fn.trial.segments.items l.fn.trial.guesses.items)
    l.founds.items

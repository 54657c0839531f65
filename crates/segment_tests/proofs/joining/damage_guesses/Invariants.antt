use Rattle.std.proofs.Common.{◌≡◌, length}
use Rattle.std.specs.List.{All}
use Rattle.hart_step.specs.HartSets.{SetCanStep}
use Rattle.segment_tests.proofs.joining.damage_guesses.Given as goal

abbrev pub invariant-damages : goal.invariant-damages
invariant-damages l = record {
  can_step : All (SetCanStep (λ mem. mem.ram)) l.guesses;
  count : length l.guesses ≡ length l.initial.guesses;
}

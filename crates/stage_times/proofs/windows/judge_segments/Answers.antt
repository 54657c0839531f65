use Rattle.std.proofs.Common.{◌≡◌, ◌∙◌, ◌<◌, List, ap, length, subst, sym, false}
use Rattle.std.specs.List.{All}
use Rattle.hart_step.specs.declared.state.Core.{Core}
use Rattle.hart_step.specs.Cores.{IsSound}
use Rattle.hart_step.specs.HartSets.{SetCanStep}
use Rattle.segment_judge.specs.Founds.{IsLawfulFound}
use Rattle.stage_times.proofs.Counts.{guess_for_each_segment}
use Rattle.stage_times.proofs.windows.judge_segments.Goals as goal

pub find-requires-clause-one_each : goal.find-requires-clause-one_each
find-requires-clause-one_each g c = λ κs lives.
    ap length c.deref.ensures.value
    ∙ guess_for_each_segment g.M.PhysMem.bytes _ c.args.columns.now c.args.segments.now
    c.in_ok-guesses.guesses.items c.in_ok-guesses.ensures.guesses

pub join_round-requires-clause-can_step : goal.join_round-requires-clause-can_step
join_round-requires-clause-can_step g c = record {
  some = subst (λ (cores : List Core). 0 < length cores) (sym c.in_ok-start.ensures.cores) c.requires.can_step.some;
  sound = subst (All IsSound) (sym c.in_ok-start.ensures.cores) c.requires.can_step.sound;
  maps =
      subst (λ ram. All (λ core. ram ≡ core.map.ram) c.in_ok-start.start.cores.items) (sym c.in_ok-start.ensures.ram)
      (subst (All (λ core. g.M.PhysMem.ram c.args.start.mem ≡ core.map.ram)) (sym c.in_ok-start.ensures.cores)
      c.requires.can_step.maps);
}

pub join_round-requires-clause-one_each : goal.join_round-requires-clause-one_each
join_round-requires-clause-one_each g c =
    ap length c.deref-2.ensures.value
    ∙ guess_for_each_segment g.M.PhysMem.bytes _ c.args.columns.now c.args.segments.now
    c.in_ok-guesses.guesses.items c.in_ok-guesses.ensures.guesses

pub join_round-requires-clause-guesses : goal.join_round-requires-clause-guesses
join_round-requires-clause-guesses g c =
    subst (λ guesses. All (SetCanStep g.M.PhysMem.ram) guesses) (sym c.deref-2.ensures.value)
    c.in_ok-guesses.ensures.can_step

pub join_round-requires-clause-lawful : goal.join_round-requires-clause-lawful
join_round-requires-clause-lawful g c =
    subst
    (λ guesses. All
    (IsLawfulFound false g.M.PhysMem.bytes g.M.PhysMem.ram c.args.columns.now c.args.segments.now guesses)
    c.in_ok-founds.founds.items)
    (c.deref.ensures.value ∙ sym c.deref-2.ensures.value) c.in_ok-founds.ensures

use Rattle.std.proofs.Common.{◌≡◌, ◌∙◌, ◌<◌, IfOk, List, ap, length, map, subst, sym}
use Rattle.std.specs.List.{All}
use Rattle.hart_step.specs.declared.state.Core.{Core}
use Rattle.hart_step.specs.Cores.{IsSound}
use Rattle.hart_step.specs.HartSets.{SetCanStep, set_state_of}
use Rattle.segment_judge.specs.Founds.{IsLawfulFound}
use Rattle.segment_judge.specs.Judgements.{by_set}
use Rattle.verdict_join.specs.Joining.{candidates_of}
use Rattle.verdict_join.specs.Laws.{AreJudgedInTurn}
use Rattle.judge_run.specs.Events.{AreLeft}
use Rattle.judge_run.specs.Settling.{IsRoundOver}
use Rattle.judge_run.proofs.AnyEvents.{guesses_for_each}
use Rattle.judge_run.proofs.Passing.{same_state}
use Rattle.judge_run.proofs.Settled.{PromisesRound, round_over}
use Rattle.judge_run.proofs.segments.judge_round.Goals as goal

pub find_by_workers-requires-clause-one_each : goal.find_by_workers-requires-clause-one_each
find_by_workers-requires-clause-one_each g c = λ κs lives.
    ap length c.deref.ensures.value
    ∙ guesses_for_each g.M.PhysMem.bytes _ c.args.columns.now c.args.segments.now c.in_ok-guesses.guesses.items
    c.in_ok-guesses.ensures.guesses

pub join_round-requires-clause-can_step : goal.join_round-requires-clause-can_step
join_round-requires-clause-can_step g c = record {
  some = subst (λ (cores : List Core). 0 < length cores) (sym c.in_ok-start.ensures.cores) c.requires.can_step.some;
  sound = subst (All IsSound) (sym c.in_ok-start.ensures.cores) c.requires.can_step.sound;
  maps =
      subst (λ ram. All (λ core. ram ≡ core.map.ram) c.in_ok-start.start.cores.items) (sym c.in_ok-start.ensures.ram)
      (subst (All (λ core. g.M.PhysMem.ram c.args.start.mem ≡ core.map.ram)) (sym c.in_ok-start.ensures.cores)
      c.requires.can_step.maps);
}

pub join_round-requires-clause-one_each : goal.join_round-requires-clause-one_each
join_round-requires-clause-one_each g c =
    ap length c.deref-2.ensures.value
    ∙ guesses_for_each g.M.PhysMem.bytes _ c.args.columns.now c.args.segments.now c.in_ok-guesses.guesses.items
    c.in_ok-guesses.ensures.guesses

pub join_round-requires-clause-guesses : goal.join_round-requires-clause-guesses
join_round-requires-clause-guesses g c =
    subst (λ guesses. All (SetCanStep g.M.PhysMem.ram) guesses) (sym c.deref-2.ensures.value)
    c.in_ok-guesses.ensures.can_step

pub join_round-requires-clause-lawful : goal.join_round-requires-clause-lawful
join_round-requires-clause-lawful g c =
    subst
    (λ guesses. All
    (IsLawfulFound c.args.workers.now.origin g.M.PhysMem.bytes g.M.PhysMem.ram c.args.columns.now c.args.segments.now guesses)
    c.in_ok-founds.founds.items)
    (c.deref.ensures.value ∙ sym c.deref-2.ensures.value) c.in_ok-founds.ensures.lawful

pub returns-clause-over : goal.returns-clause-over
returns-clause-over g c =
    let bytes_of = g.M.PhysMem.bytes in
    let columns = c.args.columns.now in
    let segments = c.args.segments.now in
    let founds = c.in_ok-founds.founds.items in
    let start = set_state_of bytes_of c.in_ok-start.start in
    let same =
    same_state bytes_of c.in_ok-start.start c.args.start c.in_ok-start.ensures.cores c.in_ok-start.ensures.bytes in
    let guessed = ap (map (set_state_of bytes_of)) c.deref-2.ensures.value ∙ c.in_ok-guesses.ensures.guesses in
    let alike = c.deref.ensures.value ∙ sym c.deref-2.ensures.value in
    let left =
    subst (λ guesses. AreLeft bytes_of g.M.PhysMem.ram columns segments guesses founds) alike
    c.in_ok-founds.ensures.events in
    let judged =
    subst (λ guesses. AreJudgedInTurn by_set (candidates_of bytes_of columns segments guesses founds)) alike
    c.in_ok-founds.ensures.judged in
    let round = c.join_round.ensures in
    let promised : PromisesRound bytes_of g.M.PhysMem.ram columns segments c.deref-2.result.now founds start
    c.join_round.result =
    record {
      walks = round.round;
      within = round.settled;
      settles_one = round.settles_one;
      at_most_1_again = round.again;
      verdict = round.verdict;
      end = round.end;
      can_step = round.can_step;
    } in
    subst (λ start. IfOk c.join_round.result (IsRoundOver bytes_of g.M.PhysMem.ram columns segments start)) same
    (round_over c.join_round.result guessed left judged promised)

use Rattle.std.proofs.Common.{◌+◌, ◌-◌, ◌≤◌, length}
use Rattle.hart_step.specs.HartSets.{SetCanStep, set_state_of}
use Rattle.judge_run.specs.Settling.{IsTallied}
use Rattle.judge_run.proofs.Settled.{SoFar}
use Rattle.judge_run.proofs.RoundHistories.{SettledSoFar}
use Rattle.judge_run.proofs.rounds.settle_in_rounds.Given as goal

-- whatever rounds settle what is left, some settle all
abbrev pub invariant-rounds : goal.invariant-rounds
invariant-rounds g l = record {
  can_step : SetCanStep g.M.PhysMem.ram l.settling.harts;
  tallied : IsTallied l.columns l.segments l.settling.tally;
  at_most_settled : l.steps ≤ l.initial.steps + l.settling.tally.settled;
  so_far : SoFar g.M.PhysMem.bytes l.columns l.segments (set_state_of g.M.PhysMem.bytes l.initial.settling.harts)
      l.initial.steps l.steps l.settling;
  history : SettledSoFar g.M.PhysMem.bytes l.workers.origin l.columns l.segments
      (set_state_of g.M.PhysMem.bytes l.initial.settling.harts) l.settling;
}

abbrev pub decreases-rounds : goal.decreases-rounds
decreases-rounds g l = length l.segments - l.settling.tally.settled

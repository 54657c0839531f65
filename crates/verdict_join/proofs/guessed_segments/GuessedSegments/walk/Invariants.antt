use Rattle.std.proofs.Common.{◌≡◌, ◌≤◌, ◌+◌, List, drop, take, true}
use Rattle.hart_step.specs.declared.state.Core.{Core}
use Rattle.hart_step.specs.HartSets.{SetCanStep, set_state_of}
use Rattle.rvfi_rows.specs.Segments.{row_count_of}
use Rattle.segment_judge.specs.Judgements.{by_set}
use Rattle.segment_judge.proofs.Histories.{SoFar}
use Rattle.verdict_join.specs.Joining.{candidates_of}
use Rattle.verdict_join.specs.Joins.{Sameness, walk}
use Rattle.verdict_join.specs.Laws.{TellsApart}
use Rattle.verdict_join.specs.Walks.{IsRest}
use Rattle.verdict_join.proofs.Histories.{rows_through}
use Rattle.verdict_join.proofs.guessed_segments.GuessedSegments.walk.Given as goal

-- the segments that are left come to what all come to, after what was walked
abbrev pub invariant-loop-number : goal.invariant-loop-number
invariant-loop-number g l = record {
  whole : (same : Sameness (List Core)) → TellsApart same
      → IsRest l.walk l.number
      (walk by_set same true
      (drop l.number
      (candidates_of g.M.PhysMem.bytes l.self.columns.now l.self.segments.now l.self.guesses.now
      l.fn.founds.items)) (set_state_of g.M.PhysMem.bytes l.walk.harts))
      (walk by_set same true
      (candidates_of g.M.PhysMem.bytes l.self.columns.now l.self.segments.now l.self.guesses.now
      l.fn.founds.items) (set_state_of g.M.PhysMem.bytes l.fn.start));
  can_step : SetCanStep g.M.PhysMem.ram l.walk.harts;
  ram : g.M.PhysMem.ram l.walk.harts.mem ≡ g.M.PhysMem.ram l.fn.start.mem;
  rows : l.walk.counts.rows
      + row_count_of l.self.columns.now (drop l.number l.self.segments.now)
      ≤ row_count_of l.self.columns.now l.self.segments.now;
  again : l.walk.rejudged ≤ l.number;
  history : SoFar l.self.origin (set_state_of g.M.PhysMem.bytes l.fn.start)
      (set_state_of g.M.PhysMem.bytes l.walk.harts)
      (rows_through l.self.columns.now (take l.number l.self.segments.now)) l.walk.counts.rows l.walk.history;
}

use Rattle.std.proofs.Common.{◌≡◌, List, drop}
use Rattle.hart_words.specs.Memory.{after_writes}
use Rattle.rvfi_rows.specs.Readings.{readings_in}
use Rattle.hart_step.specs.HartSets.{set_state_of}
use Rattle.read_footprint.specs.Footprints.{Accesses, writes_of}
use Rattle.read_footprint.specs.Sets.{IsFootprintOf}
use Rattle.segment_judge.specs.Judgements.{by_set}
use Rattle.segment_judge.specs.Laws.{judgement_from}
use Rattle.segment_judge.specs.Progress.{CanJudge, standing}
use Rattle.segment_judge.specs.Standings.{judgement_after}
use Rattle.segment_judge.proofs.Noted.{IsNotedSoFar}
use Rattle.segment_judge.proofs.judging.judge_rows.Given as goal

-- the rows that are left come to what all rows come to, after what the others touched
abbrev pub invariant-loop-place : goal.invariant-loop-place
invariant-loop-place g l = record {
  accesses : List Accesses;
  whole : judgement_after (standing g.M.PhysMem.bytes l.progress accesses) (drop l.place (readings_in l.rows))
      ≡ judgement_from by_set (set_state_of g.M.PhysMem.bytes l.fn.start) (readings_in l.rows);
  footprint : IsFootprintOf l.progress.footprint accesses;
  bytes : g.M.PhysMem.bytes l.progress.harts.mem ≡ after_writes (writes_of accesses) (g.M.PhysMem.bytes l.fn.start.mem);
  can_judge : CanJudge g.M.PhysMem.ram l.progress;
  ram : g.M.PhysMem.ram l.progress.harts.mem ≡ g.M.PhysMem.ram l.fn.start.mem;
  rows : l.progress.counts.rows ≡ l.place;
  noted : IsNotedSoFar l.fn.origin (set_state_of g.M.PhysMem.bytes l.fn.start)
      (set_state_of g.M.PhysMem.bytes l.progress.harts) (readings_in l.rows) l.place l.progress.history;
}

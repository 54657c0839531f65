use Rattle.std.proofs.Common.{◌≡◌, ◌-◌, length}
use Rattle.segment_judge.specs.Founds.{IsLawfulFound}
use Rattle.verdict_board.specs.Seats.{IsAt, view_of}
use Rattle.segment_workers.specs.Works.{Accounts}
use Rattle.segment_workers.proofs.Gathering.{end_of}
use Rattle.segment_workers.proofs.task.Task.work.Given as goal

-- of each segment that was drawn so far one thing was found
abbrev pub invariant-loop-seg : goal.invariant-loop-seg
invariant-loop-seg g l = record {
  at : IsAt l.self.board.now l.seat;
  one : length (view_of l.seat).numbers ≡ 1;
  seats : (view_of l.seat).seats ≡ (view_of l.fn.worker.seat).seats;
  accounts : Accounts
      (IsLawfulFound l.self.keeps_history g.M.PhysMem.bytes g.M.PhysMem.ram l.self.columns.now l.self.segments.now
      l.self.guesses.now)
      (length l.self.segments.now) (view_of l.seat) l.founds.items;
}

abbrev pub decreases-loop-seg : goal.decreases-loop-seg
decreases-loop-seg g l = length l.self.segments.now - end_of (view_of l.seat).draws

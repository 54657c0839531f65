use Rattle.std.proofs.Common.{◌≡◌, ◌+◌, length, vec_len}
use Rattle.std.specs.List.{All}
use Rattle.std.specs.Result.{IfOk}
use Rattle.std.specs.Vec.Iter.{into_iter_items, into_iter_len}
use Rattle.segment_judge.specs.Founds.{IsLawfulFound}
use Rattle.segment_workers.specs.Works.{HaveDone}
use Rattle.segment_workers.proofs.task.Task.gather.Given as goal

-- what the workers did that were joined so far, and what the others did
abbrev pub invariant-loop-work : goal.invariant-loop-work
invariant-loop-work g l =
    let Lawful =
    IsLawfulFound l.self.keeps_history g.M.PhysMem.bytes g.M.PhysMem.ram l.self.columns.now l.self.segments.now
    l.self.guesses.now in
    let n = length l.self.segments.now in
    record {
      joined : HaveDone Lawful n (vec_len l.fn.works) (length l.yielded + 1) l.self.board.now l.all;
      left : All (λ work. IfOk work (HaveDone Lawful n (vec_len l.fn.works) 1 l.self.board.now))
          (into_iter_items l.work-iterator);
      len : into_iter_len l.work-iterator ≡ length (into_iter_items l.work-iterator);
      all : length l.yielded + 1 + length (into_iter_items l.work-iterator) ≡ vec_len l.fn.works;
    }

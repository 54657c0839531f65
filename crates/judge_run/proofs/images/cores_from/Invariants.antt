use Rattle.std.proofs.Common.{◌≡◌, ◌++◌, drop, map, take}
use Rattle.std.specs.List.{All}
use Rattle.hart_step.specs.Cores.{IsSound}
use Rattle.judge_words.specs.Job.{job_view}
use Rattle.judge_run.specs.Answer.{core_from}
use Rattle.judge_run.proofs.images.cores_from.Given as goal

-- the first harts begin where the words say, the others are as they were
abbrev pub invariant-loop-number : goal.invariant-loop-number
invariant-loop-number l = record {
  cores : l.cores.items
      ≡ map (core_from (job_view l.job).pc) (take l.number l.fn.cores.items) ++ drop l.number l.fn.cores.items;
  sound : All IsSound l.cores.items;
}

use Rattle.std.proofs.Common.{◌∙◌, ap, arith, slice_set}
use Rattle.std.proofs.lemmas.List.Edits.{map_over_more}
use Rattle.std.proofs.lemmas.List.Elements.{All-set}
use Rattle.hart_step.specs.Cores.{IsSound}
use Rattle.judge_words.specs.Job.{job_view}
use Rattle.judge_run.specs.Answer.{core_from}
use Rattle.judge_run.proofs.images.cores_from.Goals as goal

pub loop-number-preserved : goal.loop-number-preserved
loop-number-preserved c =
    let cores = c.loop-number.cores.items in
    let number = c.loop-number.number in
    record {
      cores =
          ap (slice_set cores number) c.core_from.ensures.core
          ∙ map_over_more (core_from (job_view c.args.job.now).pc) c.args.cores.items cores number c.index.result.now
          (omega (arith, c.loop-number-test.true, c.len-number-end.ensures)) c.loop-number.invariant.cores
          c.index.ensures;
      sound = All-set IsSound cores number c.core_from.result c.core_from.ensures.sound c.loop-number.invariant.sound;
    }

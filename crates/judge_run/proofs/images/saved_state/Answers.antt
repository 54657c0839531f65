use Rattle.std.proofs.Common.{arith}
use Rattle.judge_words.specs.Job.{job_view}
use Rattle.judge_run.proofs.Starts.{ReadsSaved, saved_begins}
use Rattle.judge_run.proofs.images.saved_state.Goals as goal

pub returns-in-Ok-clause-start : goal.returns-in-Ok-clause-start
returns-in-Ok-clause-start c =
    let job = c.args.job.now in
    let reads : ReadsSaved job.profile job.map job.choices job.harts c.args.image.now c.in-Ok.state =
    record {
      read = c.in-Ok.ensures.exact;
      inside = c.in-Ok.ensures.inside;
      some = omega (arith, c.requires.harts.0, c.in-Ok.ensures.count);
      few = omega (arith, c.requires.harts.1, c.in-Ok.ensures.count);
      over = c.in-Ok.ensures.over;
    } in
    saved_begins (job_view c.args.job.now).pc c.cores_from.result reads c.cores_from.ensures.cores
    c.cores_from.ensures.sound

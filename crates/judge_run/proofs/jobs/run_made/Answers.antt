use Rattle.std.proofs.Common.{refl}
use Rattle.judge_words.specs.Job.{job_view}
use Rattle.outside_ports.specs.Memory.{files_of}
use Rattle.judge_run.proofs.Runs.{files_made}
use Rattle.judge_run.proofs.jobs.run_made.Goals as goal

pub returns-in-Ok : goal.returns-in-Ok
returns-in-Ok g c =
    files_made {job = job_view c.args.job.now} {files = files_of c.in-Ok.shelf.files.items}
    (record {
      image = c.in-Ok.ensures.image;
      trace = c.in-Ok.ensures.trace;
      none = c.in-Ok.ensures.misses;
      none_missed = c.in-Ok.ensures.misses;
      as_missed = refl;
    })
    c.run_files.ensures.ends

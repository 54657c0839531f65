use Rattle.std.proofs.Common.{Err}
use Rattle.judge_words.specs.Job.{job_view}
use Rattle.judge_run.specs.Starts.{start_view}
use Rattle.judge_run.proofs.Runs.{counts_on, counts_stop, ends_found, jobs_stop, read_back}
use Rattle.judge_run.proofs.Steps.{ReadsImage, job_stop, job_trace, missed_start, missed_trace}
use Rattle.judge_run.proofs.jobs.run_files.Goals as goal

pub returns-in-Err-clause-ends : goal.returns-in-Err-clause-ends
returns-in-Err-clause-ends g c =
    let files = g.H.Shelf.known_files c.args.shelf.now in
    let job = job_view c.args.job.now in
    let image = c.args.names.image.now in
    let trace = c.args.names.trace.now in
    ends_found (Err c.in-Err.stop) c.write_found.result
    (record {
      is =
          job_stop (λ start. start_view start) files job image trace c.in-Err.stop c.in-Err.ensures.meant;
      jobs = jobs_stop c.in-Err.stop c.in-Err.ensures.jobs;
      faults = counts_stop c.in-Err.stop _ _ c.in-Err.ensures.faults;
      misses = missed_start files job image trace c.in-Err.stop _ _ c.in-Err.ensures.misses;
      back = tt;
    })
    c.write_found.ensures.written

pub returns-clause-ends : goal.returns-clause-ends
returns-clause-ends g c =
    let files = g.H.Shelf.known_files c.args.shelf.now in
    let job = job_view c.args.job.now in
    let name = c.args.names.image.now in
    let trace = c.args.names.trace.now in
    let meant = rw c.in-Ok.ensures.known_files at c.judge_trace-found.ensures.meant in
    let misses = rw c.in-Ok.ensures.known_files at c.judge_trace-found.ensures.misses in
    let image_is : ReadsImage (λ start. start_view start) files job name c.in-Ok.start =
    record { read = c.in-Ok.ensures.meant } in
    ends_found c.judge_trace-found.result c.write_found-2.result
    (record {
      is =
          job_trace files trace c.judge_trace-found.result image_is meant;
      jobs = c.judge_trace-found.ensures.jobs;
      faults = counts_on c.judge_trace-found.result _ _ _ c.in-Ok.ensures.faults c.judge_trace-found.ensures.faults;
      misses = missed_trace files trace c.judge_trace-found.result _ image_is c.in-Ok.ensures.misses misses;
      back =
          read_back files job c.in-Ok.start trace c.judge_trace-found.result c.in-Ok.ensures.begins meant
          c.write_found-2.ensures.back;
    })
    c.write_found-2.ensures.written

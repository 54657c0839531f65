use Rattle.judge_words.specs.Job.{job_view}
use Rattle.judge_run.specs.Starts.{start_view}
use Rattle.judge_run.proofs.Starts.{ReadsFront, start_lacks, start_told}
use Rattle.judge_run.proofs.images.read_start.Goals as goal

pub returns-in-Ok-clause-meant : goal.returns-in-Ok-clause-meant
returns-in-Ok-clause-meant g c =
    let files = g.H.Shelf.known_files c.args.shelf.now in
    let reads : ReadsFront files c.args.name.now (job_view c.args.job.now) c.in-Ok.front =
    record { file_exists = c.in-Ok.ensures.file_exists; is_front = c.in-Ok.ensures.front } in
    start_told (λ start. start_view start) files c.start_in.result reads c.start_in.ensures.meant

pub returns-in-Err-ReadFault-clause-misses : goal.returns-in-Err-ReadFault-clause-misses
returns-in-Err-ReadFault-clause-misses g c =
    let misses = rw c.in-Err-ReadFault.field-0-is at c.in-Err-ReadFault.ensures.misses in
    λ rise. start_lacks (g.H.Shelf.known_files c.args.shelf.now) c.args.name.now (job_view c.args.job.now)
    (misses rise)

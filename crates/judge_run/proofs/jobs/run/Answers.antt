use Rattle.std.proofs.Common.{map, refl, string_bytes, sym}
use Rattle.judge_run.specs.Answer.{answer_by_line}
use Rattle.judge_run.proofs.Runs.{AsksForMade, ends_written, files_end, made_ends, words_refused}
use Rattle.judge_run.proofs.Steps.{asks_for_files}
use Rattle.judge_run.proofs.jobs.run.Goals as goal

pub returns-in-Err-NotAJob-clause-ends : goal.returns-in-Err-NotAJob-clause-ends
returns-in-Err-NotAJob-clause-ends g c =
    let words = map string_bytes c.args.words.now.items in
    let none = rw c.in-Err-NotAJob.field-0-is at c.in-Err-NotAJob.ensures.job in
    let is = words_refused (g.H.Shelf.known_files c.args.shelf.now) words none in
    let writes = rw c.no_job.ensures at c.write_outcome.ensures in
    ends_written (answer_by_line _) _ _ c.write_outcome.result is refl refl writes

pub returns-in-Judge-clause-ends : goal.returns-in-Judge-clause-ends
returns-in-Judge-clause-ends g c =
    files_end
    (asks_for_files {words = map string_bytes c.args.words.now.items} c.in-Ok.ensures.job c.in-Judge.is
    (sym c.as_str.ensures.value) (sym c.as_str-in-Judge.ensures.value)) c.run_files.ensures.ends

pub returns-clause-ends : goal.returns-clause-ends
returns-clause-ends g c =
    let words = map string_bytes c.args.words.now.items in
    let asks : AsksForMade words c.in-Ok.job _ _ =
    record { job_is = c.in-Ok.ensures.job; command_is = c.in-Make.is } in
    made_ends (g.H.Shelf.faults c.args.shelf.now) (g.H.Shelf.misses c.args.shelf.now) asks c.run_made.ensures

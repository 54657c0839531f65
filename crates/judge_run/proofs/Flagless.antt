-- Without the flag no origin is told.
use Rattle.std.proofs.Common.{◌≡◌, ℕ, false, List, drop, Option, Some, None, Ok, Err, refl, sym, ap, ◌∙◌, subst}
use Rattle.outside_ports.specs.Ports.{Files}
use Rattle.judge_words.specs.Job.{JobView, job_of}
use Rattle.rvfi_rows.specs.Columns.{TraceColumns}
use Rattle.rvfi_rows.specs.Rows.{rows_of}
use Rattle.hart_step.specs.HartSets.{SetState}
use Rattle.segment_judge.specs.Histories.{history_at, trail_from}
use Rattle.segment_judge.specs.Judgements.{by_set}
use Rattle.segment_judge.specs.Laws.{conclusion_from}
use Rattle.trace_lines.specs.Lines.{RemainingLines, file_lines}
use Rattle.judge_run.specs.Answer.{AnswerView, Step, answer, answer_of_step, asks_origins, columns_in, image_in}
use Rattle.judge_run.specs.Answer.{job_answer, lines_answer, origins_if, start_of, trace_answer, trace_in}
use Rattle.judge_run.proofs.MadeAnswers.{words_ask}

lines_without : (job : JobView) (start : SetState) (left : RemainingLines) (given : AnswerView)
    → asks_origins job.command ≡ false → lines_answer job start left ≡ Ok given → given.origins ≡ None
unfolding lines_answer
lines_without job start left given none is = by (columns_in job left) refl
  where
    by : (named : Step TraceColumns) → columns_in job left ≡ named → given.origins ≡ None
    by (Err stop) named = let never = rw named at is in cc
    by (Ok columns) named =
        let rows = rows_of columns (drop 1 left.lines) in
        let told = history_at (trail_from start rows) (conclusion_from by_set start rows).verdict in
        let same : given.origins ≡ origins_if (asks_origins job.command) told =
        (let whole = rw named at is in cc) in
        same ∙ ap (λ asks. origins_if asks told) none

trace_without : (job : JobView) (start : SetState) (trace : Option (List ℕ)) (given : AnswerView)
    → asks_origins job.command ≡ false → trace_answer job start trace ≡ Ok given → given.origins ≡ None
unfolding trace_answer
trace_without job start None given none is = cc
trace_without job start (Some text) given none is =
    lines_without job start (file_lines job.max_trace text) given none is

job_without : (job : JobView) (image trace : Option (List ℕ)) (given : AnswerView)
    → asks_origins job.command ≡ false → job_answer job image trace ≡ Ok given → given.origins ≡ None
unfolding job_answer
job_without job image trace given none is = by (start_of job image) refl
  where
    by : (start : Step SetState) → start_of job image ≡ start → given.origins ≡ None
    by (Err stop) read = let never = rw read at is in cc
    by (Ok start) read =
        let rest : trace_answer job start trace ≡ Ok given = rw read at is in
        trace_without job start trace given none rest

step_without : (step : Step AnswerView) (given : AnswerView)
    → ((told : AnswerView) → step ≡ Ok told → told.origins ≡ None) → answer_of_step step ≡ Some given
    → given.origins ≡ None
step_without (Ok told) given none is =
    let same : told ≡ given = cc in
    subst (λ (given : AnswerView). given.origins ≡ None) same (none told refl)
step_without (Err None) given none is = cc
step_without (Err (Some outcome)) given none is = cc

pub none_without : (words : List (List ℕ)) (job : JobView) (files : Files) (given : AnswerView)
    → job_of words ≡ Some job → asks_origins job.command ≡ false → answer words files ≡ Some given
    → given.origins ≡ None
none_without words job files given asked none is =
    let image = image_in job.command files in
    let trace = trace_in job.command files in
    step_without (job_answer job image trace) given (λ told same. job_without job image trace told none same)
    (sym (words_ask words files job asked) ∙ is)

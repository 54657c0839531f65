use Rattle.std.proofs.Common.{◌∙◌, List, [], ap, refl, subst, string_bytes}
use Rattle.hart_step.specs.declared.state.Core.{Core}
use Rattle.judge_words.specs.Job.{job_view}
use Rattle.outside_ports.specs.Ports.{IsMissing, file_of}
use Rattle.judge_run.specs.Starts.{start_view}
use Rattle.page_layers.specs.Memories.{layered_bytes}
use Rattle.row_origin.specs.Histories.{IsKept, history_of}
use Rattle.judge_run.specs.Answer.{trace_answer}
use Rattle.judge_run.specs.PartHistories.{IsHistoryTold}
use Rattle.judge_run.specs.Ends.{answer_view}
use Rattle.hart_step.specs.HartSets.{SetState}
use Rattle.hart_words.specs.Memory.{Bytes}
use Rattle.judge_run.specs.Parts.{IsEndTold}
use Rattle.judge_run.specs.declared.progress.Progress.{Progress}
use Rattle.judge_run.proofs.Endings.{IsAtStart, TakesHeader, later_missed, lines_missed, seen_as, trace_lacks}
use Rattle.judge_run.proofs.Endings.{trace_stops, trace_told}
use Rattle.judge_run.proofs.traces.judge_trace.Goals as goal

pub returns-in-Err-clause-misses : goal.returns-in-Err-clause-misses
returns-in-Err-clause-misses g c =
    let job = job_view c.args.job.now in
    let start = start_view c.args.start.now in
    let known_files = g.H.Shelf.known_files c.args.shelf.now in
    let name = c.args.name.now in
    rw c.line_stop.ensures
    (lines_missed c.in-Err.error known_files _ (λ files. trace_answer job start (files name)) _ _
    (λ missing. trace_lacks known_files name job start
    (subst (IsMissing known_files) c.in_ok-taker.ensures.name missing)) c.in-Err.ensures.misses)

pub returns-in-Err-columns_in-clause-meant : goal.returns-in-Err-columns_in-clause-meant
returns-in-Err-columns_in-clause-meant g c =
    let files = g.H.Shelf.known_files c.args.shelf.now in
    let opens = c.in_ok-taker.ensures in
    let header : TakesHeader files c.args.name.now (job_view c.args.job.now) c.in_ok-taker.taker c.in-Ok.taken.0
    c.in-Ok.taken.1 =
    record {
      opens = opens;
      file_exists = c.in-Ok.ensures.file_exists opens.cursor;
      takes = c.in-Ok.ensures.takes;
    } in
    trace_stops answer_view files (start_view c.args.start.now) c.in-Err-columns_in.stop header c.in-Err-columns_in.ensures.meant

pub returns-in-Ok-judge_rows-clause-meant : goal.returns-in-Ok-judge_rows-clause-meant
returns-in-Ok-judge_rows-clause-meant g c =
    let job = job_view c.args.job.now in
    let start = start_view c.args.start.now in
    let files = g.H.Shelf.known_files c.args.shelf.now in
    let opens = c.in_ok-taker.ensures in
    let columns = c.in-Ok-columns_in.columns in
    let end = c.in-Ok-judge_rows.end in
    let progress : Progress _ =
    record {
      taker = c.in-Ok.taken.1;
      harts = record { cores = c.in_ok-cores.cores; mem = c.over.result };
      counts = c.zero.result;
      history = c.history_if.result;
    } in
    let header : TakesHeader files c.args.name.now job c.in_ok-taker.taker c.in-Ok.taken.0 progress.taker =
    record {
      opens = opens;
      file_exists = c.in-Ok.ensures.file_exists opens.cursor;
      takes = c.in-Ok.ensures.takes;
    } in
    let state : List Core → Bytes → SetState = λ cores bytes. record { core = cores; bytes = bytes } in
    let at_start : IsAtStart layered_bytes start progress =
    record {
      state =
          ap (λ cores. state cores (layered_bytes c.over.result))
          (c.in_ok-cores.ensures.items ∙ c.as_slice.ensures.value)
          ∙ ap (state c.args.start.now.cores.items) c.over.ensures.bytes;
      rows = c.zero.ensures.rows;
      valid = c.zero.ensures.valid;
    } in
    let gives =
    subst
    (λ files. IsEndTold job columns layered_bytes (file_of files (string_bytes progress.taker.name)) progress end)
    c.in-Ok.ensures.known_files c.in-Ok-judge_rows.ensures.meant in
    let keeps =
    subst
    (λ files. IsHistoryTold c.args.workers.now.origin columns layered_bytes
    (file_of files (string_bytes progress.taker.name)) progress end)
    c.in-Ok.ensures.known_files c.in-Ok-judge_rows.ensures.history in
    let asked = c.requires.asked in
    let given = answer_view c.in_ok-answer-in-Ok-judge_rows.answer in
    seen_as answer_view c.in_ok-answer-in-Ok-judge_rows.answer given files
    (λ files. trace_answer job start (files c.args.name.now)) refl
    (trace_told files progress end given header c.in-Ok-columns_in.ensures.meant at_start gives
    (subst (λ origin. IsKept origin (history_of []) progress.history) asked c.history_if.ensures)
    (subst
    (λ origin. IsHistoryTold origin columns layered_bytes (file_of files (string_bytes progress.taker.name)) progress
    end) asked keeps)
    c.in_ok-answer-in-Ok-judge_rows.ensures.answer)

pub returns-clause-misses : goal.returns-clause-misses
returns-clause-misses g c =
    let job = job_view c.args.job.now in
    let start = start_view c.args.start.now in
    let known_files = g.H.Shelf.known_files c.args.shelf.now in
    let opens = c.in_ok-taker.ensures in
    let header : TakesHeader known_files c.args.name.now job c.in_ok-taker.taker c.in-Ok.taken.0 c.in-Ok.taken.1 =
    record {
      opens = opens;
      file_exists = c.in-Ok.ensures.file_exists opens.cursor;
      takes = c.in-Ok.ensures.takes;
    } in
    rw c.line_stop-in-Err-judge_rows.ensures
    (later_missed c.in-Err-judge_rows.error known_files (λ files. trace_answer job start (files c.args.name.now))
    _ _ header
    (rw (c.in-Ok.ensures.known_files, c.in-Ok.ensures.misses) at c.in-Err-judge_rows.ensures.misses))

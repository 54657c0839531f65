use Rattle.std.proofs.Common.{◌≡◌, true, false, ◌∙◌, string_bytes, refl, sym}
use Rattle.judge_words.specs.Job.{job_view}
use Rattle.outside_ports.specs.Ports.{file_of}
use Rattle.hart_step.specs.HartSets.{set_state_of}
use Rattle.rvfi_rows.specs.Segments.{row_count_of}
use Rattle.judge_run.proofs.Passing.{PartIsDone, over_passes, part_rows, part_nears, part_passes}
use Rattle.verdict_join.proofs.Passed.{few_within, lines_within}
use Rattle.judge_run.proofs.PartHistories.{no_rows_left, over_hands_on, part_hands_on}
use Rattle.judge_run.proofs.remaining.judge_part.Goals as goal

pub passed_with-requires-clause-within : goal.passed_with-requires-clause-within
passed_with-requires-clause-within g c =
    let remaining = c.args.remaining in
    let part = remaining.lookahead.part.items in
    let verdict = c.in-Ok.settled.joined.verdict in
    few_within (row_count_of c.args.columns.now part) 4611686018427387904 verdict
    (lines_within (set_state_of g.M.PhysMem.bytes remaining.progress.harts) c.args.columns.now part verdict
    c.in-Ok.ensures.settled.verdict)
    (part_rows c.args.job.now.sharing.window g.M.PhysMem.ram c.args.columns.now remaining c.requires.going)

pub returns-clause-meant : goal.returns-clause-meant
returns-clause-meant g c =
    let remaining = c.args.remaining in
    let file = file_of (g.H.Shelf.known_files c.args.shelf.now) (string_bytes remaining.progress.taker.name) in
    let done : PartIsDone g.M.PhysMem.bytes g.M.PhysMem.ram c.args.columns.now c.args.job.now.sharing.window file
    remaining c.in-Ok.settled =
    record {
      settled = c.in-Ok.ensures.settled;
      read = c.in-Ok.ensures.read;
      takes = c.in-Ok.ensures.takes;
      holds = c.in-Ok.ensures.held;
    } in
    part_passes file (job_view c.args.job.now) remaining c.in-Ok.settled c.passed_with.result done c.passed_with.ensures

pub returns-then-is_over-clause-meant : goal.returns-then-is_over-clause-meant
returns-then-is_over-clause-meant g c =
    let file = file_of (g.H.Shelf.known_files c.args.shelf.now) (string_bytes c.args.remaining.progress.taker.name) in
    over_passes g.M.PhysMem.bytes file (job_view c.args.job.now) c.args.columns.now c.args.remaining
    (c.is_over.ensures.0 c.if-is_over.true)

pub returns-clause-history : goal.returns-clause-history
returns-clause-history g c =
    let remaining = c.args.remaining in
    let file = file_of (g.H.Shelf.known_files c.args.shelf.now) (string_bytes remaining.progress.taker.name) in
    let done : PartIsDone g.M.PhysMem.bytes g.M.PhysMem.ram c.args.columns.now c.args.job.now.sharing.window file
    remaining c.in-Ok.settled =
    record {
      settled = c.in-Ok.ensures.settled;
      read = c.in-Ok.ensures.read;
      takes = c.in-Ok.ensures.takes;
      holds = c.in-Ok.ensures.held;
    } in
    part_hands_on c.args.workers.now.origin file remaining c.in-Ok.settled c.passed_with.result done c.in-Ok.ensures.history c.passed_with.ensures

pub returns-then-is_over-clause-history : goal.returns-then-is_over-clause-history
returns-then-is_over-clause-history g c =
    let remaining = c.args.remaining in
    let over = c.is_over.ensures.0 c.if-is_over.true in
    let file = file_of (g.H.Shelf.known_files c.args.shelf.now) (string_bytes remaining.progress.taker.name) in
    over_hands_on g.M.PhysMem.bytes c.args.workers.now.origin c.args.columns.now file remaining _ refl (λ file. no_rows_left file remaining over)

pub returns-clause-nearer : goal.returns-clause-nearer
returns-clause-nearer g c =
    let remaining = c.args.remaining in
    let file = file_of (g.H.Shelf.known_files c.args.shelf.now) (string_bytes remaining.progress.taker.name) in
    let done : PartIsDone g.M.PhysMem.bytes g.M.PhysMem.ram c.args.columns.now c.args.job.now.sharing.window file
    remaining c.in-Ok.settled =
    record {
      settled = c.in-Ok.ensures.settled;
      read = c.in-Ok.ensures.read;
      takes = c.in-Ok.ensures.takes;
      holds = c.in-Ok.ensures.held;
    } in
    part_nears remaining c.in-Ok.settled c.passed_with.result c.requires.going
    (λ over. let never : true ≡ false = sym (c.is_over.ensures.1 over) ∙ c.if-is_over.false in cc) done
    c.passed_with.ensures

use Rattle.std.proofs.Common.{◌+◌, ◌^◌, ◌<◌, ap, arith, rules}
use Rattle.std.specs.List.{flat_map}
use Rattle.std.proofs.lemmas.List.{length-append}
use Rattle.rvfi_rows.specs.Segments.{row_count_of, segment_lines}
use Rattle.rvfi_rows.proofs.PortRows.{rows_few}
use Rattle.judge_run.specs.Taking.{TakesSegments}
use Rattle.judge_run.proofs.Passing.{holds_after, same_taken}
use Rattle.judge_run.proofs.parts.settle_and_take.Goals as goal

pub returns-clause-held : goal.returns-clause-held
returns-clause-held g c =
    let asked = c.asked_after-asked.ensures in
    let taken : TakesSegments c.asked_after-asked.result c.args.remaining.progress.taker
    c.in-Ok.taken.0.segments.items c.in-Ok.taken.0.ending c.in-Ok.taken.1 = search rules in
    let kept = c.in_memory_of-segments.ensures in
    let still = same_taken kept.segments kept.ending taken in
    holds_after c.args.remaining.lookahead _ asked.within_window asked.asks_one asked.ending still

pub all_at_once-read-requires-after_bounds : goal.all_at_once-read-requires-after_bounds
all_at_once-read-requires-after_bounds g c = λ κs within.
    let ahead = c.args.remaining.lookahead in
    let columns = c.args.columns.now in
    let lines = length-append (flat_map segment_lines ahead.part.items) (flat_map segment_lines ahead.next.items) in
    let few = rows_few columns ahead.part.items in
    let count = ap (row_count_of columns) c.deref-current.ensures.value in
    let fits : c.args.remaining.progress.counts.rows + row_count_of columns c.deref-current.result.now < 2 ^ 62 =
    omega (arith, lines, few, count, c.requires.going.room) in
    search rules

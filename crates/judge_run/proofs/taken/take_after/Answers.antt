use Rattle.std.proofs.Common.{◌≡◌, ◌∙◌, false, true, sym, string_bytes}
use Rattle.judge_words.specs.Job.{job_view}
use Rattle.outside_ports.specs.Ports.{file_of}
use Rattle.judge_run.specs.Taking.{most_lines}
use Rattle.judge_run.proofs.Taking.{TakesAsked, none_are, result_after, taken_are}
use Rattle.judge_run.proofs.taken.take_after.Goals as goal

pub returns-then-is_more-clause-takes : goal.returns-then-is_more-clause-takes
returns-then-is_more-clause-takes g c =
    result_after (file_of (g.H.Shelf.known_files c.args.shelf.now) (string_bytes c.args.taker.name))
    (most_lines (job_view c.args.job.now) c.args.asked.segments) c.args.asked.ending c.args.taker
    c.take_segments.result (c.is_more.ensures.0 c.if-is_more.true) c.take_segments.ensures.takes
    c.take_segments.ensures.counts

pub returns-then-is_more-clause-taken : goal.returns-then-is_more-clause-taken
returns-then-is_more-clause-taken g c =
    let took = c.take_segments.ensures in
    let asked : TakesAsked c.args.asked.segments c.args.job.now.sharing.segment c.args.taker c.take_segments.result =
    record { counts = took.counts; at_most_asked = took.at_most_asked; full = took.full; room = took.room } in
    taken_are c.args.asked c.take_segments.result c.requires.lawful.sharing.segment.0
    (c.is_more.ensures.0 c.if-is_more.true) asked

pub returns-else-is_more-clause-taken : goal.returns-else-is_more-clause-taken
returns-else-is_more-clause-taken g c =
    none_are c.args.asked c.args.taker _ c.new-segments.ensures.items
    (λ more. let never : c.is_more.result ≡ true =
    c.is_more.ensures.1 more in let other : true ≡ false = sym never ∙ c.if-is_more.false in cc)

use Rattle.std.proofs.Common.{◌≤◌, sym, ◌∙◌, arith}
use Rattle.verdict_board.specs.Seats.{view_of}
use Rattle.verdict_board.specs.Views.{lead}
use Rattle.segment_workers.proofs.Finding.{agrees, named, posts, skips}
use Rattle.segment_workers.proofs.task.Task.look_and_judge.Goals as goal
use Rattle.segment_workers.proofs.task.Task.look_and_judge.Goals.{then-ends_trace, else-ends_trace}

pub returns-then-least-seg-clause-finds : goal.returns-then-least-seg-clause-finds
returns-then-least-seg-clause-finds g c =
    skips (view_of c.args.seat.now) (view_of c.look-least.new.seat) c.args.seg c.look-least.result
    c.look-least.ensures.looked c.if-least-seg.true

pub post-requires-clause-drawn : goal.post-requires-clause-drawn
post-requires-clause-drawn g c =
    let seat = c.args.seat.now in
    named (view_of seat) (view_of c.look-least.new.seat) c.look-least.result (lead (view_of seat)) c.args.seg
    c.look-least.ensures.looked c.requires.drawn

pub returns-clause-finds : goal.returns-clause-finds
returns-clause-finds g c =
    let before = view_of c.args.seat.now in
    let looked = c.look-least.new.seat in
    let high : c.args.seg ≤ c.look-least.result = omega (arith, c.if-least-seg.false) in
    elim c.if-ends_trace.branch [
      | then-ends_trace w ↦
          rw w.seat-is
          (posts before (view_of looked) c.args.seg c.look-least.result c.look-least.ensures.looked high
          (view_of w.post.new.seat) c.in_ok-judged.judged (sym c.ends_trace.ensures ∙ w.if-ends_trace.true)
          w.post.ensures.posted)
      | else-ends_trace w ↦
          rw w.seat-is
          (agrees before (view_of looked) c.args.seg c.look-least.result c.look-least.ensures.looked high
          c.in_ok-judged.judged (sym c.ends_trace.ensures ∙ w.if-ends_trace.false))
    ]

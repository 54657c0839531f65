use Rattle.std.proofs.Common.{length, subst}
use Rattle.verdict_board.specs.Seats.{LeavesAll, view_of}
use Rattle.segment_workers.specs.Laws.{IsPromised, WorkerRun}
use Rattle.segment_workers.proofs.Leaving.{events_leave_founds}
use Rattle.segment_workers.proofs.Turns.{segments_judged_in_turn}
use Rattle.judge_run.proofs.segments.find_by_workers.Goals as goal

pub returns-clause-events : goal.returns-clause-events
returns-clause-events g c =
    let view = view_of c.in_ok-founds.seat in
    let ran : WorkerRun g.row.M.Denot =
    record {
      keeps_history = c.args.workers.now.origin;
      columns =
          c.args.columns.now;
      segments =
          c.args.segments.now;
      guesses = c.args.guesses.now;
      founds = c.in_ok-founds.founds.items;
      view = view;
    } in
    let run = c.in_ok-founds.ensures in
    let promised : IsPromised g.M.PhysMem.bytes g.M.PhysMem.ram ran =
    record {
      one_each =
          c.requires.one_each;
      lawful =
          run.lawful;
      once = run.once;
      by = run.by;
      reasons = run.reasons;
      posted = run.posted;
    } in
    let closed : LeavesAll (length c.args.segments.now) view c.close-closed.result.0 c.close-closed.result.1 =
    subst (λ n. LeavesAll n view c.close-closed.result.0 c.close-closed.result.1) c.in_ok-board.ensures.segments_is
    c.close-closed.ensures.leaves in
    record {
      origin = c.args.workers.now.origin;
      view =
          view;
      events =
          closed.events;
      events_are = events_leave_founds g.M.PhysMem.bytes g.M.PhysMem.ram ran promised _ _ closed;
    }

pub returns-clause-judged : goal.returns-clause-judged
returns-clause-judged g c =
    let ran : WorkerRun g.row.M.Denot =
    record {
      keeps_history = c.args.workers.now.origin;
      columns =
          c.args.columns.now;
      segments =
          c.args.segments.now;
      guesses =
          c.args.guesses.now;
      founds = c.in_ok-founds.founds.items;
      view = view_of c.in_ok-founds.seat;
    } in
    let run = c.in_ok-founds.ensures in
    let promised : IsPromised g.M.PhysMem.bytes g.M.PhysMem.ram ran =
    record {
      one_each =
          c.requires.one_each;
      lawful =
          run.lawful;
      once = run.once;
      by = run.by;
      reasons = run.reasons;
      posted = run.posted;
    } in
    segments_judged_in_turn g.M.PhysMem.bytes g.M.PhysMem.ram ran promised

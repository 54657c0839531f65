use Rattle.std.proofs.Common.{arith}
use Rattle.std.specs.List.{flat_map}
use Rattle.hart_step.specs.HartSets.{set_state_of}
use Rattle.rvfi_rows.specs.Rows.{rows_of}
use Rattle.rvfi_rows.specs.Segments.{segment_lines}
use Rattle.rvfi_rows.proofs.PortRows.{rows_counted}
use Rattle.verdict_join.proofs.Histories.{history_fits}
use Rattle.judge_run.proofs.Settled.{settled_alike}
use Rattle.judge_run.proofs.parts.settle_part.Goals as goal

pub follow-requires : goal.follow-requires
follow-requires g c =
    let columns = c.args.columns.now in
    let part = c.args.part.now in
    let count = rows_counted columns part in
    history_fits c.args.workers.now.origin (set_state_of g.M.PhysMem.bytes c.args.reached.harts)
    (rows_of columns (flat_map segment_lines part)) c.in_ok-joined.joined.history c.args.reached.counts.rows
    c.in_ok-joined.ensures.history (omega (arith, count, c.requires.can_settle.1))

pub returns : goal.returns
returns g c = record {
  settled = settled_alike c.follow.new.history c.in_ok-joined.ensures.settled;
  history =
      λ trail kept counted. c.in_ok-follow.ensures c.args.workers.now.origin trail _ kept
      c.in_ok-joined.ensures.history counted;
}

use Rattle.std.proofs.Common.{◌^◌, arith, drop, subst, take}
use Rattle.std.specs.List.{flat_map}
use Rattle.hart_step.specs.HartSets.{set_state_of}
use Rattle.rvfi_rows.proofs.PortRows.{rows_counted, rows_few}
use Rattle.rvfi_rows.specs.Rows.{rows_of}
use Rattle.rvfi_rows.specs.Segments.{segment_lines}
use Rattle.row_origin.specs.Histories.{IsKept}
use Rattle.segment_judge.specs.Histories.{history_from}
use Rattle.verdict_join.proofs.Histories.{history_fits}
use Rattle.judge_run.specs.Settling.{IsRoundOver}
use Rattle.judge_run.proofs.Settled.{IsNextRound, lines_left, next_within, over_alike, rows_split, sliced}
use Rattle.judge_run.proofs.rounds.settle_some.Goals as goal

pub judge_round-requires-clause-lines : goal.judge_round-requires-clause-lines
judge_round-requires-clause-lines g c κs within =
    lines_left c.args.settling.tally.settled c.args.segments.now c.requires.lines

pub following-requires-clause-within : goal.following-requires-clause-within
following-requires-clause-within g c =
    let next : IsNextRound g.M.PhysMem.bytes g.M.PhysMem.ram c.args.columns.now c.args.segments.now c.args.settling
    c.in_ok-round.round =
    record {
      left = c.requires.left;
      over =
          subst
          (λ left. IsRoundOver g.M.PhysMem.bytes g.M.PhysMem.ram c.args.columns.now left
          (set_state_of g.M.PhysMem.bytes c.args.settling.harts) c.in_ok-round.round)
          (sliced c.args.segments.now c.args.settling.tally.settled) c.in_ok-round.ensures.over;
    } in
    next_within c.in_ok-round.round (2 ^ 62)
    (omega (arith, c.requires.lines, rows_few c.args.columns.now c.args.segments.now)) next

pub following-requires-clause-below_2_to_62 : goal.following-requires-clause-below_2_to_62
following-requires-clause-below_2_to_62 g c =
    omega (arith, c.requires.tallied.rows, c.requires.lines, rows_few c.args.columns.now c.args.segments.now)

pub follow-requires : goal.follow-requires
follow-requires g c =
    let columns = c.args.columns.now in
    let segments = c.args.segments.now in
    let settled = c.args.settling.tally.settled in
    let here = set_state_of g.M.PhysMem.bytes c.args.settling.harts in
    let round = c.in_ok-round.round in
    let mine = take round.settled (drop settled segments) in
    let kept =
    subst
    (λ left. IsKept c.args.workers.now.origin
    (history_from here (rows_of columns (flat_map segment_lines (take round.settled left)))) round.history)
    (sliced segments settled) c.in_ok-round.ensures.history in
    let first = rows_split columns settled segments in
    let second = rows_split columns round.settled (drop settled segments) in
    let count = rows_counted columns mine in
    history_fits c.args.workers.now.origin here (rows_of columns (flat_map segment_lines mine)) round.history
    c.args.settling.tally.counts.rows kept
    (omega (
      arith,
      first,
      second,
      count,
      c.requires.tallied.rows,
      c.requires.lines,
      rows_few columns segments,
    ))

pub returns-clause-leads : goal.returns-clause-leads
returns-clause-leads g c =
    let columns = c.args.columns.now in
    let segments = c.args.segments.now in
    let settled = c.args.settling.tally.settled in
    let here = set_state_of g.M.PhysMem.bytes c.args.settling.harts in
    let round = c.in_ok-round.round in
    let kept =
    subst
    (λ left. IsKept c.args.workers.now.origin
    (history_from here (rows_of columns (flat_map segment_lines (take round.settled left)))) round.history)
    (sliced segments settled) c.in_ok-round.ensures.history in
    record {
      round = record round { history = c.follow.new.history };
      over =
          over_alike c.follow.new.history
          (subst
          (λ left. IsRoundOver g.M.PhysMem.bytes g.M.PhysMem.ram columns left here round)
          (sliced segments settled) c.in_ok-round.ensures.over);
      leads = c.following.ensures;
      history = λ trail before counted. c.in_ok-follow.ensures c.args.workers.now.origin trail _ before kept counted;
    }

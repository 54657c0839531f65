use Rattle.std.proofs.Common.{arith, subst}
use Rattle.hart_step.specs.HartSets.{set_state_of}
use Rattle.rvfi_rows.specs.Rows.{rows_of}
use Rattle.judge_run.proofs.Settled.{LeadsOn, leads_on, so_far_all, so_far_begins}
use Rattle.segment_judge.proofs.Histories.{so_far_begins as so_far_begins_history}
use Rattle.judge_run.proofs.RoundHistories.{HistoryFollowed, history_all, history_follows}
use Rattle.judge_run.proofs.rounds.settle_in_rounds.Goals as goal

pub rounds-init : goal.rounds-init
unfolding rows_of
rounds-init g c =
    let new = c.new-tally.ensures in
    record {
      can_step = c.requires.can_step;
      tallied =
          record {
            within = omega (arith, new.settled);
            rows = rw (new.settled, new.rows) (omega arith);
            again = omega (arith, new.settled, new.rejudged);
          };
      at_most_settled = omega (arith, new.settled);
      so_far =
          so_far_begins g.M.PhysMem.bytes c.args.columns.now c.args.segments.now c.args.start c.new-tally.result
          c.history_if.result c.args.steps.now new;
      history =
          rw (new.settled, new.rows)
          (so_far_begins_history c.args.workers.now.origin (set_state_of g.M.PhysMem.bytes c.args.start)
          c.history_if.result c.history_if.ensures);
    }

pub returns-then-segments-settling-clause-rounds : goal.returns-then-segments-settling-clause-rounds
returns-then-segments-settling-clause-rounds g c =
    so_far_all c.agreement.result c.if-segments-settling.true c.rounds.invariant.so_far c.agreement.ensures

pub rounds-preserved : goal.rounds-preserved
rounds-preserved g c =
    let inv = c.rounds.invariant in
    let leads =
    leads_on _ c.if-segments-settling.false inv.tallied inv.so_far c.in-Ok-Continue.ensures.leads
    c.in-Ok-Continue.ensures.steps in
    let on =
    subst
    (LeadsOn g.M.PhysMem.bytes g.M.PhysMem.ram c.args.columns.now c.args.segments.now
    (set_state_of g.M.PhysMem.bytes c.args.start) c.args.steps.now c.settle_some.new.steps c.rounds.settling.tally)
    c.in-Ok-Continue.field-0-is leads in
    record {
      can_step = on.tallied.1.1;
      tallied = on.tallied.0;
      at_most_settled =
          let more = on.tallied.1.0 in omega (arith, more, c.in-Ok-Continue.ensures.steps, inv.at_most_settled);
      so_far = on.follows;
      history =
          subst
          (HistoryFollowed g.M.PhysMem.bytes c.args.workers.now.origin c.args.columns.now c.args.segments.now
          (set_state_of g.M.PhysMem.bytes c.args.start))
          c.in-Ok-Continue.field-0-is (history_follows _ inv.history c.in-Ok-Continue.ensures.leads);
    }

pub returns-in-Ok-Ends-clause-rounds : goal.returns-in-Ok-Ends-clause-rounds
returns-in-Ok-Ends-clause-rounds g c =
    let inv = c.rounds.invariant in
    let leads =
    leads_on _ c.if-segments-settling.false inv.tallied inv.so_far c.in-Ok-Ends.ensures.leads
    c.in-Ok-Ends.ensures.steps in
    let ends =
    subst
    (LeadsOn g.M.PhysMem.bytes g.M.PhysMem.ram c.args.columns.now c.args.segments.now
    (set_state_of g.M.PhysMem.bytes c.args.start) c.args.steps.now c.settle_some.new.steps c.rounds.settling.tally)
    c.in-Ok-Ends.field-0-is leads in
    ends.follows

pub returns-then-segments-settling-clause-history : goal.returns-then-segments-settling-clause-history
returns-then-segments-settling-clause-history g c =
    rw c.agreement.ensures
    (history_all g.M.PhysMem.bytes c.args.columns.now c.args.segments.now c.rounds.settling c.rounds.invariant.history
    c.if-segments-settling.true)

pub returns-in-Ok-Ends-clause-history : goal.returns-in-Ok-Ends-clause-history
returns-in-Ok-Ends-clause-history g c =
    subst
    (HistoryFollowed g.M.PhysMem.bytes c.args.workers.now.origin c.args.columns.now c.args.segments.now
    (set_state_of g.M.PhysMem.bytes c.args.start))
    c.in-Ok-Ends.field-0-is (history_follows _ c.rounds.invariant.history c.in-Ok-Ends.ensures.leads)

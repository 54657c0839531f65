use Rattle.std.proofs.Common.{arith, length, subst, sym}
use Rattle.rvfi_rows.specs.Rows.{rows_of}
use Rattle.hart_step.specs.HartSets.{set_state_of}
use Rattle.hart_step.specs.HartSets.{SetState}
use Rattle.verdict_join.specs.Walks.{IsReached}
use Rattle.verdict_join.proofs.Histories.{history_fits}
use Rattle.verdict_join.proofs.Passed.{few_within, passes_by, rows_within}
use Rattle.verdict_join.proofs.walk.Walk.pass.Goals as goal

pub count-requires-clause-within : goal.count-requires-clause-within
count-requires-clause-within g c =
    let now : SetState = set_state_of g.M.PhysMem.bytes c.args.self.now.harts in
    let rows = rows_of c.args.columns.now c.args.segment.now.lines in
    let concludes = rw c.in-Some.is at c.requires.adopted in
    few_within (length rows) _ c.in-Some.judged.now.verdict (rows_within now rows (sym concludes.verdict))
    (omega (arith, c.requires.below_2_to_62))

pub count-requires-in-None-clause-within : goal.count-requires-in-None-clause-within
count-requires-in-None-clause-within g c =
    let now : SetState = set_state_of g.M.PhysMem.bytes c.args.self.now.harts in
    let rows = rows_of c.args.columns.now c.args.segment.now.lines in
    few_within (length rows) _ c.in_ok-verdict-in-None.verdict
    (rows_within now rows c.in_ok-verdict-in-None.ensures.verdict) (omega (arith, c.requires.below_2_to_62))

pub returns-in_ok-adopt-in-Some-clause-passes : goal.returns-in_ok-adopt-in-Some-clause-passes
returns-in_ok-adopt-in-Some-clause-passes g c =
    let concludes = rw c.in-Some.is at c.requires.adopted in
    passes_by c.adopt.new.self c.count.new.self c.in-Some.judged.now.verdict c.count.result
    (record {
      verdict_is = sym concludes.verdict;
      reached =
          subst (λ end. IsReached end (set_state_of g.M.PhysMem.bytes c.adopt.new.self.harts)) (sym concludes.end)
          c.in_ok-adopt-in-Some.ensures.reached;
      counts_are = c.adopt.ensures.counts;
    }) c.count.ensures.counts c.count.ensures.harts

pub returns-in_ok-adopt-in-Some-clause-rows : goal.returns-in_ok-adopt-in-Some-clause-rows
returns-in_ok-adopt-in-Some-clause-rows g c =
    let now : SetState = set_state_of g.M.PhysMem.bytes c.args.self.now.harts in
    let rows = rows_of c.args.columns.now c.args.segment.now.lines in
    let concludes = rw c.in-Some.is at c.requires.adopted in
    let more = c.count.ensures.rows (length rows) (rows_within now rows (sym concludes.verdict)) in
    rw c.adopt.ensures.counts at more

pub returns-in_ok-verdict-in-None-clause-passes : goal.returns-in_ok-verdict-in-None-clause-passes
returns-in_ok-verdict-in-None-clause-passes g c =
    passes_by c.judge_again.new.self c.count-in-None.new.self c.in_ok-verdict-in-None.verdict c.count-in-None.result
    (record {
      verdict_is = c.in_ok-verdict-in-None.ensures.verdict;
      reached = c.in_ok-verdict-in-None.ensures.reached;
      counts_are = c.judge_again.ensures.counts;
    }) c.count-in-None.ensures.counts c.count-in-None.ensures.harts

pub returns-in_ok-verdict-in-None-clause-rows : goal.returns-in_ok-verdict-in-None-clause-rows
returns-in_ok-verdict-in-None-clause-rows g c =
    let now : SetState = set_state_of g.M.PhysMem.bytes c.args.self.now.harts in
    let rows = rows_of c.args.columns.now c.args.segment.now.lines in
    let within = rows_within now rows c.in_ok-verdict-in-None.ensures.verdict in
    let more = c.count-in-None.ensures.rows (length rows) within in
    rw c.judge_again.ensures.counts at more

pub adopt-requires-clause-fits : goal.adopt-requires-clause-fits
adopt-requires-clause-fits g c =
    let kept = rw c.in-Some.is at c.requires.kept in
    history_fits c.args.origin (set_state_of g.M.PhysMem.bytes c.args.self.now.harts)
    (rows_of c.args.columns.now c.args.segment.now.lines) c.in-Some.judged.now.history c.args.self.now.counts.rows kept
    (omega (arith, c.requires.below_2_to_62))

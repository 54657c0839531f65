use Rattle.std.proofs.Common.{◌∙◌, ap, arith, option_map, refl, sym}
use Rattle.hart_step.specs.HartSets.{set_state_of}
use Rattle.rvfi_rows.specs.Rows.{rows_of}
use Rattle.segment_judge.specs.Laws.{conclusion_from}
use Rattle.verdict_join.proofs.Histories.{history_fits}
use Rattle.verdict_join.proofs.Passed.{reached_none, reached_some}
use Rattle.verdict_join.proofs.walk.Walk.judge_again.Goals as goal

pub returns-in-None-clause-verdict : goal.returns-in-None-clause-verdict
unfolding conclusion_from
returns-in-None-clause-verdict g c = c.in_ok-verdict.ensures.judged.verdict

pub returns-clause-verdict : goal.returns-clause-verdict
unfolding conclusion_from
returns-clause-verdict g c = c.in_ok-verdict.ensures.judged.verdict

pub returns-in-None-clause-reached : goal.returns-in-None-clause-reached
unfolding conclusion_from
returns-in-None-clause-reached g c =
    reached_none _ _
    (sym c.in_ok-verdict.ensures.judged.end ∙ ap (option_map (set_state_of g.M.PhysMem.bytes)) c.in-None.is)

pub returns-clause-reached : goal.returns-clause-reached
unfolding conclusion_from
returns-clause-reached g c =
    reached_some _ (set_state_of g.M.PhysMem.bytes c.in-Some.end) _
    (sym c.in_ok-verdict.ensures.judged.end ∙ ap (option_map (set_state_of g.M.PhysMem.bytes)) c.in-Some.is) refl

pub follow-requires : goal.follow-requires
follow-requires g c =
    history_fits c.args.origin (set_state_of g.M.PhysMem.bytes c.args.self.now.harts)
    (rows_of c.args.columns.now c.args.segment.now.lines) c.in_ok-verdict.field-0.history c.args.self.now.counts.rows
    c.in_ok-verdict.ensures.history (omega (arith, c.requires.below_2_to_62))

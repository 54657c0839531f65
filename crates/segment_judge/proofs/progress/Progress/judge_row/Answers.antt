use Rattle.std.proofs.Common.{◌+◌}
use Rattle.rvfi_rows.specs.declared.verdict.Verdict.TheVariants.{Refused}
use Rattle.row_origin.proofs.Histories.{kept_of_none_more}
use Rattle.segment_judge.proofs.Noted.{noted_invalid, noted_refused}
use Rattle.segment_judge.proofs.Progressed.{judges_invalid, judges_refused}
use Rattle.segment_judge.proofs.progress.Progress.judge_row.Goals as goal

pub returns-in-Refused-clause-judges : goal.returns-in-Refused-clause-judges
returns-in-Refused-clause-judges g c =
    λ accesses. rw c.in-Refused.is (judges_refused g.M.PhysMem.bytes c.args.self.now c.in-Refused.fault accesses)

pub returns-in-Invalid-clause-judges : goal.returns-in-Invalid-clause-judges
returns-in-Invalid-clause-judges g c =
    λ accesses. rw c.in-Invalid.is (judges_invalid g.M.PhysMem.bytes c.args.self.now c.with_row-self.result accesses
    c.with_row-self.ensures.rows c.with_row-self.ensures.valid)

pub returns-in-Valid-clause-judges : goal.returns-in-Valid-clause-judges
returns-in-Valid-clause-judges g c = rw c.in-Valid.is c.judge_valid.ensures.judges

pub returns-in-Refused-clause-notes : goal.returns-in-Refused-clause-notes
returns-in-Refused-clause-notes g c = λ origin trail.
    rw c.in-Refused.is
    (noted_refused g.M.PhysMem.bytes origin c.args.self.now c.in-Refused.fault
    (Refused (c.args.self.now.counts.rows + 1) c.in-Refused.fault) trail)

pub returns-in-Invalid-clause-notes : goal.returns-in-Invalid-clause-notes
returns-in-Invalid-clause-notes g c = λ origin trail.
    rw c.in-Invalid.is
    (noted_invalid g.M.PhysMem.bytes origin c.args.self.now c.with_row-self.result c.args.self.now.history trail
    (kept_of_none_more origin trail c.args.self.now.history))

pub returns-in-Valid-clause-notes : goal.returns-in-Valid-clause-notes
returns-in-Valid-clause-notes g c = rw c.in-Valid.is c.judge_valid.ensures.notes

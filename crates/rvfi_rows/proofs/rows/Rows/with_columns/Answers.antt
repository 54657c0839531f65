use Rattle.std.proofs.Common.{◌∙◌}
use Rattle.rvfi_rows.proofs.KeptRows.{none_kept}
use Rattle.rvfi_rows.proofs.rows.Rows.with_columns.Goals as goal

pub returns-clause-none : goal.returns-clause-none
returns-clause-none c = none_kept _ _ _ (c.in_ok-reserve.ensures.items ∙ c.clear.ensures.items)

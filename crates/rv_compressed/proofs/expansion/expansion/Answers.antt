use Rattle.std.proofs.Common.{◌∙◌}
use Rattle.rv_compressed.specs.Table.{expansion_of, table}
use Rattle.rv_compressed.proofs.expansion.expansion.Goals as goal

pub returns : goal.returns
unfolding expansion_of table
returns c = c.expansion_by.ensures ∙ c.rows_from.ensures

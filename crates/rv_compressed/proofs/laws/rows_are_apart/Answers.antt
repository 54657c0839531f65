use Rattle.std.proofs.Common.{refl}
use Rattle.rv_compressed.specs.Table.{table}
use Rattle.rv_compressed.proofs.Apart.{no_two_meet}
use Rattle.rv_compressed.proofs.laws.rows_are_apart.Goals as goal

pub returns : goal.returns
unfolding table
returns c = no_two_meet table refl

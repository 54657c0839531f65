use Rattle.rv_decode.proofs.ByOpcode.{without}
use Rattle.rv_decode.proofs.laws.table_without_bits.Goals as goal

pub returns : goal.returns
returns c = without

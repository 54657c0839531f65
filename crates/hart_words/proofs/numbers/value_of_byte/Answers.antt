use Rattle.std.proofs.Common.{arith}
use Rattle.hart_words.proofs.DigitTable.{table_value}
use Rattle.hart_words.proofs.numbers.value_of_byte.Goals as goal

pub returns : goal.returns
returns c = rw c.from.ensures (table_value c.args.byte (omega arith))

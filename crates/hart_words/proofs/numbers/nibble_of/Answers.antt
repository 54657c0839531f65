use Rattle.std.proofs.Common.{arith}
use Rattle.hart_words.proofs.NibbleTable.{nibble_value}
use Rattle.hart_words.proofs.Fours.{nibble_small}
use Rattle.hart_words.proofs.numbers.nibble_of.Goals as goal

pub returns-clause-value : goal.returns-clause-value
returns-clause-value c = rw c.from.ensures (nibble_value c.args.byte (omega arith))

pub returns-clause-small : goal.returns-clause-small
returns-clause-small c = rw (c.from.ensures, nibble_value c.args.byte (omega arith)) (nibble_small c.args.byte)

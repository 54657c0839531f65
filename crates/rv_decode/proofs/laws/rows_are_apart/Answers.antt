use Rattle.std.proofs.Common.{refl, true}
use Rattle.rv_decode.specs.Table.{all_rows, opcodes, opcodes_with, bits_opcodes}
use Rattle.rv_decode.proofs.Apart.{no_two_meet}
use Rattle.rv_decode.proofs.laws.rows_are_apart.Goals as goal

pub returns : goal.returns
unfolding opcodes bits_opcodes
returns c = record {
  table = no_two_meet (all_rows opcodes) refl;
  with_bits = no_two_meet (all_rows (opcodes_with true)) refl;
}

use Rattle.rv_integer.proofs.Narrow.{registers_ignore, immediates_ignore}
use Rattle.rv_integer.proofs.laws.upper_bits_are_ignored.Goals as goal

pub returns : goal.returns
returns c = record { registers = registers_ignore; immediates = immediates_ignore }

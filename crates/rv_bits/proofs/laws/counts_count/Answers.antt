use Rattle.rv_bits.proofs.CountLaws.{bracket, divide, zero_has, are_all}
use Rattle.rv_bits.proofs.laws.counts_count.Goals as goal

pub returns : goal.returns
returns c = record { leading = bracket; trailing = divide; zero = zero_has; ones = are_all }

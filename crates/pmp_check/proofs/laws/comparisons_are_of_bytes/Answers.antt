use Rattle.pmp_check.proofs.Covering.{some_byte, each_byte}
use Rattle.pmp_check.proofs.laws.comparisons_are_of_bytes.Goals as goal

pub returns-clause-some_byte : goal.returns-clause-some_byte
returns-clause-some_byte c = some_byte

pub returns-clause-each : goal.returns-clause-each
returns-clause-each c = each_byte

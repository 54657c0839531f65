use Rattle.csr_file.proofs.Profiles.{as_the_table}
use Rattle.csr_file.proofs.laws.nothing_said_is_the_table.Goals as goal

pub returns : goal.returns
returns c = as_the_table

use Rattle.csr_file.proofs.Writes.{leaves_locked}
use Rattle.csr_file.proofs.laws.locked_entries_stay.Goals as goal

pub returns : goal.returns
returns c = leaves_locked

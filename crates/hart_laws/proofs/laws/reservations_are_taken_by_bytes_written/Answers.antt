use Rattle.hart_laws.proofs.Others.{others_kept, others_taken}
use Rattle.hart_laws.proofs.laws.reservations_are_taken_by_bytes_written.Goals as goal

pub returns-clause-taken : goal.returns-clause-taken
returns-clause-taken c = others_taken

pub returns-clause-kept : goal.returns-clause-kept
returns-clause-kept c = others_kept

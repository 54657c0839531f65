use Rattle.std.proofs.Common.{length}
use Rattle.row_origin.proofs.last.+note_writes.Given as goal

abbrev pub decreases-note_writes : goal.decreases-note_writes
decreases-note_writes l = length l.writes.now

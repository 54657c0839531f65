use Rattle.std.proofs.Common.{length}
use Rattle.read_footprint.proofs.footprint.Footprint.+note_reads.Given as goal

abbrev pub decreases-note_reads : goal.decreases-note_reads
decreases-note_reads l = length l.reads.now

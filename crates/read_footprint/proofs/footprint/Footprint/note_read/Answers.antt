use Rattle.read_footprint.proofs.NotedBytes.{noted_read}
use Rattle.read_footprint.proofs.footprint.Footprint.note_read.Goals as goal

pub returns-else-not-has_all-clause-read : goal.returns-else-not-has_all-clause-read
returns-else-not-has_all-clause-read c =
    noted_read c.args.self.now c.recent_block.result c.args.pa c.args.len c.recent_block.ensures (c.has_all.ensures c.if-not-has_all.false)

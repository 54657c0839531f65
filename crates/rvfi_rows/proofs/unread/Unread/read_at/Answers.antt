use Rattle.rvfi_rows.proofs.Places.{reads_at}
use Rattle.rvfi_rows.proofs.unread.Unread.read_at.Goals as goal

pub returns-clause-reads : goal.returns-clause-reads
returns-clause-reads c =
    reads_at c.args.self.now.segments.now (record { place = c.args.place; read = c.in_ok-read.read }) _ c.requires
    c.in_ok-read.ensures.columns c.in_ok-read.ensures.rows

use Rattle.read_footprint.proofs.Noting.{on_err, same_blocks, same_found}
use Rattle.read_footprint.proofs.Rows.{row_added, added_read, added_written}
use Rattle.read_footprint.proofs.footprint.Footprint.add.Goals as goal

pub returns-in_err-reserve-clause-err : goal.returns-in_err-reserve-clause-err
returns-in_err-reserve-clause-err c =
    on_err c.from_residual.result (same_blocks c.args.self.now _ c.in_err-reserve.ensures.err)

pub returns-clause-read : goal.returns-clause-read
returns-clause-read c =
    added_read _ _ c.as_slice-reads.ensures (same_found c.args.self.now _ c.in_ok-reserve.ensures.entries.2)
    c.note_reads.ensures.read c.note_writes.ensures.read

pub returns-clause-wrote : goal.returns-clause-wrote
returns-clause-wrote c =
    added_written _ _ c.as_slice-writes.ensures (same_found c.args.self.now _ c.in_ok-reserve.ensures.entries.2)
    c.note_reads.ensures.wrote c.note_writes.ensures.wrote

pub returns-clause-rows : goal.returns-clause-rows
returns-clause-rows c =
    row_added c.args.self.now c.note_writes.new.self (record { reads = c.args.seen.now; wrote = c.args.wrote.now })
    (added_read _ _ c.as_slice-reads.ensures (same_found c.args.self.now _ c.in_ok-reserve.ensures.entries.2)
    c.note_reads.ensures.read c.note_writes.ensures.read)
    (added_written _ _ c.as_slice-writes.ensures (same_found c.args.self.now _ c.in_ok-reserve.ensures.entries.2)
    c.note_reads.ensures.wrote c.note_writes.ensures.wrote)

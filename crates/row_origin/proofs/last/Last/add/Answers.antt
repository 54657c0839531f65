use Rattle.row_origin.proofs.LastOf.{of_one_more}
use Rattle.row_origin.specs.Trails.{facts_of}
use Rattle.row_origin.proofs.last.Last.add.Goals as goal

pub returns-clause-ok : goal.returns-clause-ok
returns-clause-ok c =
    of_one_more c.args.self.now _ c.reserve.new.self c.reserve-2.new.self
    (facts_of c.args.stepped.now c.args.hart) c.as_slice-writes.result.now c.args.row
    c.in_ok-reserve.ensures.same c.in_ok-reserve-2.ensures.same c.as_slice-writes.ensures
    c.note_register.ensures c.note_writes.ensures.rows

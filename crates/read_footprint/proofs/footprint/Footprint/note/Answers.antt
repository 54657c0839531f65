use Rattle.read_footprint.proofs.Noting.{noted_first}
use Rattle.read_footprint.proofs.footprint.Footprint.note.Goals as goal

pub returns-clause-noted : goal.returns-clause-noted
returns-clause-noted c =
    noted_first c.args.self.now _ _ c.args.number c.args.later (c.note_known.ensures.same c.in_default.is)
    (c.note_known.ensures.absent c.in_default.is) c.in-Ok.ensures.updates.0

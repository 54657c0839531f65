use Rattle.row_origin.proofs.LastOf.{bytes_fit, of_more_rows}
use Rattle.row_origin.proofs.last.Last.lay_over.Goals as goal

pub lay_over-requires-2-clause-fits : goal.lay_over-requires-2-clause-fits
lay_over-requires-2-clause-fits c = bytes_fit c.args.later.now c.args.base c.requires

pub returns-clause-ok : goal.returns-clause-ok
returns-clause-ok c =
    of_more_rows c.args.self.now c.args.later.now _ c.reserve.new.self c.reserve-2.new.self c.args.base
    c.in_ok-reserve.ensures.same c.in_ok-reserve-2.ensures.same c.lay_over.ensures c.lay_over-2.ensures

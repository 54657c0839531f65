use Rattle.row_origin.proofs.Placed.{same_entries, same_found}
use Rattle.row_origin.proofs.places.Places.reserve.Goals as goal

pub returns-in_err-reserve-clause-same : goal.returns-in_err-reserve-clause-same
returns-in_err-reserve-clause-same c = same_entries c.args.self.now _ c.in_err-reserve.ensures.err

pub returns-clause-same : goal.returns-clause-same
returns-clause-same c = same_found c.args.self.now _ c.in_ok-reserve.ensures.entries.2

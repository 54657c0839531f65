use Rattle.hart_laws.proofs.Others.{absent_stays, others_keep}
use Rattle.hart_laws.proofs.laws.other_harts_keep_all_but_reservations.Goals as goal

pub returns-clause-others : goal.returns-clause-others
returns-clause-others c = others_keep

pub returns-clause-absent : goal.returns-clause-absent
returns-clause-absent c = absent_stays

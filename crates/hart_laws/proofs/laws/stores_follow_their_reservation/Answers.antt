use Rattle.std.proofs.Common.{refl}
use Rattle.hart_step.specs.Cores.{core_at_reset_of}
use Rattle.hart_laws.proofs.Rows.{is_reserved_still, stores_after, was_reserved}
use Rattle.hart_laws.proofs.laws.stores_follow_their_reservation.Goals as goal

pub returns-clause-reserved : goal.returns-clause-reserved
returns-clause-reserved c = was_reserved

pub returns-clause-still : goal.returns-clause-still
returns-clause-still c = is_reserved_still

pub returns-clause-stores : goal.returns-clause-stores
returns-clause-stores c = stores_after

pub returns-clause-reset : goal.returns-clause-reset
unfolding core_at_reset_of
returns-clause-reset c profile pc map choices = refl

use Rattle.hart_laws.proofs.Own.{own_after, own_kept, own_released, own_reserved}
use Rattle.hart_laws.proofs.laws.own_rows_reserve_by_lr_and_release_by_sc.Goals as goal

pub returns-clause-own : goal.returns-clause-own
returns-clause-own c = own_after

pub returns-clause-kept : goal.returns-clause-kept
returns-clause-kept c = own_kept

pub returns-clause-reserved : goal.returns-clause-reserved
returns-clause-reserved c = own_reserved

pub returns-clause-released : goal.returns-clause-released
returns-clause-released c = own_released

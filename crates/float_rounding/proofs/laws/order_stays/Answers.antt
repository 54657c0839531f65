use Rattle.float_rounding.proofs.Order.{order_stays}
use Rattle.float_rounding.proofs.laws.order_stays.Goals as goal

pub returns : goal.returns
returns c = order_stays

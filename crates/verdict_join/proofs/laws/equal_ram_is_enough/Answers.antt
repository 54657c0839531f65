use Rattle.verdict_join.proofs.Elsewhere.{usable_over_equal_ram}
use Rattle.verdict_join.proofs.laws.equal_ram_is_enough.Goals as goal

pub returns : goal.returns
returns g c = usable_over_equal_ram

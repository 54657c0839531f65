use Rattle.made_runs.proofs.Witness.{made_state}
use Rattle.made_runs.proofs.laws.made_states_stand.Goals as goal

pub returns : goal.returns
returns c = made_state

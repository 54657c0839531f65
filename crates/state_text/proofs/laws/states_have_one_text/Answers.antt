use Rattle.state_text.proofs.OneText.{one_text}
use Rattle.state_text.proofs.laws.states_have_one_text.Goals as goal

pub returns : goal.returns
returns c =
    λ profile map choices harts text cores bytes some h. one_text profile map choices harts text cores bytes some h

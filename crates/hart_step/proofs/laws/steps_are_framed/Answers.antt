use Rattle.hart_step.specs.Steps.{step_of}
use Rattle.hart_step.proofs.laws.steps_are_framed.Goals as goal

pub returns : goal.returns
returns c = λ core shown one other agree. (step_of core shown).framed one other agree

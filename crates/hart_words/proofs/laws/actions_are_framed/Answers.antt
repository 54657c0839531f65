use Rattle.hart_words.proofs.laws.actions_are_framed.Goals as goal

pub returns : goal.returns
returns g c = λ action one other agree. action.framed one other agree

use Rattle.made_runs.proofs.MadeTexts.{texts_agree}
use Rattle.made_runs.proofs.laws.made_texts_agree.Goals as goal

pub returns : goal.returns
returns c = texts_agree

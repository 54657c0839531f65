use Rattle.state_text.proofs.TextBack.{text_back}
use Rattle.state_text.proofs.laws.texts_are_read_back.Goals as goal

pub returns : goal.returns
returns c = λ profile map choices cores bytes saved. text_back profile map choices cores bytes saved

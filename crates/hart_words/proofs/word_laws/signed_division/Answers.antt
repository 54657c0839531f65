use Rattle.hart_words.proofs.Divided.{divided}
use Rattle.hart_words.proofs.word_laws.signed_division.Goals as goal

pub returns : goal.returns
returns c = divided

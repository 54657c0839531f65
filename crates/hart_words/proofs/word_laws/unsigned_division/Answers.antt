use Rattle.hart_words.proofs.Divided.{divided_unsigned}
use Rattle.hart_words.proofs.word_laws.unsigned_division.Goals as goal

pub returns : goal.returns
returns c = divided_unsigned

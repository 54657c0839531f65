use Rattle.hart_words.proofs.Extended.{extends_signs}
use Rattle.hart_words.proofs.word_laws.sign_extension.Goals as goal

pub returns : goal.returns
returns c = extends_signs

use Rattle.hart_words.proofs.Divided.{halves}
use Rattle.hart_words.proofs.word_laws.product_halves.Goals as goal

pub returns : goal.returns
returns c = halves

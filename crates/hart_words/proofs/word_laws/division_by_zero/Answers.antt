use Rattle.hart_words.proofs.Divided.{by_zero}
use Rattle.hart_words.proofs.word_laws.division_by_zero.Goals as goal

pub returns : goal.returns
returns c = by_zero

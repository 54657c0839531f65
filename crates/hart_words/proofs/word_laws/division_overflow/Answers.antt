use Rattle.hart_words.proofs.Divided.{overflows}
use Rattle.hart_words.proofs.word_laws.division_overflow.Goals as goal

pub returns : goal.returns
returns c = overflows

use Rattle.hart_words.proofs.SignalTable.{stands_at_its_index}
use Rattle.hart_words.proofs.laws.signals_stand_at_their_index.Goals as goal

pub returns : goal.returns
returns c = stands_at_its_index

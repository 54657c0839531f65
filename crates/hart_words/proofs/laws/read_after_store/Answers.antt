use Rattle.hart_words.proofs.Stores.{number_after_store}
use Rattle.hart_words.proofs.laws.read_after_store.Goals as goal

pub returns : goal.returns
returns c = number_after_store

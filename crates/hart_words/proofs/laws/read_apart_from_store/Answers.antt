use Rattle.hart_words.proofs.Stores.{number_apart_from_store}
use Rattle.hart_words.proofs.laws.read_apart_from_store.Goals as goal

pub returns : goal.returns
returns c = number_apart_from_store

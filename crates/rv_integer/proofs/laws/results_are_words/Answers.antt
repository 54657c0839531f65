use Rattle.rv_integer.proofs.Narrow.{register_words, immediate_words}
use Rattle.rv_integer.proofs.laws.results_are_words.Goals as goal

pub returns : goal.returns
returns c = record { registers = register_words; immediates = immediate_words }

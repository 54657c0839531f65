use Rattle.csr_file.specs.Registers.{at}
use Rattle.csr_file.specs.Table.{stored_index_of}
use Rattle.hart_step.proofs.WordLists.{register_is_word, value_is_word}
use Rattle.hart_step.proofs.words.core_holds_words.Goals as goal

pub returns : goal.returns
unfolding at
returns c = record {
  pc = c.is_word.ensures;
  registers = λ number. register_is_word c.args.core.now.registers c.are_words.ensures number;
  csrs = λ stored. value_is_word c.args.core.now.csrs.values c.are_words-2.ensures (stored_index_of stored);
  configurations = c.are_bytes.ensures;
}

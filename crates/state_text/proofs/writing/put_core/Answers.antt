use Rattle.state_text.proofs.Underway.{numbers_len}
use Rattle.state_text.proofs.writing.put_core.Goals as goal

pub put_numbers-requires-clause-count : goal.put_numbers-requires-clause-count
put_numbers-requires-clause-count c =
    numbers_len c.args.core.now.registers c.args.core.now.csrs c.requires.whole.registers c.requires.whole.entries

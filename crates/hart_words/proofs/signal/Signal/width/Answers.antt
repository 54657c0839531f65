use Rattle.hart_words.proofs.SignalTable.{width_in}
use Rattle.hart_words.proofs.signal.Signal.width.Goals as goal

pub returns-in-Some-clause-most : goal.returns-in-Some-clause-most
returns-in-Some-clause-most c = width_in c.args.self c.in-Some.entry.now c.in-Some.ensures

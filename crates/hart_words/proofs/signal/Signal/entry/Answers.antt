use Rattle.std.proofs.Common.{ap, ◌∙◌}
use Rattle.std.specs.Prelude.{slice_get}
use Rattle.hart_words.specs.declared.signal.TheConstants.{SIGNALS}
use Rattle.hart_words.specs.Signals.{signal_entry_of}
use Rattle.hart_words.proofs.signal.Signal.entry.Goals as goal

pub returns : goal.returns
unfolding signal_entry_of
returns c = c.entry_at.ensures ∙ ap (λ i. slice_get SIGNALS i) c.index.ensures.value

use Rattle.std.proofs.Common.{take}
use Rattle.rvfi_rows.specs.Kept.{HasSignalsOf}
use Rattle.rvfi_rows.proofs.rows.known_signals.Given as goal

abbrev pub invariant-loop-index : goal.invariant-loop-index
invariant-loop-index l = HasSignalsOf (take l.index l.columns) l.signals.items

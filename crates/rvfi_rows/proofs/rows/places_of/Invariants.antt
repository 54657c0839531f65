use Rattle.std.proofs.Common.{◌≡◌, map, take}
use Rattle.hart_words.specs.Signals.{index_of}
use Rattle.rvfi_rows.proofs.rows.places_of.Given as goal

abbrev pub invariant-loop-index : goal.invariant-loop-index
invariant-loop-index l = l.places.items ≡ map index_of (take l.index l.signals)

use Rattle.rv_bits.proofs.Rotated.{undo, undo_words}
use Rattle.rv_bits.proofs.laws.rotations_undo.Goals as goal

pub returns : goal.returns
returns c = record { doublewords = undo; words = undo_words }

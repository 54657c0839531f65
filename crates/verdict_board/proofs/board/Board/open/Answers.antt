use Rattle.verdict_board.proofs.Allowed.{opening_kept}
use Rattle.verdict_board.proofs.board.Board.open.Goals as goal

pub of_words-requires : goal.of_words-requires
of_words-requires c = rw c.from.ensures (opening_kept c.args.n c.args.seats c.ranges.n.fits c.requires.at_most_64)

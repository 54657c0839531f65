use Rattle.std.proofs.Common.{arith}
use Rattle.verdict_board.proofs.Allowed.{look_allowed}
use Rattle.verdict_board.proofs.board.Board.look.Goals as goal

pub load-requires : goal.load-requires
load-requires c =
    let seat = c.args.seat.now in
    let shared = c.args.self.now.table.shared in (
      c.requires.at.table_is,
      omega (arith, c.args.self.now.two_words),
      look_allowed shared.key.segments shared.key.seats shared.table_id.slots seat.place.id seat.place.me seat.live,
    )

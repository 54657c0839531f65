use Rattle.std.proofs.Common.{ap, arith}
use Rattle.verdict_board.proofs.Allowed.{split_allowed}
use Rattle.verdict_board.proofs.Closing.{fresh_idle}
use Rattle.verdict_board.proofs.board.Board.deal.Goals as goal

pub split_seat-place-requires : goal.split_seat-place-requires
split_seat-place-requires c =
    let rest = c.args.rest.now in
    let shared = c.args.self.now.table.shared in (
      c.requires.at.table_is,
      omega (arith, c.args.self.now.two_words),
      split_allowed shared.key.segments shared.key.seats rest.place.id rest.place.me.0 rest.live
          (fresh_idle rest.place.me.0 c.requires.fresh) (ap (λ v. v.least) c.requires.fresh),
    )

use Rattle.std.proofs.Common.{ℕ, ap, arith, subst}
use mathlib.Core.Option.{none}
use Rattle.atomic_table.specs.Table.{step}
use Rattle.verdict_board.specs.Plays.{Puts}
use Rattle.verdict_board.specs.Seats.{view_of}
use Rattle.verdict_board.proofs.Allowed.{post_allowed}
use Rattle.verdict_board.proofs.Held.{IsPosted, drawer, post_seen}
use Rattle.verdict_board.proofs.board.Board.post.Goals as goal

pub fetch_min-requires : goal.fetch_min-requires
fetch_min-requires c =
    let seat = c.args.seat.now in
    let shared = c.args.self.now.table.shared in
    let drawn = drawer seat.place.me.0.draws c.args.segment c.requires.drawn in (
      c.requires.at.table_is,
      omega (arith, c.args.self.now.two_words),
      rw c.from.ensures
          (post_allowed shared.key.segments shared.key.seats shared.table_id.slots seat.place.id seat.place.me drawn.0
          c.args.segment seat.live drawn.1 (omega (arith, c.requires.within, c.requires.at.segments_is))),
    )

seen : (c : goal.After-seat-1) → IsPosted c.args.segment (view_of c.args.seat.now) c.fetch_min.new.seat.me.0
seen c =
    let seat = c.args.seat.now in
    let slots = c.args.self.now.table.shared.table_id.slots in
    let P : ℕ → Type 0 =
    λ segment. Puts (step slots 1 segment 0 none) seat.place.me c.fetch_min.result c.fetch_min.new.seat.me in
    let puts = subst P c.from.ensures c.fetch_min.ensures.2 in
    post_seen (view_of seat) c.fetch_min.new.seat.me.0 puts.0.0 c.args.segment c.fetch_min.result puts.0.1
    (ap (λ me. me.0) puts.0.2) puts.1

pub returns-clause-posted : goal.returns-clause-posted
returns-clause-posted c = (seen c).posts

pub returns-clause-within : goal.returns-clause-within
returns-clause-within c = (seen c).within

pub returns-clause-falls : goal.returns-clause-falls
returns-clause-falls c = (seen c).falls

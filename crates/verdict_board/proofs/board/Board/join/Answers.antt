use Rattle.std.proofs.Common.{◌≡◌, ◌<◌, ◌||◌, sym, ap, ◌∙◌, length, arith}
use Rattle.verdict_board.specs.Views.{is_done, joined_views}
use Rattle.verdict_board.proofs.Allowed.{join_allowed, learn_allowed}
use Rattle.verdict_board.proofs.Held.{joined_done, joined_live}
use Rattle.verdict_board.proofs.board.Board.join.Goals.{then-seat, else-seat}
use Rattle.verdict_board.proofs.board.Board.join.Goals as goal

pub join_seat-requires : goal.join_seat-requires
join_seat-requires c =
    let seat = c.args.seat.now in
    let other = c.args.other in
    let shared = c.args.self.now.table.shared in (
      c.requires.at.table_is,
      c.requires.other.table_is,
      other.bare,
      omega (arith, c.args.self.now.two_words),
      join_allowed shared.key.segments shared.key.seats seat.place.id other.place.id seat.place.me.0
          other.place.me.0 seat.live other.live,
    )

pub load-requires : goal.load-requires
load-requires c =
    let seat = c.args.seat.now in
    let other = c.args.other in
    let shared = c.args.self.now.table.shared in
    let now = c.join_seat.new.seat in
    let live : 0 < length now.me.0.numbers =
    omega (
      arith,
      ap (λ me. length me.0.numbers) c.join_seat.ensures.2,
      joined_live seat.place.me.0 other.place.me.0 seat.live,
    ) in (
      c.join_seat.ensures.0 ∙ c.requires.at.table_is,
      omega (arith, c.args.self.now.two_words),
      learn_allowed shared.key.segments shared.key.seats shared.table_id.slots now.id now.me live,
    )

pub invariant_of-seat : goal.invariant_of-seat
invariant_of-seat c =
    let seat = c.args.seat.now in
    let other = c.args.other in
    let known_files = c.load.ensures.2 in
    let is : c.load.new.seat.me ≡ (joined_views seat.place.me.0 other.place.me.0, seat.place.me.1) =
    known_files.0 ∙ c.join_seat.ensures.2 in
    let done : c.if-seat.seat ≡ (seat.done || other.done) = elim c.if-seat.branch [
      | then-seat w ↦ w.seat-is ∙ (w.if-seat.true ∙ sym (ap (λ b. b || other.done) w.if-seat.true))
      | else-seat w ↦ w.seat-is ∙ sym (ap (λ b. b || other.done) w.if-seat.false)
    ] in
    record {
      bare = ap (λ me. me.1) is ∙ seat.bare;
      live = omega (arith, ap (λ me. length me.0.numbers) is, joined_live seat.place.me.0 other.place.me.0 seat.live);
      passed =
          done ∙ ap (λ b. b || other.done) seat.passed ∙ ap (λ b. is_done seat.place.me.0 || b) other.passed
          ∙ joined_done seat.place.me.0 other.place.me.0
          (c.requires.at.segments_is ∙ sym c.requires.other.segments_is) ∙ sym (ap (λ me. is_done me.0) is);
      exact = known_files.1;
    }

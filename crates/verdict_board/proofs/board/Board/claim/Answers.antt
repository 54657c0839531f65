use Rattle.std.proofs.Common.{nat_le, true, false, ◌≡◌, sym, ap, ◌∙◌, length, arith}
use Rattle.std.proofs.lemmas.Bool.Decides.{nat_tests}
use Rattle.verdict_board.proofs.Allowed.{claim_allowed}
use Rattle.verdict_board.proofs.Held.{drew_done}
use Rattle.verdict_board.proofs.board.Board.claim.Goals as goal

pub fetch_add-number-requires : goal.fetch_add-number-requires
fetch_add-number-requires c =
    let seat = c.args.seat.now in
    let shared = c.args.self.now.table.shared in (
      c.requires.at.table_is,
      omega (arith, c.args.self.now.two_words),
      claim_allowed shared.key.segments shared.key.seats shared.table_id.slots seat.place.id seat.place.me seat.live
          (sym seat.passed ∙ c.if-seat.false),
    )

pub invariant_of-seat : goal.invariant_of-seat
invariant_of-seat c =
    let seat = c.args.seat.now in
    let known_files = c.fetch_add-number.ensures.2 in
    let segment : nat_le seat.place.me.0.segments c.fetch_add-number.result ≡ false =
    let low = c.if-number-from.true in
    let n = c.requires.at.segments_is in let m = c.from.ensures in grind (arith, nat_tests) in
    record {
      bare = ap (λ me. me.1) known_files.0 ∙ seat.bare;
      live = omega (arith, seat.live, ap (λ me. length me.0.numbers) known_files.0);
      passed =
          c.if-seat.false
          ∙ drew_done seat.place.me.0 c.fetch_add-number.new.seat.me.0 c.fetch_add-number.result false
          (ap (λ me. me.0) known_files.0) (sym seat.passed ∙ c.if-seat.false) segment;
      exact = known_files.2;
    }

pub invariant_of-seat-else-number-from : goal.invariant_of-seat-else-number-from
invariant_of-seat-else-number-from c =
    let seat = c.args.seat.now in
    let known_files = c.fetch_add-number.ensures.2 in
    let past : nat_le seat.place.me.0.segments c.fetch_add-number.result ≡ true = let high = c.if-number-from.false in
    let n = c.requires.at.segments_is in let m = c.from.ensures in grind (arith, nat_tests) in
    record {
      bare = ap (λ me. me.1) known_files.0 ∙ seat.bare;
      live = omega (arith, seat.live, ap (λ me. length me.0.numbers) known_files.0);
      passed =
          drew_done seat.place.me.0 c.fetch_add-number.new.seat.me.0 c.fetch_add-number.result true
          (ap (λ me. me.0) known_files.0) (sym seat.passed ∙ c.if-seat.false) past;
      exact = known_files.2;
    }

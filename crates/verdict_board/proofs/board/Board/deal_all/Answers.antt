use Rattle.std.proofs.Common.{◌≡◌, ◌+◌, ◌<◌, refl, ap, ◌∙◌, arith, vec_len}
use Rattle.std.proofs.lemmas.List.Elements.{All-push}
use Rattle.verdict_board.specs.Views.{fresh_each, numbers_below}
use Rattle.verdict_board.specs.Seats.{IsAt, view_of}
use Rattle.verdict_board.proofs.Closing.{dealt_first, dealt_last, dealt_more, dealt_rest, dealt_several}
use Rattle.verdict_board.proofs.board.Board.deal_all.Goals as goal

pub deal-first-requires-clause-several : goal.deal-first-requires-clause-several
deal-first-requires-clause-several c =
    dealt_several c.args.self.now.segments c.args.seats (vec_len c.dealing.dealt) (view_of c.dealing.rest)
    (omega (arith, c.dealing-test.true, c.len.ensures)) c.dealing.invariant.rest_is

pub dealing-preserved : goal.dealing-preserved
dealing-preserved c =
    let n = c.args.self.now.segments in
    let seats = c.args.seats in
    let count = vec_len c.dealing.dealt in
    let low : count + 1 < seats = omega (arith, c.dealing-test.true, c.len.ensures) in
    let so_far = c.dealing.invariant in
    let pushed = c.push_reserved.ensures in
    let dealt = c.deal-first.ensures in
    let first =
    dealt_first n seats count (view_of c.dealing.rest) (view_of c.deal-first.result) low so_far.rest_is
    dealt.first in
    record {
      room = omega (arith, pushed.capacity, so_far.room);
      some_left = omega (arith, pushed.len, low);
      views =
          rw (pushed.items, pushed.len)
          (dealt_more n seats count c.dealing.dealt.items c.deal-first.result so_far.views first);
      rest_is =
          rw pushed.len
          (dealt_rest n seats count (view_of c.dealing.rest) (view_of c.deal-first.new.rest) low so_far.rest_is
          dealt.rest);
      dealt_at =
          rw pushed.items
          (All-push (IsAt c.args.self.now) c.dealing.dealt.items c.deal-first.result so_far.dealt_at dealt.dealt_at);
      rest_at = dealt.at;
    }

pub returns : goal.returns
returns c =
    let n = c.args.self.now.segments in
    let seats = c.args.seats in
    let count = vec_len c.dealing.dealt in
    let so_far = c.dealing.invariant in
    let all : count + 1 ≡ seats = omega (arith, c.dealing-test.false, c.len.ensures, so_far.some_left) in
    let pushed = c.push_reserved-2.ensures in
    let last = dealt_last n seats count (view_of c.dealing.rest) all so_far.rest_is in
    record {
      segments_is = refl;
      views_are =
          rw pushed.items
          (dealt_more n seats count c.dealing.dealt.items c.dealing.rest so_far.views last
          ∙ ap (λ m. fresh_each n seats (numbers_below m)) all);
      seats_at =
          rw pushed.items
          (All-push (IsAt c.args.self.now) c.dealing.dealt.items c.dealing.rest so_far.dealt_at so_far.rest_at);
    }

use Rattle.std.proofs.Common.{◌≡◌, ◌<◌, ◌≤◌, ◌-◌, map, vec_len, vec_capacity}
use Rattle.std.specs.List.{All, range_with_len}
use Rattle.verdict_board.specs.Views.{fresh_view, fresh_each, numbers_below}
use Rattle.verdict_board.specs.Seats.{IsAt, view_of}
use Rattle.verdict_board.proofs.board.Board.deal_all.Given as goal

-- the seats that were dealt are those of the first numbers, and the rest stands for the others
abbrev pub invariant-dealing : goal.invariant-dealing
invariant-dealing l = record {
  room : l.seats ≤ vec_capacity l.dealt;
  some_left : vec_len l.dealt < l.seats;
  views : map view_of l.dealt.items ≡ fresh_each l.self.segments l.seats (numbers_below (vec_len l.dealt));
  rest_is : view_of l.rest
      ≡ fresh_view l.self.segments l.seats (range_with_len (vec_len l.dealt) (l.seats - vec_len l.dealt));
  dealt_at : All (IsAt l.self) l.dealt.items;
  rest_at : IsAt l.self l.rest;
}

abbrev pub decreases-dealing : goal.decreases-dealing
decreases-dealing l = l.seats - vec_len l.dealt

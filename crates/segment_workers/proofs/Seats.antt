-- The seats that workers begin at.
use Rattle.std.proofs.Common.{◌≡◌, ℕ, ◌<◌, List, [], ◌∷◌, length, map, get_or, sym, ap, ◌∙◌, subst, arith}
use Rattle.std.specs.List.{All}
use Rattle.std.proofs.lemmas.List.{get_or-map, length-map}
use Rattle.std.proofs.lemmas.List.FromFn.{get_or-map-range_with_len, length-map-range_with_len}
use Rattle.verdict_board.specs.declared.board.Board.{Board}
use Rattle.verdict_board.specs.declared.seat.Seat.{Seat}
use Rattle.verdict_board.specs.declared.view.View.{View}
use Rattle.verdict_board.specs.Seats.{view_of}
use Rattle.verdict_board.specs.Views.{fresh_view}
use Rattle.segment_workers.specs.declared.work.Worker.{Worker}
use Rattle.segment_workers.specs.Runs.{AreAllSeats}
use Rattle.segment_workers.specs.Works.{IsFreshSeat, seat_of}

pub workers_many : (workers : List Worker) (seats : List Seat) → map seat_of workers ≡ seats
    → length workers ≡ length seats
workers_many workers seats is = sym (length-map workers seat_of) ∙ ap length is

module _ (n : ℕ) (board : Board) (seats : List Seat) (all : AreAllSeats n board seats) where
  abbrev new_seat : ℕ → View
  new_seat number = fresh_view n all.count (number ∷ [])

  pub count_is : length seats ≡ all.count
  count_is =
      sym (length-map seats view_of) ∙ ap length all.opened.views_are ∙ length-map-range_with_len new_seat 0 all.count

  seat_new : (k : ℕ) (d : Seat) → k < length seats → view_of (get_or seats k d) ≡ new_seat k
  seat_new k d low =
      sym (get_or-map view_of seats k d (new_seat 0) low)
      ∙ ap (λ views. get_or views k (new_seat 0)) all.opened.views_are
      ∙ get_or-map-range_with_len new_seat 0 all.count k k (new_seat 0) (omega (arith, low, count_is)) (omega arith)

  new_at : (k : ℕ) (d : Seat) → k < length seats
      → IsFreshSeat n board (get_or seats k d) × ((view_of (get_or seats k d)).seats ≡ all.count)
  new_at k d low =
      let is : view_of (get_or seats k d) ≡ new_seat k = seat_new k d low in
      let count : (view_of (get_or seats k d)).seats ≡ all.count = ap (λ view. view.seats) is in (
        record {
          at = all.opened.seats_at k d low;
          number = k;
          view_is = is ∙ ap (λ many. fresh_view n many (k ∷ [])) (sym count);
        },
        count,
      )

  pub workers_new : (workers : List Worker) → map seat_of workers ≡ seats
      → All (λ worker. IsFreshSeat n board worker.seat × ((view_of worker.seat).seats ≡ length workers)) workers
  workers_new workers is k d low =
      let many : length workers ≡ length seats = workers_many workers seats is in
      let same : get_or seats k (seat_of d) ≡ seat_of (get_or workers k d) =
      ap (λ seats. get_or seats k (seat_of d)) (sym is) ∙ get_or-map seat_of workers k d (seat_of d) low in
      let new = new_at k (seat_of d) (omega (arith, low, many)) in
      let P : Seat → Type 0 = λ seat. IsFreshSeat n board seat × ((view_of seat).seats ≡ length workers) in
      subst P same (new.0, new.1 ∙ sym count_is ∙ sym many)

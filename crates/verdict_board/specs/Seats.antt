-- Seats at a board, and what the board's calls do to them.
use Rattle.std.specs.Prelude.{◌≡◌, ℕ, ◌≤◌, List, All, map, MatchBool}
use Rattle.verdict_board.specs.declared.view.View.{View}
use Rattle.verdict_board.specs.declared.seat.Seat.{Seat}
use Rattle.verdict_board.specs.declared.board.Board.{Board}
use Rattle.board_core.specs.declared.event.Event.{Event}
use Rattle.board_core.specs.Bags.{Has, SameBag}
use Rattle.board_core.specs.Machine.{looks, machine_at_start, machine_after_events}
use Rattle.verdict_board.specs.Views.{AreBelow, view_after_draw, fresh_each, is_done, numbers_below, view_after_post}

-- what the seat has done
abbrev pub view_of : Seat → View
view_of seat = seat.place.me.0

-- the seat is one of this board
pub record IsAt (board : Board) (seat : Seat) : Type 0 where
  pub table_is : seat.place.table_id ≡ board.table.shared.table_id
  pub segments_is : seat.place.me.0.segments ≡ board.segments

-- it stands for the same seats
abbrev pub IsSameSeat : View → View → Type 0
IsSameSeat before now = (now.numbers ≡ before.numbers) × (now.seats ≡ before.seats)

-- a new board for n segments, and its seats in the order of their numbers, which have done nothing
pub record AreOpened (n seats : ℕ) (board : Board) (dealt : List Seat) : Type 0 where
  pub segments_is : board.segments ≡ n
  pub views_are : map view_of dealt ≡ fresh_each n seats (numbers_below seats)
  pub seats_at : All (IsAt board) dealt

-- it drew the number, which is above each that it had drawn
abbrev pub DrawsNext : ℕ → View → View → Type 0
DrawsNext number before now = (now ≡ view_after_draw before number) × AreBelow number before.draws

-- it finds no segment left: it had drawn a number of n or more, and does nothing, or it draws one now
abbrev pub FindsNone : View → View → Type 0
FindsNone before now =
    MatchBool (is_done before)
    (now ≡ before)
    ((number : ℕ) × (before.segments ≤ number) × DrawsNext number before now)

-- it posted the segment, under the number under which it had drawn it, and has seen what the least post is now
abbrev pub Posts : ℕ → View → View → Type 0
Posts segment before now =
    (number : ℕ) × Has before.draws (number, segment) × (now ≡ view_after_post before number segment now.least)

-- some events leave the machine with these two words, and with just the view's draws, posts and looks
pub record LeavesAll (n : ℕ) (view : View) (drawn least : ℕ) : Type 0 where
  pub events : List Event
  pub next_is : (machine_after_events (machine_at_start n) events).next ≡ drawn
  pub least_is : (machine_after_events (machine_at_start n) events).least ≡ least
  pub draws_are : SameBag (machine_after_events (machine_at_start n) events).draws view.draws
  pub posts_are : SameBag (machine_after_events (machine_at_start n) events).posts view.posts
  pub looks_are : SameBag (looks (machine_at_start n) events) view.looks

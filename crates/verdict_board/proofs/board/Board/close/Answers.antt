use Rattle.std.proofs.Common.{subst, ℕ, arith}
use Rattle.verdict_board.specs.Seats.{view_of}
use Rattle.verdict_board.proofs.Closing.{Closes, closes}
use Rattle.verdict_board.proofs.board.Board.close.Goals as goal

known_files : (c : goal.After-free)
    → Closes c.args.self.segments (view_of c.args.seat) c.word-drawn.result c.word-least.result
known_files c =
    let key = c.args.self.table.shared.key in
    let place = c.args.seat.place in
    let P : ℕ → Type 0 = λ n. Closes n place.me.0 c.word-drawn.result c.word-least.result in
    subst P c.args.self.same
    (closes key.seats place.id _ c.close_with-closed.ensures.values.2 c.args.seat.live c.requires.whole
    c.word-drawn.ensures c.word-least.ensures)

pub overflow_cast-result : goal.overflow_cast-result
overflow_cast-result c = omega (arith, (known_files c).small)

pub returns-clause-drawn : goal.returns-clause-drawn
returns-clause-drawn c = (known_files c).draws

pub returns-clause-least : goal.returns-clause-least
returns-clause-least c = (known_files c).least_is

pub returns-clause-leaves : goal.returns-clause-leaves
returns-clause-leaves c = (known_files c).leaves

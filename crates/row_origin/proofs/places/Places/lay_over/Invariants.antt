use Rattle.std.proofs.Common.{◌≡◌, ◌≤◌, ℕ, length}
use Rattle.std.specs.HashMap.{spare}
use Rattle.row_origin.specs.Places.{row_at}
use Rattle.row_origin.proofs.Laid.{AreApart, AreFound, laid_but}
use Rattle.row_origin.proofs.places.Places.lay_over.Given as goal

-- the entries that are no more to be looked at were laid over
abbrev pub invariant-loop-number : goal.invariant-loop-number
invariant-loop-number l = record {
  can_go : (goal.iterator-loop-number).can_next l.number-iterator;
  ends : (goal.iterator-loop-number).is_finite l.number-iterator;
  found : AreFound l.later l.number-iterator;
  apart : AreApart l.number-iterator;
  room : length l.number-iterator ≤ spare l.self.blocks;
  rows : (number place : ℕ)
      → row_at l.self number place ≡ laid_but l.number-iterator l.base l.later l.fn.self number place;
}

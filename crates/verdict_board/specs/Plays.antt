-- What each kind of step tells the seat that makes it.
use Rattle.std.specs.Prelude.{◌≡◌, ℕ, ◌<◌, ◌≤◌, ◌^◌, min}
use Rattle.atomic_table.specs.Table.{Me, Step}
use Rattle.verdict_board.specs.declared.view.View.{View}
use Rattle.board_core.specs.Bags.{Has}
use Rattle.verdict_board.specs.Views.{AreBelow, IsExact, IsWhole, view_after_draw, view_after_look, view_after_post}

-- a view, and the slots taken with it: always none
abbrev pub Hand : Type 0
Hand = Me (Unit {0}) View

-- the number found is drawn, and each earlier draw of the seat is below it
abbrev pub Draws : Step (Unit {0}) → Hand → ℕ → Hand → Type 0
Draws step before found now =
    (now ≡ (view_after_draw before.0 found, before.1)) × AreBelow found before.0.draws × (IsWhole now.0 → IsExact now.0)

-- the look is answered by what was found, which is at most what the seat has seen, and each of its posts
abbrev pub Sees : Step (Unit {0}) → Hand → ℕ → Hand → Type 0
Sees step before found now =
    (now ≡ (view_after_look before.0 found, before.1))
    × (found < 2 ^ 32) × (found ≤ before.0.segments) × (found ≤ before.0.least)
    × ((post : ℕ × ℕ) → Has before.0.posts post → found ≤ post.1) × (IsWhole now.0 → IsExact now.0)

-- the segment is posted under the number under which it was drawn, and the seat sees the new word: the lesser of the
-- segment and of what was found, which is at most what the seat had seen
abbrev pub Puts : Step (Unit {0}) → Hand → ℕ → Hand → Type 0
Puts step before found now =
    ((number : ℕ) × Has before.0.draws (number, step.first)
    × (now ≡ (view_after_post before.0 number step.first (min found step.first), before.1)))
    × (found ≤ before.0.least) × (IsWhole now.0 → IsExact now.0)

-- nothing is done
abbrev pub Learns : Step (Unit {0}) → Hand → ℕ → Hand → Type 0
Learns step before found now = (now ≡ before) × (IsWhole now.0 → IsExact now.0)

-- Pieces of the lines of a file.
use Rattle.std.specs.Prelude.{◌≡◌, ℕ, ◌<◌, List, ◌++◌, length, take, drop, nat_le, if◌then◌else◌}
use Rattle.trace_lines.specs.declared.piece.Piece.{Piece}
use Rattle.trace_lines.specs.declared.piece.Ending.{Ending}
use Rattle.trace_lines.specs.declared.piece.Ending.TheVariants.{More}
use Rattle.trace_lines.specs.Lines.{RemainingLines}

-- a piece as lines and what follows
abbrev pub piece_view : Piece → RemainingLines
piece_view piece = record { lines = piece.lines; ending = piece.ending }

-- so many lines of those that are left, where there are as many; else all, and their ending
unfoldable pub front_of : ℕ → RemainingLines → RemainingLines
front_of count left =
    if nat_le count (length left.lines) then record { lines = take count left.lines; ending = More }
    else left

-- the lines after these
unfoldable pub back_of : ℕ → RemainingLines → RemainingLines
back_of count left = record { lines = drop count left.lines; ending = left.ending }

-- lines before what is left
abbrev pub with_lines : List (List ℕ) → RemainingLines → RemainingLines
with_lines lines left = record { lines = lines ++ left.lines; ending = left.ending }

-- nothing comes after this ending
abbrev pub IsLast : Ending → Type 0
IsLast More = ⊥
IsLast _ = Unit {0}

-- so many lines were asked for: as many are there where more may follow, else fewer
abbrev pub FitsEnding : Ending → ℕ → ℕ → Type 0
FitsEnding More asked count = count ≡ asked
FitsEnding _ asked count = count < asked

-- the same of a piece
abbrev pub FitsAsked : ℕ → Piece → Type 0
FitsAsked asked piece = FitsEnding piece.ending asked (length piece.lines)

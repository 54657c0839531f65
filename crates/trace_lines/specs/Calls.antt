-- Calls of a taker one after another, each of which asks for so many lines.
use Rattle.std.specs.Prelude.{◌≡◌, ℕ, List, [], ◌∷◌, ◌++◌}
use Rattle.trace_lines.specs.Lines.{RemainingLines}
use Rattle.trace_lines.specs.Pieces.{front_of, back_of}

-- what the calls leave
abbrev pub left_after_calls : List ℕ → RemainingLines → RemainingLines
left_after_calls [] left = left
left_after_calls (asked ∷ calls) left = left_after_calls calls (back_of asked left)

-- the pieces that the calls give
abbrev pub pieces_by : List ℕ → RemainingLines → List RemainingLines
pieces_by [] left = []
pieces_by (asked ∷ calls) left = front_of asked left ∷ pieces_by calls (back_of asked left)

-- the lines of pieces, in order
abbrev pub all_lines_of : List RemainingLines → List (List ℕ)
all_lines_of [] = []
all_lines_of (piece ∷ pieces) = piece.lines ++ all_lines_of pieces

-- the piece of one more call
abbrev pub piece_after : List ℕ → ℕ → RemainingLines → RemainingLines
piece_after calls asked left = front_of asked (left_after_calls calls left)

-- one more call ends the lines: those of all pieces are all lines, none are left, and its ending is
-- the ending of all
pub record EndsLines (calls : List ℕ) (asked : ℕ) (left : RemainingLines) : Type 0 where
  pub lines : all_lines_of (pieces_by (calls ++ asked ∷ []) left) ≡ left.lines
  pub none : (left_after_calls (calls ++ asked ∷ []) left).lines ≡ []
  pub ending : (piece_after calls asked left).ending ≡ left.ending

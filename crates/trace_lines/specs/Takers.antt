-- What a taker gives, by the file that it is of.
use Rattle.std.specs.Prelude.{◌≡◌, ℕ, List, Option, Some, None, string_bytes}
use Rattle.trace_lines.specs.declared.piece.Piece.{Piece}
use Rattle.trace_lines.specs.declared.line_cursor.LineCursor.{LineCursor}
use Rattle.trace_lines.specs.declared.line_taker.LineTaker.{LineTaker}
use Rattle.trace_lines.specs.Cursors.{lines_from_cursor, room_in}
use Rattle.trace_lines.specs.Lines.{RemainingLines, file_lines}
use Rattle.trace_lines.specs.Pieces.{piece_view, front_of, back_of}

-- what is left of a file that may have been read
abbrev pub lines_left_after : ℕ → List ℕ → Option LineCursor → RemainingLines
lines_left_after most file None = file_lines most file
lines_left_after most file (Some cursor) = lines_from_cursor file cursor

-- what the taker has left to take
abbrev pub remaining_lines_of : List ℕ → LineTaker → RemainingLines
remaining_lines_of file taker = lines_left_after taker.most file taker.cursor

-- how many bytes may still come
abbrev pub room_after : ℕ → Option LineCursor → ℕ
room_after most None = most
room_after most (Some cursor) = room_in cursor

-- how many bytes the taker may still give
abbrev pub room_of : LineTaker → ℕ
room_of taker = room_after taker.most taker.cursor

-- a taker of a file of which nothing was read
pub record Opens (file_name : List ℕ) (max : ℕ) (taker : LineTaker) : Type 0 where
  pub name : string_bytes taker.name ≡ file_name
  pub most : taker.most ≡ max
  pub cursor : taker.cursor ≡ None

-- the piece is the front of what was left, and the taker has the back
pub record Takes (file : List ℕ) (lines : ℕ) (before : LineTaker) (piece : Piece)
    (after : LineTaker) : Type 0 where
  pub taken : piece_view piece ≡ front_of lines (remaining_lines_of file before)
  pub left : remaining_lines_of file after ≡ back_of lines (remaining_lines_of file before)
  pub name : after.name ≡ before.name

-- the same where the file is told
abbrev pub TakesWhereKnown : Option (List ℕ) → ℕ → LineTaker → Piece → LineTaker → Type 0
TakesWhereKnown None lines before piece after = Unit {0}
TakesWhereKnown (Some file) lines before piece after = Takes file lines before piece after

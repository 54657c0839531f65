-- What stands next: a line or the ending.
use Rattle.std.specs.Prelude.{◌≡◌, ℕ, ◌+◌, ◌<◌, ◌≤◌, List, [], length, take, slice_index, Option, Some, None}
use Rattle.line_text.specs.Lines.{line_feed, IsLine}
use Rattle.trace_lines.specs.declared.piece.Ending as ends
use Rattle.trace_lines.specs.declared.line_cursor.LineCursor.{LineCursor}
use Rattle.trace_lines.specs.declared.next.Next.{Next}
use Rattle.trace_lines.specs.declared.next.Next.TheVariants.{Line, Ending}
use Rattle.trace_lines.specs.Cursors.{buffered_bytes, lines_from_cursor, lines_after_next}
use Rattle.trace_lines.specs.Lines.{RemainingLines, with_line, line_in}
use Rattle.trace_lines.specs.Pieces.{IsLast, with_lines}

-- so many bytes stand before the first line feed, or in all
pub record IsBeforeFeed (bytes : List ℕ) (place : ℕ) : Type 0 where
  pub within : place ≤ length bytes
  pub line : IsLine (take place bytes)
  pub feed : place < length bytes → slice_index bytes place ≡ line_feed

-- a line is held, with its line feed or without one
pub record IsHeld (bytes : List ℕ) (len used : ℕ) : Type 0 where
  pub line : IsLine (take len bytes)
  pub positive : 0 < used
  pub ordered : len ≤ used
  pub within : used ≤ length bytes

abbrev pub FitsHeld : LineCursor → Next → Type 0
FitsHeld cursor (Line len used) = IsHeld (buffered_bytes cursor) len used
FitsHeld cursor (Ending ending) = IsLast ending

-- a line stands before what is left after it, or the ending stands alone
abbrev pub Follows : List ℕ → LineCursor → Next → Type 0
Follows file cursor (Line len used) =
    lines_from_cursor file cursor
    ≡ with_line (line_in (take len (buffered_bytes cursor))) (lines_after_next file cursor used)
Follows file cursor (Ending ending) = lines_from_cursor file cursor ≡ record { lines = []; ending = ending }

-- one more line was taken, of which a blank one is dropped; or the ending is all that is left
abbrev pub TakesNext : List (List ℕ) → RemainingLines → Option ends.Ending → List (List ℕ) → RemainingLines → Type 0
TakesNext lines left None now rest = with_lines now rest ≡ with_lines lines left
TakesNext lines left (Some ending) now rest =
    (left ≡ record { lines = []; ending = ending }) × (rest ≡ left) × (now ≡ lines)

-- a line takes at least one byte; with the ending all stays
abbrev pub LeavesRoom : Option ends.Ending → ℕ → ℕ → ℕ → ℕ → Type 0
LeavesRoom None count room count_now room_now =
    (count_now ≤ count + 1) × (room_now < room)
LeavesRoom (Some ending) count room count_now room_now =
    (count_now ≡ count) × (room_now ≡ room) × IsLast ending

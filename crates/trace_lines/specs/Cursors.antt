-- What a cursor has left of a file.
use Rattle.std.specs.Prelude.{◌≡◌, ℕ, ◌+◌, ◌-◌, ◌<◌, ◌≤◌, Bool, true, false, nat_lt, List, [], ◌++◌, length, take, drop}
use Rattle.std.specs.Prelude.{vec_len, Option, Some}
use Rattle.line_text.specs.Lines.{IsLine}
use Rattle.trace_lines.specs.declared.line_cursor.Following.{Following}
use Rattle.trace_lines.specs.declared.line_cursor.Following.TheVariants.{Unread, End, TooLarge}
use Rattle.trace_lines.specs.declared.line_cursor.LineCursor.{LineCursor}
use Rattle.trace_lines.specs.declared.next.TheConstants.{LONGEST}
use Rattle.trace_lines.specs.Lines.{RemainingLines, lines_from, text_parts_of}

-- the bytes that are held and were not taken
abbrev pub buffered_bytes : LineCursor → List ℕ
buffered_bytes cursor = drop cursor.at cursor.bytes.items

-- the bytes of a file that are still to be read: from a place on, up to the most that are read
abbrev pub unread_of : Following → ℕ → ℕ → List ℕ → List ℕ
unread_of Unread place most file = take (most - place) (drop place file)
unread_of End place most file = []
unread_of TooLarge place most file = []

-- whether the file has bytes past the most that are read
abbrev pub more_of : Following → ℕ → List ℕ → Bool
more_of Unread most file = nat_lt most (length file)
more_of End most file = false
more_of TooLarge most file = true

abbrev pub unread_in : List ℕ → LineCursor → List ℕ
unread_in file cursor = unread_of cursor.following cursor.place cursor.most file

abbrev pub more_in : List ℕ → LineCursor → Bool
more_in file cursor = more_of cursor.following cursor.most file

-- the bytes that were not taken
abbrev pub text_in : List ℕ → LineCursor → List ℕ
text_in file cursor = buffered_bytes cursor ++ unread_in file cursor

-- the lines from the cursor's place on
abbrev pub lines_from_cursor : List ℕ → LineCursor → RemainingLines
lines_from_cursor file cursor =
    lines_from (more_in file cursor) cursor.number (text_parts_of (text_in file cursor))

-- the lines after the next one, which takes so many of the bytes that are held
abbrev pub lines_after_next : List ℕ → LineCursor → ℕ → RemainingLines
lines_after_next file cursor used =
    lines_from (more_in file cursor) (cursor.number + 1)
    (text_parts_of (drop used (buffered_bytes cursor) ++ unread_in file cursor))

-- how many bytes may still come: those that are held, and those that are not read
abbrev pub room_in : LineCursor → ℕ
room_in cursor = (vec_len cursor.bytes - cursor.at) + (cursor.most - cursor.place)

-- how many reads may still be made
abbrev pub remaining_reads : Following → ℕ → ℕ
remaining_reads Unread left = left + 1
remaining_reads End left = 0
remaining_reads TooLarge left = 0

abbrev pub read_count : LineCursor → ℕ
read_count cursor = remaining_reads cursor.following (cursor.most - cursor.place)

-- a fact of the file, where it is told
abbrev pub ForFile : Option (List ℕ) → (List ℕ → Type 0) → Type 0
ForFile known_files Fact = (file : List ℕ) → known_files ≡ Some file → Fact file

-- what stands next is not known: bytes may still be read, those that are held are no more than a
-- line may have, and no line feed is among them
pub record IsUnknown (cursor : LineCursor) : Type 0 where
  pub unread : cursor.following ≡ Unread
  pub short : length (buffered_bytes cursor) ≤ LONGEST
  pub line : IsLine (buffered_bytes cursor)

-- a read leaves what there is to take
pub record LeavesTheSame (before now : LineCursor) (file : List ℕ) : Type 0 where
  pub text : text_in file now ≡ text_in file before
  pub more : more_in file now ≡ more_in file before

-- and the cursor where it is; the reads come to an end
pub record StaysAt (before now : LineCursor) : Type 0 where
  pub number : now.number ≡ before.number
  pub most : now.most ≡ before.most
  pub room : room_in now ≡ room_in before
  pub at : now.at ≤ before.at
  pub reads : read_count now < read_count before

-- nothing was read
pub record IsNewCursor (limit : ℕ) (cursor : LineCursor) : Type 0 where
  pub bytes : cursor.bytes.items ≡ []
  pub at : cursor.at ≡ 0
  pub number : cursor.number ≡ 1
  pub place : cursor.place ≡ 0
  pub following : cursor.following ≡ Unread
  pub most : cursor.most ≡ limit

-- nothing was taken, and enough was read to see a byte order mark at the front
pub record IsUntaken (cursor : LineCursor) : Type 0 where
  pub at : cursor.at ≡ 0
  pub number : cursor.number ≡ 1
  pub enough : cursor.following ≡ Unread → 3 ≤ vec_len cursor.bytes

-- all bytes of the file that are read are still to be taken
pub record Holds (most : ℕ) (cursor : LineCursor) (file : List ℕ) : Type 0 where
  pub text : text_in file cursor ≡ take most file
  pub more : more_in file cursor ≡ nat_lt most (length file)

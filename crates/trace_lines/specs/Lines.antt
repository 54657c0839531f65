-- The lines of a file of which at most so many bytes are read.
use Rattle.line_text.specs.Lines.{line_feed}
use Rattle.std.specs.Prelude.{ℕ, ◌+◌, ◌-◌, Bool, true, false, not, ◌&&◌, ◌==◌, nat_lt, if◌then◌else◌, List, [], ◌∷◌}
use Rattle.std.specs.Prelude.{length, take, drop, slice_index}
use Rattle.trace_lines.specs.declared.piece.Ending.{Ending}
use Rattle.trace_lines.specs.declared.next.TheConstants.{LONGEST}
use Rattle.trace_lines.specs.declared.piece.Ending.TheVariants.{End, TooLong, TooLarge}

abbrev pub carriage_return : ℕ
carriage_return = 13

-- what stands between two line feeds, and whether a line feed follows
pub record TextPart : Type 0 where
  pub bytes : List ℕ
  pub ended : Bool

-- a byte goes before the first part
abbrev pub with_byte_in_first : ℕ → List TextPart → List TextPart
with_byte_in_first byte [] = record { bytes = byte ∷ []; ended = false } ∷ []
with_byte_in_first byte (part ∷ parts) = record { bytes = byte ∷ part.bytes; ended = part.ended } ∷ parts

-- what the line feeds of a text separate; nothing follows a last line feed
unfoldable pub text_parts_of : List ℕ → List TextPart
text_parts_of [] = []
text_parts_of (byte ∷ bytes) =
    if byte == line_feed then record { bytes = []; ended = true } ∷ text_parts_of bytes
    else with_byte_in_first byte (text_parts_of bytes)

-- lines, and how they end
pub record RemainingLines : Type 0 where
  pub lines : List (List ℕ)
  pub ending : Ending

-- a carriage return at the end is dropped
abbrev pub line_in : List ℕ → List ℕ
line_in bytes =
    let front = length bytes - 1 in
    if slice_index bytes front == carriage_return then take front bytes else bytes

-- a line goes before others, unless it is blank
abbrev pub with_line : List ℕ → RemainingLines → RemainingLines
with_line line left = record {
  lines = if length line == 0 then left.lines else line ∷ left.lines;
  ending = left.ending;
}

-- the lines of parts that begin with the line of this number; `more` says that the file has bytes
-- past these
unfoldable pub lines_from : Bool → ℕ → List TextPart → RemainingLines
lines_from more number [] = record { lines = []; ending = if more then TooLarge else End }
lines_from more number (part ∷ parts) =
    if nat_lt LONGEST (length part.bytes) then record { lines = []; ending = TooLong number }
    else if more && not part.ended then record { lines = []; ending = TooLarge }
    else with_line (line_in part.bytes) (lines_from more (number + 1) parts)

-- the byte order mark EF BB BF at the very front is dropped
abbrev pub has_mark : List ℕ → Bool
has_mark text =
    (slice_index text 0 == 239) && (slice_index text 1 == 187) && (slice_index text 2 == 191)

unfoldable pub without_mark : List ℕ → List ℕ
without_mark text = if has_mark text then drop 3 text else text

-- the lines of a file
unfoldable pub file_lines : ℕ → List ℕ → RemainingLines
file_lines most file = lines_from (nat_lt most (length file)) 1 (text_parts_of (without_mark (take most file)))

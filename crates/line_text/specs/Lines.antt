-- Lines kept as one text, in which each is followed by a line feed.
use Rattle.std.specs.Prelude.{◌≡◌, ◌≢◌, ℕ, ◌+◌, ◌==◌, if◌then◌else◌, List, [], ◌∷◌, ◌++◌, length, slice_index, ◌-◌}
use Rattle.std.specs.List.{All}

-- the byte that ends a line
abbrev pub line_feed : ℕ
line_feed = 10

-- a byte goes before the first line
abbrev pub with_first_byte : ℕ → List (List ℕ) → List (List ℕ)
with_first_byte byte [] = (byte ∷ []) ∷ []
with_first_byte byte (line ∷ lines) = (byte ∷ line) ∷ lines

-- the lines of a text: what its line feeds separate; nothing follows a last line feed
unfoldable pub text_lines : List ℕ → List (List ℕ)
text_lines [] = []
text_lines (byte ∷ bytes) =
    if byte == line_feed then [] ∷ text_lines bytes else with_first_byte byte (text_lines bytes)

-- no line feed stands in a line
abbrev pub IsLine : List ℕ → Type 0
IsLine bytes = All (λ byte. byte ≢ line_feed) bytes

-- lines as one text
unfoldable pub text_of : List (List ℕ) → List ℕ
text_of [] = []
text_of (line ∷ lines) = line ++ line_feed ∷ text_of lines

-- where the line feed of each line stands, in such a text that begins at a place
unfoldable pub ends_from : ℕ → List (List ℕ) → List ℕ
ends_from at [] = []
ends_from at (line ∷ lines) = (at + length line) ∷ ends_from (at + length line + 1) lines

-- where the line of a number begins, by the places of the line feeds: after the one before it
abbrev pub line_start : List ℕ → ℕ → ℕ
line_start ends number = if number == 0 then 0 else slice_index ends (number - 1) + 1

-- a text is made of its lines, and the places are those of its line feeds
pub record IsLaidOut (text ends : List ℕ) : Type 0 where
  pub made : text ≡ text_of (text_lines text)
  pub placed : ends ≡ ends_from 0 (text_lines text)

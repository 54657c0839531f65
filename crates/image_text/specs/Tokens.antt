-- The tokens of a Verilog memory text: the runs of bytes that blanks and comments leave.
use Rattle.std.specs.Prelude.{ℕ, ◌+◌, Bool, false, ◌==◌, ◌&&◌, ◌||◌, if◌then◌else◌, List, [], ◌∷◌}

-- space, tab, line feed, carriage return and form feed
abbrev pub is_blank : ℕ → Bool
is_blank b = b == 32 || b == 9 || b == 10 || b == 13 || b == 12

-- `//`, `/*` and `*/`
abbrev pub opens_line : ℕ → ℕ → Bool
opens_line a b = a == 47 && b == 47

abbrev pub opens_block : ℕ → ℕ → Bool
opens_block a b = a == 47 && b == 42

abbrev pub closes_block : ℕ → ℕ → Bool
closes_block a b = a == 42 && b == 47

-- a text has a `*/`
unfoldable pub has_close : List ℕ → Bool
has_close [] = false
has_close (a ∷ []) = false
has_close (a ∷ b ∷ rest) = closes_block a b || has_close (b ∷ rest)

-- what a text begins in
pub data Region : Type 0 where
  Plain : Region
  LineComment : Region
  BlockComment : Region

-- The text with a blank and its line feeds in place of each comment. A block comment that is never
-- closed leaves the token `/*` alone, which no other text leaves.
unfoldable pub uncommented : Region → List ℕ → List ℕ
uncommented Plain [] = []
uncommented Plain (a ∷ []) = a ∷ []
uncommented Plain (a ∷ b ∷ rest) =
    if opens_line a b then 32 ∷ uncommented LineComment rest
    else if opens_block a b then (if has_close rest then 32 ∷ uncommented BlockComment rest else 32 ∷ a ∷ b ∷ [])
    else a ∷ uncommented Plain (b ∷ rest)
uncommented LineComment [] = []
uncommented LineComment (a ∷ rest) = if a == 10 then a ∷ uncommented Plain rest else uncommented LineComment rest
uncommented BlockComment [] = []
uncommented BlockComment (a ∷ []) = []
uncommented BlockComment (a ∷ b ∷ rest) =
    if closes_block a b then uncommented Plain rest
    else if a == 10 then a ∷ uncommented BlockComment (b ∷ rest)
    else uncommented BlockComment (b ∷ rest)

-- a token and the line that it begins in
pub record TokenView : Type 0 where
  pub line : ℕ
  pub bytes : List ℕ

-- a byte in front of a text whose tokens are known: it is a token, or begins the first of them
abbrev pub tokens_with_byte : ℕ → ℕ → List ℕ → List TokenView → List TokenView
tokens_with_byte line b (c ∷ rest) (first ∷ others) =
    if is_blank c then record { line = line; bytes = b ∷ [] } ∷ first ∷ others
    else record { line = first.line; bytes = b ∷ first.bytes } ∷ others
tokens_with_byte line b text tokens = record { line = line; bytes = b ∷ [] } ∷ tokens

-- the runs of bytes that are not blank, in a text that begins in a line
unfoldable pub runs : ℕ → List ℕ → List TokenView
runs line [] = []
runs line (b ∷ rest) =
    if b == 10 then runs (line + 1) rest
    else if is_blank b then runs line rest
    else tokens_with_byte line b rest (runs line rest)

-- the tokens of a text that begins in a line and a region
abbrev pub tokens_from : ℕ → Region → List ℕ → List TokenView
tokens_from line region text = runs line (uncommented region text)

-- the tokens of a text
abbrev pub tokens_of : List ℕ → List TokenView
tokens_of text = tokens_from 1 Plain text

-- How many harts a text says.
use Rattle.std.specs.Prelude.{ℕ, ◌==◌, ◌&&◌, ◌||◌, Bool, false, not, if◌then◌else◌, List, [], ◌∷◌, codes, decimal, drop}
use Rattle.std.specs.Prelude.{length, Option, Some, None}
use Rattle.std.specs.Char.{is_ascii_digit}
use Rattle.std.specs.List.{after_first, before_first, list_all, starts_with}
use Rattle.std.specs.Str.{bytes_eq}

-- the second line of a text, without the line feed that may end it
unfoldable pub second_line : List ℕ → List ℕ
second_line text = before_first (λ byte. byte == 10) (after_first (λ byte. byte == 10) text)

-- decimal digits without a leading zero
abbrev pub is_numeral : List ℕ → Bool
is_numeral [] = false
is_numeral (first ∷ others) =
    list_all is_ascii_digit (first ∷ others) && (not (first == 48) || length others == 0)

-- the numeral of a line that says a number of harts
unfoldable pub numeral_in : List ℕ → Option (List ℕ)
numeral_in line =
    if starts_with (λ a b. a == b) line (codes "harts ") && is_numeral (drop 6 line) then Some (drop 6 line) else None

-- a number has one numeral; where no number is said, there is one hart
abbrev pub says : ℕ → Option (List ℕ) → Bool
says harts None = harts == 1
says harts (Some numeral) = bytes_eq numeral (decimal harts)

-- the second line of a text says so many harts
abbrev pub says_harts : ℕ → List ℕ → Bool
says_harts harts text = says harts (numeral_in (second_line text))

-- The lines of a saved state's text, each with the line feed that ends it.
use Rattle.std.specs.Prelude.{ℕ, ◌==◌, Bool, true, false, List, [], ◌∷◌, ◌++◌, codes, decimal, Option, Some, None}
use Rattle.std.specs.Prelude.{if◌then◌else◌}
use Rattle.std.specs.Int.{w64, to_be_bytes}
use Rattle.hex.specs.Hex.{encode_lower}
use Rattle.hart_words.specs.declared.privilege.Mode.{Mode}
use Rattle.hart_words.specs.declared.privilege.Mode.TheVariants.{User, Supervisor, Machine}

-- 16 hexadecimal digits, in lower case
abbrev pub digits_of : ℕ → List ℕ
digits_of number = encode_lower (to_be_bytes w64 number)

-- a name, which ends in a blank, and a number
unfoldable pub number_line : List ℕ → ℕ → List ℕ
number_line name number = name ++ (digits_of number ++ codes "\n")

-- the same where there may be no number
abbrev pub option_line : List ℕ → Option ℕ → List ℕ
option_line name None = name ++ codes "none\n"
option_line name (Some number) = number_line name number

abbrev pub version_line : List ℕ
version_line = codes "rvstate 1\n"

-- how many harts there are
unfoldable pub harts_line : ℕ → List ℕ
harts_line harts = codes "harts " ++ (decimal harts ++ codes "\n")

-- the lines before those of the harts: one hart alone is not counted
abbrev pub front_lines : ℕ → List (List ℕ)
front_lines harts = version_line ∷ (if harts == 1 then [] else harts_line harts ∷ [])

abbrev pub mode_line : Mode → List ℕ
mode_line User = codes "mode 0\n"
mode_line Supervisor = codes "mode 1\n"
mode_line Machine = codes "mode 3\n"

-- whether the last row took a synchronous trap, and whether the hart halts
abbrev pub flags_line : Bool → Bool → List ℕ
flags_line false false = codes "flags 00\n"
flags_line false true = codes "flags 01\n"
flags_line true false = codes "flags 10\n"
flags_line true true = codes "flags 11\n"

-- the 16 bytes from an address on
unfoldable pub block_line : ℕ → List ℕ → List ℕ
block_line address bytes =
    codes "@" ++ (digits_of address ++ (codes " " ++ (encode_lower bytes ++ codes "\n")))

abbrev pub end_line : List ℕ
end_line = codes "end\n"

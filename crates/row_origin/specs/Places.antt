-- The last row at each of many places, in blocks of 32.
use Rattle.std.specs.Prelude.{◌≡◌, ℕ, ◌+◌, ◌<◌, ◌^◌, ◌==◌, if◌then◌else◌, Option, Some, None, option_map, nat_eq}
use Rattle.std.specs.Prelude.{slice_index}
use Rattle.std.specs.HashMap.{get}
use Rattle.std.specs.Option.{option_or}
use Rattle.row_origin.specs.declared.block.Block.{Block}
use Rattle.row_origin.specs.declared.block.TheConstants.{BLOCK_SIZE}
use Rattle.row_origin.specs.declared.places.Places.{Places}

-- a block has 0 where there is no row
abbrev pub as_row : ℕ → Option ℕ
as_row row = if row == 0 then None else Some row

unfoldable pub row_in : Block → ℕ → Option ℕ
row_in block place = as_row (slice_index block.rows place)

abbrev pub row_of_block : Option Block → ℕ → Option ℕ
row_of_block None place = None
row_of_block (Some block) place = row_in block place

-- the row at a place of the block of a number
unfoldable pub row_at : Places → ℕ → ℕ → Option ℕ
row_at places number place = row_of_block (get nat_eq places.blocks number) place

-- the later of two rows, whose number counts from a base
abbrev pub laid_over : ℕ → Option ℕ → Option ℕ → Option ℕ
laid_over base later earlier = option_or (option_map (λ row. base + row) later) earlier

-- each row of a block can be counted on from a base
abbrev pub BlockFits : ℕ → Block → Type 0
BlockFits base block = (place row : ℕ) → place < BLOCK_SIZE → row_in block place ≡ Some row → base + row < 2 ^ 64

abbrev pub PlacesFit : ℕ → Places → Type 0
PlacesFit base places =
    (number place row : ℕ) → place < BLOCK_SIZE → row_at places number place ≡ Some row → base + row < 2 ^ 64

-- two have the same rows
abbrev pub AreSame : Places → Places → Type 0
AreSame before after = (number place : ℕ) → row_at after number place ≡ row_at before number place

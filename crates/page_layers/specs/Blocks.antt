-- Blocks of 64 addresses, and their bytes over others.
use Rattle.std.specs.Prelude.{◌≡◌, ℕ, ◌/◌, ◌%◌, ◌^◌, Option, None, nat_eq, nat_lt, option_map, slice_index}
use Rattle.std.specs.Prelude.{unwrap_or, if◌then◌else◌}
use Rattle.std.specs.HashMap.{get}
use Rattle.page_layers.specs.declared.block.Block.{Block}
use Rattle.page_layers.specs.declared.block.TheConstants.{BLOCK_SIZE, PAGE_BLOCKS}
use Rattle.page_layers.specs.declared.blocks.Blocks.{Blocks}

-- the byte that a block has at an address in it
unfoldable pub block_byte : Block → ℕ → ℕ
block_byte block pa = slice_index block.bytes (pa % BLOCK_SIZE)

-- the block of a number, where it is there; a number has 64 bits
unfoldable pub block_at : Blocks → ℕ → Option Block
block_at blocks number = if nat_lt number (2 ^ 64) then get nat_eq blocks.blocks number else None

-- the byte at an address, where its block is there
abbrev pub bytes_in : (ℕ → Option Block) → ℕ → Option ℕ
bytes_in blocks pa = option_map (λ block. block_byte block pa) (blocks (pa / BLOCK_SIZE))

-- bytes, and those of the base elsewhere
abbrev pub over : (ℕ → Option ℕ) → (ℕ → ℕ) → ℕ → ℕ
over bytes base pa = unwrap_or (bytes pa) (base pa)

-- no block of a page is there
abbrev pub HasNoBlock : (ℕ → Option Block) → ℕ → Type 0
HasNoBlock blocks page = (number : ℕ) → number / PAGE_BLOCKS ≡ page → blocks number ≡ None

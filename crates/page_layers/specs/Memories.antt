-- The bytes of the two memories.
use Rattle.std.specs.Prelude.{◌≡◌, ℕ, ◌/◌, ◌%◌, ◌<◌, Bool, true, List, Option, Some, None, is_some, option_map}
use Rattle.std.specs.Prelude.{unwrap_or}
use Rattle.std.specs.BTreeMap.{get}
use Rattle.std.specs.Ordering.{nat_cmp}
use Rattle.hart_words.specs.declared.span.Span.{Span}
use Rattle.hart_words.specs.Memory.{Bytes}
use Rattle.page_image.specs.declared.image.PageImage.{PageImage}
use Rattle.page_image.specs.Bytes.{byte_of, byte_of-fits}
use Rattle.page_layers.specs.declared.layered.Layered.{Layered}
use Rattle.page_layers.specs.declared.map_mem.MapMem.{MapMem}
use Rattle.page_layers.specs.declared.block.Block.{Block}
use Rattle.page_layers.specs.declared.block.TheConstants.{BLOCK_SIZE, PAGE_BLOCKS}
use Rattle.page_layers.specs.declared.blocks.Blocks.{Blocks}
use Rattle.page_layers.specs.declared.layers.Layer.{Layer}
use Rattle.page_layers.specs.Blocks.{block_at, block_byte, bytes_in, over}
use Rattle.page_layers.specs.Layers.{newest_block}
use Rattle.hart_words.specs.declared.span.TheConstants.{PAGE_SIZE}

-- an image's bytes under blocks and layers
abbrev pub bytes_under : Blocks → List Layer → PageImage → Bytes
bytes_under blocks layers image = over (bytes_in (newest_block blocks layers)) (byte_of image)

-- the block of a number that was written
abbrev pub written_block_of : Layered → ℕ → Option Block
written_block_of mem = newest_block mem.written mem.layers.items

-- the image's bytes under the blocks that were written
abbrev pub layered_bytes : Layered → Bytes
layered_bytes mem = bytes_under mem.written mem.layers.items mem.image.now

-- and each is a byte
written_or_fits : (block : Option Block) (pa base : ℕ) → base < 256
    → unwrap_or (option_map (λ written. block_byte written pa) block) base < 256
unfolding block_byte
written_or_fits None pa base fits = fits
written_or_fits (Some block) pa base fits = block.small (pa % BLOCK_SIZE)

pub layered_bytes-fits : (mem : Layered) (pa : ℕ) → layered_bytes mem pa < 256
layered_bytes-fits mem pa =
    written_or_fits (written_block_of mem (pa / BLOCK_SIZE)) pa (byte_of mem.image.now pa)
    (byte_of-fits mem.image.now pa)

abbrev pub layered_ram : Layered → Span
layered_ram mem = mem.image.now.ram

-- the memory has a block for itself
abbrev pub owns : Layered → ℕ → Bool
owns mem number = is_some (block_at mem.written number)

-- and each block of a page
abbrev pub OwnsPage : Layered → ℕ → Type 0
OwnsPage mem page = (number : ℕ) → number / PAGE_BLOCKS ≡ page → owns mem number ≡ true

-- two memories have the same bytes in a block
abbrev pub IsSameBlock : Layered → Layered → ℕ → Type 0
IsSameBlock one other number = (pa : ℕ) → pa / BLOCK_SIZE ≡ number → layered_bytes one pa ≡ layered_bytes other pa

-- all bytes of a block are zeros
abbrev pub IsZeroBlock : Bytes → ℕ → Type 0
IsZeroBlock bytes number = (pa : ℕ) → pa / BLOCK_SIZE ≡ number → bytes pa ≡ 0

-- the byte that the map has at an address, 0 where it has none
unfoldable pub map_bytes : MapMem → Bytes
map_bytes mem pa = unwrap_or (get nat_cmp mem.bytes pa) 0

-- and each is a byte
pub map_bytes-fits : (mem : MapMem) (pa : ℕ) → map_bytes mem pa < 256
unfolding map_bytes
map_bytes-fits mem pa = mem.small pa

-- the map has a byte of its own at an address
unfoldable pub map_has_byte : MapMem → ℕ → Bool
map_has_byte mem pa = is_some (get nat_cmp mem.bytes pa)

-- the map has a byte of its own at each address of the page
abbrev pub HasPage : MapMem → ℕ → Type 0
HasPage mem page = (pa : ℕ) → pa / PAGE_SIZE ≡ page → map_has_byte mem pa ≡ true

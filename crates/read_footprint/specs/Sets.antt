-- The two sets of addresses that a footprint keeps, and what they are of rows and of RAM.
use Rattle.std.specs.Prelude.{◌≡◌, ◌⊎◌, ℕ, ◌+◌, ◌/◌, ◌%◌, ◌^◌, ◌≤◌, Bool, true, false, not, ◌&&◌, ◌||◌, ◌==◌, nat_eq}
use Rattle.std.specs.Prelude.{unwrap_or, List}
use Rattle.std.specs.HashMap.{get}
use Rattle.std.specs.List.{list_any}
use Rattle.hart_words.specs.declared.accesses.Read.{Read}
use Rattle.hart_words.specs.declared.span.Span.{Span}
use Rattle.hart_words.specs.Memory.{Bytes, is_within}
use Rattle.hart_words.specs.Spans.{is_in}
use Rattle.read_footprint.specs.Bits.{has_bit}
use Rattle.read_footprint.specs.declared.block.Block.{Block}
use Rattle.read_footprint.specs.declared.block.TheConstants.{BLOCK_SIZE}
use Rattle.read_footprint.specs.declared.footprint.Footprint.{Footprint}
use Rattle.read_footprint.specs.Footprints.{Accesses, footprint_of, writes_of, is_written}

-- the byte at an address was read
abbrev pub is_read : List Read → ℕ → Bool
is_read reads address = list_any (λ read. is_within read.pa read.len address) reads

-- an address is one of these
abbrev pub has_address : List ℕ → ℕ → Bool
has_address addresses address = list_any (λ other. other == address) addresses

-- what is noted of the block of a number
abbrev pub footprint_block_at : Footprint → ℕ → Block
footprint_block_at footprint number = unwrap_or (get nat_eq footprint.blocks number) (record { read = 0; wrote = 0 })

-- the byte at an address was read before it was written
unfoldable pub has_read : Footprint → ℕ → Bool
has_read footprint address = has_bit (footprint_block_at footprint (address / BLOCK_SIZE)).read (address % BLOCK_SIZE)

-- the byte at an address was written
unfoldable pub has_written : Footprint → ℕ → Bool
has_written footprint address =
    has_bit (footprint_block_at footprint (address / BLOCK_SIZE)).wrote (address % BLOCK_SIZE)

-- both sets are as they were
pub record IsAsBefore (before after : Footprint) : Type 0 where
  pub read : (address : ℕ) → has_read after address ≡ has_read before address
  pub wrote : (address : ℕ) → has_written after address ≡ has_written before address

-- a footprint is the one of rows
pub record IsFootprintOf (footprint : Footprint) (rows : List Accesses) : Type 0 where
  pub read : (address : ℕ) → has_read footprint address ≡ has_address (footprint_of rows) address
  pub wrote : (address : ℕ) → has_written footprint address ≡ is_written (writes_of rows) address

-- each byte that was read or written lies in RAM
pub record LiesInRam (ram : Span) (footprint : Footprint) : Type 0 where
  pub read : (address : ℕ) → has_read footprint address ≡ true → is_in ram address ≡ true
  pub wrote : (address : ℕ) → has_written footprint address ≡ true → is_in ram address ≡ true

-- a bit is set for the byte at an address, in the block of a number
abbrev pub block_has_byte : ℕ → ℕ → ℕ → Bool
block_has_byte number bits address = (address / BLOCK_SIZE == number) && has_bit bits (address % BLOCK_SIZE)

-- each byte of a block whose bit is set lies in RAM
abbrev pub AreIn : Span → ℕ → ℕ → Type 0
AreIn ram number bits = (address : ℕ) → block_has_byte number bits address ≡ true → is_in ram address ≡ true

-- bytes of a memory became those of another, some or all that are wanted, and no others
pub record ArePartlyMoved (wanted : ℕ → Bool) (judged before after : Bytes) : Type 0 where
  pub either : (address : ℕ) → (after address ≡ before address) ⊎ (after address ≡ judged address)
  pub others : (address : ℕ) → wanted address ≡ false → after address ≡ before address

-- so many bytes from an address on end at 2^56 at the latest, as those of RAM do
abbrev pub IsNarrow : ℕ → ℕ → Type 0
IsNarrow pa len = pa + len ≤ 2 ^ 56

-- a footprint has noted what came later of a block
pub record NotesBlock (number : ℕ) (later : Block) (before after : Footprint) : Type 0 where
  pub read : (address : ℕ) → has_read after address
      ≡ (has_read before address
      || ((address / BLOCK_SIZE == number) && has_bit later.read (address % BLOCK_SIZE)
      && not (has_written before address)))
  pub wrote : (address : ℕ) → has_written after address
      ≡ (has_written before address || ((address / BLOCK_SIZE == number) && has_bit later.wrote (address % BLOCK_SIZE)))

-- The bytes that a footprint remembers to have noted.
use Rattle.std.specs.Prelude.{◌≡◌, ℕ, ◌/◌, ◌%◌, Bool, true, ◌||◌, Option, unwrap_or}
use Rattle.read_footprint.specs.Bits.{has_bit}
use Rattle.read_footprint.specs.declared.block.Block.{Block}
use Rattle.read_footprint.specs.declared.block.TheConstants.{BLOCK_SIZE}
use Rattle.read_footprint.specs.declared.noted_bytes.NotedBytes.{NotedBytes}

-- the byte at an address is noted in its block, as read or as written
abbrev pub is_noted : (ℕ → Option Block) → ℕ → Bool
is_noted blocks address =
    has_bit (unwrap_or (blocks (address / BLOCK_SIZE)) (record { read = 0; wrote = 0 })).read (address % BLOCK_SIZE)
    || has_bit (unwrap_or (blocks (address / BLOCK_SIZE)) (record { read = 0; wrote = 0 })).wrote (address % BLOCK_SIZE)

-- each of these bytes is
pub record AreNoted (blocks : ℕ → Option Block) (noted : NotedBytes) : Type 0 where
  pub each : (address : ℕ) → address / BLOCK_SIZE ≡ noted.number → has_bit noted.bytes (address % BLOCK_SIZE) ≡ true
      → is_noted blocks address ≡ true

-- The last writers of registers and bytes, and of which rows they are.
use Rattle.std.specs.Prelude.{◌≡◌, ℕ, ◌+◌, ◌/◌, ◌%◌, ◌<◌, ◌≤◌, ◌^◌, Option, Some}
use Rattle.row_origin.specs.declared.block.TheConstants.{BLOCK_SIZE}
use Rattle.row_origin.specs.declared.last.Last.{Last}
use Rattle.row_origin.specs.declared.places.Places.{Places}
use Rattle.row_origin.specs.Origins.{byte_row, register_row}
use Rattle.row_origin.specs.Places.{row_at}
use Rattle.row_origin.specs.Trails.{Trail}

-- the row that wrote a register of a hart last
abbrev pub register_in : Last → ℕ → ℕ → Option ℕ
register_in last hart number = row_at last.registers hart number

-- the row that wrote the byte at an address last
abbrev pub byte_at : Places → ℕ → Option ℕ
byte_at bytes address = row_at bytes (address / BLOCK_SIZE) (address % BLOCK_SIZE)

abbrev pub byte_in : Last → ℕ → Option ℕ
byte_in last address = byte_at last.bytes address

-- so many bytes from an address on end at 2^56 at the latest, as those of RAM do
abbrev pub IsNarrow : ℕ → ℕ → Type 0
IsNarrow pa len = pa + len ≤ 2 ^ 56

-- they are those of a trail
pub record IsLastOf (last : Last) (trail : Trail) : Type 0 where
  pub registers : (hart number : ℕ) → register_in last hart number ≡ register_row hart number trail
  pub bytes : (address : ℕ) → byte_in last address ≡ byte_row address trail

-- they are as they were
pub record IsAsBefore (before after : Last) : Type 0 where
  pub registers : (hart number : ℕ) → register_in after hart number ≡ register_in before hart number
  pub bytes : (address : ℕ) → byte_in after address ≡ byte_in before address

-- each of their rows can be counted on from a base
pub record CountsFrom (base : ℕ) (last : Last) : Type 0 where
  pub registers : (hart number row : ℕ) → register_in last hart number ≡ Some row → base + row < 2 ^ 64
  pub bytes : (address row : ℕ) → byte_in last address ≡ Some row → base + row < 2 ^ 64

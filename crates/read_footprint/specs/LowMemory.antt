-- Footprints in the first page of memory, in tests.
use Rattle.std.specs.Prelude.{◌≡◌, ℕ, ◌<◌, true, List, All, length, slice_index_or}
use Rattle.std.proofs.Common.{inl, inr, lit<}
use Rattle.std.proofs.Math.ListN.{get_or-eq_default}
use Rattle.std.proofs.lemmas.Bool.{cases_lt}
use Rattle.read_footprint.specs.declared.footprint.Footprint.{Footprint}
use Rattle.read_footprint.specs.Sets.{has_read, has_written}

-- each byte that was read or written stands there
pub record IsLow (footprint : Footprint) : Type 0 where
  pub read : (address : ℕ) → has_read footprint address ≡ true → address < 4096
  pub wrote : (address : ℕ) → has_written footprint address ≡ true → address < 4096

-- each value of a list of bytes is one, and so is 0 after them
pub byte_at_is_below_256 : (bytes : List ℕ) → All (λ byte. byte < 256) bytes → (at : ℕ)
    → slice_index_or bytes at 0 < 256
byte_at_is_below_256 bytes are at = elim (cases_lt at (length bytes)) [
  | inl below ↦ are at 0 below
  | inr past ↦ rw (get_or-eq_default bytes 0 past) (lit< tt)
]

-- The front of a file.
use Rattle.std.specs.Prelude.{◌≡◌, ℕ, List, length, take, nat_lt, Bool, true, false, Option, Some, None}
use Rattle.outside_ports.specs.Ports.{Reads}
use Rattle.outside_ports.specs.declared.front.Front.{Front}
use Rattle.outside_ports.specs.declared.front.ReadError.{ReadError}
use Rattle.outside_ports.specs.declared.front.ReadError.TheVariants.{ReadFault, NoMemory}

-- the first bytes of a file, so many at most, and whether more follow
pub record HasFront (file : List ℕ) (most : ℕ) (front : Front) : Type 0 where
  pub bytes : front.bytes.items ≡ take most file
  pub more : front.more ≡ nat_lt most (length file)

-- the same where the file is told
abbrev pub IsFront : Option (List ℕ) → ℕ → Front → Type 0
IsFront None most front = Unit {0}
IsFront (Some file) most front = HasFront file most front

-- a chunk holds bytes of a file from a place on, where the file is told
abbrev pub ReadsChunk : Option (List ℕ) → ℕ → List ℕ → ℕ → Type 0
ReadsChunk None at chunk count = Unit {0}
ReadsChunk (Some file) at chunk count = Reads file at chunk count

-- whether the shelf failed
abbrev pub is_read_fault : ReadError → Bool
is_read_fault ReadFault = true
is_read_fault NoMemory = false

-- What a read and a write tell.
use Rattle.std.specs.Prelude.{◌≡◌, ℕ, ◌-◌, ◌<◌, ◌≤◌, ◌↔◌, List, ◌++◌, length, take, drop, Option, Some, None, Result}
use Rattle.std.specs.Prelude.{Ok, Err, IsErr, IsSome, IfOk}
use Rattle.outside_ports.specs.Counts.{count_after_one}
use Rattle.outside_ports.specs.declared.failure.Failed.{Failed}

-- files: from a name's bytes to the bytes of the file, or none where there is no such file
abbrev pub Files : Type 0
Files = List ℕ → Option (List ℕ)

-- so many bytes of a file were read into a buffer, from a place on; none exactly at the end
pub record Reads (file : List ℕ) (at : ℕ) (buffer : List ℕ) (count : ℕ) : Type 0 where
  pub within : count ≤ length file - at
  pub bytes : take count buffer ≡ take count (drop at file)
  pub end : 0 < length buffer → (count ≡ 0) ↔ (length file ≤ at)

-- a read of a missing file fails, a read of a file that is there gives its bytes
abbrev pub ReadsFile : Option (List ℕ) → ℕ → List ℕ → Result ℕ Failed → Type 0
ReadsFile None at buffer result = IsErr result
ReadsFile (Some file) at buffer result = IfOk result (Reads file at buffer)

-- the same where files are told
abbrev pub ReadsWhereKnown : Option Files → List ℕ → ℕ → List ℕ → Result ℕ Failed → Type 0
ReadsWhereKnown None name at buffer result = Unit {0}
ReadsWhereKnown (Some files) name at buffer result = ReadsFile (files name) at buffer result

abbrev pub misses_of_file : Option (List ℕ) → ℕ → ℕ
misses_of_file None before = count_after_one before
misses_of_file (Some file) before = before

-- the misses after a read: one more exactly where files are told and the name is missing
abbrev pub misses_after : Option Files → List ℕ → ℕ → ℕ
misses_after None name before = before
misses_after (Some files) name before = misses_of_file (files name) before

-- what is held after a write: the bytes that were taken come at the end
abbrev pub held_after : Result ℕ Failed → List ℕ → List ℕ → List ℕ
held_after (Ok count) piece held = held ++ take count piece
held_after (Err e) piece held = held

-- the bytes of a file, where files are told and it is there
abbrev pub file_of : Option Files → List ℕ → Option (List ℕ)
file_of None name = None
file_of (Some files) name = files name

-- files are told, and this one is not there
abbrev pub IsMissing : Option Files → List ℕ → Type 0
IsMissing None name = ⊥
IsMissing (Some files) name = files name ≡ None

-- files are not told, or this one is there
abbrev pub IsThere : Option Files → List ℕ → Type 0
IsThere None name = Unit {0}
IsThere (Some files) name = IsSome (files name)

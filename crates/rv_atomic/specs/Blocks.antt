-- What a reservation covers, from the Unprivileged ISA's chapter "A Extension for Atomic Instructions"; its reservation
-- set is an aligned block here.
use Rattle.std.specs.Prelude.{ℕ, ◌+◌, ◌*◌, ◌/◌, ◌<◌, ◌≤◌, Bool, false, ◌&&◌, nat_le, nat_lt, min, max}
use Rattle.std.specs.Prelude.{if◌then◌else◌, Option, Some, None}
use Rattle.rv_atomic.specs.declared.reservation.Block.{Block}

-- the block of so many bytes in which a byte lies
abbrev pub block_of : ℕ → ℕ → Block
block_of size address = record { address = address / size * size; size = size }

-- the byte lies in the reserved block
abbrev pub IsReserved : Option Block → ℕ → Type 0
IsReserved None address = ⊥
IsReserved (Some block) address = (block.address ≤ address) × (address < block.address + block.size)

-- every byte of an access lies in the reserved block
abbrev pub IsAllReserved : Option Block → ℕ → ℕ → Type 0
IsAllReserved reserved pa len = (k : ℕ) → k < len → IsReserved reserved (pa + k)

-- the test for it: the first byte and the last lie there
abbrev pub is_covered : Option Block → ℕ → ℕ → Bool
is_covered None pa len = false
is_covered (Some block) pa len = nat_le block.address pa && nat_le (pa + len) (block.address + block.size)

-- some address is one of so many bytes from another on, and lies in the reserved block
abbrev pub HasReserved : Option Block → ℕ → ℕ → Type 0
HasReserved reserved pa len = (address : ℕ) × ((pa ≤ address) × ((address < pa + len) × IsReserved reserved address))

-- the test for it: the later of both beginnings comes before the earlier of both ends
abbrev pub is_touched : Option Block → ℕ → ℕ → Bool
is_touched None pa len = false
is_touched (Some block) pa len = nat_lt (max pa block.address) (min (pa + len) (block.address + block.size))

-- what stays reserved where another hart wrote so many bytes: nothing where one of them lies in the block
abbrev pub block_left : Option Block → ℕ → ℕ → Option Block
block_left reserved pa len = if is_touched reserved pa len then None else reserved

-- The bytes of memory that rows read and write, one row after another: what a segment of a trace read that it had not
-- written itself is all of memory that its verdict depends on.
use Rattle.std.specs.Prelude.{ℕ, zero, suc, ◌+◌, Bool, not, ◌==◌, if◌then◌else◌, List, [], ◌∷◌, ◌++◌}
use Rattle.std.specs.List.{filter, flat_map, list_all, list_any}
use Rattle.hart_words.specs.declared.accesses.Read.{Read}
use Rattle.hart_words.specs.declared.accesses.Write.{Write}
use Rattle.hart_words.specs.Memory.{Bytes, is_within}

-- what one row read from memory, and what it wrote, both in order
pub record Accesses : Type 0 where
  pub reads : List Read
  pub wrote : List Write

-- the addresses of so many bytes from one on
unfoldable pub addresses_from : ℕ → ℕ → List ℕ
addresses_from pa zero = []
addresses_from pa (suc len) = pa ∷ addresses_from (pa + 1) len

-- the addresses of the bytes that were read
abbrev pub bytes_read : List Read → List ℕ
bytes_read reads = flat_map (λ read. addresses_from read.pa read.len) reads

-- the byte at an address was written
abbrev pub is_written : List Write → ℕ → Bool
is_written writes address = list_any (λ write. is_within write.pa write.len address) writes

-- what rows wrote, in order
abbrev pub writes_of : List Accesses → List Write
writes_of rows = flat_map (λ row. row.wrote) rows

-- the bytes that rows read and no earlier row of them wrote; a row reads before it writes
unfoldable pub footprint_of : List Accesses → List ℕ
footprint_of [] = []
footprint_of (row ∷ rows) =
    bytes_read row.reads ++ filter (λ address. not (is_written row.wrote address)) (footprint_of rows)

-- two memories agree on bytes
abbrev pub agree : Bytes → Bytes → List ℕ → Bool
agree one other footprint = list_all (λ address. one address == other address) footprint

-- a memory with the bytes that were written as they are in another
abbrev pub moved : List Write → Bytes → Bytes → Bytes
moved writes judged bytes address = if is_written writes address then judged address else bytes address

-- Physical memory: a byte at each address, and what reads and writes of numbers make of it.
use Rattle.std.specs.Prelude.{◌≡◌, ℕ, zero, suc, ◌+◌, ◌-◌, ◌*◌, ◌/◌, ◌%◌, ◌^◌, Bool, ◌&&◌, nat_le, nat_lt}
use Rattle.std.specs.Prelude.{if◌then◌else◌, Option, Some, None, List, [], ◌∷◌}
use Rattle.hart_words.specs.declared.accesses.Read.{Read}
use Rattle.hart_words.specs.declared.accesses.Write.{Write}

-- the byte at each address
abbrev pub Bytes : Type 0
Bytes = ℕ → ℕ

-- the number that so many bytes from an address on are, little-endian
unfoldable pub number_at : Bytes → ℕ → ℕ → ℕ
number_at bytes pa zero = 0
number_at bytes pa (suc len) = bytes pa + 256 * number_at bytes (pa + 1) len

-- the address is one of so many from another on
abbrev pub is_within : ℕ → ℕ → ℕ → Bool
is_within pa len address = nat_le pa address && nat_lt address (pa + len)

-- the bytes after a number's low bytes were put from an address on; every other byte is as before
unfoldable pub bytes_after_store : ℕ → ℕ → ℕ → Bytes → Bytes
bytes_after_store pa len value bytes address =
    if is_within pa len address then value / 256 ^ (address - pa) % 256 else bytes address

-- the bytes after writes were written, one after another
unfoldable pub after_writes : List Write → Bytes → Bytes
after_writes [] bytes = bytes
after_writes (write ∷ writes) bytes = after_writes writes (bytes_after_store write.pa write.len write.value bytes)

-- two memories have the same bytes from an address on
unfoldable pub SameBytes : ℕ → ℕ → Bytes → Bytes → Type 0
SameBytes pa zero one other = Unit {0}
SameBytes pa (suc len) one other = (other pa ≡ one pa) × SameBytes (pa + 1) len one other

-- two memories agree on what was read
unfoldable pub AgreeOn : List Read → Bytes → Bytes → Type 0
AgreeOn [] one other = Unit {0}
AgreeOn (read ∷ reads) one other = SameBytes read.pa read.len one other × AgreeOn reads one other

-- an entry of a page table, where it may be read
abbrev pub entry_of : (ℕ → Bool) → Bytes → ℕ → Option ℕ
entry_of readable bytes pa = if readable pa then Some (number_at bytes pa 8) else None

-- The sizes of data accesses, by the names of the Unprivileged ISA's chapter "Introduction" (memory).
use Rattle.std.specs.Prelude.{◌≡◌, ℕ, ◌*◌, ◌⊎◌}
use Rattle.hart_words.specs.declared.access_size.AccessSize.{AccessSize}
use Rattle.hart_words.specs.declared.access_size.AccessSize.TheVariants.{Byte, Halfword, Word, Doubleword}

-- the bytes of an access
abbrev pub bytes_of : AccessSize → ℕ
bytes_of Byte = 1
bytes_of Halfword = 2
bytes_of Word = 4
bytes_of Doubleword = 8

-- its bits
abbrev pub bits_of : AccessSize → ℕ
bits_of size = 8 * bytes_of size

-- a data access has 1, 2, 4 or 8 bytes
abbrev pub IsLength : ℕ → Type 0
IsLength len = (len ≡ 1) ⊎ ((len ≡ 2) ⊎ ((len ≡ 4) ⊎ (len ≡ 8)))

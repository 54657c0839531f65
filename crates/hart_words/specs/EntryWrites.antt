-- Writes of whole entries of page tables: 8 bytes at a multiple of 8.
use Rattle.std.specs.Prelude.{◌≡◌, ℕ, ◌%◌, ◌^◌, ◌<◌}
use Rattle.hart_words.specs.declared.accesses.Write.{Write}

pub record IsEntryWrite (write : Write) : Type 0 where
  pub whole : write.len ≡ 8
  pub aligned : write.pa % 8 ≡ 0
  pub fits : write.value < 2 ^ 64

-- the write of an entry
abbrev pub entry_write : ℕ → ℕ → Write
entry_write pa entry = record { pa = pa; len = 8; value = entry }

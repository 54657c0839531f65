use Rattle.std.proofs.Common.{◌≡◌, take, unwrap_or}
use Rattle.hart_words.specs.Memory.{Bytes, after_writes}
use Rattle.hart_words.proofs.sets.last_byte.Given as goal

-- what the writes before the index leave at the address
abbrev pub invariant-loop-write : goal.invariant-loop-write
invariant-loop-write l =
    (bytes : Bytes) → after_writes (take l.write-index l.writes) bytes l.pa ≡ unwrap_or l.found (bytes l.pa)

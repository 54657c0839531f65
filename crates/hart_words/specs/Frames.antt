-- Memories that agree on what was read give the same numbers, also after the same writes were written.
use Rattle.std.proofs.Common.{◌≡◌, ℕ, zero, suc, ◌+◌, ◌*◌, ◌-◌, ◌/◌, ◌%◌, ◌^◌, List, [], ◌∷◌, ◌++◌, refl, ap, ◌∙◌}
use Rattle.std.proofs.Common.{if◌then◌else◌}
use Rattle.hart_words.specs.declared.accesses.Read.{Read}
use Rattle.hart_words.specs.declared.accesses.Write.{Write}
use Rattle.hart_words.specs.Memory.{Bytes, number_at, is_within, bytes_after_store, after_writes, SameBytes, AgreeOn}

pub number_at-same : (pa len : ℕ) (one other : Bytes) → SameBytes pa len one other
    → number_at other pa len ≡ number_at one pa len
unfolding number_at SameBytes
number_at-same pa zero one other same = refl
number_at-same pa (suc len) one other same =
    ap (λ b. b + 256 * number_at other (pa + 1) len) same.0
    ∙ ap (λ n. one pa + 256 * n) (number_at-same (pa + 1) len one other same.1)

pub SameBytes-stored : (pa len : ℕ) (at size value : ℕ) (one other : Bytes) → SameBytes pa len one other
    → SameBytes pa len (bytes_after_store at size value one) (bytes_after_store at size value other)
unfolding bytes_after_store SameBytes
SameBytes-stored pa zero at size value one other same = tt
SameBytes-stored pa (suc len) at size value one other same = (
  ap (λ b. if is_within at size pa then value / 256 ^ (pa - at) % 256 else b) same.0,
  SameBytes-stored (pa + 1) len at size value one other same.1,
)

pub AgreeOn-stored : (reads : List Read) (at size value : ℕ) (one other : Bytes) → AgreeOn reads one other
    → AgreeOn reads (bytes_after_store at size value one) (bytes_after_store at size value other)
unfolding AgreeOn
AgreeOn-stored [] at size value one other agree = tt
AgreeOn-stored (read ∷ reads) at size value one other agree = (
  SameBytes-stored read.pa read.len at size value one other agree.0,
  AgreeOn-stored reads at size value one other agree.1,
)

pub AgreeOn-after_writes : (reads : List Read) (writes : List Write) (one other : Bytes) → AgreeOn reads one other
    → AgreeOn reads (after_writes writes one) (after_writes writes other)
unfolding after_writes
AgreeOn-after_writes reads [] one other agree = agree
AgreeOn-after_writes reads (write ∷ writes) one other agree =
    AgreeOn-after_writes reads writes (bytes_after_store write.pa write.len write.value one)
    (bytes_after_store write.pa write.len write.value other)
    (AgreeOn-stored reads write.pa write.len write.value one other agree)

pub AgreeOn-front : (reads more : List Read) (one other : Bytes) → AgreeOn (reads ++ more) one other
    → AgreeOn reads one other
unfolding AgreeOn
AgreeOn-front [] more one other agree = tt
AgreeOn-front (read ∷ reads) more one other agree = (agree.0, AgreeOn-front reads more one other agree.1)

pub AgreeOn-back : (reads more : List Read) (one other : Bytes) → AgreeOn (reads ++ more) one other
    → AgreeOn more one other
unfolding AgreeOn
AgreeOn-back [] more one other agree = agree
AgreeOn-back (read ∷ reads) more one other agree = AgreeOn-back reads more one other agree.1

pub number_at-read : (read : Read) (one other : Bytes) → AgreeOn (read ∷ []) one other
    → number_at other read.pa read.len ≡ number_at one read.pa read.len
unfolding AgreeOn
number_at-read read one other agree = number_at-same read.pa read.len one other agree.0

-- Places of bytes.
use Rattle.std.proofs.Common.{◌≡◌, ◌≢◌, inl, inr, ℕ, ◌+◌, Bool, true, false, ◌&&◌, refl, arith}
use Rattle.std.specs.Prelude.{nat_le}
use Rattle.std.proofs.lemmas.Bool.{cases_lt, lt-leb, le-ltb}
use Rattle.hart_words.specs.Memory.{is_within}

pub both_hold : (a b : Bool) → (a && b) ≡ true → (a ≡ true) × (b ≡ true)
both_hold true b holds = (refl, holds)
both_hold false b holds = cc

pub outside : (pa address : ℕ) → address ≢ pa → is_within pa 1 address ≡ false
outside pa address apart = elim (cases_lt address pa) [
  | inl before ↦ rw (lt-leb pa address before) refl
  | inr after ↦ rw (le-ltb address (pa + 1) (omega (arith, after, apart))) (none (nat_le pa address))
]
  where
    none : (b : Bool) → (b && false) ≡ false
    none true = refl
    none false = refl

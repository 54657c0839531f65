-- Codes of causes past the last.
use Rattle.std.proofs.Common.{◌≡◌, ℕ, ◌<◌, ◌≤◌, ◌^◌, false, ◌==◌, ap}
use Rattle.std.proofs.lemmas.Nat.Bits.{bit_at_above}
use Rattle.hart_words.specs.declared.options.CauseSet.{CauseSet}
use Rattle.hart_words.specs.Options.{has_cause}

pub no_high_cause : (causes : CauseSet) (code : ℕ) → causes.codes < 2 ^ 16 → 16 ≤ code
    → has_cause causes code ≡ false
no_high_cause causes code small high = ap (λ b. b == 1) (bit_at_above causes.codes 16 code small high)

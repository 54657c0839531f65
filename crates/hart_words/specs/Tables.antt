-- Tables of which each word meets one entry at most.
use Rattle.std.specs.Prelude.{◌≡◌, ℕ, Bool, true, List, AllPairs}

-- no word meets both entries
abbrev pub NeverBoth : {Entry : Type 0} → (Entry → ℕ → Bool) → Entry → Entry → Type 0
NeverBoth meets one other = (word : ℕ) → meets one word ≡ true → meets other word ≡ true → ⊥

-- no word meets two entries, so that which of them comes first decides nothing
abbrev pub MeetsOneAtMost : {Entry : Type 0} → (Entry → ℕ → Bool) → List Entry → Type 0
MeetsOneAtMost meets entries = AllPairs (NeverBoth meets) entries

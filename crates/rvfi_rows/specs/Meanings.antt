-- What a hart is to those who step it, of which memory is no part.
use Rattle.std.specs.Prelude.{◌≡◌, ℕ, Bool, true, List, [], ◌∷◌}
use Rattle.hart_words.specs.declared.accesses.Write.{Write}
use Rattle.hart_words.specs.declared.choices.Choices.{Choices}
use Rattle.hart_words.specs.declared.map.Map.{Map}
use Rattle.hart_words.specs.Actions.{Action, Performs}
use Rattle.hart_words.specs.Memory.{Bytes}
use Rattle.hart_words.specs.Signals.{Shown}
use Rattle.rvfi_rows.specs.declared.expected.Expected.{Expected}

-- the state after a row, of a hart or of several, and what the row's hart did
pub record Gave (C : Type 0) : Type 0 where
  pub next : C
  pub expected : Expected

-- the step by a row; whether a row shows all that it changes, and the state that is taken from it then, with no read;
-- the state after another hart wrote so many bytes from an address on; and what no row changes
pub record Meaning (C : Type 0) : Type 0 where
  pub stepped : C → Shown → Action (Gave C)
  pub is_plain : C → Shown → Bool
  pub taken : C → Shown → Action C
  pub lost : C → ℕ → ℕ → C
  pub map_of : C → Map
  pub choices_of : C → Choices

-- the state after another hart's writes, one after another
unfoldable pub lost_by : {C : Type 0} → Meaning C → List Write → C → C
lost_by meaning [] core = core
lost_by meaning (write ∷ writes) core = lost_by meaning writes (meaning.lost core write.pa write.len)

-- a row that shows this is plain for the state before it; the state after it is what is taken from it, and nothing is
-- written
pub record TakesQuiet {C : Type 0} (meaning : Meaning C) (before : C) (shown : Shown) (now : C) : Type 0 where
  pub plain : meaning.is_plain before shown ≡ true
  pub taken : (bytes : Bytes) → Performs (meaning.taken before shown) now [] [] [] [] bytes bytes

-- What a call that reads a shelf makes of its counts. Each call has errors of its own: a test says which of them is the
-- fault of a read.
use Rattle.std.specs.Prelude.{◌≡◌, ℕ, ◌<◌, ◌≤◌, List, Bool, true, false, Option, Result, Ok, Err}
use Rattle.outside_ports.specs.Counts.{Rose}
use Rattle.outside_ports.specs.Ports.{Files, IsMissing}

-- with a fault a count rises, otherwise it stays
abbrev pub RisesWhere : Bool → ℕ → ℕ → Type 0
RisesWhere true before now = Rose before now × (before ≤ now)
RisesWhere false before now = now ≡ before

-- the count of faults rises exactly with a fault
abbrev pub CountsFault : {A E : Type 0} → (E → Bool) → Result A E → ℕ → ℕ → Type 0
CountsFault is_fault (Ok x) before now = now ≡ before
CountsFault is_fault (Err e) before now = RisesWhere (is_fault e) before now

-- with a fault the misses may rise where a told file is not there, otherwise they stay
abbrev pub MissesWhere : Bool → Option Files → List ℕ → ℕ → ℕ → Type 0
MissesWhere true known_files name before now = before < now → IsMissing known_files name
MissesWhere false known_files name before now = now ≡ before

-- the misses rise only with a fault, where a told file is not there
abbrev pub CountsMiss : {A E : Type 0} → (E → Bool) → Result A E → Option Files → List ℕ → ℕ → ℕ → Type 0
CountsMiss is_fault (Ok x) known_files name before now = now ≡ before
CountsMiss is_fault (Err e) known_files name before now = MissesWhere (is_fault e) known_files name before now

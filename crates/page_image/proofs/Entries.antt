-- Walks over the entries of a map by number.
use Rattle.std.proofs.Common.{◌≡◌, ℕ, suc, All, ◌⊎◌, true, false, cond, Option, Some, is_some, List, [], ◌∷◌, sym, ap}
use Rattle.std.proofs.Common.{◌∙◌, subst, inl, inr, arith}
use Rattle.std.specs.Prelude.{nat_eq}
use Rattle.std.specs.Map.{lookup}
use Rattle.std.proofs.lemmas.Bool.Decides.{eqb_tells}

-- each of these entries is one of a map
abbrev pub AreEntries : {X : Type 0} → (ℕ → Option X) → List (ℕ × X) → Type 0
AreEntries {X} map entries = All (λ (entry : ℕ × X). map entry.0 ≡ Some entry.1) entries

pub first_entry : {X : Type 0} (map : ℕ → Option X) {key : ℕ} {value : X} {rest later : List (ℕ × X)}
    → rest ≡ (key, value) ∷ later → AreEntries map rest → map key ≡ Some value
first_entry map {key} {value} is found = subst (AreEntries map) is found 0 (key, value) (omega arith)

pub later_entries : {X : Type 0} (map : ℕ → Option X) {key : ℕ} {value : X} {rest later : List (ℕ × X)}
    → rest ≡ (key, value) ∷ later → AreEntries map rest → AreEntries map later
later_entries map is found = λ k d below. subst (AreEntries map) is found (suc k) d (omega (arith, below))

-- of the entries that are left, one is done
pub entry_done : {X : Type 0} (P : ℕ → Type 0) {key : ℕ} {value : X} {rest later : List (ℕ × X)}
    → rest ≡ (key, value) ∷ later → P key
    → (q : ℕ) → (is_some (lookup (nat_eq q) rest) ≡ true) ⊎ P q → (is_some (lookup (nat_eq q) later) ≡ true) ⊎ P q
entry_done P is done q (inr before) = inr before
entry_done P {key} {value} {later} is done q (inl left) = elim (eqb_tells q key) [
  | inl same ↦ inr (subst P (sym same.1) done)
  | inr apart ↦
      inl
      (ap (λ t. is_some (cond t (Some value) (lookup (nat_eq q) later))) (sym apart.0)
      ∙ ap (λ entries. is_some (lookup (nat_eq q) entries)) (sym is) ∙ left)
]

pub entries_done : {X : Type 0} (P : ℕ → Type 0) (rest : List (ℕ × X)) → rest ≡ [] → (q : ℕ)
    → (is_some (lookup (nat_eq q) rest) ≡ true) ⊎ P q → P q
entries_done P rest is q (inr done) = done
entries_done P rest is q (inl left) =
    let never : false ≡ true = ap (λ entries. is_some (lookup (nat_eq q) entries)) (sym is) ∙ left in cc

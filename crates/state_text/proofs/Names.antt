-- The names in the code's table, one by one.
use Rattle.std.proofs.Common.{◌≡◌, ℕ, zero, suc, ◌<◌, ◌≤◌, Bool, true, false, List, [], ◌∷◌, length, get_or, refl, sym}
use Rattle.std.proofs.Common.{ap, ◌∙◌, arith, map}
use Rattle.std.specs.Prelude.{◌&&◌, nat_le}
use Rattle.std.specs.List.{list_all}
use Rattle.std.proofs.lemmas.Bool.Decides.{nat_tests}
use Rattle.std.proofs.lemmas.List.{get_or-map, length-map}
use Rattle.state_text.specs.Numbers.{number_names}

both : (a b : Bool) → (a && b) ≡ true → (a ≡ true) × (b ≡ true)
both true b h = (refl, h)
both false b h = absurd cc

all_in : {X : Type 0} (test : X → Bool) (xs : List X) (k : ℕ) (d : X) → list_all test xs ≡ true → k < length xs
    → test (get_or xs k d) ≡ true
all_in test [] k d h within = absurd (omega arith)
all_in test (x ∷ xs) zero d h within = (both (test x) (list_all test xs) h).0
all_in test (x ∷ xs) (suc k) d h within = all_in test xs k d (both (test x) (list_all test xs) h).1 (omega arith)

-- each name is short
pub short_name : (k : ℕ) → k < 70 → length (get_or number_names k []) ≤ 32
short_name k within =
    let short : nat_le (length (get_or number_names k [])) 32 ≡ true =
    all_in (λ name. nat_le (length name) 32) number_names k [] refl within in
    grind (arith, nat_tests, short)

-- the name at a place of the table
pub name_at : {X : Type 0} (f : X → List ℕ) (xs : List X) (names : List (List ℕ)) (k : ℕ) (d : X) → map f xs ≡ names
    → k < length names → f (get_or xs k d) ≡ get_or names k []
name_at f xs names k d same within =
    sym (get_or-map f xs k d [] (omega (arith, ap length same, length-map xs f)))
    ∙ ap (λ (l : List (List ℕ)). get_or l k []) same

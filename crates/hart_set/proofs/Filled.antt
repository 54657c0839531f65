-- A list that becomes another one, element by element.
use Rattle.std.proofs.Common.{◌≡◌, ℕ, zero, suc, ◌+◌, ◌-◌, ◌≤◌, List, [], ◌∷◌, ◌++◌, take, drop, replicate}
use Rattle.std.proofs.Common.{refl, ap, ◌∙◌, arith, Some}
use Rattle.std.proofs.lemmas.List.{replicate_more}
use Rattle.std.proofs.Math.ListN.{set}
use Rattle.std.specs.List.{slice_get}

-- the element at a place becomes that of the other list
pub filled_by_set : {C : Type 0} (goal before : List C) (place : ℕ) (x y : C) → slice_get goal place ≡ Some x
    → slice_get before place ≡ Some y
    → set (take place goal ++ drop place before) place x ≡ take (suc place) goal ++ drop (suc place) before
filled_by_set [] before place x y new old = absurd cc
filled_by_set (g ∷ goal) [] place x y new old = absurd cc
filled_by_set (g ∷ goal) (b ∷ before) zero x y new old = let same : x ≡ g = cc in ap (λ h. h ∷ before) same
filled_by_set (g ∷ goal) (b ∷ before) (suc place) x y new old =
    ap (λ xs. g ∷ xs) (filled_by_set goal before place x y new old)

-- it is that of the other list already
pub filled_by_itself : {C : Type 0} (goal before : List C) (place : ℕ) (x : C) → slice_get goal place ≡ Some x
    → slice_get before place ≡ Some x
    → take place goal ++ drop place before ≡ take (suc place) goal ++ drop (suc place) before
filled_by_itself [] before place x new old = absurd cc
filled_by_itself (g ∷ goal) [] place x new old = absurd cc
filled_by_itself (g ∷ goal) (b ∷ before) zero x new old = let same : b ≡ g = cc in ap (λ h. h ∷ before) same
filled_by_itself (g ∷ goal) (b ∷ before) (suc place) x new old =
    ap (λ xs. g ∷ xs) (filled_by_itself goal before place x new old)

-- what stands at the place of what is filled so far
pub still_there : {C : Type 0} (goal before : List C) (place : ℕ) (x y : C) → slice_get goal place ≡ Some x
    → slice_get before place ≡ Some y → slice_get (take place goal ++ drop place before) place ≡ Some y
still_there [] before place x y new old = absurd cc
still_there (g ∷ goal) [] place x y new old = absurd cc
still_there (g ∷ goal) (b ∷ before) zero x y new old = old
still_there (g ∷ goal) (b ∷ before) (suc place) x y new old = still_there goal before place x y new old

-- one copy more
pub one_copied : {C : Type 0} (core copy : C) (number : ℕ) (cores : List C) → 1 ≤ number
    → cores ≡ replicate (number - 1) core → copy ≡ core → cores ++ copy ∷ [] ≡ replicate (number + 1 - 1) core
one_copied core copy number cores one so_far same =
    let long : number - 1 + 1 ≡ number + 1 - 1 = omega (arith, one) in
    ap (λ xs. xs ++ copy ∷ []) so_far ∙ ap (λ x. replicate (number - 1) core ++ x ∷ []) same
    ∙ replicate_more (number - 1) core ∙ ap (λ n. replicate n core) long

pub all_copied : {C : Type 0} (core : C) (number harts : ℕ) (cores : List C) → 1 ≤ number → number ≡ harts
    → cores ≡ replicate (number - 1) core → cores ++ core ∷ [] ≡ replicate harts core
all_copied core number harts cores one all so_far =
    let long : number + 1 - 1 ≡ harts = omega (arith, one, all) in
    one_copied core core number cores one so_far refl ∙ ap (λ n. replicate n core) long

-- The lists that views have, one after another, when a view changes.
use Rattle.std.proofs.Common.{◌≡◌, ◌≢◌, ℕ, zero, suc, ◌+◌, ◌<◌, ◌≤◌, Bool, List, [], ◌∷◌, ◌++◌, length, set, refl, sym}
use Rattle.std.proofs.Common.{ap, arith}
use mathlib.Core.Option.{some, some-injective, some-ne-none}
use lib.ListN.{get_elem?}
use Rattle.verdict_board.specs.declared.view.View.{View}
use Rattle.board_core.specs.Bags.{Has, as_number, count, weigh}
use Rattle.board_core.proofs.Bags.{Has-push, Has-left, weigh-append}
use Rattle.verdict_board.specs.Rule.{AreOwn, all_of}

module _ {X : Type 0} (part : View → List X) (h : X → ℕ) where
  -- one view is another
  pub gathered-set : (views : List View) (place : ℕ) (old new : View) → get_elem? views place ≡ some old
      → weigh h (all_of part (set views place new)) + weigh h (part old) ≡ weigh h (all_of part views)
      + weigh h (part new)
  gathered-set [] place old new at = absurd (some-ne-none old (sym at))
  gathered-set (view ∷ views) zero old new at =
      let same : weigh h (part view) ≡ weigh h (part old) = ap (λ v. weigh h (part v)) (some-injective view old at) in
      omega (arith, same, weigh-append h (part new) (all_of part views), weigh-append h (part view) (all_of part views))
  gathered-set (view ∷ views) (suc place) old new at =
      omega (
        arith,
        gathered-set views place old new at,
        weigh-append h (part view) (all_of part (set views place new)),
        weigh-append h (part view) (all_of part views),
      )

  -- one view more
  pub gathered-push : (views : List View) (view : View)
      → weigh h (all_of part (views ++ view ∷ [])) ≡ weigh h (all_of part views) + weigh h (part view)
  gathered-push [] view = omega (arith, weigh-append h (part view) [])
  gathered-push (first ∷ views) view =
      omega (
        arith,
        gathered-push views view,
        weigh-append h (part first) (all_of part (views ++ view ∷ [])),
        weigh-append h (part first) (all_of part views),
      )

  -- one view weighs no more than all
  pub gathered-one : (views : List View) (place : ℕ) (view : View) → get_elem? views place ≡ some view
      → weigh h (part view) ≤ weigh h (all_of part views)
  gathered-one [] place view at = absurd (some-ne-none view (sym at))
  gathered-one (first ∷ views) zero view at =
      let same : weigh h (part first) ≡ weigh h (part view) =
      ap (λ v. weigh h (part v)) (some-injective first view at) in
      omega (arith, same, weigh-append h (part first) (all_of part views))
  gathered-one (first ∷ views) (suc place) view at =
      omega (arith, gathered-one views place view at, weigh-append h (part first) (all_of part views))

  -- nor do two
  pub gathered-two : (views : List View) (place elsewhere : ℕ) (view other : View) → get_elem? views place ≡ some view
      → get_elem? views elsewhere ≡ some other → elsewhere ≢ place
      → weigh h (part view) + weigh h (part other) ≤ weigh h (all_of part views)
  gathered-two [] place elsewhere view other at there apart = absurd (some-ne-none view (sym at))
  gathered-two (first ∷ views) zero zero view other at there apart = absurd (apart refl)
  gathered-two (first ∷ views) zero (suc elsewhere) view other at there apart =
      let same : weigh h (part first) ≡ weigh h (part view) =
      ap (λ v. weigh h (part v)) (some-injective first view at) in
      omega (arith, same, gathered-one views elsewhere other there, weigh-append h (part first) (all_of part views))
  gathered-two (first ∷ views) (suc place) zero view other at there apart =
      let same : weigh h (part first) ≡ weigh h (part other) =
      ap (λ v. weigh h (part v)) (some-injective first other there) in
      omega (arith, same, gathered-one views place view at, weigh-append h (part first) (all_of part views))
  gathered-two (first ∷ views) (suc place) (suc elsewhere) view other at there apart =
      omega (
        arith,
        gathered-two views place elsewhere view other at there (λ same. apart (ap suc same)),
        weigh-append h (part first) (all_of part views),
      )

  -- where each view weighs nothing, all do
  pub gathered-none : (views : List View)
      → ((place : ℕ) (view : View) → get_elem? views place ≡ some view → weigh h (part view) ≡ 0)
      → weigh h (all_of part views) ≡ 0
  gathered-none [] none = refl
  gathered-none (view ∷ views) none =
      omega (
        arith,
        none 0 view refl,
        gathered-none views (λ place. none (suc place)),
        weigh-append h (part view) (all_of part views),
      )

  -- where each other view weighs nothing, all weigh what the one weighs
  pub gathered-alone : (views : List View) (place : ℕ) (view : View) → get_elem? views place ≡ some view
      → ((elsewhere : ℕ) (other : View) → get_elem? views elsewhere ≡ some other → elsewhere ≢ place
      → weigh h (part other) ≡ 0)
      → weigh h (all_of part views) ≡ weigh h (part view)
  gathered-alone [] place view at none = absurd (some-ne-none view (sym at))
  gathered-alone (first ∷ views) zero view at none =
      let same : weigh h (part first) ≡ weigh h (part view) =
      ap (λ v. weigh h (part v)) (some-injective first view at) in
      let rest =
      gathered-none views
      (λ elsewhere other there. none (suc elsewhere) other there (λ zero_is. omega (arith, zero_is))) in
      omega (arith, same, rest, weigh-append h (part first) (all_of part views))
  gathered-alone (first ∷ views) (suc place) view at none =
      let here = none 0 first refl (λ zero_is. omega (arith, zero_is)) in
      let rest =
      gathered-alone views place view at
      (λ elsewhere other there apart. none (suc elsewhere) other there (λ same. apart (omega (arith, same)))) in
      omega (arith, here, rest, weigh-append h (part first) (all_of part views))

-- pairs of numbers that are none are no pairs
pub no_pairs : (numbers : List ℕ) (pairs : List (ℕ × ℕ)) → length numbers ≡ 0 → AreOwn numbers pairs → pairs ≡ []
no_pairs numbers [] none own = refl
no_pairs [] (pair ∷ pairs) none own =
    absurd (omega (arith, own pair (Has-left (pair ∷ []) pairs pair (Has-push [] pair))))
no_pairs (number ∷ numbers) (pair ∷ pairs) none own = absurd (omega (arith, none))

-- a list weighs its length where each weighs one
pub weigh_each : {X : Type 0} (xs : List X) → weigh (λ x. 1) xs ≡ length xs
weigh_each [] = refl
weigh_each (x ∷ xs) = omega (arith, weigh_each xs)

-- where no pair passes, none is counted
pub none_pass : (test : ℕ × ℕ → Bool) (pairs : List (ℕ × ℕ))
    → ((pair : ℕ × ℕ) → Has pairs pair → 0 < as_number (test pair) → ⊥) → count test pairs ≡ 0
none_pass test [] none = refl
none_pass test (pair ∷ pairs) none =
    let here : as_number (test pair) ≡ 0 =
    by (as_number (test pair)) (none pair (Has-left (pair ∷ []) pairs pair (Has-push [] pair))) in
    omega (arith, here, none_pass test pairs (λ other has. none other (more other has)))
  where
    by : (k : ℕ) → (0 < k → ⊥) → k ≡ 0
    by zero not_some = refl
    by (suc k) not_some = absurd (not_some (omega arith))

    more : (other : ℕ × ℕ) → Has pairs other → Has (pair ∷ pairs) other
    more other has = omega (arith, has)

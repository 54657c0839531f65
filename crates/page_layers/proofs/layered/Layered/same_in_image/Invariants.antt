use Rattle.std.proofs.Common.{◌≡◌, ◌⊎◌, ◌/◌, ℕ, true, is_some}
use Rattle.std.specs.Prelude.{nat_eq}
use Rattle.std.specs.HashMap.{get}
use Rattle.std.specs.Set.{is_member}
use Rattle.page_layers.specs.Memories.{IsSameBlock}
use Rattle.page_layers.proofs.layered.Layered.same_in_image.Given as goal

-- what is no more to be looked at is the same
abbrev pub invariant-loop-page : goal.invariant-loop-page
invariant-loop-page l = record {
  can_go : (goal.iterator-loop-page).can_next l.page-iterator;
  ends : (goal.iterator-loop-page).is_finite l.page-iterator;
  done : (q : ℕ) → is_some (get nat_eq l.image.pages q) ≡ true
      → (is_member nat_eq l.page-iterator q ≡ true)
      ⊎ ((number : ℕ) → number / 64 ≡ q → IsSameBlock l.self l.other number);
}

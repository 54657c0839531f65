use Rattle.std.proofs.Common.{◌≡◌, ◌⊎◌, ℕ, true, is_some}
use Rattle.std.specs.Prelude.{nat_eq}
use Rattle.std.specs.HashMap.{get}
use Rattle.std.specs.Map.{lookup}
use Rattle.page_image.specs.PageNumbers.{has_number}
use Rattle.page_image.specs.Pages.{IsNonzero, page_at}
use Rattle.page_image.proofs.Entries.{AreEntries}
use Rattle.page_image.proofs.image.nonzero_numbers.Given as goal

-- each number that is added is of a page that holds a byte other than 0, and each such page is left or was added
abbrev pub invariant-loop-number : goal.invariant-loop-number
invariant-loop-number l = record {
  can_go : (goal.iterator-loop-number).can_next l.number-iterator;
  ends : (goal.iterator-loop-number).is_finite l.number-iterator;
  found : AreEntries (get nat_eq l.pages) l.number-iterator;
  sound : (q : ℕ) → has_number l.nonzero q ≡ true → IsNonzero (page_at l.pages q);
  done : (q : ℕ) → (is_some (lookup (nat_eq q) l.number-iterator) ≡ true)
      ⊎ (IsNonzero (page_at l.pages q) → has_number l.nonzero q ≡ true);
}

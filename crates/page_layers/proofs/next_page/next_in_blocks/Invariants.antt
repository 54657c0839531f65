use Rattle.std.proofs.Common.{◌≡◌, ◌⊎◌, ℕ, true, is_some}
use Rattle.std.specs.Prelude.{nat_eq}
use Rattle.std.specs.Set.{is_member}
use Rattle.page_layers.specs.Blocks.{block_at}
use Rattle.page_layers.proofs.NextPages.{IsBetween, IsSeen}
use Rattle.page_layers.proofs.next_page.next_in_blocks.Given as goal

-- the page of each block that is no more to be looked at is found
abbrev pub invariant-loop-number : goal.invariant-loop-number
invariant-loop-number l = record {
  can_go : (goal.iterator-loop-number).can_next l.number-iterator;
  ends : (goal.iterator-loop-number).is_finite l.number-iterator;
  between : IsBetween l.least l.found;
  seen : (q : ℕ) → is_some (block_at l.blocks q) ≡ true
      → (is_member nat_eq l.number-iterator q ≡ true) ⊎ IsSeen l.blocks l.least l.found q;
}

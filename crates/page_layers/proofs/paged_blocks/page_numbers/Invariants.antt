use Rattle.std.proofs.Common.{◌≡◌, ◌⊎◌, ◌/◌, ℕ, true, is_some}
use Rattle.std.specs.Prelude.{nat_eq}
use Rattle.std.specs.Set.{is_member}
use Rattle.page_image.specs.PageNumbers.{has_number}
use Rattle.page_layers.specs.Blocks.{block_at}
use Rattle.page_layers.proofs.paged_blocks.page_numbers.Given as goal

-- the page of each block that is no more to be looked at is listed
abbrev pub invariant-loop-number : goal.invariant-loop-number
invariant-loop-number l = record {
  can_go : (goal.iterator-loop-number).can_next l.number-iterator;
  ends : (goal.iterator-loop-number).is_finite l.number-iterator;
  listed : (q : ℕ) → is_some (block_at l.blocks q) ≡ true
      → (is_member nat_eq l.number-iterator q ≡ true) ⊎ (has_number l.pages (q / 64) ≡ true);
}

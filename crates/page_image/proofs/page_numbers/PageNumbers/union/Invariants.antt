use Rattle.std.proofs.Common.{◌≡◌, ℕ, nat_cmp}
use Rattle.std.specs.Prelude.{◌||◌}
use Rattle.std.specs.BTreeMap.{is_at}
use Rattle.std.specs.List.{list_any}
use Rattle.page_image.specs.PageNumbers.{has_number}
use Rattle.page_image.proofs.page_numbers.PageNumbers.union.Given as goal

-- those that were added, and those that are left
abbrev pub invariant-loop-number : goal.invariant-loop-number
invariant-loop-number l = record {
  can_go : (goal.iterator-loop-number).can_next l.number-iterator;
  ends : (goal.iterator-loop-number).is_finite l.number-iterator;
  added : (q : ℕ) → (list_any (is_at (nat_cmp q)) l.number-iterator || has_number l.all q)
      ≡ (has_number l.fn.self q || has_number l.fn.others q);
}

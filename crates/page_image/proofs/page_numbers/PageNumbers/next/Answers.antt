use Rattle.page_image.specs.PageNumbers.{has_number}
use Rattle.page_image.proofs.Numbers.{first_is_there, first_of_range}
use Rattle.page_image.proofs.page_numbers.PageNumbers.next.Goals as goal

pub returns : goal.returns
unfolding has_number
returns c = rw c.copied.ensures record {
  skips = first_of_range _ _ _ _ _ c.next.ensures.steps (c.range-range.ensures.in_range tt);
  has = first_is_there _ _ _ _ _ c.next.ensures.steps (c.range-range.ensures.in_range tt);
}

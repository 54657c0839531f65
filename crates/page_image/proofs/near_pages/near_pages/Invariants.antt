use Rattle.std.proofs.Common.{◌≡◌, ◌+◌, length}
use Rattle.page_image.proofs.NearPages.{ArePlaced}
use Rattle.page_image.proofs.near_pages.near_pages.Given as goal

-- the pages of the numbers up to this one stand at their places
abbrev pub invariant-loop-number : goal.invariant-loop-number
invariant-loop-number l = record {
  end : l.lowest + length l.near.items ≡ l.number;
  placed : ArePlaced l.pages l.lowest l.near.items;
}

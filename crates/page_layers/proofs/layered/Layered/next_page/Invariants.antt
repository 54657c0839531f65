use Rattle.std.proofs.Common.{◌≤◌, ◌-◌, ◌/◌}
use Rattle.page_image.specs.declared.page_numbers.TheConstants.{PAGES}
use Rattle.page_layers.specs.Memories.{layered_bytes}
use Rattle.page_layers.proofs.NextPages.{AreZeroFrom}
use Rattle.page_layers.proofs.layered.Layered.next_page.Given as goal

-- the pages that were looked at are zero
abbrev pub invariant-pages : goal.invariant-pages
invariant-pages l = record {
  high : l.least ≤ PAGES;
  low : l.fn.from / 4096 ≤ l.least;
  zero : AreZeroFrom (layered_bytes l.self) l.fn.from l.least;
}

abbrev pub decreases-pages : goal.decreases-pages
decreases-pages l = PAGES - l.least

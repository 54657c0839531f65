-- Numbers of pages.
use Rattle.std.specs.Prelude.{ℕ, ◌<◌, ◌≤◌, Bool, Option, Some, None}
use Rattle.std.specs.Ordering.{nat_cmp}
use Rattle.std.specs.BTreeSet.{contains}
use Rattle.page_image.specs.declared.page_numbers.PageNumbers.{PageNumbers}
use Rattle.page_image.specs.declared.page_numbers.TheConstants.{PAGES}

-- the number is one of them
unfoldable pub has_number : PageNumbers → ℕ → Bool
has_number pages number = contains nat_cmp pages.numbers number

-- of the numbers from one on, what is found is one, or none below 2^52, and those that are skipped have a property
abbrev pub Skips : (ℕ → Type 0) → ℕ → Option ℕ → Type 0
Skips P least None = (number : ℕ) → least ≤ number → number < PAGES → P number
Skips P least (Some found) =
    (least ≤ found) × (found < PAGES) × ((number : ℕ) → least ≤ number → number < found → P number)

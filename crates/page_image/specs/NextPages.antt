-- The next page of a memory that holds a byte other than 0.
use Rattle.std.specs.Prelude.{◌≡◌, ℕ, ◌/◌, ◌%◌, ◌^◌, ◌<◌, ◌≤◌, Option, Some, None}
use Rattle.hart_words.specs.Memory.{Bytes}
use Rattle.hart_words.specs.declared.span.TheConstants.{PAGE_SIZE}

-- all bytes of the page with this number are 0
abbrev pub IsZeroPage : Bytes → ℕ → Type 0
IsZeroPage bytes number = (pa : ℕ) → pa / PAGE_SIZE ≡ number → bytes pa ≡ 0

-- the least address of a page, at or after an address, whose page holds a byte other than 0
pub record IsNextPage (bytes : Bytes) (from page : ℕ) : Type 0 where
  pub after : from ≤ page
  pub whole : page % PAGE_SIZE ≡ 0
  pub nonzero : IsZeroPage bytes (page / PAGE_SIZE) → ⊥
  pub least : (pa : ℕ) → from ≤ pa → pa < page → bytes pa ≡ 0

-- what is found is that address, or there is none below 2^64
abbrev pub FindsNextPage : Bytes → ℕ → Option ℕ → Type 0
FindsNextPage bytes from None = (pa : ℕ) → from ≤ pa → pa < 2 ^ 64 → bytes pa ≡ 0
FindsNextPage bytes from (Some page) = IsNextPage bytes from page

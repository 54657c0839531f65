-- The bytes of a page.
use Rattle.std.specs.Prelude.{◌≡◌, ℕ, ◌/◌, ◌%◌, ◌<◌, Option, Some, None, nat_eq, slice_index, option_map, unwrap_or, List}
use Rattle.std.specs.HashMap.{HashMap, get}
use Rattle.std.specs.List.{slice_index_or}
use Rattle.std.proofs.Common.{lit<}
use Rattle.page_image.specs.declared.page.Page.{Page}
use Rattle.page_image.specs.declared.shared_page.SharedPage.{SharedPage}
use Rattle.hart_words.specs.declared.span.TheConstants.{PAGE_SIZE}

-- the byte that a page has at an address in it
unfoldable pub page_byte : Page → ℕ → ℕ
page_byte page pa = slice_index page.bytes (pa % PAGE_SIZE)

-- the byte at an address in a page, 0 where there is no page
abbrev pub byte_or_zero : Option Page → ℕ → ℕ
byte_or_zero page pa = unwrap_or (option_map (λ p. page_byte p pa) page) 0

-- and each is a byte
pub byte_or_zero-fits : (page : Option Page) (pa : ℕ) → byte_or_zero page pa < 256
unfolding page_byte
byte_or_zero-fits None pa = lit< tt
byte_or_zero-fits (Some page) pa = page.small (pa % PAGE_SIZE)

-- the page that is shared, if any is
abbrev pub page_of : Option SharedPage → Option Page
page_of shared = option_map (λ s. s.page.value) shared

-- the page that is kept at a number, among pages by their number
abbrev pub page_at : {S : Type 0} → HashMap ℕ SharedPage S → ℕ → Option Page
page_at pages number = page_of (get nat_eq pages number)

-- the page at a place of a list
abbrev pub page_in : List (Option SharedPage) → ℕ → Option Page
page_in list place = page_of (slice_index_or list place None)

-- the byte at an address, 0 where there is no page
abbrev pub byte_among : {S : Type 0} → HashMap ℕ SharedPage S → ℕ → ℕ
byte_among pages pa = byte_or_zero (page_at pages (pa / PAGE_SIZE)) pa

-- a page holds a byte other than 0
abbrev pub IsNonzero : Option Page → Type 0
IsNonzero page = ((pa : ℕ) → byte_or_zero page pa ≡ 0) → ⊥

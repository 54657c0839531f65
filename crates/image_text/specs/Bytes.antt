-- What pieces of an image are to a reader: a byte, or none, at each address.
use Rattle.std.specs.Prelude.{ℕ, ◌/◌, ◌%◌, Bool, Option, Some, None, is_some, ◌==◌, if◌then◌else◌, option_and_then}
use Rattle.std.specs.List.{slice_index_or}
use Rattle.std.specs.BTreeMap.{get}
use Rattle.std.specs.Ordering.{nat_cmp}
use Rattle.image_text.specs.declared.pieces.Pieces.{Pieces}
use Rattle.hart_words.specs.declared.span.TheConstants.{PAGE_SIZE}

-- the byte that the pieces have at an address
unfoldable pub byte_at : Pieces → ℕ → Option ℕ
byte_at pieces address =
    option_and_then (λ page. slice_index_or page.value.bytes (address % PAGE_SIZE) None)
    (get nat_cmp pieces.pages (address / PAGE_SIZE))

-- a map of bytes with one more byte
abbrev pub with_byte : (ℕ → Option ℕ) → ℕ → ℕ → ℕ → Option ℕ
with_byte bytes address value at = if at == address then Some value else bytes at

-- the pieces have a page of this number
unfoldable pub has_page : Pieces → ℕ → Bool
has_page pieces number = is_some (get nat_cmp pieces.pages number)

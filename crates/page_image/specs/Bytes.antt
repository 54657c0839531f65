-- The bytes of a memory before its first step.
use Rattle.std.specs.Prelude.{ℕ, ◌/◌, ◌<◌, Option, unwrap_or}
use Rattle.page_image.specs.declared.image.PageImage.{PageImage}
use Rattle.page_image.specs.Pages.{byte_among, byte_or_zero-fits, page_at}
use Rattle.hart_words.specs.declared.span.TheConstants.{PAGE_SIZE}

-- the byte at an address, 0 where there is no page
unfoldable pub byte_of : PageImage → ℕ → ℕ
byte_of image pa = byte_among image.pages pa

-- and each is a byte
pub byte_of-fits : (image : PageImage) (pa : ℕ) → byte_of image pa < 256
unfolding byte_of
byte_of-fits image pa = byte_or_zero-fits (page_at image.pages (pa / PAGE_SIZE)) pa

-- the bytes that are given, and 0 at every other address
abbrev pub with_zeros : (ℕ → Option ℕ) → ℕ → ℕ
with_zeros bytes pa = unwrap_or (bytes pa) 0

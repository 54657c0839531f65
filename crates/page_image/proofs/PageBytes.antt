-- The bytes of a page, address by address.
use Rattle.std.proofs.Common.{◌≡◌, ℕ, ◌%◌, ◌*◌, ◌+◌, ◌<◌, Bool, replicate, sym, ◌∙◌, ap, arith}
use Rattle.std.proofs.Common.{slice_index}
use Rattle.std.proofs.Common.{Bor, Option, None, Some, option_copied}
use Rattle.std.specs.Bool.{Decides}
use Rattle.std.proofs.Math.Nat.{mod-eq_of_lt}
use Rattle.std.proofs.lemmas.Grind.{same_number_lists}
use Rattle.image_text.proofs.Pages.{none_at}
use Rattle.page_image.specs.declared.page.Page.{Page}
use Rattle.page_image.specs.Pages.{page_byte, byte_or_zero}

-- pages with the same bytes at each address
pub same_pages : (one other : Page) → ((pa : ℕ) → page_byte one pa ≡ page_byte other pa) → one.bytes ≡ other.bytes
unfolding page_byte
same_pages one other same = same_number_lists one.bytes other.bytes (one.full ∙ sym other.full) (λ k below.
    let small : k < 4096 = omega (arith, below, one.full) in
    rw (mod-eq_of_lt small) at (same k))

pub page_bytes_same : (one other : Page) → one.bytes ≡ other.bytes → (pa : ℕ) → page_byte one pa ≡ page_byte other pa
unfolding page_byte
page_bytes_same one other is pa = ap (λ bytes. slice_index bytes (pa % 4096)) is

pub pages_decided : (one other : Page) (result : Bool) → Decides result (one.bytes ≡ other.bytes)
    → Decides result ((pa : ℕ) → page_byte one pa ≡ page_byte other pa)
pages_decided one other result decides =
    (λ yes. page_bytes_same one other (decides.0 yes), λ same. decides.1 (same_pages one other same))

pub zero_page : (page : Page) → page.bytes ≡ replicate 4096 0 → (pa : ℕ) → page_byte page pa ≡ 0
unfolding page_byte
zero_page page is pa = ap (λ bytes. slice_index bytes (pa % 4096)) is ∙ none_at 0 4096 (pa % 4096)

-- a page is zero where it is as one of zeros
pub zeros_decided : (page zeros : Page) (result : Bool) → ((pa : ℕ) → page_byte zeros pa ≡ 0)
    → Decides result ((pa : ℕ) → page_byte page pa ≡ page_byte zeros pa)
    → Decides result ((pa : ℕ) → page_byte page pa ≡ 0)
zeros_decided page zeros result zero decides =
    (λ known_files pa. decides.0 known_files pa ∙ zero pa, λ same. decides.1 (λ pa. same pa ∙ sym (zero pa)))

-- the byte at an address is that at each other with the same offset
pub same_offset : (page : Page) (number pa : ℕ) → page_byte page (number * 4096 + pa % 4096) ≡ page_byte page pa
unfolding page_byte
same_offset page number pa =
    let offset : (number * 4096 + pa % 4096) % 4096 ≡ pa % 4096 = grind arith in
    ap (slice_index page.bytes) offset

-- no page has the bytes of one that is zero
pub none_decided : (one other : Option (Bor Page)) (page : Bor Page) (result : Bool) → one ≡ None → other ≡ Some page
    → Decides result ((pa : ℕ) → page_byte page.now pa ≡ 0)
    → Decides result ((pa : ℕ) → byte_or_zero (option_copied one) pa ≡ byte_or_zero (option_copied other) pa)
none_decided one other page result none is decides =
    rw (none, is) (λ known_files pa. sym (decides.0 known_files pa), λ same. decides.1 (λ pa. sym (same pa)))

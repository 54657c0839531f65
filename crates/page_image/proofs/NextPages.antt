-- The next page of an image that holds a byte other than 0.
use Rattle.std.proofs.Common.{◌≡◌, ℕ, ◌*◌, ◌/◌, ◌%◌, ◌<◌, ◌≤◌, Bool, true, false, Option, Some, None, sym, ap, ◌∙◌, inl, inr}
use Rattle.std.proofs.Common.{arith, subst, refl, option_map, ◌+◌}
use Rattle.std.specs.Option.{IfSome}
use Rattle.std.specs.Prelude.{◌==◌, if◌then◌else◌}
use Rattle.std.specs.HashMap.{HashMap}
use Rattle.std.specs.Bool.{Decides}
use Rattle.image_text.proofs.Pages.{eq_same, eq_other}
use Rattle.std.proofs.lemmas.Bool.{cases_eq}
use Rattle.hart_words.specs.Memory.{Bytes}
use Rattle.page_image.specs.declared.page.Page.{Page}
use Rattle.page_image.specs.declared.image.PageImage.{PageImage}
use Rattle.page_image.specs.declared.shared_page.SharedPage.{SharedPage}
use Rattle.page_image.specs.declared.page_numbers.PageNumbers.{PageNumbers}
use Rattle.page_image.specs.PageNumbers.{Skips, has_number}
use Rattle.page_image.specs.Pages.{IsNonzero, byte_or_zero, page_at, page_byte}
use Rattle.page_image.specs.Bytes.{byte_of}
use Rattle.page_image.specs.NextPages.{FindsNextPage, IsZeroPage}
use Rattle.page_image.proofs.PageBytes.{same_offset}

-- each byte before a page is one of a page before it
pub before_page : (from number pa : ℕ) → from % 4096 ≡ 0 → from ≤ pa → pa < number * 4096
    → (from / 4096 ≤ pa / 4096) × (pa / 4096 < number)
before_page from number pa whole low high = (grind arith, grind arith)

-- what is found by the numbers of pages, where the pages that are skipped are zero and the one that is found is not
pub found_by_number : (bytes : Bytes) (from : ℕ) (found : Option ℕ) → from % 4096 ≡ 0
    → Skips (IsZeroPage bytes) (from / 4096) found → IfSome found (λ number. IsZeroPage bytes number → ⊥)
    → FindsNextPage bytes from (option_map (λ number. number * 4096) found)
found_by_number bytes from None whole skips nonzero =
    λ pa low high. skips (pa / 4096) (grind arith) (grind arith) pa refl
found_by_number bytes from (Some number) whole skips nonzero = record {
  after = grind (arith, skips.0);
  whole = grind arith;
  nonzero = let at : number * 4096 / 4096 ≡ number = grind arith in
      λ zero. nonzero (subst (IsZeroPage bytes) at zero);
  least = λ pa low high.
      let place = before_page from number pa whole low high in
      skips.2 (pa / 4096) place.0 place.1 pa refl;
}

-- a byte that is not other than 0 is 0
not_other : (byte : ℕ) → ((byte ≡ 0 → ⊥) → ⊥) → byte ≡ 0
not_other byte isnt = elim (cases_eq byte 0) [ inl is ↦ is | inr apart ↦ absurd (isnt apart) ]

differs : (b : Bool) → b ≡ false → b ≡ true → ⊥
differs true isnt is = absurd cc
differs false isnt is = absurd cc

-- a page that is not among those that hold a byte other than 0 is zero
pub unlisted_zero : (image : PageImage) (number : ℕ) → has_number image.nonzero number ≡ false
    → IsZeroPage (byte_of image) number
unfolding byte_of
unlisted_zero image number unlisted pa here =
    let zero : byte_or_zero (page_at image.pages number) pa ≡ 0 =
    not_other _ (λ other. differs _ unlisted ((image.listed number).1 (λ all. other (all pa)))) in
    ap (λ n. byte_or_zero (page_at image.pages n) pa) here ∙ zero

moved : (page : Option Page) (number pa : ℕ) → byte_or_zero page (number * 4096 + pa % 4096) ≡ byte_or_zero page pa
moved None number pa = refl
moved (Some page) number pa = same_offset page number pa

-- and one that is among them is not
pub listed_nonzero : (image : PageImage) (number : ℕ) → has_number image.nonzero number ≡ true
    → IsZeroPage (byte_of image) number → ⊥
unfolding byte_of
listed_nonzero image number listed zero =
    (image.listed number).0 listed (λ pa.
    let at = number * 4096 + pa % 4096 in
    let here : at / 4096 ≡ number = grind arith in
    sym (moved (page_at image.pages number) number pa)
    ∙ ap (λ n. byte_or_zero (page_at image.pages n) at) (sym here) ∙ zero at here)

-- a number is added to others
pub record Adds (before after : PageNumbers) (key : ℕ) : Type 0 where
  pub adds : (q : ℕ) → has_number after q ≡ (if q == key then true else has_number before q)

pub added_here : {before after : PageNumbers} {key : ℕ} → Adds before after key → has_number after key ≡ true
added_here {key} put = put.adds key ∙ rw (eq_same key) refl

pub added_still : {before after : PageNumbers} {key : ℕ} → Adds before after key → (q : ℕ)
    → has_number before q ≡ true → has_number after q ≡ true
added_still {key} put q was = elim (cases_eq q key) [
  | inl same ↦ put.adds q ∙ rw (same, eq_same key) refl
  | inr apart ↦ put.adds q ∙ rw (eq_other q key apart) was
]

pub added_sound : (P : ℕ → Type 0) {before after : PageNumbers} {key : ℕ} → Adds before after key → P key
    → ((q : ℕ) → has_number before q ≡ true → P q) → (q : ℕ) → has_number after q ≡ true → P q
added_sound P {before} {after} {key} put here sound q has = elim (cases_eq q key) [
  | inl same ↦ subst P (sym same) here
  | inr apart ↦
      let kept : has_number after q ≡ has_number before q = put.adds q ∙ rw (eq_other q key apart) refl in
      sound q (sym kept ∙ has)
]

-- a page that is kept at a number, tested for zeros
pub record IsTested {S : Type 0} (pages : HashMap ℕ SharedPage S) (key : ℕ) (page : Page) (zero : Bool)
    : Type 0 where
  pub kept : page_at pages key ≡ Some page
  pub decides : Decides zero ((pa : ℕ) → page_byte page pa ≡ 0)

pub tested_nonzero : {S : Type 0} {pages : HashMap ℕ SharedPage S} {key : ℕ} {page : Page} {zero : Bool}
    → IsTested pages key page zero → zero ≡ false → IsNonzero (page_at pages key)
tested_nonzero test isnt all =
    differs _ isnt (test.decides.1 (λ pa. ap (λ page. byte_or_zero page pa) (sym test.kept) ∙ all pa))

pub tested_zero : {S : Type 0} {pages : HashMap ℕ SharedPage S} {key : ℕ} {page : Page} {zero : Bool}
    → IsTested pages key page zero → zero ≡ true → IsNonzero (page_at pages key) → ⊥
tested_zero test is nonzero = nonzero (λ pa. ap (λ page. byte_or_zero page pa) test.kept ∙ test.decides.0 is pa)

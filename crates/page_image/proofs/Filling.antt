-- Pages filled one after another.
use Rattle.std.proofs.Common.{◌≡◌, ℕ, ◌/◌, ◌%◌, ◌<◌, cond, Option, Some, None, option_map, unwrap_or, slice_index, refl}
use Rattle.std.proofs.Common.{sym, ◌∙◌, subst, inl, inr, arith, nat_cmp}
use Rattle.std.proofs.Math.Path.{fun_ext}
use Rattle.std.specs.Prelude.{option_and_then, nat_eq}
use Rattle.std.specs.List.{slice_index_or}
use Rattle.std.specs.Ordering.{is_eq}
use Rattle.std.specs.BTreeMap as tree
use Rattle.std.specs.HashMap.{HashMap, get}
use Rattle.std.proofs.lemmas.Bool.{cases_eq}
use Rattle.image_text.proofs.Pages.{is_eq_other, eq_same, eq_other}
use Rattle.std.specs.Prelude.{Box}
use Rattle.std.proofs.Common.{Global}
use Rattle.image_text.specs.declared.pieces.PiecePage.{PiecePage}
use Rattle.image_text.specs.declared.pieces.Pieces.{Pieces}
use Rattle.image_text.specs.Bytes.{byte_at}
use Rattle.page_image.specs.declared.shared_page.SharedPage.{SharedPage}
use Rattle.page_image.specs.Pages.{byte_among, byte_or_zero}
use Rattle.page_image.specs.Pages as pages
use Rattle.page_image.specs.Bytes.{with_zeros}

-- the byte of a page that is made, else of one that is left to be made, else 0
abbrev pub over : {A B : Type 0} → (A → ℕ → ℕ) → (B → ℕ → ℕ) → Option A → Option B → ℕ → ℕ
over f g (Some page) left k = f page k
over f g None left k = unwrap_or (option_map (λ p. g p k) left) 0

-- the page of a number, one of the old ones, is made and no longer left to be made
pub record IsMade {A B : Type 0} (before after : ℕ → Option A) (left rest old : ℕ → Option B) (n : ℕ) (page : A) (p : B)
    : Type 0 where
  pub put : (q : ℕ) → after q ≡ cond (nat_eq n q) (Some page) (before q)
  pub taken : (q : ℕ) → left q ≡ cond (is_eq (nat_cmp q n)) (Some p) (rest q)
  pub found : old n ≡ Some p

-- one more page is made
pub one_more : {A B : Type 0} (f : A → ℕ → ℕ) (g : B → ℕ → ℕ) (k : ℕ) {before after : ℕ → Option A}
    {left rest old : ℕ → Option B} {n : ℕ} {page : A} {p : B} → IsMade before after left rest old n page p
    → f page k ≡ g p k
    → ((q : ℕ) → over f g (before q) (left q) k ≡ over f g None (old q) k)
    → (q : ℕ) → over f g (after q) (rest q) k ≡ over f g None (old q) k
one_more f g k {after} {rest} {old} {n} made same kept q =
    let P : ℕ → Type 0 = λ m. over f g (after m) (rest m) k ≡ over f g None (old m) k in
    elim (cases_eq n q) [
      | inl is ↦ subst P is (rw (made.put n, eq_same n, made.found) same)
      | inr apart ↦
          rw (made.put q, eq_other n q apart) (rw (made.taken q, is_eq_other q n (λ e. apart (sym e))) at (kept q))
    ]

-- a page that is made, or 0
made : {A B : Type 0} (f : A → ℕ → ℕ) (g : B → ℕ → ℕ) (new : Option A) (k : ℕ)
    → unwrap_or (option_map (λ page. f page k) new) 0 ≡ over f g new None k
made f g None k = refl
made f g (Some page) k = refl

-- a page of the pieces, or 0
given : {A B : Type 0} (f : A → ℕ → ℕ) (h : B → ℕ → Option ℕ) (old : Option B) (k : ℕ)
    → over f (λ p j. unwrap_or (h p j) 0) None old k ≡ unwrap_or (option_and_then (λ p. h p k) old) 0
given f h None k = refl
given f h (Some p) k = refl

-- a byte of a page by its offset
abbrev pub page_byte : SharedPage → ℕ → ℕ
page_byte page k = slice_index page.page.value.bytes k

-- a page that is made has its byte at an address, and where there is none it is 0
shown : (held : Option SharedPage) (pa : ℕ)
    → byte_or_zero (option_map (λ page. page.page.value) held) pa
    ≡ unwrap_or (option_map (λ page. page_byte page (pa % 4096)) held) 0
unfolding pages.page_byte
shown None pa = refl
shown (Some page) pa = refl

-- a byte of a page of pieces
abbrev pub piece_byte : Box PiecePage Global → ℕ → ℕ
piece_byte page k = unwrap_or (slice_index_or page.value.bytes k None) 0

pub all_made : {S : Type 0} (pages : HashMap ℕ SharedPage S) (pieces : Pieces)
    → ((q k : ℕ) → k < 4096
    → over page_byte piece_byte (get nat_eq pages q) None k
    ≡ over page_byte piece_byte None (tree.get nat_cmp pieces.pages q) k)
    → byte_among pages ≡ with_zeros (byte_at pieces)
unfolding byte_at
all_made pages pieces kept =
    fun_ext
    (λ a. shown (get nat_eq pages (a / 4096)) a
    ∙ made page_byte piece_byte (get nat_eq pages (a / 4096)) (a % 4096)
    ∙ kept (a / 4096) (a % 4096) (grind arith)
    ∙ given page_byte (λ p j. slice_index_or p.value.bytes j None) (tree.get nat_cmp pieces.pages (a / 4096))
    (a % 4096))

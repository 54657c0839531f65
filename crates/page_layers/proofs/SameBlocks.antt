-- Whether two memories have the same bytes.
use Rattle.std.proofs.Common.{◌≡◌, ℕ, ◌+◌, ◌*◌, ◌/◌, ◌%◌, ◌^◌, ◌<◌, ◌≤◌, ◌⊎◌, true, false, Bool, Option, Some, None}
use Rattle.std.proofs.Common.{option_map, is_some, unwrap_or, List, [], ◌∷◌, refl, sym, ap, ◌∙◌, subst, inl, inr, arith}
use Rattle.std.proofs.Common.{length, slice_index}
use Rattle.std.specs.Prelude.{nat_eq}
use Rattle.std.specs.Bool.{Decides}
use Rattle.std.specs.HashMap.{get}
use Rattle.std.specs.Option.{option_or}
use Rattle.std.specs.Set.{is_member}
use Rattle.std.proofs.Math.Path.{fun_ext}
use Rattle.std.proofs.lemmas.Bool.{cases_eq, cases_lt}
use Rattle.image_text.proofs.Pages.{eq_other}
use Rattle.hart_words.specs.Memory.{Bytes}
use Rattle.page_image.specs.declared.page.Page.{Page}
use Rattle.page_image.specs.declared.image.PageImage.{PageImage}
use Rattle.page_image.specs.Pages.{byte_or_zero, page_of}
use Rattle.page_image.specs.Bytes.{byte_of}
use Rattle.page_image.proofs.PageBytes.{same_offset}
use Rattle.page_layers.specs.declared.block.Block.{Block}
use Rattle.page_layers.specs.declared.blocks.Blocks.{Blocks}
use Rattle.page_layers.specs.declared.layers.Layer.{Layer}
use Rattle.page_layers.specs.declared.layered.Layered.{Layered}
use Rattle.page_layers.specs.Blocks.{block_at, block_byte}
use Rattle.page_layers.specs.Layers.{block_among, newest_block}
use Rattle.page_layers.specs.Memories.{written_block_of, bytes_under, layered_bytes, IsSameBlock, IsZeroBlock}
use Rattle.page_layers.proofs.BlockMaps.{far}
use Rattle.page_layers.proofs.LayeredBytes.{block_absent}

pub moved : (block : Block) (number pa : ℕ) → block_byte block (number * 64 + pa % 64) ≡ block_byte block pa
unfolding block_byte
moved block number pa =
    let offset : (number * 64 + pa % 64) % 64 ≡ pa % 64 = grind arith in
    ap (slice_index block.bytes) offset

-- a block of two memories is the same where the values that they have of it are
pub block_decided : {one other : Bytes} (block others : Block) (number : ℕ) (result : Bool)
    → ((pa : ℕ) → pa / 64 ≡ number → block_byte block pa ≡ one pa)
    → ((pa : ℕ) → pa / 64 ≡ number → block_byte others pa ≡ other pa)
    → Decides result ((pa : ℕ) → block_byte block pa ≡ block_byte others pa)
    → Decides result ((pa : ℕ) → pa / 64 ≡ number → one pa ≡ other pa)
block_decided block others number result has others_has decides = (
  (λ known_files pa here. sym (has pa here) ∙ decides.0 known_files pa ∙ others_has pa here),
  (λ same. decides.1 (λ pa.
      let at = number * 64 + pa % 64 in
      let here : at / 64 ≡ number = grind arith in
      sym (moved block number pa) ∙ has at here ∙ same at here ∙ sym (others_has at here) ∙ moved others number pa)),
)

-- a block that is not the same refutes the memories
pub refuted : (one other : Layered) (number : ℕ) (result : Bool) → Decides result (IsSameBlock one other number)
    → result ≡ false → layered_bytes one ≡ layered_bytes other → false ≡ true
refuted one other number result decides isnt same = sym isnt ∙ decides.1 (λ pa here. ap (λ bytes. bytes pa) same)

-- of the keys that are left, one is done
pub key_done : (P : ℕ → Type 0) (key : ℕ) (rest later : List ℕ) → rest ≡ key ∷ later → P key → (q : ℕ)
    → (is_member nat_eq rest q ≡ true) ⊎ P q → (is_member nat_eq later q ≡ true) ⊎ P q
key_done P key rest later is done q (inr before) = inr before
key_done P key rest later is done q (inl left) = elim (cases_eq q key) [
  | inl same ↦ inr (subst P (sym same) done)
  | inr apart ↦
      let member : is_member nat_eq (key ∷ later) q ≡ true = ap (λ keys. is_member nat_eq keys q) (sym is) ∙ left in
      inl (rw (eq_other q key apart) at member)
]

pub all_done : (P : ℕ → Type 0) (rest : List ℕ) → rest ≡ [] → (q : ℕ) → (is_member nat_eq rest q ≡ true) ⊎ P q → P q
all_done P rest is q (inr done) = done
all_done P rest is q (inl left) = let never : false ≡ true = ap (λ keys. is_member nat_eq keys q) (sym is) ∙ left in cc

-- a number that does not fit has no block in layers
far_among : (layers : List Layer) (number : ℕ) → 2 ^ 64 ≤ number → block_among layers number ≡ None
unfolding block_among
far_among [] number large = refl
far_among (layer ∷ layers) number large = rw (far layer.blocks.value.blocks number large) (far_among layers number large)

pub far_of : (mem : Layered) (number : ℕ) → 2 ^ 64 ≤ number → written_block_of mem number ≡ None
far_of mem number large = rw (far mem.written number large) (far_among mem.layers.items number large)

page_moved : (page : Option Page) (number pa : ℕ) → byte_or_zero page (number * 4096 + pa % 4096) ≡ byte_or_zero page pa
page_moved None number pa = refl
page_moved (Some page) number pa = same_offset page number pa

-- an image has this page, or none, at a number
pub record HasPage (image : PageImage) (number : ℕ) (page : Option Page) : Type 0 where
  pub bytes : (pa : ℕ) → pa / 4096 ≡ number → byte_of image pa ≡ byte_or_zero page pa

-- a page so far up that no block of it was written is that of the images
pub far_page : (one other : Layered) {number : ℕ} {page others : Option Page} (result : Bool)
    → (number * 64 < 2 ^ 64 → ⊥) → HasPage one.image.now number page → HasPage other.image.now number others
    → Decides result ((pa : ℕ) → byte_or_zero page pa ≡ byte_or_zero others pa)
    → Decides result ((pa : ℕ) → pa / 4096 ≡ number → layered_bytes one pa ≡ layered_bytes other pa)
far_page one other {number} {page} {others} result up has others_has decides = (
  (λ known_files pa here. of one pa here ∙ has.bytes pa here ∙ decides.0 known_files pa
      ∙ sym (others_has.bytes pa here) ∙ sym (of other pa here)),
  (λ same. decides.1 (λ pa.
      let at = number * 4096 + pa % 4096 in
      let here : at / 4096 ≡ number = grind arith in
      sym (page_moved page number pa) ∙ sym (has.bytes at here) ∙ sym (of one at here) ∙ same at here
      ∙ of other at here ∙ others_has.bytes at here ∙ page_moved others number pa)),
)
  where
    of : (mem : Layered) (pa : ℕ) → pa / 4096 ≡ number → layered_bytes mem pa ≡ byte_of mem.image.now pa
    of mem pa here =
        block_absent mem (pa / 64)
        (far_of mem (pa / 64)
        (elim (cases_lt (number * 64) (2 ^ 64))
        [ inl below ↦ absurd (up below) | inr above ↦ omega (arith, here, above) ])) pa refl

-- what no layer has is in none of them
pub in_layers : (P : Type 0) {layer : Blocks} {first : Layer} {layers older : List Layer} (number : ℕ)
    → layers ≡ first ∷ older → layer ≡ first.blocks.value.blocks → is_some (block_among layers number) ≡ true
    → (is_some (block_at layer number) ≡ true → P) → (is_some (block_among older number) ≡ true → P) → P
unfolding block_among
in_layers P {first} {older} number are is there here below =
    by_first (block_at first.blocks.value.blocks number) refl (ap (λ l. is_some (block_among l number)) (sym are) ∙ there)
  where
    by_first : (found : Option Block) → block_at first.blocks.value.blocks number ≡ found
        → is_some (option_or (block_at first.blocks.value.blocks number) (block_among older number)) ≡ true → P
    by_first None none there = below (ap (λ f. is_some (option_or f (block_among older number))) (sym none) ∙ there)
    by_first (Some block) found there = here (ap (λ blocks. is_some (block_at blocks number)) is ∙ ap is_some found)

pub in_none : (P : Type 0) (layers : List Layer) (number : ℕ) → length layers ≡ 0
    → is_some (block_among layers number) ≡ true → P
unfolding block_among
in_none P [] number is there = cc
in_none P (layer ∷ layers) number is there = absurd (omega (arith, is))

-- what is in neither is not the newest
pub in_newest : (P : Type 0) (written : Blocks) (layers : List Layer) (number : ℕ)
    → is_some (newest_block written layers number) ≡ true → (is_some (block_at written number) ≡ true → P)
    → (is_some (block_among layers number) ≡ true → P) → P
in_newest P written layers number there here below = by_block (block_at written number) refl
  where
    by_block : (found : Option Block) → block_at written number ≡ found → P
    by_block None none = below (ap (λ f. is_some (option_or f (block_among layers number))) (sym none) ∙ there)
    by_block (Some block) found = here (ap is_some found)

none_is : {X : Type 0} (o : Option X) → is_some o ≡ false → o ≡ None
none_is None isnt = refl
none_is (Some x) isnt = cc

-- what was not written and is in no page of the image is zero
zero_block : (written : Blocks) (layers : List Layer) (image : PageImage) (number : ℕ)
    → newest_block written layers number ≡ None → get nat_eq image.pages (number / 64) ≡ None
    → IsZeroBlock (bytes_under written layers image) number
unfolding byte_of
zero_block written layers image number none no_page pa here =
    let place : pa / 4096 ≡ number / 64 = grind arith in
    let page : get nat_eq image.pages (pa / 4096) ≡ None = ap (get nat_eq image.pages) place ∙ no_page in
    let block : newest_block written layers (pa / 64) ≡ None = ap (newest_block written layers) here ∙ none in
    ap (λ found. unwrap_or (option_map (λ b. block_byte b pa) found) (byte_of image pa)) block
    ∙ ap (λ page. byte_or_zero (page_of page) pa) page

-- what is the same in each block and in each page of the image is the same wherever it is not zero
pub same_or_zero : (P : ℕ → Type 0) (written : Blocks) (layers : List Layer) (image : PageImage)
    → ((number : ℕ) → is_some (newest_block written layers number) ≡ true → P number)
    → ((number : ℕ) → is_some (get nat_eq image.pages (number / 64)) ≡ true → P number)
    → (number : ℕ) → IsZeroBlock (bytes_under written layers image) number ⊎ P number
same_or_zero P written layers image blocks images number =
    by_found (is_some (newest_block written layers number)) (is_some (get nat_eq image.pages (number / 64))) refl refl
  where
    by_found : (b p : Bool) → is_some (newest_block written layers number) ≡ b
        → is_some (get nat_eq image.pages (number / 64)) ≡ p
        → IsZeroBlock (bytes_under written layers image) number ⊎ P number
    by_found true p is_block is_page = inr (blocks number is_block)
    by_found false true is_block is_page = inr (images number is_page)
    by_found false false is_block is_page =
        inl (zero_block written layers image number (none_is _ is_block) (none_is _ is_page))

-- memories that are the same wherever one of them is not zero are the same
same_all : (one other : Layered)
    → ((number : ℕ) → IsZeroBlock (layered_bytes one) number ⊎ IsSameBlock one other number)
    → ((number : ℕ) → IsZeroBlock (layered_bytes other) number ⊎ IsSameBlock one other number)
    → layered_bytes one ≡ layered_bytes other
same_all one other here there = fun_ext (λ pa. elim (here (pa / 64)) [
  | inr same ↦ same pa refl
  | inl zero ↦ elim (there (pa / 64)) [ inr same ↦ same pa refl | inl zeros ↦ zero pa refl ∙ sym (zeros pa refl) ]
])

pub same_all_seen : (one other : Layered) (layers others : List Layer) → layers ≡ one.layers.items
    → others ≡ other.layers.items
    → ((number : ℕ)
    → IsZeroBlock (bytes_under one.written layers one.image.now) number ⊎ IsSameBlock one other number)
    → ((number : ℕ)
    → IsZeroBlock (bytes_under other.written others other.image.now) number ⊎ IsSameBlock one other number)
    → layered_bytes one ≡ layered_bytes other
same_all_seen one other layers others are others_are here there = same_all one other
    (subst
    (λ l. (number : ℕ)
    → IsZeroBlock (bytes_under one.written l one.image.now) number ⊎ IsSameBlock one other number) are here)
    (subst
    (λ l. (number : ℕ)
    → IsZeroBlock (bytes_under other.written l other.image.now) number ⊎ IsSameBlock one other number) others_are
    there)

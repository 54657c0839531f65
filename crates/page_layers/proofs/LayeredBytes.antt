-- The bytes of an image under blocks and layers.
use Rattle.std.proofs.Common.{◌≡◌, ℕ, ◌/◌, ◌%◌, ◌+◌, ◌≤◌, inl, inr, true, false, Bool, Option, Some, None, option_map, unwrap_or, List, [], refl}
use Rattle.std.proofs.Common.{sym, ap, ◌∙◌, if◌then◌else◌}
use Rattle.std.specs.Option.{option_or}
use Rattle.std.proofs.Math.Path.{fun_ext}
use Rattle.std.proofs.lemmas.Bool.{cases_eq}
use Rattle.image_text.proofs.Pages.{eq_same, eq_other}
use Rattle.hart_words.specs.Memory.{Bytes, bytes_after_store}
use Rattle.hart_words.proofs.Stores.{stored-outside}
use Rattle.page_image.specs.declared.image.PageImage.{PageImage}
use Rattle.page_image.specs.Bytes.{byte_of}
use Rattle.page_layers.specs.declared.block.Block.{Block}
use Rattle.page_layers.specs.declared.blocks.Blocks.{Blocks}
use Rattle.page_layers.specs.declared.layers.Layer.{Layer}
use Rattle.page_layers.specs.declared.layered.Layered.{Layered}
use Rattle.page_layers.specs.Blocks.{block_at, block_byte, bytes_in, over}
use Rattle.page_layers.specs.Layers.{block_among, newest_block}
use Rattle.page_layers.specs.Memories.{written_block_of, bytes_under, layered_bytes}
use Rattle.page_layers.proofs.BlockMaps.{SetsBlock, outside, stored-congr}

abbrev seen : ℕ → ℕ → Option Block → ℕ
seen pa base block = unwrap_or (option_map (λ b. block_byte b pa) block) base

-- what was not written is the image's
pub under_none : (written : Blocks) (layers : List Layer) (image : PageImage)
    → ((number : ℕ) → block_at written number ≡ None) → layers ≡ [] → bytes_under written layers image ≡ byte_of image
unfolding block_among
under_none written layers image none no_layer = fun_ext (λ pa.
    ap (seen pa (byte_of image pa))
    (ap (λ found. option_or found (block_among layers (pa / 64))) (none (pa / 64))
    ∙ ap (λ l. block_among l (pa / 64)) no_layer))

pub block_there : (mem : Layered) (number : ℕ) (block : Block) → written_block_of mem number ≡ Some block → (pa : ℕ)
    → pa / 64 ≡ number → layered_bytes mem pa ≡ block_byte block pa
block_there mem number block is pa here = ap (seen pa (byte_of mem.image.now pa)) (ap (written_block_of mem) here ∙ is)

pub block_absent : (mem : Layered) (number : ℕ) → written_block_of mem number ≡ None → (pa : ℕ) → pa / 64 ≡ number
    → layered_bytes mem pa ≡ byte_of mem.image.now pa
block_absent mem number is pa here = ap (seen pa (byte_of mem.image.now pa)) (ap (written_block_of mem) here ∙ is)

-- the layers are the base of what was written since
two_bases : (pa base : ℕ) (found below : Option Block)
    → seen pa base (option_or found below) ≡ seen pa (seen pa base below) found
two_bases pa base None below = refl
two_bases pa base (Some block) below = refl

written_over : (written : Blocks) (layers : List Layer) (image : PageImage)
    → bytes_under written layers image
    ≡ over (bytes_in (block_at written)) (over (bytes_in (block_among layers)) (byte_of image))
written_over written layers image =
    fun_ext (λ pa. two_bases pa (byte_of image pa) (block_at written (pa / 64)) (block_among layers (pa / 64)))

over_same : (before after : Blocks) (layers : List Layer) (image : PageImage)
    → over (bytes_in (block_at after)) (over (bytes_in (block_among layers)) (byte_of image))
    ≡ over (bytes_in (block_at before)) (over (bytes_in (block_among layers)) (byte_of image))
    → bytes_under after layers image ≡ bytes_under before layers image
over_same before after layers image same =
    written_over after layers image ∙ same ∙ sym (written_over before layers image)

over_changed : (before after : Blocks) (layers : List Layer) (image : PageImage) (change : Bytes → Bytes)
    → over (bytes_in (block_at after)) (over (bytes_in (block_among layers)) (byte_of image))
    ≡ change (over (bytes_in (block_at before)) (over (bytes_in (block_among layers)) (byte_of image)))
    → bytes_under after layers image ≡ change (bytes_under before layers image)
over_changed before after layers image change is =
    written_over after layers image ∙ is ∙ ap change (sym (written_over before layers image))

-- a change of the bytes that blocks make over any others is one of the bytes that they make here
pub put_under : (before after : Blocks) (layers : List Layer) (image : PageImage) (done : Bool)
    (change : Bytes → Bytes)
    → ((base : Bytes)
    → over (bytes_in (block_at after)) base
    ≡ (if done then change (over (bytes_in (block_at before)) base) else over (bytes_in (block_at before)) base))
    → bytes_under after layers image
    ≡ (if done then change (bytes_under before layers image) else bytes_under before layers image)
put_under before after layers image true change puts = over_changed before after layers image change (puts _)
put_under before after layers image false change puts = over_same before after layers image (puts _)

-- a block that is set with a number in it, of the bytes that were there, is the number's store
pub set_under : (before after : Blocks) (layers : List Layer) (image : PageImage) (old : Block) {new : Block}
    (pa len value : ℕ)
    → pa % 64 + len ≤ 64 → SetsBlock (block_at before) (block_at after) (pa / 64) new
    → ((at : ℕ) → at / 64 ≡ pa / 64 → block_byte old at ≡ bytes_under before layers image at)
    → ((at : ℕ) → at / 64 ≡ pa / 64 → block_byte new at ≡ bytes_after_store pa len value (block_byte old) at)
    → bytes_under after layers image ≡ bytes_after_store pa len value (bytes_under before layers image)
set_under before after layers image old pa len value inside set has puts = fun_ext (λ at.
    let found : Option Block → ℕ =
    λ block. seen at (byte_of image at) (option_or block (block_among layers (at / 64))) in
    elim (cases_eq (at / 64) (pa / 64)) [
      | inl here ↦
          ap found (set.sets (at / 64)) ∙ rw (here, eq_same (pa / 64)) (puts at here)
          ∙ stored-congr pa len value at (block_byte old) (bytes_under before layers image) (has at here)
      | inr apart ↦
          ap found (set.sets (at / 64) ∙ rw (eq_other (at / 64) (pa / 64) apart) refl)
          ∙ sym (stored-outside pa len value at (bytes_under before layers image) (outside pa len at inside apart))
    ])

-- memories whose blocks are the same have the same bytes
pub same_under : (one other : Blocks) (layers others : List Layer) (image : PageImage)
    → ((number : ℕ) → newest_block other others number ≡ newest_block one layers number)
    → bytes_under other others image ≡ bytes_under one layers image
same_under one other layers others image same = fun_ext (λ pa. ap (seen pa (byte_of image pa)) (same (pa / 64)))

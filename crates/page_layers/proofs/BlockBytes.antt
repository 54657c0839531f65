-- The bytes of a block, address by address.
use Rattle.std.proofs.Common.{◌≡◌, ℕ, ◌/◌, ◌%◌, ◌*◌, ◌+◌, ◌^◌, ◌<◌, ◌≤◌, Bool, length, set, replicate, sym, ◌∙◌, ap}
use Rattle.std.proofs.Common.{subst, lit<}
use Rattle.std.proofs.Common.{inl, inr, arith, if◌then◌else◌, slice_index}
use Rattle.std.specs.Prelude.{◌==◌}
use Rattle.std.specs.Bool.{Decides}
use Rattle.std.proofs.Math.Nat.{mod-eq_of_lt, mod-lt}
use Rattle.std.proofs.lemmas.Bool.{cases_eq}
use Rattle.std.proofs.lemmas.Bool.Decides.{nat_tests}
use Rattle.std.proofs.lemmas.Grind.{same_number_lists}
use Rattle.image_text.proofs.Pages.{eq_same, eq_other, none_at, set_at}
use Rattle.hart_words.specs.Memory.{Bytes, bytes_after_store}
use Rattle.page_image.specs.declared.page.Page.{Page}
use Rattle.page_image.specs.Pages.{page_byte}
use Rattle.page_image.proofs.Stored.{stored-byte, stored-more}
use Rattle.page_layers.specs.declared.block.Block.{Block}
use Rattle.page_layers.specs.Blocks.{block_byte}

same_place : (at pa : ℕ) → at / 64 ≡ pa / 64 → (at % 64 == pa % 64) ≡ (at == pa)
same_place at pa in_block = grind (arith, nat_tests)

-- a byte of a block is set
pub byte_set : (old new : Block) (pa value at : ℕ) → new.bytes ≡ set old.bytes (pa % 64) value → at / 64 ≡ pa / 64
    → block_byte new at ≡ (if at == pa then value else block_byte old at)
unfolding block_byte
byte_set old new pa value at is in_block =
    let below : pa % 64 < length old.bytes = omega (arith, old.full) in
    ap (λ bytes. slice_index bytes (at % 64)) is
    ∙ set_at old.bytes (pa % 64) (at % 64) value _ below
    ∙ ap (λ here. if here then value else slice_index old.bytes (at % 64)) (same_place at pa in_block)

-- blocks with the same bytes at each address
same_blocks : (one other : Block) → ((pa : ℕ) → block_byte one pa ≡ block_byte other pa) → one.bytes ≡ other.bytes
unfolding block_byte
same_blocks one other same = same_number_lists one.bytes other.bytes (one.full ∙ sym other.full) (λ k below.
    let small : k < 64 = omega (arith, below, one.full) in
    rw (mod-eq_of_lt small) at (same k))

block_bytes_same : (one other : Block) → one.bytes ≡ other.bytes → (pa : ℕ) → block_byte one pa ≡ block_byte other pa
unfolding block_byte
block_bytes_same one other is pa = ap (λ bytes. slice_index bytes (pa % 64)) is

pub blocks_decided : (one other : Block) (result : Bool) → Decides result (one.bytes ≡ other.bytes)
    → Decides result ((pa : ℕ) → block_byte one pa ≡ block_byte other pa)
blocks_decided one other result decides =
    (λ yes. block_bytes_same one other (decides.0 yes), λ same. decides.1 (same_blocks one other same))

pub zero_block : (block : Block) → block.bytes ≡ replicate 64 0 → (pa : ℕ) → block_byte block pa ≡ 0
unfolding block_byte
zero_block block is pa = ap (λ bytes. slice_index bytes (pa % 64)) is ∙ none_at 0 64 (pa % 64)

-- all of a number within a block
pub same_block : (pa len k : ℕ) → pa % 64 + len ≤ 64 → k < len → (pa + k) / 64 ≡ pa / 64
same_block pa len k inside below = grind arith

-- in the block of an address its byte is set, and each other stays
pub record SetsByte (before after : Bytes) (pa byte : ℕ) : Type 0 where
  pub sets : (at : ℕ) → at / 64 ≡ pa / 64 → after at ≡ (if at == pa then byte else before at)

-- a byte of a number within a block
pub record IsByteOf (pa len k : ℕ) : Type 0 where
  pub inside : pa % 64 + len ≤ 64
  pub below : k < len

-- one more byte is put in a block
pub put_more : (start : Bytes) {before after : Bytes} {pa len k : ℕ} (value : ℕ) {byte : ℕ} (at : ℕ)
    → byte ≡ value / 256 ^ k % 256 → IsByteOf pa len k → at / 64 ≡ pa / 64 → SetsByte before after (pa + k) byte
    → before at ≡ bytes_after_store pa k value start at
    → after at ≡ bytes_after_store pa (k + 1) value start at
put_more start {pa} {len} {k} value {byte} at is byte_of in_block set done =
    let small : byte < 256 = subst (λ n. n < 256) (sym is) (mod-lt (value / 256 ^ k) (lit< tt)) in
    set.sets at (in_block ∙ sym (same_block pa len k byte_of.inside byte_of.below))
    ∙ ap (λ b. if at == pa + k then byte else b) done
    ∙ sym (stored-byte (pa + k) byte at (bytes_after_store pa k value start) small)
    ∙ ap (λ bytes. bytes at) (stored-more pa k value byte start is small)

-- the first bytes of a block, with one more
pub one_more_byte : {old new : Bytes} (page : Page) (first : ℕ) {k byte : ℕ} → k < 64
    → byte ≡ page_byte page (first + k) → SetsByte old new k byte
    → ((j : ℕ) → j < k → old j ≡ page_byte page (first + j))
    → (j : ℕ) → j < k + 1 → new j ≡ page_byte page (first + j)
one_more_byte page first {k} small is set before j below =
    let here : j / 64 ≡ k / 64 = omega (arith, small, below) in
    elim (cases_eq j k) [
      | inl same ↦ set.sets j here ∙ rw (same, eq_same k) is
      | inr apart ↦ set.sets j here ∙ rw (eq_other j k apart) (before j (omega (arith, below, apart)))
    ]

-- a block that has its page's bytes from its place on has them at each of its addresses
pub block_of_page : (block : Block) (page : Page) (number first : ℕ) → first ≡ number % 64 * 64
    → ((j : ℕ) → j < 64 → block_byte block j ≡ page_byte page (first + j)) → (pa : ℕ) → pa / 64 ≡ number
    → block_byte block pa ≡ page_byte page pa
unfolding block_byte page_byte
block_of_page block page number first start has pa here =
    let offset : pa % 64 % 64 ≡ pa % 64 = omega arith in
    let place : (first + pa % 64) % 4096 ≡ pa % 4096 = grind arith in
    ap (slice_index block.bytes) (sym offset) ∙ has (pa % 64) (omega arith) ∙ ap (slice_index page.bytes) place

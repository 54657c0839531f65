-- The next page of a memory that holds a byte other than 0.
use Rattle.std.proofs.Common.{◌≡◌, ℕ, ◌+◌, ◌*◌, ◌/◌, ◌%◌, ◌^◌, ◌<◌, ◌≤◌, ◌⊎◌, Bool, true, false, Option, Some, None, option_map, is_some}
use Rattle.std.proofs.Common.{List, [], ◌∷◌, length, refl, sym, ap, ◌∙◌, subst, inl, inr, arith, if◌then◌else◌}
use Rattle.std.specs.Prelude.{nat_lt}
use Rattle.std.specs.Bool.{Decides}
use Rattle.std.specs.Option.{IfSome, option_or}
use Rattle.std.proofs.lemmas.Bool.{cases_lt}
use Rattle.std.proofs.lemmas.Bool.Decides.{nat_tests}
use Rattle.hart_words.specs.Memory.{Bytes}
use Rattle.page_image.specs.declared.page_numbers.TheConstants.{PAGES}
use Rattle.page_image.specs.PageNumbers.{Skips}
use Rattle.page_image.specs.Bytes.{byte_of}
use Rattle.page_image.specs.NextPages.{FindsNextPage, IsZeroPage}
use Rattle.page_layers.specs.declared.block.Block.{Block}
use Rattle.page_layers.specs.declared.blocks.Blocks.{Blocks}
use Rattle.page_layers.specs.declared.layers.Layer.{Layer}
use Rattle.page_layers.specs.declared.layered.Layered.{Layered}
use Rattle.page_layers.specs.Blocks.{HasNoBlock, block_at, block_byte}
use Rattle.page_layers.specs.Layers.{block_among, newest_block}
use Rattle.page_layers.specs.Memories.{IsZeroBlock, layered_bytes}
use Rattle.page_layers.specs.NextPages.{earlier}
use Rattle.page_layers.proofs.LayeredBytes.{block_absent}
use Rattle.page_layers.proofs.SameBlocks.{moved}

-- a block of a memory is zero where the value that it has of it is
pub zero_block_decided : {bytes : Bytes} (block : Block) (number : ℕ) (result : Bool)
    → ((pa : ℕ) → pa / 64 ≡ number → block_byte block pa ≡ bytes pa)
    → Decides result ((pa : ℕ) → block_byte block pa ≡ 0) → Decides result (IsZeroBlock bytes number)
zero_block_decided block number result has decides = (
  (λ is pa here. sym (has pa here) ∙ decides.0 is pa),
  (λ zero. decides.1 (λ pa.
      let at = number * 64 + pa % 64 in
      let here : at / 64 ≡ number = grind arith in
      sym (moved block number pa) ∙ has at here ∙ zero at here)),
)

-- a page is zero where each of its blocks is
pub blocks_zero : (bytes : Bytes) (page : ℕ)
    → ((number : ℕ) → page * 64 ≤ number → number < page * 64 + 64 → IsZeroBlock bytes number) → IsZeroPage bytes page
blocks_zero bytes page zero pa here = zero (pa / 64) (grind (arith, here)) (grind (arith, here)) pa refl

pub block_of_page : (bytes : Bytes) (page k : ℕ) → k < 64 → IsZeroPage bytes page → IsZeroBlock bytes (page * 64 + k)
block_of_page bytes page k below zero pa here = zero pa (grind (arith, here, below))

-- of two numbers the first, where what is skipped of both has a property
pub skips_both : (P Q R : ℕ → Type 0) (least : ℕ) (one other : Option ℕ) → ((q : ℕ) → P q → Q q → R q)
    → Skips P least one → Skips Q least other → Skips R least (earlier one other)
skips_both P Q R least None None join p o = λ q low high. join q (p q low high) (o q low high)
skips_both P Q R least None (Some m) join p o =
    (o.0, o.1, λ q low below. join q (p q low (omega (arith, below, o.1))) (o.2 q low below))
skips_both P Q R least (Some n) None join p o =
    (p.0, p.1, λ q low below. join q (p.2 q low below) (o q low (omega (arith, below, p.1))))
skips_both P Q R least (Some n) (Some m) join p o = by (nat_lt m n) refl
  where
    by : (less : Bool) → nat_lt m n ≡ less → Skips R least (if less then Some m else Some n)
    by true is =
        let under : m < n = grind (arith, nat_tests, is) in
        (o.0, o.1, λ q low below. join q (p.2 q low (omega (arith, below, under))) (o.2 q low below))
    by false is =
        let upto : n ≤ m = grind (arith, nat_tests, is) in
        (p.0, p.1, λ q low below. join q (p.2 q low below) (o.2 q low (omega (arith, below, upto))))

-- a page in which no block was written is the image's
pub zero_by_image : (mem : Layered) (page : ℕ) → IsZeroPage (byte_of mem.image.now) page
    → (HasNoBlock (block_at mem.written) page × HasNoBlock (block_among mem.layers.items) page)
    → IsZeroPage (layered_bytes mem) page
zero_by_image mem page zero none pa here =
    let place : pa / 64 / 64 ≡ page = grind (arith, here) in
    let newest : newest_block mem.written mem.layers.items (pa / 64) ≡ None =
    ap (λ found. option_or found (block_among mem.layers.items (pa / 64))) (none.0 (pa / 64) place)
    ∙ none.1 (pa / 64) place in
    block_absent mem (pa / 64) newest pa refl ∙ zero pa here

-- no block of a page is in layers where none is in the first, and none in the others
pub none_in_layers : {layers older : List Layer} {layer : Layer} → layers ≡ layer ∷ older → (page : ℕ)
    → HasNoBlock (block_at layer.blocks.value.blocks) page → HasNoBlock (block_among older) page
    → HasNoBlock (block_among layers) page
unfolding block_among
none_in_layers {layers} {older} {layer} are page first others number here =
    ap (λ l. block_among l number) are
    ∙ ap (λ found. option_or found (block_among older number)) (first number here) ∙ others number here

pub none_in_none : (layers : List Layer) → length layers ≡ 0 → (page : ℕ) → HasNoBlock (block_among layers) page
unfolding block_among
none_in_none [] is page number here = refl
none_in_none (layer ∷ layers) is page number here = absurd (omega (arith, is))

-- a page is found at or before a number
abbrev pub IsFoundBy : ℕ → Option ℕ → Type 0
IsFoundBy page None = ⊥
IsFoundBy page (Some found) = found ≤ page

-- what is found lies in the bounds
abbrev pub IsBetween : ℕ → Option ℕ → Type 0
IsBetween least None = Unit {0}
IsBetween least (Some found) = (least ≤ found) × (found < PAGES)

pub earlier_between : (least : ℕ) (one other : Option ℕ) → IsBetween least one → IsBetween least other
    → IsBetween least (earlier one other)
earlier_between least None other p o = o
earlier_between least (Some n) None p o = p
earlier_between least (Some n) (Some m) p o = by (nat_lt m n)
  where
    by : (less : Bool) → IsBetween least (if less then Some m else Some n)
    by true = o
    by false = p

pub earlier_found : (page : ℕ) (one other : Option ℕ) → IsFoundBy page one ⊎ IsFoundBy page other
    → IsFoundBy page (earlier one other)
earlier_found page None other (inl never) = absurd never
earlier_found page None other (inr found) = found
earlier_found page (Some n) None (inl found) = found
earlier_found page (Some n) None (inr never) = absurd never
earlier_found page (Some n) (Some m) found = by (nat_lt m n) refl found
  where
    by : (less : Bool) → nat_lt m n ≡ less → (n ≤ page) ⊎ (m ≤ page)
        → IsFoundBy page (if less then Some m else Some n)
    by true is (inl first) = grind (arith, nat_tests, is, first)
    by true is (inr second) = second
    by false is (inl first) = first
    by false is (inr second) = grind (arith, nat_tests, is, second)

-- each block in the bounds has its page found
abbrev pub IsSeen : Blocks → ℕ → Option ℕ → ℕ → Type 0
IsSeen blocks least found number = least ≤ number / 64 → number / 64 < PAGES → IsFoundBy (number / 64) found

-- where each block has its page found, those that are skipped have none
pub skips_unseen : (blocks : Blocks) (least : ℕ) (found : Option ℕ) → IsBetween least found
    → ((number : ℕ) → is_some (block_at blocks number) ≡ true → IsSeen blocks least found number)
    → Skips (HasNoBlock (block_at blocks)) least found
skips_unseen blocks least None between seen =
    λ page low high number here. none (block_at blocks number) refl
    (λ there. seen number there (omega (arith, low, here)) (omega (arith, high, here)))
  where
    none : (block : Option Block) {whole : Option Block} → whole ≡ block → (is_some whole ≡ true → ⊥) → whole ≡ None
    none None is never = is
    none (Some block) is never = absurd (never (ap is_some is))
skips_unseen blocks least (Some page) between seen = (
  between.0,
  between.1,
  λ q low below number here.
      none (block_at blocks number) refl (λ there.
      let first : page ≤ number / 64 =
      seen number there (omega (arith, low, here)) (omega (arith, below, here, between.1)) in
      omega (arith, first, below, here)),
)
  where
    none : (block : Option Block) {whole : Option Block} → whole ≡ block → (is_some whole ≡ true → ⊥) → whole ≡ None
    none None is never = is
    none (Some block) is never = absurd (never (ap is_some is))

-- the pages before the one that an image has next are zero
pub skips_before : (bytes : Bytes) (least : ℕ) (found : Option ℕ) → least < PAGES
    → FindsNextPage bytes (least * 4096) found → IfSome found (λ page. page < 2 ^ 64)
    → Skips (IsZeroPage bytes) least (option_map (λ page. page / 4096) found)
skips_before bytes least None low finds fits =
    λ q from below pa here. finds pa (grind (arith, from, here)) (grind (arith, below, here))
skips_before bytes least (Some page) low finds fits = (
  grind (arith, finds.after),
  grind (arith, fits),
  λ q from below pa here. finds.least pa (grind (arith, from, here)) (grind (arith, below, here)),
)

-- the pages that were looked at are zero
abbrev pub AreZeroFrom : Bytes → ℕ → ℕ → Type 0
AreZeroFrom bytes from least = (pa : ℕ) → from ≤ pa → pa < least * 4096 → bytes pa ≡ 0

pub none_found : (bytes : Bytes) (from least : ℕ) → from / 4096 ≤ least → AreZeroFrom bytes from least
    → Skips (IsZeroPage bytes) least None → FindsNextPage bytes from None
none_found bytes from least low zero skips pa after below = elim (cases_lt pa (least * 4096)) [
  | inl early ↦ zero pa after early
  | inr late ↦ skips (pa / 4096) (grind (arith, late)) (grind (arith, below)) pa refl
]

pub one_found : (bytes : Bytes) (from least number : ℕ) (is_zero : Bool) → from / 4096 ≤ least → from % 4096 ≡ 0
    → AreZeroFrom bytes from least → Skips (IsZeroPage bytes) least (Some number)
    → Decides is_zero (IsZeroPage bytes number) → is_zero ≡ false → FindsNextPage bytes from (Some (number * 4096))
one_found bytes from least number is_zero low whole zero skips decides isnt = record {
  after = grind (arith, low, whole, skips.0);
  whole = grind arith;
  nonzero = let at : number * 4096 / 4096 ≡ number = grind arith in
      λ all. let never : false ≡ true = sym isnt ∙ decides.1 (subst (IsZeroPage bytes) at all) in absurd cc;
  least = λ pa after below. elim (cases_lt pa (least * 4096)) [
    | inl early ↦ zero pa after early
    | inr late ↦ skips.2 (pa / 4096) (grind (arith, late)) (grind (arith, below)) pa refl
  ];
}

pub one_passed : (bytes : Bytes) (from least number : ℕ) (is_zero : Bool) → AreZeroFrom bytes from least
    → Skips (IsZeroPage bytes) least (Some number) → Decides is_zero (IsZeroPage bytes number) → is_zero ≡ true
    → AreZeroFrom bytes from (number + 1)
one_passed bytes from least number is_zero zero skips decides is pa after below = elim (cases_lt pa (least * 4096)) [
  | inl early ↦ zero pa after early
  | inr late ↦ elim (cases_lt pa (number * 4096)) [
    | inl before ↦ skips.2 (pa / 4096) (grind (arith, late)) (grind (arith, before)) pa refl
    | inr within ↦ decides.0 is pa (grind (arith, within, below))
  ]
]

-- Layers of blocks, one after the other.
use Rattle.std.proofs.Common.{◌≡◌, ℕ, ◌+◌, ◌<◌, ◌≤◌, List, [], ◌∷◌, ◌++◌, length, drop, get_or, Option, Some, None}
use Rattle.std.proofs.Common.{refl, sym, ap, ◌∙◌, add-one}
use Rattle.std.specs.List.{AllZip}
use Rattle.std.specs.Option.{option_or}
use Rattle.std.specs.Prelude.{Result, Ok, Err, IfOk}
use Rattle.std.proofs.Math.Seq.{drop-cons}
use Rattle.std.proofs.Math.ListN.{drop_of_length-le}
use Rattle.page_layers.specs.declared.block.Block.{Block}
use Rattle.page_layers.specs.declared.blocks.Blocks.{Blocks}
use Rattle.page_layers.specs.declared.layers.Layer.{Layer}
use Rattle.page_layers.specs.Blocks.{block_at}
use Rattle.page_layers.specs.Layers.{block_among, newest_block}

pub among-next : (layers : List Layer) (i : ℕ) (d : Layer) (number : ℕ) {here all : Option Block} → i < length layers
    → here ≡ block_at (get_or layers i d).blocks.value.blocks number
    → block_among (drop i layers) number ≡ all → option_or here (block_among (drop (i + 1) layers) number) ≡ all
unfolding block_among
among-next layers i d number lt is so_far = rw (is, add-one) (rw (drop-cons layers i d lt) at so_far)

pub among-end : (layers : List Layer) (i number : ℕ) (all : Option Block) → length layers ≤ i
    → block_among (drop i layers) number ≡ all → None ≡ all
unfolding block_among
among-end layers i number all le so_far = rw (drop_of_length-le layers le) at so_far

or_none : (x : Option Block) → option_or x None ≡ x
or_none None = refl
or_none (Some block) = refl

pub or_assoc : (x y z : Option Block) → option_or (option_or x y) z ≡ option_or x (option_or y z)
or_assoc None y z = refl
or_assoc (Some block) y z = refl

-- one layer
among_one : (layer : Layer) (number : ℕ) → block_among (layer ∷ []) number ≡ block_at layer.blocks.value.blocks number
unfolding block_among
among_one layer number = or_none (block_at layer.blocks.value.blocks number)

-- layers with one more below them
among_more : (layers : List Layer) (layer : Layer) (number : ℕ)
    → block_among (layers ++ layer ∷ []) number
    ≡ option_or (block_among layers number) (block_at layer.blocks.value.blocks number)
unfolding block_among
among_more [] layer number = or_none (block_at layer.blocks.value.blocks number)
among_more (first ∷ layers) layer number =
    ap (option_or (block_at first.blocks.value.blocks number)) (among_more layers layer number)
    ∙ sym
    (or_assoc (block_at first.blocks.value.blocks number) (block_among layers number) (block_at layer.blocks.value.blocks number))

-- a new layer is put over all
pub stacked_first : (layers : List Layer) (layer : Layer) (newest : Blocks) (older : List Layer) → layers ≡ layer ∷ []
    → layer.blocks.value.blocks ≡ newest
    → (number : ℕ) → option_or (block_among layers number) (block_among older number) ≡ newest_block newest older number
stacked_first layers layer newest older is of number =
    ap (λ found. option_or found (block_among older number))
    (ap (λ l. block_among l number) is ∙ among_one layer number ∙ ap (λ blocks. block_at blocks number) of)

-- a copy of the older layer at a place is put below the layers
pub record PutsCopy (layers more : List Layer) (copy : Layer) (older : List Layer) (i : ℕ) (d : Layer) : Type 0 where
  pub within : i < length older
  pub pushed : more ≡ layers ++ copy ∷ []
  pub same : copy.blocks.value.blocks ≡ (get_or older i d).blocks.value.blocks

-- and one after the other below it
pub stacked_next : {layers more : List Layer} {copy : Layer} {older : List Layer} {i : ℕ} {d : Layer} (number : ℕ)
    {all : Option Block} → PutsCopy layers more copy older i d
    → option_or (block_among layers number) (block_among (drop i older) number) ≡ all
    → option_or (block_among more number) (block_among (drop (i + 1) older) number) ≡ all
stacked_next {layers} {copy} {older} {i} {d} number put so_far =
    let left : option_or (block_at copy.blocks.value.blocks number) (block_among (drop (i + 1) older) number)
    ≡ block_among (drop i older) number =
    among-next older i d number put.within (ap (λ blocks. block_at blocks number) put.same) refl in
    ap (λ found. option_or found (block_among (drop (i + 1) older) number))
    (ap (λ l. block_among l number) put.pushed ∙ among_more layers copy number)
    ∙ or_assoc (block_among layers number) (block_at copy.blocks.value.blocks number) (block_among (drop (i + 1) older) number)
    ∙ ap (option_or (block_among layers number)) left ∙ so_far

pub stacked_all : (layers older : List Layer) (i number : ℕ) (all : Option Block) → length older ≤ i
    → option_or (block_among layers number) (block_among (drop i older) number) ≡ all → block_among layers number ≡ all
stacked_all layers older i number all le so_far =
    let none = among-end older i number (block_among (drop i older) number) le refl in
    sym (or_none (block_among layers number)) ∙ ap (option_or (block_among layers number)) none ∙ so_far

-- the first of older layers is taken into the one above them
pub taken_in : (newest taken : Blocks) (first : Layer) (rest : List Layer)
    → ((number : ℕ) → block_at taken number ≡ option_or (block_at newest number) (block_at first.blocks.value.blocks number))
    → (number : ℕ) → newest_block taken rest number ≡ newest_block newest (first ∷ rest) number
unfolding block_among
taken_in newest taken first rest is number =
    ap (λ found. option_or found (block_among rest number)) (is number)
    ∙ or_assoc (block_at newest number) (block_at first.blocks.value.blocks number) (block_among rest number)

-- what a success gives it gives more weakly too
pub if_ok : {T E : Type 0} (P Q : T → Type 0) (result : Result T E) → ((x : T) → P x → Q x) → IfOk result P
    → IfOk result Q
if_ok P Q (Ok x) weaker has = weaker x has
if_ok P Q (Err e) weaker has = tt

-- clones of layers have the same blocks
pub among_cloned : (layers others : List Layer)
    → AllZip (λ layer other. other.blocks.value.blocks ≡ layer.blocks.value.blocks) layers others → (number : ℕ)
    → block_among others number ≡ block_among layers number
unfolding block_among
among_cloned [] [] same number = refl
among_cloned [] (other ∷ others) same number = absurd same
among_cloned (layer ∷ layers) [] same number = absurd same
among_cloned (layer ∷ layers) (other ∷ others) same number = rw (same.0, among_cloned layers others same.1 number) refl

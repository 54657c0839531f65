-- Rows at places, block by block.
use Rattle.std.proofs.Common.{◌≡◌, ℕ, Bool, true, false, cond, ◌==◌, ◌&&◌, refl, sym, ap, ◌∙◌}
use Rattle.std.proofs.Common.{inl, inr, if◌then◌else◌, [], Option, Some, None}
use Rattle.std.specs.Prelude.{nat_eq}
use Rattle.std.specs.HashMap.{get}
use Rattle.std.proofs.lemmas.Bool.Decides.{eqb_tells}
use Rattle.row_origin.specs.declared.block.Block.{Block}
use Rattle.row_origin.specs.declared.places.Places.{Places}
use Rattle.row_origin.specs.Places.{AreSame, as_row, laid_over, row_at, row_in, row_of_block}

pub none_at : (places : Places) → places.blocks.entries ≡ [] → (number place : ℕ) → row_at places number place ≡ None
unfolding row_at
none_at places empty number place = rw empty refl

-- what is found of a number
pub found_at : (places : Places) (number place : ℕ) (found : Option Block) → get nat_eq places.blocks number ≡ found
    → row_of_block found place ≡ row_at places number place
unfolding row_at
found_at places number place found is = ap (λ entry. row_of_block entry place) (sym is)

-- the same entries have the same rows
pub same_entries : (before after : Places) → after.blocks.entries ≡ before.blocks.entries → AreSame before after
unfolding row_at
same_entries before after same = λ number place. rw same refl

pub same_found : (before after : Places) → ((q : ℕ) → get nat_eq after.blocks q ≡ get nat_eq before.blocks q)
    → AreSame before after
unfolding row_at
same_found before after same = λ number place. ap (λ entry. row_of_block entry place) (same number)

of_either : (test : Bool) (block : Block) (entry : Option Block) (place : ℕ)
    → row_of_block (cond test (Some block) entry) place
    ≡ (if test then row_in block place else row_of_block entry place)
of_either true block entry place = refl
of_either false block entry place = refl

-- a block is put in the place of one
pub block_put : (before after : Places) (number : ℕ) (block : Block)
    → ((q : ℕ) → get nat_eq after.blocks q ≡ cond (nat_eq number q) (Some block) (get nat_eq before.blocks q))
    → (q place : ℕ) → row_at after q place ≡ (if number == q then row_in block place else row_at before q place)
unfolding row_at
block_put before after number block sets q place =
    ap (λ entry. row_of_block entry place) (sets q)
    ∙ of_either (nat_eq number q) block (get nat_eq before.blocks q) place

-- a block is filled, where each of its rows was those of a number before
pub block_filled : (before after : Places) (number row q place : ℕ) (old new : Block) (test : ℕ → Bool)
    → ((p : ℕ) → row_in old p ≡ row_at before number p)
    → ((p : ℕ) → row_in new p ≡ (if test p then as_row row else row_in old p))
    → ((r p : ℕ) → row_at after r p ≡ (if number == r then row_in new p else row_at before r p))
    → row_at after q place ≡ (if (number == q) && test place then as_row row else row_at before q place)
block_filled before after number row q place old new test was fills puts = elim (eqb_tells number q) [
  | inl same ↦
      puts q place ∙ rw (same.0, fills place, was place, same.1) refl
  | inr apart ↦ puts q place ∙ rw apart.0 refl
]

-- a block that another is laid over
pub block_laid : (base : ℕ) (later before after : Places) (number : ℕ) (rows old new : Block)
    → ((p : ℕ) → row_in rows p ≡ row_at later number p)
    → ((p : ℕ) → row_in old p ≡ row_at before number p)
    → ((p : ℕ) → row_in new p ≡ laid_over base (row_in rows p) (row_in old p))
    → ((r p : ℕ) → row_at after r p ≡ (if number == r then row_in new p else row_at before r p))
    → (q place : ℕ)
    → row_at after q place
    ≡ (if number == q then laid_over base (row_at later q place) (row_at before q place) else row_at before q place)
block_laid base later before after number rows old new are was lays puts q place = elim (eqb_tells number q) [
  | inl same ↦ puts q place ∙ rw (same.0, lays place, are place, was place, same.1) refl
  | inr apart ↦ puts q place ∙ rw apart.0 refl
]

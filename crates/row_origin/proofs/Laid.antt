-- Blocks that are laid over others, entry by entry.
use Rattle.std.proofs.Common.{◌≡◌, ℕ, suc, false, ◌==◌, refl, sym, ap, ◌∙◌, subst, inl}
use Rattle.std.proofs.Common.{inr, arith, if◌then◌else◌, List, [], ◌∷◌, All, Option, Some, None, is_some}
use Rattle.std.specs.Prelude.{nat_eq}
use Rattle.std.specs.HashMap.{get}
use Rattle.std.specs.List.{AllByRecursion, IsDistinct}
use Rattle.std.specs.Map.{keys_of, lookup}
use Rattle.std.proofs.lemmas.Bool.{eq-eqb, ne_eqb}
use Rattle.std.proofs.lemmas.Bool.Decides.{eqb_tells}
use Rattle.std.proofs.lemmas.Map.Keys.{IsDistinct-head, IsDistinct-tail}
use Rattle.row_origin.specs.declared.block.Block.{Block}
use Rattle.row_origin.specs.declared.places.Places.{Places}
use Rattle.row_origin.specs.Places.{BlockFits, PlacesFit, laid_over, row_at}
use Rattle.row_origin.proofs.Placed.{found_at}

-- the entries that are left to be laid over others
abbrev pub Entries : Type 0
Entries = List (ℕ × Block)

abbrev pub AreFound : Places → Entries → Type 0
AreFound places entries = All (λ (entry : ℕ × Block). get nat_eq places.blocks entry.0 ≡ Some entry.1) entries

abbrev pub AreApart : Entries → Type 0
AreApart entries = IsDistinct nat_eq (keys_of entries)

-- what stands at a place before the block of its number is laid over, and from then on
abbrev pub laid_but : Entries → ℕ → Places → Places → ℕ → ℕ → Option ℕ
laid_but entries base later start number place =
    if is_some (lookup (nat_eq number) entries)
    then row_at start number place
    else laid_over base (row_at later number place) (row_at start number place)

-- the first of the entries, and the others
pub first_found : (later : Places) (key : ℕ) (block : Block) (rest others : Entries) → rest ≡ (key, block) ∷ others
    → AreFound later rest → get nat_eq later.blocks key ≡ Some block
first_found later key block rest others is found = subst (AreFound later) is found 0 (key, block) (omega arith)

pub others_found : (later : Places) (key : ℕ) (block : Block) (rest others : Entries) → rest ≡ (key, block) ∷ others
    → AreFound later rest → AreFound later others
others_found later key block rest others is found =
    λ k d below. subst (AreFound later) is found (suc k) d (omega (arith, below))

pub others_apart : (key : ℕ) (block : Block) (rest others : Entries) → rest ≡ (key, block) ∷ others
    → AreApart rest → AreApart others
others_apart key block rest others is apart = IsDistinct-tail nat_eq key (keys_of others) (subst AreApart is apart)

not_among : (key : ℕ) (entries : Entries) → AllByRecursion (λ other. nat_eq key other ≡ false) (keys_of entries)
    → lookup (nat_eq key) entries ≡ None
not_among key [] apart = refl
not_among key (entry ∷ entries) apart = rw apart.0 (not_among key entries apart.1)

-- before any was laid over
pub none_laid : (later start now : Places) (base : ℕ) (rest : Entries) → rest ≡ later.blocks.entries
    → ((q p : ℕ) → row_at now q p ≡ row_at start q p)
    → (number place : ℕ) → row_at now number place ≡ laid_but rest base later start number place
none_laid later start now base rest is same number place =
    same number place ∙ by (get nat_eq later.blocks number) refl
    ∙ ap (λ entries. laid_but entries base later start number place) (sym is)
  where
    by : (entry : Option Block) → get nat_eq later.blocks number ≡ entry
        → row_at start number place ≡ laid_but later.blocks.entries base later start number place
    by None none = rw (none, ← found_at later number place None none) refl
    by (Some block) found = rw found refl

-- one block was laid over
pub one_laid : (later start now next : Places) (base key : ℕ) (block : Block) (rest others : Entries)
    → rest ≡ (key, block) ∷ others → AreApart rest
    → ((q p : ℕ) → row_at now q p ≡ laid_but rest base later start q p)
    → ((q p : ℕ) → row_at next q p
    ≡ (if key == q then laid_over base (row_at later q p) (row_at now q p) else row_at now q p))
    → (number place : ℕ) → row_at next number place ≡ laid_but others base later start number place
one_laid later start now next base key block rest others is apart had puts number place =
    let was : row_at now number place ≡ laid_but ((key, block) ∷ others) base later start number place =
    had number place ∙ ap (λ entries. laid_but entries base later start number place) is in
    elim (eqb_tells number key) [
      | inl same ↦
          let gone : lookup (nat_eq number) others ≡ None =
          rw same.1 (not_among key others (IsDistinct-head nat_eq key (keys_of others) (subst AreApart is apart))) in
          let before : row_at now number place ≡ row_at start number place = was ∙ rw same.0 refl in
          puts number place ∙ rw (eq-eqb key number (sym same.1), before, gone) refl
      | inr differ ↦
          let before : row_at now number place ≡ laid_but others base later start number place =
          was ∙ rw differ.0 refl in
          puts number place ∙ rw (ne_eqb key number (λ e. differ.1 (sym e))) before
    ]

-- all were
pub all_laid : (later start now : Places) (base : ℕ) (rest : Entries) → rest ≡ []
    → ((q p : ℕ) → row_at now q p ≡ laid_but rest base later start q p)
    → (number place : ℕ)
    → row_at now number place ≡ laid_over base (row_at later number place) (row_at start number place)
all_laid later start now base rest is had number place =
    had number place ∙ ap (λ entries. laid_but entries base later start number place) is

-- a block of those that fit
pub block_fits : (later : Places) (base key : ℕ) (block : Block) → PlacesFit base later
    → get nat_eq later.blocks key ≡ Some block → BlockFits base block
block_fits later base key block fits found place row within is =
    fits key place row within (sym (found_at later key place (Some block) found) ∙ is)

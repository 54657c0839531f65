-- The rows of a block, place by place.
use Rattle.std.proofs.Common.{◌≡◌, ℕ, ◌+◌, ◌<◌, ◌≤◌, ◌^◌, Bool, true, false, ◌==◌, ◌&&◌, length, set, replicate}
use Rattle.std.proofs.Common.{refl, sym, ap, ◌∙◌, inl, inr, arith, if◌then◌else◌, slice_index}
use Rattle.std.proofs.Common.{Option, Some, None, nat_lt}
use Rattle.std.specs.Prelude.{nat_le, IfSome}
use Rattle.std.proofs.lemmas.Bool.{cases_lt, lt-ltb, le-ltb, le-leb, lt-leb, eqb-false, ne_eqb}
use Rattle.std.proofs.lemmas.Bool.Decides.{eqb_tells}
use Rattle.std.proofs.lemmas.List.{get_or-replicate, get_or-set_same, get_or-set_other, get_or_past}
use Rattle.row_origin.specs.declared.block.Block.{Block}
use Rattle.row_origin.specs.Places.{BlockFits, as_row, laid_over, row_in}

-- no row at a place of a block of zeros
pub none_in : (block : Block) → block.rows ≡ replicate 32 0 → (place : ℕ) → row_in block place ≡ None
unfolding row_in
none_in block is place = ap (λ rows. as_row (slice_index rows place)) is ∙ ap as_row zeros
  where
    zeros : slice_index (replicate 32 0) place ≡ 0
    zeros = elim (cases_lt place 32) [
      | inl within ↦ get_or-replicate 32 place 0 0 within
      | inr past ↦ get_or_past (replicate 32 0) place 0 past
    ]

-- nor after the last place
pub none_past : (block : Block) (place : ℕ) → 32 ≤ place → row_in block place ≡ None
unfolding row_in
none_past block place past = ap as_row (get_or_past block.rows place 0 (rw block.full past))

-- a row is put at a place
pub row_set : (old new : Block) (place row q : ℕ) → place < 32 → new.rows ≡ set old.rows place row
    → row_in new q ≡ (if place == q then as_row row else row_in old q)
unfolding row_in
row_set old new place row q below is = elim (eqb_tells place q) [
  | inl same ↦
      ap (λ rows. as_row (slice_index rows q)) is
      ∙ ap (λ at. as_row (slice_index (set old.rows place row) at)) (sym same.1)
      ∙ ap as_row (get_or-set_same old.rows place row 0 (rw block_full below))
      ∙ ap (λ test. if test then as_row row else as_row (slice_index old.rows q)) (sym same.0)
  | inr apart ↦
      ap (λ rows. as_row (slice_index rows q)) is
      ∙ ap as_row (get_or-set_other old.rows place q row 0 (λ e. apart.1 (sym e)))
      ∙ ap (λ test. if test then as_row row else as_row (slice_index old.rows q)) (sym apart.0)
]
  where
    block_full : length old.rows ≡ 32
    block_full = old.full

-- a place below the next is below this one, unless it is this one
pub still_below : (q place : ℕ) → (place ≡ q → ⊥) → nat_lt q (place + 1) ≡ nat_lt q place
still_below q place apart = elim (cases_lt q place) [
  | inl below ↦ lt-ltb q (place + 1) (omega (arith, below)) ∙ sym (lt-ltb q place below)
  | inr above ↦
      le-ltb q (place + 1) (omega (arith, above, (λ (e : place ≡ q). apart e))) ∙ sym (le-ltb q place above)
]

-- one place more of those that are filled
pub filled_more : {X : Type 0} (from place q : ℕ) (row old : X) → from ≤ place
    → (if place == q then row else (if nat_le from q && nat_lt q place then row else old))
    ≡ (if nat_le from q && nat_lt q (place + 1) then row else old)
filled_more from place q row old ordered = elim (eqb_tells place q) [
  | inl same ↦
      rw (same.0, le-leb from q (omega (arith, same.1)), lt-ltb q (place + 1) (omega (arith, same.1))) refl
  | inr apart ↦ rw (apart.0, still_below q place apart.1) refl
]

-- no place is filled yet
pub none_filled : {X : Type 0} (from q : ℕ) (row old : X)
    → old ≡ (if nat_le from q && nat_lt q from then row else old)
none_filled from q row old = elim (cases_lt q from) [
  | inl below ↦ rw (lt-leb from q below) refl
  | inr above ↦ rw (le-leb from q above, le-ltb q from above) refl
]

-- what stands at a place once the rows of a later block were put over these, up to another place
abbrev pub laid_up_to : ℕ → ℕ → Block → Block → ℕ → Option ℕ
laid_up_to base place later start q =
    if nat_lt q place then laid_over base (row_in later q) (row_in start q) else row_in start q

-- one place more, with what stands there
pub laid_more : (base place q : ℕ) (later start now next : Block) (row : Option ℕ) → row ≡ row_in later place
    → ((p : ℕ) → row_in now p ≡ laid_up_to base place later start p)
    → ((p : ℕ) → row_in next p ≡ (if place == p then laid_over base row (row_in now place) else row_in now p))
    → row_in next q ≡ laid_up_to base (place + 1) later start q
laid_more base place q later start now next row is had puts = elim (eqb_tells place q) [
  | inl same ↦
      let here : row_in now place ≡ row_in start place = had place ∙ rw (le-ltb place place (omega arith)) refl in
      puts q ∙ rw (same.0, here, is, lt-ltb q (place + 1) (omega (arith, same.1)), same.1) refl
  | inr apart ↦ puts q ∙ rw (apart.0, had q, still_below q place apart.1) refl
]

-- every place
pub all_laid : (base : ℕ) (later start now : Block) (place : ℕ) → place ≡ 32
    → ((p : ℕ) → row_in now p ≡ laid_up_to base place later start p)
    → (q : ℕ) → row_in now q ≡ laid_over base (row_in later q) (row_in start q)
all_laid base later start now place end had q = elim (cases_lt q place) [
  | inl below ↦ had q ∙ rw (lt-ltb q place below) refl
  | inr past ↦ had q ∙ rw (le-ltb q place past, none_past later q (rw (← end) past)) refl
]

-- a row that is there is not 0
found_row : (n row : ℕ) (none : Bool) → (n == 0) ≡ none → (if none then None else Some n) ≡ Some row → 0 < row
found_row n row true is found = cc
found_row n row false is found = let same : n ≡ row = cc in omega (arith, same, eqb-false n 0 is)

-- a row of a block that fits
pub row_fits : (base place : ℕ) (block : Block) (row : Option ℕ) → place < 32 → BlockFits base block
    → row ≡ row_in block place → IfSome row (λ found. (0 < found) × (base + found < 2 ^ 64))
unfolding row_in
row_fits base place block None within fits is = tt
row_fits base place block (Some row) within fits is = (
  found_row (slice_index block.rows place) row (slice_index block.rows place == 0) refl (sym is),
  fits place row within (sym is),
)

-- a row that is not there leaves what was
pub none_laid : {X : Type 0} (place q : ℕ) (rows : ℕ → X) → rows q ≡ (if place == q then rows place else rows q)
none_laid place q rows = elim (eqb_tells place q) [
  | inl same ↦ rw (same.0, same.1) refl
  | inr apart ↦ rw apart.0 refl
]

-- nor is a row that is there none
pub some_row : (row : ℕ) → 0 < row → as_row row ≡ Some row
some_row row there = rw (ne_eqb row 0 (λ e. omega (arith, e, there))) refl

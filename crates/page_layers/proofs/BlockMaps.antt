-- Blocks by their number, and what changes of one of them do to the bytes.
use Rattle.std.proofs.Common.{◌≡◌, ℕ, suc, All, ◌+◌, ◌/◌, ◌%◌, ◌^◌, ◌<◌, ◌≤◌, ◌⊎◌, true, false, Bool, cond, Option}
use Rattle.std.proofs.Common.{Some, None, is_some, option_map, unwrap_or, List, [], ◌∷◌, refl, sym, ap, ◌∙◌, subst, inl}
use Rattle.std.proofs.Common.{inr, arith, if◌then◌else◌}
use Rattle.std.specs.Prelude.{◌==◌, nat_eq, nat_lt, Result, Ok, Err, OnErr, OnOk}
use Rattle.std.specs.HashMap.{get}
use Rattle.std.specs.List.{AllZip}
use Rattle.std.specs.Option.{option_or}
use Rattle.std.specs.Map.{lookup}
use Rattle.std.proofs.Math.Path.{fun_ext}
use Rattle.std.proofs.lemmas.Bool.{cases_eq, cases_lt, lt-ltb, le-ltb}
use Rattle.std.proofs.lemmas.Bool.Decides.{eqb_tells}
use Rattle.image_text.proofs.Pages.{eq_same, eq_other}
use Rattle.hart_words.specs.Memory.{Bytes, bytes_after_store}
use Rattle.hart_words.proofs.Stores.{stored-outside}
use Rattle.page_layers.specs.declared.block.Block.{Block}
use Rattle.page_layers.specs.declared.blocks.Blocks.{Blocks}
use Rattle.page_layers.specs.Blocks.{block_at, block_byte, bytes_in, over}

abbrev pub guarded : Option Block → ℕ → Option Block
guarded found number = if nat_lt number (2 ^ 64) then found else None

-- a number of 64 bits is looked up
pub near : (blocks : Blocks) (number : ℕ) → number < 2 ^ 64 → block_at blocks number ≡ get nat_eq blocks.blocks number
unfolding block_at
near blocks number small = rw (lt-ltb number (2 ^ 64) small) refl

-- and no other
pub far : (blocks : Blocks) (number : ℕ) → 2 ^ 64 ≤ number → block_at blocks number ≡ None
unfolding block_at
far blocks number large = rw (le-ltb number (2 ^ 64) large) refl

-- where the same is found of each number, the blocks are the same
pub same_found : (before after : Blocks) → ((q : ℕ) → get nat_eq after.blocks q ≡ get nat_eq before.blocks q)
    → block_at after ≡ block_at before
unfolding block_at
same_found before after gets = λ i q. ap (λ found. guarded found q) (gets q) i

-- the same entries are the same blocks
pub same_entries : (before after : Blocks) → after.blocks.entries ≡ before.blocks.entries
    → block_at after ≡ block_at before
same_entries before after e = same_found before after (λ q. ap (lookup (nat_eq q)) e)

-- a block is set
pub block_set : (before after : Blocks) (key : ℕ) (block : Block) → key < 2 ^ 64
    → ((q : ℕ) → get nat_eq after.blocks q ≡ cond (nat_eq key q) (Some block) (get nat_eq before.blocks q))
    → (q : ℕ) → block_at after q ≡ (if q == key then Some block else block_at before q)
unfolding block_at
block_set before after key block small sets q = elim (cases_eq q key) [
  | inl same ↦ rw (same, lt-ltb key (2 ^ 64) small, sets key, eq_same key) refl
  | inr apart ↦
      ap (λ found. guarded found q) (sets q) ∙ rw (eq_other key q (λ e. apart (sym e)), eq_other q key apart) refl
]

-- the entries of a clone are the same
pub blocks_cloned : (es fs : List (ℕ × Block)) → AllZip (λ p q. (q.0 ≡ p.0) × (q.1 ≡ p.1)) es fs → fs ≡ es
blocks_cloned [] [] same = refl
blocks_cloned [] (f ∷ fs) same = absurd same
blocks_cloned (e ∷ es) [] same = absurd same
blocks_cloned (e ∷ es) (f ∷ fs) same =
    let rest = blocks_cloned es fs same.1 in λ i. (same.0.0 i, same.0.1 i) ∷ rest i

-- what is found in the entry that is set
pub found_there : (blocks : Blocks) (number : ℕ) (block : Block) → number < 2 ^ 64
    → get nat_eq blocks.blocks number ≡ Some block → block_at blocks number ≡ Some block
found_there blocks number block small found = near blocks number small ∙ found

pub none_there : (blocks : Blocks) (number : ℕ) → number < 2 ^ 64 → get nat_eq blocks.blocks number ≡ None
    → block_at blocks number ≡ None
none_there blocks number small found = near blocks number small ∙ found

-- the same numbers are there where one of them is set again
pub numbers_stay : (before after : Blocks) (key : ℕ) (old new : Block) → block_at before key ≡ Some old
    → ((q : ℕ) → block_at after q ≡ (if q == key then Some new else block_at before q))
    → (q : ℕ) → is_some (block_at after q) ≡ is_some (block_at before q)
numbers_stay before after key old new was sets q = elim (cases_eq q key) [
  | inl same ↦ ap is_some (sets q) ∙ rw (same, eq_same key, was) refl
  | inr apart ↦ ap is_some (sets q) ∙ rw (eq_other q key apart) refl
]

pub stored-congr : (pa len value at : ℕ) (one other : Bytes) → one at ≡ other at
    → bytes_after_store pa len value one at ≡ bytes_after_store pa len value other at
unfolding bytes_after_store
stored-congr pa len value at one other same = rw same refl

pub outside : (pa len at : ℕ) → pa % 64 + len ≤ 64 → (at / 64 ≡ pa / 64 → ⊥) → (at < pa) ⊎ (pa + len ≤ at)
outside pa len at inside apart = elim (cases_lt at pa) [
  | inl before ↦ inl before
  | inr from ↦ elim (cases_lt at (pa + len)) [
    | inl within ↦
        let in_block : at / 64 ≡ pa / 64 = grind arith in
        absurd (apart in_block)
    | inr past ↦ inr past
  ]
]

-- a block is set at a number, and each other stays
pub record SetsBlock (before after : ℕ → Option Block) (number : ℕ) (block : Block) : Type 0 where
  pub sets : (q : ℕ) → after q ≡ (if q == number then Some block else before q)

-- a number is put in a block
pub number_put : {before after : ℕ → Option Block} {old new : Block} (base : Bytes) (pa len value : ℕ)
    → pa % 64 + len ≤ 64 → SetsBlock before after (pa / 64) new → before (pa / 64) ≡ Some old
    → ((at : ℕ) → at / 64 ≡ pa / 64 → block_byte new at ≡ bytes_after_store pa len value (block_byte old) at)
    → over (bytes_in after) base ≡ bytes_after_store pa len value (over (bytes_in before) base)
number_put {before} {old} base pa len value inside set was puts = fun_ext (λ at.
    let seen : Option Block → ℕ = λ block. unwrap_or (option_map (λ b. block_byte b at) block) (base at) in
    elim (cases_eq (at / 64) (pa / 64)) [
      | inl here ↦
          let then_ : over (bytes_in before) base at ≡ block_byte old at = ap seen (ap before here ∙ was) in
          ap seen (set.sets (at / 64)) ∙ rw (here, eq_same (pa / 64)) (puts at here)
          ∙ stored-congr pa len value at (block_byte old) (over (bytes_in before) base) (sym then_)
      | inr apart ↦
          ap seen (set.sets (at / 64) ∙ rw (eq_other (at / 64) (pa / 64) apart) refl)
          ∙ sym (stored-outside pa len value at (over (bytes_in before) base) (outside pa len at inside apart))
    ])

-- each of these entries is one of the blocks
abbrev pub AreFound : Blocks → List (ℕ × Block) → Type 0
AreFound blocks entries = All (λ (entry : ℕ × Block). get nat_eq blocks.blocks entry.0 ≡ Some entry.1) entries

pub first_found : (blocks : Blocks) (key : ℕ) (block : Block) (rest later : List (ℕ × Block))
    → rest ≡ (key, block) ∷ later → AreFound blocks rest → get nat_eq blocks.blocks key ≡ Some block
first_found blocks key block rest later is found = subst (AreFound blocks) is found 0 (key, block) (omega arith)

pub later_found : (blocks : Blocks) (key : ℕ) (block : Block) (rest later : List (ℕ × Block))
    → rest ≡ (key, block) ∷ later → AreFound blocks rest → AreFound blocks later
later_found blocks key block rest later is found =
    λ k d below. subst (AreFound blocks) is found (suc k) d (omega (arith, below))

-- of the entries that are left, one is done
pub entry_done : (P : ℕ → Type 0) {key : ℕ} {block : Block} {rest later : List (ℕ × Block)}
    → rest ≡ (key, block) ∷ later → P key
    → (q : ℕ) → (is_some (lookup (nat_eq q) rest) ≡ true) ⊎ P q → (is_some (lookup (nat_eq q) later) ≡ true) ⊎ P q
entry_done P is done q (inr before) = inr before
entry_done P {key} {block} {later} is done q (inl left) = elim (eqb_tells q key) [
  | inl same ↦ inr (subst P (sym same.1) done)
  | inr apart ↦
      inl
      (ap (λ t. is_some (cond t (Some block) (lookup (nat_eq q) later))) (sym apart.0)
      ∙ ap (λ entries. is_some (lookup (nat_eq q) entries)) (sym is) ∙ left)
]

pub entries_done : (P : ℕ → Type 0) (rest : List (ℕ × Block)) → rest ≡ [] → (q : ℕ)
    → (is_some (lookup (nat_eq q) rest) ≡ true) ⊎ P q → P q
entries_done P rest is q (inr done) = done
entries_done P rest is q (inl left) =
    let never : false ≡ true = ap (λ entries. is_some (lookup (nat_eq q) entries)) (sym is) ∙ left in cc

-- the block of a number in what was merged
abbrev pub IsMerged : Blocks → Blocks → Blocks → ℕ → Type 0
IsMerged blocks others all q = block_at all q ≡ option_or (block_at blocks q) (block_at others q)

none_guarded : (b : Bool) (found : Option Block) → found ≡ None → (if b then found else None) ≡ None
none_guarded true found is = is
none_guarded false found is = refl

no_block : (blocks : Blocks) (q : ℕ) → get nat_eq blocks.blocks q ≡ None → block_at blocks q ≡ None
unfolding block_at
no_block blocks q is = none_guarded (nat_lt q (2 ^ 64)) (get nat_eq blocks.blocks q) is

some_guarded : (b : Bool) (found : Option Block) → is_some (if b then found else None) ≡ true → is_some found ≡ true
some_guarded true found there = there
some_guarded false found there = cc

-- what is there has an entry
pub there_found : (blocks : Blocks) (q : ℕ) → is_some (block_at blocks q) ≡ true
    → is_some (get nat_eq blocks.blocks q) ≡ true
unfolding block_at
there_found blocks q there = some_guarded (nat_lt q (2 ^ 64)) (get nat_eq blocks.blocks q) there

-- and a number of 64 bits
pub small_key : (blocks : Blocks) (key : ℕ) (block : Block) → block_at blocks key ≡ Some block → key < 2 ^ 64
small_key blocks key block is = elim (cases_lt key (2 ^ 64)) [
  | inl small ↦ small
  | inr large ↦ let never : None ≡ Some block = sym (far blocks key large) ∙ is in cc
]

-- before any was put over the others, each is left or is not among the blocks
pub merge_begins : (blocks others all : Blocks) (rest : List (ℕ × Block)) → rest ≡ blocks.blocks.entries
    → block_at all ≡ block_at others
    → (q : ℕ) → (is_some (lookup (nat_eq q) rest) ≡ true) ⊎ IsMerged blocks others all q
merge_begins blocks others all rest is same q = by_entry (get nat_eq blocks.blocks q) refl
  where
    by_entry : (entry : Option Block) → get nat_eq blocks.blocks q ≡ entry
        → (is_some (lookup (nat_eq q) rest) ≡ true) ⊎ IsMerged blocks others all q
    by_entry None none =
        inr (ap (λ f. f q) same ∙ ap (λ found. option_or found (block_at others q)) (sym (no_block blocks q none)))
    by_entry (Some block) found = inl (ap (λ entries. is_some (lookup (nat_eq q) entries)) is ∙ ap is_some found)

-- the block that is put over the others
pub merged_here : (blocks others before after : Blocks) {key : ℕ} {block : Block}
    → get nat_eq blocks.blocks key ≡ Some block → SetsBlock (block_at before) (block_at after) key block
    → IsMerged blocks others after key
merged_here blocks others before after {key} {block} found set =
    let put : block_at after key ≡ Some block = set.sets key ∙ rw (eq_same key) refl in
    put ∙ ap (λ b. option_or b (block_at others key)) (sym (found_there blocks key block
    (small_key after key block put) found))

-- every other stays as it was
pub merged_still : (blocks others before after : Blocks) {key : ℕ} {block : Block}
    → SetsBlock (block_at before) (block_at after) key block → IsMerged blocks others after key
    → (q : ℕ) → IsMerged blocks others before q → IsMerged blocks others after q
merged_still blocks others before after {key} set here q was = elim (cases_eq q key) [
  | inl same ↦ subst (IsMerged blocks others after) (sym same) here
  | inr apart ↦ set.sets q ∙ rw (eq_other q key apart) was
]

none_found : (found : Option Block) → is_some found ≡ false → found ≡ None
none_found None none = refl
none_found (Some block) none = cc

-- a number outside of those that blocks were set at has none
pub none_outside : (blocks : Blocks) (number : ℕ) → (number < blocks.lowest) ⊎ (blocks.highest < number)
    → block_at blocks number ≡ None
none_outside blocks number (inl low) = no_block blocks number (none_found _ (blocks.low number low))
none_outside blocks number (inr high) = no_block blocks number (none_found _ (blocks.high number high))

-- what follows from what a success has
pub on_success : {T E P Q : Type 0} (result : Result T E) → (P → Q) → OnOk result P → OnOk result Q
on_success (Ok value) follows holds = follows holds
on_success (Err error) follows holds = tt

-- what holds anyway holds of a refusal
pub on_refusal : {T E P : Type 0} (result : Result T E) → P → OnErr result P
on_refusal (Ok value) holds = tt
on_refusal (Err error) holds = holds

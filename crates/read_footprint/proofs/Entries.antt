-- The blocks of a footprint, entry by entry.
use Rattle.std.proofs.Common.{◌≡◌, ◌⊎◌, inl, inr, ℕ, suc, arith, ◌/◌, ◌%◌, Bool, true, false, cond, ◌==◌, ◌&&◌, ◌||◌}
use Rattle.std.proofs.Common.{Option, Some, None, unwrap_or, is_some, List, All, [], ◌∷◌, refl, ap, ◌∙◌, sym, subst}
use Rattle.std.proofs.Common.{if◌then◌else◌}
use Rattle.std.specs.Prelude.{nat_eq}
use Rattle.std.specs.Bool.{Decides}
use Rattle.std.specs.HashMap.{get}
use Rattle.std.specs.Map.{lookup}
use Rattle.std.proofs.Math.Path.{fun_ext}
use Rattle.std.proofs.lemmas.Bool.{eq-eqb, eqb-true}
use Rattle.std.proofs.lemmas.Bool.Decides.{eqb_tells}
use Rattle.hart_words.specs.declared.span.Span.{Span}
use Rattle.hart_words.specs.Memory.{Bytes}
use Rattle.read_footprint.specs.declared.block.Block.{Block}
use Rattle.read_footprint.specs.declared.footprint.Footprint.{Footprint}
use Rattle.read_footprint.specs.Bits.{has_bit}
use Rattle.read_footprint.specs.Footprints.{Accesses, agree, footprint_of, moved, writes_of}
use Rattle.read_footprint.specs.Sets.{AreIn, ArePartlyMoved, IsFootprintOf, LiesInRam, footprint_block_at}
use Rattle.read_footprint.specs.Sets.{block_has_byte, has_read, has_written, has_address}
use Rattle.read_footprint.proofs.Bits.{none_has}
use Rattle.read_footprint.proofs.Noting.{nothing, block_found}
use Rattle.read_footprint.proofs.Places.{both_hold}

-- of the entries that are left, one is done
pub entry_done : {key : ℕ} {block : Block} {rest later : List (ℕ × Block)} (P : ℕ → Type 0)
    → rest ≡ (key, block) ∷ later → P key
    → (q : ℕ) → (is_some (lookup (nat_eq q) rest) ≡ true) ⊎ P q → (is_some (lookup (nat_eq q) later) ≡ true) ⊎ P q
entry_done P is done q (inr before) = inr before
entry_done {key} {block} {later = later} P is done q (inl left) = elim (eqb_tells q key) [
  | inl same ↦ inr (subst P (sym same.1) done)
  | inr apart ↦
      inl
      (ap (λ t. is_some (cond t (Some block) (lookup (nat_eq q) later))) (sym apart.0)
      ∙ ap (λ entries. is_some (lookup (nat_eq q) entries)) (sym is) ∙ left)
]

pub entries_done : (P : ℕ → Type 0) (rest : List (ℕ × Block)) → rest ≡ [] → (q : ℕ)
    → (is_some (lookup (nat_eq q) rest) ≡ true) ⊎ P q → P q
entries_done P rest is q (inr done) = done
entries_done P rest is q (inl left) =
    let never : false ≡ true = ap (λ entries. is_some (lookup (nat_eq q) entries)) (sym is) ∙ left in cc

-- each of these entries is one of the footprint's
abbrev pub AreFound : Footprint → List (ℕ × Block) → Type 0
AreFound footprint entries = All (λ (entry : ℕ × Block). get nat_eq footprint.blocks entry.0 ≡ Some entry.1) entries

pub first_found : {key : ℕ} {block : Block} {rest later : List (ℕ × Block)} (footprint : Footprint)
    → rest ≡ (key, block) ∷ later → AreFound footprint rest → get nat_eq footprint.blocks key ≡ Some block
first_found {key} {block} footprint is found = subst (AreFound footprint) is found 0 (key, block) (omega arith)

pub later_found : {key : ℕ} {block : Block} {rest later : List (ℕ × Block)} (footprint : Footprint)
    → rest ≡ (key, block) ∷ later → AreFound footprint rest → AreFound footprint later
later_found footprint is found =
    λ k d below. subst (AreFound footprint) is found (suc k) d (omega (arith, below))

-- what is found in a block
pub read_is : (footprint : Footprint) (number address : ℕ) (block : Block)
    → get nat_eq footprint.blocks number ≡ Some block → address / 64 ≡ number
    → has_read footprint address ≡ has_bit block.read (address % 64)
unfolding has_read
read_is footprint number address block found here =
    ap (λ b. has_bit b.read (address % 64))
    (ap (footprint_block_at footprint) here ∙ block_found footprint number block found)

pub wrote_is : (footprint : Footprint) (number address : ℕ) (block : Block)
    → get nat_eq footprint.blocks number ≡ Some block → address / 64 ≡ number
    → has_written footprint address ≡ has_bit block.wrote (address % 64)
unfolding has_written
wrote_is footprint number address block found here =
    ap (λ b. has_bit b.wrote (address % 64))
    (ap (footprint_block_at footprint) here ∙ block_found footprint number block found)

byte_here : (number bits address : ℕ) → address / 64 ≡ number
    → block_has_byte number bits address ≡ has_bit bits (address % 64)
byte_here number bits address here = ap (λ t. t && has_bit bits (address % 64)) (eq-eqb (address / 64) number here)

in_block : (number bits address : ℕ) → block_has_byte number bits address ≡ true → address / 64 ≡ number
in_block number bits address is = eqb-true (address / 64) number (both_hold _ _ is).0

pub byte_read : (footprint : Footprint) (number address : ℕ) (block : Block)
    → get nat_eq footprint.blocks number ≡ Some block → block_has_byte number block.read address ≡ true
    → has_read footprint address ≡ true
byte_read footprint number address block found is =
    let here = in_block number block.read address is in
    read_is footprint number address block found here ∙ sym (byte_here number block.read address here) ∙ is

pub read_byte : (footprint : Footprint) (number address : ℕ) (block : Block)
    → get nat_eq footprint.blocks number ≡ Some block → address / 64 ≡ number → has_read footprint address ≡ true
    → block_has_byte number block.read address ≡ true
read_byte footprint number address block found here is =
    byte_here number block.read address here ∙ sym (read_is footprint number address block found here) ∙ is

pub byte_wrote : (footprint : Footprint) (number address : ℕ) (block : Block)
    → get nat_eq footprint.blocks number ≡ Some block → block_has_byte number block.wrote address ≡ true
    → has_written footprint address ≡ true
byte_wrote footprint number address block found is =
    let here = in_block number block.wrote address is in
    wrote_is footprint number address block found here ∙ sym (byte_here number block.wrote address here) ∙ is

pub wrote_byte : (footprint : Footprint) (number address : ℕ) (block : Block)
    → get nat_eq footprint.blocks number ≡ Some block → address / 64 ≡ number → has_written footprint address ≡ true
    → block_has_byte number block.wrote address ≡ true
wrote_byte footprint number address block found here is =
    byte_here number block.wrote address here ∙ sym (wrote_is footprint number address block found here) ∙ is

pub read_within : (ram : Span) (footprint : Footprint) (number : ℕ) (block : Block) → LiesInRam ram footprint
    → get nat_eq footprint.blocks number ≡ Some block → AreIn ram number block.read
read_within ram footprint number block within found address is =
    within.read address (byte_read footprint number address block found is)

pub wrote_within : (ram : Span) (footprint : Footprint) (number : ℕ) (block : Block) → LiesInRam ram footprint
    → get nat_eq footprint.blocks number ≡ Some block → AreIn ram number block.wrote
wrote_within ram footprint number block within found address is =
    within.wrote address (byte_wrote footprint number address block found is)

-- what holds in each block that is there holds of each byte that was read, and of each that was written
pub everywhere_read : (P : ℕ → Type 0) (footprint : Footprint)
    → ((q : ℕ) → is_some (get nat_eq footprint.blocks q) ≡ true → (address : ℕ) → address / 64 ≡ q
    → has_read footprint address ≡ true → P address)
    → (address : ℕ) → has_read footprint address ≡ true → P address
unfolding has_read
everywhere_read P footprint each address is = by (get nat_eq footprint.blocks (address / 64)) refl
  where
    by : (entry : Option Block) → get nat_eq footprint.blocks (address / 64) ≡ entry → P address
    by (Some block) found = each (address / 64) (ap is_some found) address refl is
    by None found =
        let never : false ≡ true =
        sym (none_has (address % 64))
        ∙ ap (λ entry. has_bit (unwrap_or entry nothing).read (address % 64)) (sym found) ∙ is in cc

pub everywhere_written : (P : ℕ → Type 0) (footprint : Footprint)
    → ((q : ℕ) → is_some (get nat_eq footprint.blocks q) ≡ true → (address : ℕ) → address / 64 ≡ q
    → has_written footprint address ≡ true → P address)
    → (address : ℕ) → has_written footprint address ≡ true → P address
unfolding has_written
everywhere_written P footprint each address is = by (get nat_eq footprint.blocks (address / 64)) refl
  where
    by : (entry : Option Block) → get nat_eq footprint.blocks (address / 64) ≡ entry → P address
    by (Some block) found = each (address / 64) (ap is_some found) address refl is
    by None found =
        let never : false ≡ true =
        sym (none_has (address % 64))
        ∙ ap (λ entry. has_bit (unwrap_or entry nothing).wrote (address % 64)) (sym found) ∙ is in cc

-- what is so of a set is so of a list of its addresses
pub all_agree : (one other : Bytes) (addresses : List ℕ)
    → ((address : ℕ) → has_address addresses address ≡ true → other address ≡ one address)
    → agree one other addresses ≡ true
all_agree one other [] same = refl
all_agree one other (first ∷ rest) same =
    rw (eq-eqb (one first) (other first) (sym (same first (rw (eq-eqb first first refl) refl))))
    (all_agree one other rest
    (λ address there. same address (ap (λ b. (first == address) || b) there ∙ or_true (first == address))))
  where
    or_true : (b : Bool) → (b || true) ≡ true
    or_true true = refl
    or_true false = refl

pub among_agree : (one other : Bytes) (addresses : List ℕ) → agree one other addresses ≡ true → (address : ℕ)
    → has_address addresses address ≡ true → other address ≡ one address
among_agree one other [] all address there = let never : false ≡ true = there in cc
among_agree one other (first ∷ rest) all address there = elim (eqb_tells first address) [
  | inl same ↦ subst (λ a. other a ≡ one a) same.1 (sym (eqb-true (one first) (other first) (both_hold _ _ all).0))
  | inr apart ↦
      among_agree one other rest (both_hold _ _ all).1 address
      (ap (λ t. t || has_address rest address) (sym apart.0) ∙ there)
]

same_tests : (a b : Bool) → (a ≡ true → b ≡ true) → (b ≡ true → a ≡ true) → a ≡ b
same_tests true b to from = sym (to refl)
same_tests false true to from = from refl
same_tests false false to from = refl

pub agreed : (footprint : Footprint) (one other : Bytes) (result : Bool)
    → Decides result ((address : ℕ) → has_read footprint address ≡ true → other address ≡ one address)
    → (rows : List Accesses) → IsFootprintOf footprint rows → result ≡ agree one other (footprint_of rows)
agreed footprint one other result decides rows is = same_tests result (agree one other (footprint_of rows))
    (λ known_files. all_agree one other (footprint_of rows)
    (λ address there. decides.0 known_files address (is.read address ∙ there)))
    (λ all. decides.1
    (λ address there. among_agree one other (footprint_of rows) all address (sym (is.read address) ∙ there)))

-- a block that does not agree refutes all
pub refuted : {one other : Bytes} {block : Block} {result : Bool} (footprint : Footprint) (number : ℕ)
    → get nat_eq footprint.blocks number ≡ Some block
    → Decides result ((address : ℕ) → block_has_byte number block.read address ≡ true → other address ≡ one address)
    → result ≡ false
    → Decides false ((address : ℕ) → has_read footprint address ≡ true → other address ≡ one address)
refuted {block = block} footprint number found decides isnt = (
  (λ known_files. cc),
  (λ same. sym isnt ∙ decides.1 (λ address is. same address (byte_read footprint number address block found is))),
)

-- what was moved, of all that was written
pub moved_byte : (wanted : ℕ → Bool) (judged before after : Bytes) → ArePartlyMoved wanted judged before after
    → ((address : ℕ) → wanted address ≡ true → after address ≡ judged address)
    → (address : ℕ) → after address ≡ (if wanted address then judged address else before address)
moved_byte wanted judged before after partly all address = by (wanted address) refl
  where
    by : (test : Bool) → wanted address ≡ test
        → after address ≡ (if wanted address then judged address else before address)
    by true is = all address is ∙ rw is refl
    by false isnt = partly.others address isnt ∙ rw isnt refl

pub moved_rows : (footprint : Footprint) (judged before after : Bytes)
    → ((address : ℕ) → after address ≡ (if has_written footprint address then judged address else before address))
    → (rows : List Accesses) → IsFootprintOf footprint rows → after ≡ moved (writes_of rows) judged before
moved_rows footprint judged before after each rows is =
    fun_ext (λ address. each address ∙ ap (λ t. if t then judged address else before address) (is.wrote address))

-- the bytes of one block more
pub block_moved : {block : Block} {judged before now next : Bytes} (footprint : Footprint) (number : ℕ)
    → get nat_eq footprint.blocks number ≡ Some block
    → ArePartlyMoved (has_written footprint) judged before now
    → ArePartlyMoved (block_has_byte number block.wrote) judged now next
    → ArePartlyMoved (has_written footprint) judged before next
block_moved {block} footprint number found was more = record {
  either =
      λ address. elim (more.either address) [
        | inr moved ↦
            inr moved
        | inl kept ↦
            elim (was.either address) [ inl first ↦ inl (kept ∙ first) | inr moved ↦ inr (kept ∙ moved) ]
      ];
  others = λ address unwanted. more.others address (not_here address unwanted) ∙ was.others address unwanted;
}
  where
    by : (address : ℕ) (test : Bool) → block_has_byte number block.wrote address ≡ test
        → has_written footprint address ≡ false → block_has_byte number block.wrote address ≡ false
    by address false isnt unwanted = isnt
    by address true is unwanted =
        let never : false ≡ true = sym unwanted ∙ byte_wrote footprint number address block found is in cc

    not_here : (address : ℕ) → has_written footprint address ≡ false → block_has_byte number block.wrote address ≡ false
    not_here address unwanted = by address (block_has_byte number block.wrote address) refl unwanted

pub moved_stays : (wanted : ℕ → Bool) (judged now next : Bytes) → ArePartlyMoved wanted judged now next
    → (address : ℕ) → now address ≡ judged address → next address ≡ judged address
moved_stays wanted judged now next more address was =
    elim (more.either address) [ inl kept ↦ kept ∙ was | inr moved ↦ moved ]

-- the bytes of a block agree
abbrev pub AgreesAt : Footprint → Bytes → Bytes → ℕ → Type 0
AgreesAt footprint one other number =
    (address : ℕ) → address / 64 ≡ number → has_read footprint address ≡ true → other address ≡ one address

pub entry_agrees : {one other : Bytes} {key : ℕ} {block : Block} {rest later : List (ℕ × Block)} {result : Bool}
    (footprint : Footprint) → rest ≡ (key, block) ∷ later
    → get nat_eq footprint.blocks key ≡ Some block
    → Decides result ((address : ℕ) → block_has_byte key block.read address ≡ true → other address ≡ one address)
    → result ≡ true
    → (q : ℕ) → (is_some (lookup (nat_eq q) rest) ≡ true) ⊎ AgreesAt footprint one other q
    → (is_some (lookup (nat_eq q) later) ≡ true) ⊎ AgreesAt footprint one other q
entry_agrees {one} {other} {key} {block} footprint is found decides known_files q before =
    entry_done (AgreesAt footprint one other) is
    (λ address here read. decides.0 known_files address (read_byte footprint key address block found here read)) q
    before

pub all_decided : {one other : Bytes} {rest : List (ℕ × Block)} (footprint : Footprint) → rest ≡ []
    → ((q : ℕ) → is_some (get nat_eq footprint.blocks q) ≡ true
    → (is_some (lookup (nat_eq q) rest) ≡ true) ⊎ AgreesAt footprint one other q)
    → Decides true ((address : ℕ) → has_read footprint address ≡ true → other address ≡ one address)
all_decided {one} {other} {rest} footprint last done = (
  (λ known_files. everywhere_read (λ address. other address ≡ one address) footprint
      (λ q there. entries_done (AgreesAt footprint one other) rest last q (done q there))),
  (λ same. refl),
)

-- the bytes of a block were moved
abbrev pub MovedAt : Footprint → Bytes → Bytes → ℕ → Type 0
MovedAt footprint judged now number =
    (address : ℕ) → address / 64 ≡ number → has_written footprint address ≡ true → now address ≡ judged address

pub entry_moved : {judged now next : Bytes} {key : ℕ} {block : Block} {rest later : List (ℕ × Block)}
    (footprint : Footprint) → rest ≡ (key, block) ∷ later → get nat_eq footprint.blocks key ≡ Some block
    → ((address : ℕ) → block_has_byte key block.wrote address ≡ true → next address ≡ judged address)
    → ArePartlyMoved (block_has_byte key block.wrote) judged now next
    → (q : ℕ) → (is_some (lookup (nat_eq q) rest) ≡ true) ⊎ MovedAt footprint judged now q
    → (is_some (lookup (nat_eq q) later) ≡ true) ⊎ MovedAt footprint judged next q
entry_moved {judged} {now} {next} {key} {block} footprint is found all partly q before =
    entry_done (MovedAt footprint judged next) is
    (λ address here wrote. all address (wrote_byte footprint key address block found here wrote)) q (elim before [
      | inl left ↦ inl left
      | inr done ↦
          inr
          (λ address here wrote. moved_stays (block_has_byte key block.wrote) judged now next partly address
          (done address here wrote))
    ])

pub all_moved : {judged before now : Bytes} {rest : List (ℕ × Block)} (footprint : Footprint) → rest ≡ []
    → ((q : ℕ) → is_some (get nat_eq footprint.blocks q) ≡ true
    → (is_some (lookup (nat_eq q) rest) ≡ true) ⊎ MovedAt footprint judged now q)
    → ArePartlyMoved (has_written footprint) judged before now
    → (address : ℕ) → now address ≡ (if has_written footprint address then judged address else before address)
all_moved {judged} {before} {now} {rest} footprint last done partly =
    moved_byte (has_written footprint) judged before now partly
    (everywhere_written (λ address. now address ≡ judged address) footprint
    (λ q there. entries_done (MovedAt footprint judged now) rest last q (done q there)))

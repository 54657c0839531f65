-- What becomes of an entry that is set, and which entries a translation sets.
use Rattle.std.proofs.Common.{◌≡◌, ℕ, zero, suc, ◌-◌, ◌^◌, ◌<◌, ◌≤◌, ◌⊎◌, inl, inr, Bool, true, false, ◌&&◌, ◌||◌, cond}
use Rattle.std.proofs.Common.{max, List, [], ◌∷◌, length, refl, sym, ◌∙◌, ap, subst, arith}
use Rattle.std.specs.Prelude.{◌==◌, All, Option, Some, None, Result, Ok, Err}
use Rattle.std.specs.Int.{bit_at}
use Rattle.std.proofs.lemmas.Nat.Bits.{bit_at-lt, bit_at_or, bit_at-pow_same, bit_at-pow_other}
use Rattle.std.proofs.lemmas.Bool.{cond-true, cond-false, cases_Bool, and_parts, eqb-true, eqb-false}
use Rattle.std.proofs.lemmas.List.Elements.{All-nil}
use Rattle.hart_words.specs.declared.accesses.Write.{Write}
use Rattle.hart_words.specs.declared.options.Marks.{Marks}
use Rattle.hart_words.specs.declared.options.Marks.TheVariants as marks
use Rattle.hart_words.specs.declared.privilege.Access.{Access}
use Rattle.hart_words.specs.declared.privilege.Access.TheVariants.{Fetch, Load, Store}
use Rattle.hart_words.specs.declared.privilege.Cause.{Cause}
use Rattle.hart_words.specs.declared.privilege.WalkFlags.{WalkFlags}
use Rattle.hart_words.specs.EntryWrites.{entry_write}
use Rattle.hart_words.specs.Memory.{Bytes}
use Rattle.hart_words.specs.Privilege.{access_fault_of, page_fault_of}
use Rattle.sv39_walk.specs.Entries.{Tables, address_in, final_result, is_leaf, is_marked, leaf_allows, with_marks}
use Rattle.sv39_walk.specs.Entries.{marks_of}
use Rattle.sv39_walk.specs.Laws.{SetsEntry, is_mark, last_visit, walk_writes_of}
use Rattle.sv39_walk.specs.Walk.{Visit, chain, chain_wrote, entry_in, entry_writes_of, visit_at, visit_result}
use Rattle.sv39_walk.proofs.Walks.{translation-by_chain}

-- ---- the bits that an entry gains

bit_of_power : (k i : ℕ) → bit_at (2 ^ k) i ≡ cond (i == k) 1 0
bit_of_power k i = elim (cases_Bool (i == k)) [
  | inl same ↦
      ap (λ n. bit_at (2 ^ k) n) (eqb-true i k same) ∙ bit_at-pow_same k ∙ sym (cond-true (i == k) 1 0 same)
  | inr other ↦ bit_at-pow_other k i (eqb-false i k other) ∙ sym (cond-false (i == k) 1 0 other)
]

one_of_two : (a b : Bool) → max (cond a 1 0) (cond b 1 0) ≡ cond (a || b) 1 0
one_of_two true true = refl
one_of_two true false = refl
one_of_two false true = refl
one_of_two false false = refl

mark_bit : (access : Access) (i : ℕ) → bit_at (marks_of access) i ≡ cond (is_mark access i) 1 0
mark_bit Fetch i = bit_of_power 6 i
mark_bit Load i = bit_of_power 6 i
mark_bit Store i =
    bit_at_or (2 ^ 6) (2 ^ 7) i
    ∙ ap (λ n. max n (bit_at (2 ^ 7) i)) (bit_of_power 6 i)
    ∙ ap (λ n. max (cond (i == 6) 1 0) n) (bit_of_power 7 i)
    ∙ one_of_two (i == 6) (i == 7)

gained : (test : Bool) (bit : ℕ) → bit < 2 → max bit (cond test 1 0) ≡ cond test 1 bit
gained true zero below = refl
gained true (suc zero) below = refl
gained true (suc (suc bit)) below = absurd (omega arith)
gained false bit below = omega arith

pub gains_its_marks : (access : Access) (entry i : ℕ)
    → bit_at (with_marks access entry) i ≡ cond (is_mark access i) 1 (bit_at entry i)
unfolding with_marks
gains_its_marks access entry i =
    bit_at_or entry (marks_of access) i ∙ ap (λ n. max (bit_at entry i) n) (mark_bit access i)
    ∙ gained (is_mark access i) (bit_at entry i) (bit_at-lt entry i)

-- ---- what the last visit of a chain sets

-- writes of one entry at most, of the visit
record AtMostOne (tables : Tables) (bytes : Bytes) (flags : WalkFlags) (access : Access) (visit : Visit)
    (writes : List Write) : Type 0 where
  one : length writes ≤ 1
  entries : All (SetsEntry tables bytes flags access visit) writes

nothing : (tables : Tables) (bytes : Bytes) (flags : WalkFlags) (access : Access) (visit : Visit)
    → AtMostOne tables bytes flags access visit []
nothing tables bytes flags access visit =
    record { one = omega arith; entries = All-nil (SetsEntry tables bytes flags access visit) }

single : (tables : Tables) (bytes : Bytes) (flags : WalkFlags) (access : Access) (visit : Visit) (write : Write)
    → SetsEntry tables bytes flags access visit write → AtMostOne tables bytes flags access visit (write ∷ [])
single tables bytes flags access visit write is = record { one = omega arith; entries = every }
  where
    every : All (SetsEntry tables bytes flags access visit) (write ∷ [])
    every zero d below = is
    every (suc k) d below = absurd (omega arith)

cases_Marks : (choice : Marks) → (choice ≡ marks.Fault) ⊎ (choice ≡ marks.Set)
cases_Marks marks.Fault = inl refl
cases_Marks marks.Set = inr refl

-- a translation, but for the table that it begins in
record Asked : Type 0 where
  tables : Tables
  bytes : Bytes
  flags : WalkFlags
  va : ℕ
  access : Access

abbrev result_of : Asked → Visit → Result (ℕ × Option ℕ) Cause
result_of asked visit = visit_result asked.tables asked.bytes asked.flags asked.va asked.access visit

abbrev SetsOne : Asked → Visit → List Write → Type 0
SetsOne asked visit writes = AtMostOne asked.tables asked.bytes asked.flags asked.access visit writes

abbrev entry_at : Asked → Visit → ℕ
entry_at asked visit = entry_in asked.bytes visit

abbrev is_allowed : Asked → Visit → Bool
is_allowed asked visit =
    is_leaf (entry_at asked visit) && leaf_allows visit.level asked.flags asked.access (entry_at asked visit)

by_result : (asked : Asked) (visit : Visit) {result : Result (ℕ × Option ℕ) Cause} → result_of asked visit ≡ result
    → SetsOne asked visit (entry_writes_of visit.pa result)
    → SetsOne asked visit (entry_writes_of visit.pa (result_of asked visit))
by_result asked visit is sets =
    let P : Result (ℕ × Option ℕ) Cause → Type 0 = λ r. SetsOne asked visit (entry_writes_of visit.pa r) in
    subst P (sym is) sets

none : (asked : Asked) (visit : Visit) → SetsOne asked visit []
none asked visit = nothing asked.tables asked.bytes asked.flags asked.access visit

refused : (asked : Asked) (visit : Visit) {fault : Cause} → result_of asked visit ≡ Err fault
    → SetsOne asked visit (entry_writes_of visit.pa (result_of asked visit))
refused asked visit is = by_result asked visit is (none asked visit)

abbrev place_of : Asked → Visit → ℕ
place_of asked visit = address_in visit.level (entry_at asked visit) asked.va

-- a page that allows the access but lacks A, or D
unmarked_sets : (asked : Asked) (visit : Visit) → asked.tables.readable visit.pa ≡ true
    → is_allowed asked visit ≡ true → is_marked asked.access (entry_at asked visit) ≡ false
    → SetsOne asked visit (entry_writes_of visit.pa (result_of asked visit))
unfolding final_result
unmarked_sets asked visit can allowed lacks = elim (cases_Marks asked.tables.marks) [
  | inl fault ↦ refused asked visit {fault = page_fault_of asked.access} (rw (can, allowed, lacks, fault) refl)
  | inr set ↦ elim (cases_Bool (asked.tables.settable visit.pa)) [
    | inl may ↦
        let parts = and_parts (is_leaf (entry_at asked visit))
        (leaf_allows visit.level asked.flags asked.access (entry_at asked visit)) allowed in
        let entry : ℕ = with_marks asked.access (entry_at asked visit) in
        by_result asked visit {result = Ok (place_of asked visit, Some entry)}
        (rw (can, allowed, lacks, set, may) refl)
        (single asked.tables asked.bytes asked.flags asked.access visit (entry_write visit.pa entry) (record {
          marks = set;
          readable = can;
          settable = may;
          leaf = parts.0;
          allows = parts.1;
          unmarked = lacks;
          write_is = refl;
        }))
    | inr cannot ↦
        refused asked visit {fault = access_fault_of asked.access} (rw (can, allowed, lacks, set, cannot) refl)
  ]
]

visit_sets : (asked : Asked) (visit : Visit) → SetsOne asked visit (entry_writes_of visit.pa (result_of asked visit))
unfolding final_result
visit_sets asked visit = elim (cases_Bool (asked.tables.readable visit.pa)) [
  | inr cannot ↦ refused asked visit {fault = access_fault_of asked.access} (rw cannot refl)
  | inl can ↦ elim (cases_Bool (is_allowed asked visit)) [
    | inr bad ↦ refused asked visit {fault = page_fault_of asked.access} (rw (can, bad) refl)
    | inl allowed ↦ elim (cases_Bool (is_marked asked.access (entry_at asked visit))) [
      | inl has ↦
          by_result asked visit {result = Ok (place_of asked visit, None)} (rw (can, allowed, has) refl)
          (none asked visit)
      | inr lacks ↦ unmarked_sets asked visit can allowed lacks
    ]
  ]
]

-- ---- a chain and a translation

abbrev wrote_along : Asked → List Visit → List Write
wrote_along asked visits = chain_wrote asked.tables asked.bytes asked.flags asked.va asked.access visits

last-front : (visit next : Visit) (more : List Visit)
    → last_visit (visit ∷ next ∷ more) ≡ last_visit (next ∷ more)
last-front visit next more =
    let one : suc (suc (length more)) - 1 ≡ suc (length more) = omega arith in
    let other : suc (length more) - 1 ≡ length more = omega arith in
    ap (visit_at (visit ∷ next ∷ more)) one ∙ sym (ap (visit_at (next ∷ more)) other)

chain_sets : (asked : Asked) (visits : List Visit) → SetsOne asked (last_visit visits) (wrote_along asked visits)
unfolding chain_wrote
chain_sets asked [] = none asked (last_visit [])
chain_sets asked (visit ∷ []) = visit_sets asked visit
chain_sets asked (visit ∷ next ∷ more) =
    let P : Visit → Type 0 = λ v. SetsOne asked v (wrote_along asked (next ∷ more)) in
    subst P (sym (last-front visit next more)) (chain_sets asked (next ∷ more))

translation_sets : (asked : Asked) (satp : ℕ)
    → SetsOne asked (last_visit (chain asked.tables.readable asked.bytes satp asked.va))
    (walk_writes_of asked.tables asked.bytes satp asked.flags asked.va asked.access)
translation_sets asked satp =
    let visits : List Visit = chain asked.tables.readable asked.bytes satp asked.va in
    let P : List Write → Type 0 = λ writes. SetsOne asked (last_visit visits) writes in
    subst P
    (sym
    (ap (λ run. run.wrote)
    (translation-by_chain asked.tables asked.bytes satp asked.flags asked.va asked.access)))
    (chain_sets asked visits)

abbrev asked_of : Tables → Bytes → WalkFlags → ℕ → Access → Asked
asked_of tables bytes flags va access =
    record { tables = tables; bytes = bytes; flags = flags; va = va; access = access }

pub writes_at_most_one : (tables : Tables) (bytes : Bytes) (satp : ℕ) (flags : WalkFlags) (va : ℕ) (access : Access)
    → length (walk_writes_of tables bytes satp flags va access) ≤ 1
writes_at_most_one tables bytes satp flags va access =
    (translation_sets (asked_of tables bytes flags va access) satp).one

pub sets_its_last : (tables : Tables) (bytes : Bytes) (satp : ℕ) (flags : WalkFlags) (va : ℕ) (access : Access)
    → All (SetsEntry tables bytes flags access (last_visit (chain tables.readable bytes satp va)))
    (walk_writes_of tables bytes satp flags va access)
sets_its_last tables bytes satp flags va access =
    (translation_sets (asked_of tables bytes flags va access) satp).entries

none_of_all : (asked : Asked) (visit : Visit) (writes : List Write)
    → All (SetsEntry asked.tables asked.bytes asked.flags asked.access visit) writes
    → asked.tables.marks ≡ marks.Fault → writes ≡ []
none_of_all asked visit [] all fault = refl
none_of_all asked visit (write ∷ more) all fault =
    let first = all 0 write (omega arith) in
    let both : marks.Fault ≡ marks.Set = sym fault ∙ first.marks in
    cc

pub writes_none_under_fault : (tables : Tables) (bytes : Bytes) (satp : ℕ) (flags : WalkFlags) (va : ℕ)
    (access : Access) → tables.marks ≡ marks.Fault → walk_writes_of tables bytes satp flags va access ≡ []
writes_none_under_fault tables bytes satp flags va access =
    none_of_all (asked_of tables bytes flags va access) (last_visit (chain tables.readable bytes satp va))
    (walk_writes_of tables bytes satp flags va access) (sets_its_last tables bytes satp flags va access)

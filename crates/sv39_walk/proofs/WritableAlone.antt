-- An entry that is writable and not readable ends its walk in a page fault.
use Rattle.std.proofs.Common.{◌≡◌, ℕ, zero, suc, ◌<◌, inl, inr, Bool, true, false, ◌&&◌, ◌||◌, List, [], ◌∷◌, length}
use Rattle.std.proofs.Common.{refl, sym, ◌∙◌, ap, subst, arith}
use Rattle.std.specs.Prelude.{not, ◌==◌, ◌/◌, ◌^◌, Err}
use Rattle.std.proofs.lemmas.Bool.{cases_Bool, and_left}
use Rattle.hart_words.specs.declared.privilege.Access.{Access}
use Rattle.hart_words.specs.declared.privilege.WalkFlags.{WalkFlags}
use Rattle.hart_words.specs.Memory.{Bytes}
use Rattle.hart_words.specs.Privilege.{page_fault_of}
use Rattle.sv39_walk.specs.declared.entry.Flag.TheVariants.{Valid}
use Rattle.sv39_walk.specs.declared.entry.TheConstants.{RESERVED_BIT}
use Rattle.sv39_walk.specs.Entries.{Tables, final_result, is_canonical, is_leaf, is_link, is_meaningless, is_set}
use Rattle.sv39_walk.specs.Entries.{leaf_allows}
use Rattle.sv39_walk.specs.Laws.{is_writable_alone}
use Rattle.sv39_walk.specs.Walk.{Visit, address_of, chain, chain_result, entry_in, translation_of, visit_at}
use Rattle.sv39_walk.specs.Walk.{visit_result}
use Rattle.sv39_walk.proofs.Chains.{chain-IsWalk, chain-none}
use Rattle.sv39_walk.proofs.Walks.{translation-by_chain}

one_of_three : (first last : Bool) → (first || true || last) ≡ true
one_of_three true last = refl
one_of_three false last = refl

meaningless : (entry : ℕ) → is_writable_alone entry ≡ true → is_meaningless entry ≡ true
unfolding is_meaningless
meaningless entry alone =
    let first : Bool = not (is_set entry Valid) in
    let last : Bool = not (entry / 2 ^ RESERVED_BIT == 0) in
    subst (λ (middle : Bool). (first || middle || last) ≡ true) (sym alone) (one_of_three first last)

no_link : (entry : ℕ) → is_writable_alone entry ≡ true → is_link entry ≡ false
unfolding is_link
no_link entry alone = rw (meaningless entry alone) refl

no_leaf : (entry : ℕ) → is_writable_alone entry ≡ true → is_leaf entry ≡ false
unfolding is_leaf
no_leaf entry alone = rw (meaningless entry alone) refl

visit_refused : (tables : Tables) (bytes : Bytes) (flags : WalkFlags) (va : ℕ) (access : Access) (visit : Visit)
    → tables.readable visit.pa ≡ true → is_writable_alone (entry_in bytes visit) ≡ true
    → address_of (visit_result tables bytes flags va access visit) ≡ Err (page_fault_of access)
unfolding final_result
visit_refused tables bytes flags va access visit can alone =
    let entry : ℕ = entry_in bytes visit in
    let refused : (is_leaf entry && leaf_allows visit.level flags access entry) ≡ false =
    and_left (is_leaf entry) (leaf_allows visit.level flags access entry) (no_leaf entry alone) in
    rw (can, refused) refl

-- a visit whose entry is no pointer is the last, and decides
decides : (tables : Tables) (bytes : Bytes) (flags : WalkFlags) (va : ℕ) (access : Access) (visits : List Visit)
    → ((j : ℕ) → suc j < length visits → is_link (entry_in bytes (visit_at visits j)) ≡ true)
    → (i : ℕ) → i < length visits → is_link (entry_in bytes (visit_at visits i)) ≡ false
    → chain_result tables bytes flags va access visits
    ≡ address_of (visit_result tables bytes flags va access (visit_at visits i))
unfolding chain_result
decides tables bytes flags va access [] links i below none = absurd (omega (arith, below))
decides tables bytes flags va access (visit ∷ []) links zero below none = refl
decides tables bytes flags va access (visit ∷ []) links (suc i) below none = absurd (omega (arith, below))
decides tables bytes flags va access (visit ∷ next ∷ more) links zero below none =
    let both : true ≡ false = sym (links 0 (omega arith)) ∙ none in
    cc
decides tables bytes flags va access (visit ∷ next ∷ more) links (suc i) below none =
    decides tables bytes flags va access (next ∷ more) (λ j inside. links (suc j) (omega (arith, inside))) i
    (omega (arith, below)) none

pub writable_alone_refused : (tables : Tables) (bytes : Bytes) (satp : ℕ) (flags : WalkFlags) (va : ℕ)
    (access : Access) (i : ℕ) → i < length (chain tables.readable bytes satp va)
    → tables.readable (visit_at (chain tables.readable bytes satp va) i).pa ≡ true
    → is_writable_alone (entry_in bytes (visit_at (chain tables.readable bytes satp va) i)) ≡ true
    → ((translation_of tables satp flags va access).run bytes).value ≡ Err (page_fault_of access)
writable_alone_refused tables bytes satp flags va access i below can alone =
    let visits : List Visit = chain tables.readable bytes satp va in
    let visit : Visit = visit_at visits i in
    elim (cases_Bool (is_canonical va)) [
      | inl canonical ↦
          let walk = chain-IsWalk tables.readable bytes satp va canonical in
          ap (λ run. run.value) (translation-by_chain tables bytes satp flags va access)
          ∙ decides tables bytes flags va access visits (λ j inside. (walk.next j inside).link) i below
          (no_link (entry_in bytes visit) alone)
          ∙ visit_refused tables bytes flags va access visit can alone
      | inr none ↦
          let empty : length visits ≡ 0 = ap length (chain-none tables.readable bytes satp va none) in
          absurd (omega (arith, below, empty))
    ]

-- The chain is the walk from entry to entry, and the only one.
use Rattle.std.proofs.Common.{◌≡◌, ℕ, zero, suc, ◌<◌, ◌≤◌, inl, inr, Bool, true, false, ◌&&◌, List, [], ◌∷◌, length}
use Rattle.std.proofs.Common.{refl, sym, ◌∙◌, ap, subst, arith}
use Rattle.std.proofs.lemmas.Bool.{cond-true, cond-false, cases_Bool, and_left, and_right, and_from}
use Rattle.hart_words.specs.Memory.{Bytes, number_at}
use Rattle.sv39_walk.specs.Entries.{page_number, is_link, entry_address, is_canonical}
use Rattle.sv39_walk.specs.Walk.{root_of, Visit, chain_from, chain, visit_at, LeadsTo, LeadsNoFurther, IsWalk}
use Rattle.sv39_walk.proofs.Walks.{chain_from-stops, chain_from-goes_on, chain_from-last}

-- a walk of one visit
single : (readable : ℕ → Bool) (bytes : Bytes) (va level pa : ℕ)
    → LeadsNoFurther readable bytes (record { level = level; pa = pa })
    → IsWalk readable bytes va level pa (record { level = level; pa = pa } ∷ [])
single readable bytes va level pa ends = record {
  nonempty = omega arith;
  within_levels = omega arith;
  first = refl;
  next = λ i below. absurd (omega arith);
  last = last_of_one;
}
  where
    last_of_one : (i : ℕ) → suc i ≡ 1
        → LeadsNoFurther readable bytes (visit_at (record { level = level; pa = pa } ∷ []) i)
    last_of_one zero e = ends
    last_of_one (suc i) e = absurd (omega arith)

-- a visit before a walk
longer : (readable : ℕ → Bool) (bytes : Bytes) (va level pa : ℕ) {visits : List Visit} → readable pa ≡ true
    → is_link (number_at bytes pa 8) ≡ true
    → IsWalk readable bytes va level (entry_address level (page_number (number_at bytes pa 8)) va) visits
    → IsWalk readable bytes va (suc level) pa (record { level = suc level; pa = pa } ∷ visits)
longer readable bytes va level pa {visits} can link walk = record {
  nonempty = omega arith;
  within_levels = omega (arith, walk.within_levels);
  first = refl;
  next = next_of_more;
  last = last_of_more;
}
  where
    leads : LeadsTo readable bytes va (record { level = suc level; pa = pa }) (visit_at visits 0)
    leads = record {
      read = can;
      link = link;
      below = sym (ap (λ (v : Visit). suc v.level) walk.first);
      place =
          ap (λ (v : Visit). v.pa) walk.first
          ∙ sym (ap (λ (v : Visit). entry_address v.level (page_number (number_at bytes pa 8)) va) walk.first);
    }

    next_of_more : (i : ℕ) → suc i < suc (length visits)
        → LeadsTo readable bytes va (visit_at (record { level = suc level; pa = pa } ∷ visits) i)
        (visit_at (record { level = suc level; pa = pa } ∷ visits) (suc i))
    next_of_more zero below = leads
    next_of_more (suc i) below = walk.next i (omega arith)

    last_of_more : (i : ℕ) → suc i ≡ suc (length visits)
        → LeadsNoFurther readable bytes (visit_at (record { level = suc level; pa = pa } ∷ visits) i)
    last_of_more zero e = absurd (omega (arith, walk.nonempty))
    last_of_more (suc i) e = walk.last i (omega arith)

walk-chain_from : (readable : ℕ → Bool) (bytes : Bytes) (va level table : ℕ)
    → IsWalk readable bytes va level (entry_address level table va) (chain_from readable bytes va level table)
walk-chain_from readable bytes va zero table =
    let P : List Visit → Type 0 = λ visits. IsWalk readable bytes va 0 (entry_address 0 table va) visits in
    subst P (sym (chain_from-last readable bytes va table))
    (single readable bytes va 0 (entry_address 0 table va) (inl refl))
walk-chain_from readable bytes va (suc level) table =
    let pa : ℕ = entry_address (suc level) table va in
    let entry : ℕ = number_at bytes pa 8 in
    let P : List Visit → Type 0 = λ visits. IsWalk readable bytes va (suc level) pa visits in
    let below : IsWalk readable bytes va level (entry_address level (page_number entry) va)
    (chain_from readable bytes va level (page_number entry)) =
    walk-chain_from readable bytes va level (page_number entry) in
    elim (cases_Bool (readable pa)) [
      | inr cannot ↦
          subst P (sym (chain_from-stops readable bytes va level table
          (and_left (readable pa) (is_link entry) cannot))) (single readable bytes va (suc level) pa (inr (inl cannot)))
      | inl can ↦ elim (cases_Bool (is_link entry)) [
        | inl link ↦
            subst P (sym (chain_from-goes_on readable bytes va level table
            (and_from (readable pa) (is_link entry) can link)))
            (longer readable bytes va level pa can link below)
        | inr none ↦
            subst P (sym (chain_from-stops readable bytes va level table
            (and_right (readable pa) (is_link entry) none))) (single readable bytes va (suc level) pa (inr (inr none)))
      ]
    ]

pub chain-IsWalk : (readable : ℕ → Bool) (bytes : Bytes) (satp va : ℕ) → is_canonical va ≡ true
    → IsWalk readable bytes va 2 (entry_address 2 (root_of satp) va) (chain readable bytes satp va)
unfolding chain
chain-IsWalk readable bytes satp va e =
    let P : List Visit → Type 0 = λ visits. IsWalk readable bytes va 2 (entry_address 2 (root_of satp) va) visits in
    subst P (sym (cond-true (is_canonical va) (chain_from readable bytes va 2 (root_of satp)) [] e))
    (walk-chain_from readable bytes va 2 (root_of satp))

pub chain-none : (readable : ℕ → Bool) (bytes : Bytes) (satp va : ℕ) → is_canonical va ≡ false
    → chain readable bytes satp va ≡ []
unfolding chain
chain-none readable bytes satp va e = cond-false (is_canonical va) (chain_from readable bytes va 2 (root_of satp)) [] e

-- what follows the first visit of a walk is a walk
shorter : (readable : ℕ → Bool) (bytes : Bytes) (va level pa : ℕ) (next : Visit) (more : List Visit)
    → IsWalk readable bytes va (suc level) pa (record { level = suc level; pa = pa } ∷ next ∷ more)
    → IsWalk readable bytes va level (entry_address level (page_number (number_at bytes pa 8)) va) (next ∷ more)
shorter readable bytes va level pa next more walk =
    let on : LeadsTo readable bytes va (record { level = suc level; pa = pa }) next = walk.next 0 (omega arith) in
    let same : next.level ≡ level = omega (arith, on.below) in
    record {
      nonempty = omega arith;
      within_levels = omega (arith, walk.within_levels);
      first =
          ap (λ n. record { level = n; pa = next.pa }) same
          ∙ ap (λ a. record { level = level; pa = a })
          (on.place ∙ ap (λ n. entry_address n (page_number (number_at bytes pa 8)) va) same);
      next = λ i below. walk.next (suc i) (omega arith);
      last = λ i e. walk.last (suc i) (omega arith);
    }

no_more : (visits : List Visit) → length visits ≤ 0 → visits ≡ []
no_more [] h = refl
no_more (visit ∷ visits) h = absurd (omega arith)

-- one visit at a level above 0 that leads no further
stops : (readable : ℕ → Bool) (bytes : Bytes) (level pa : ℕ)
    → LeadsNoFurther readable bytes (record { level = suc level; pa = pa })
    → (readable pa && is_link (number_at bytes pa 8)) ≡ false
stops readable bytes level pa (inl e) = absurd (omega (arith, e))
stops readable bytes level pa (inr (inl cannot)) = and_left (readable pa) (is_link (number_at bytes pa 8)) cannot
stops readable bytes level pa (inr (inr none)) = and_right (readable pa) (is_link (number_at bytes pa 8)) none

walk_is_chain : (readable : ℕ → Bool) (bytes : Bytes) (va level table : ℕ) (rest : List Visit)
    → IsWalk readable bytes va level (entry_address level table va)
    (record { level = level; pa = entry_address level table va } ∷ rest)
    → record { level = level; pa = entry_address level table va } ∷ rest ≡ chain_from readable bytes va level table
walk_is_chain readable bytes va zero table rest walk =
    ap (λ (visits : List Visit). record { level = 0; pa = entry_address 0 table va } ∷ visits)
    (no_more rest (omega (arith, walk.within_levels)))
    ∙ sym (chain_from-last readable bytes va table)
walk_is_chain readable bytes va (suc level) table [] walk =
    sym
    (chain_from-stops readable bytes va level table
    (stops readable bytes level (entry_address (suc level) table va) (walk.last 0 refl)))
walk_is_chain readable bytes va (suc level) table (next ∷ more) walk =
    let pa : ℕ = entry_address (suc level) table va in
    let on : LeadsTo readable bytes va (record { level = suc level; pa = pa }) next = walk.next 0 (omega arith) in
    let rest : IsWalk readable bytes va level (entry_address level (page_number (number_at bytes pa 8)) va)
    (next ∷ more) = shorter readable bytes va level pa next more walk in
    let below : next ∷ more ≡ chain_from readable bytes va level (page_number (number_at bytes pa 8)) =
    subst
    (λ (v : Visit). IsWalk readable bytes va level (entry_address level (page_number (number_at bytes pa 8)) va)
    (v ∷ more) → v ∷ more ≡ chain_from readable bytes va level (page_number (number_at bytes pa 8)))
    (sym rest.first)
    (walk_is_chain readable bytes va level (page_number (number_at bytes pa 8)) more) rest in
    ap (λ (visits : List Visit). record { level = suc level; pa = pa } ∷ visits) below
    ∙ sym
    (chain_from-goes_on readable bytes va level table
    (and_from (readable pa) (is_link (number_at bytes pa 8)) on.read on.link))

walk_from : (readable : ℕ → Bool) (bytes : Bytes) (va level table : ℕ) (visits : List Visit)
    → IsWalk readable bytes va level (entry_address level table va) visits
    → visits ≡ chain_from readable bytes va level table
walk_from readable bytes va level table [] walk = absurd (omega (arith, walk.nonempty))
walk_from readable bytes va level table (visit ∷ rest) walk =
    subst
    (λ (v : Visit). IsWalk readable bytes va level (entry_address level table va) (v ∷ rest)
    → v ∷ rest ≡ chain_from readable bytes va level table) (sym walk.first)
    (walk_is_chain readable bytes va level table rest) walk

pub walk-unique : (readable : ℕ → Bool) (bytes : Bytes) (satp va : ℕ) (visits : List Visit) → is_canonical va ≡ true
    → IsWalk readable bytes va 2 (entry_address 2 (root_of satp) va) visits → visits ≡ chain readable bytes satp va
unfolding chain
walk-unique readable bytes satp va visits e walk =
    walk_from readable bytes va 2 (root_of satp) visits walk
    ∙ sym (cond-true (is_canonical va) (chain_from readable bytes va 2 (root_of satp)) [] e)

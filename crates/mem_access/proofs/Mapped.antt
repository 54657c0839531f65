-- Each byte of a translated access is where a leaf of its virtual address puts it.
use Rattle.std.proofs.Common.{◌≡◌, ℕ, zero, suc, ◌+◌, ◌*◌, ◌-◌, ◌/◌, ◌%◌, ◌^◌, ◌<◌, ◌≤◌, ◌⊎◌, inl, inr, Bool}
use Rattle.std.proofs.Common.{true, false, ◌&&◌, List, [], ◌∷◌, length, refl, sym, ap, ◌∙◌, subst, arith, Ok, Err}
use Rattle.std.proofs.Common.{Result}
use Rattle.std.proofs.Common.{if◌then◌else◌}
use Rattle.std.specs.Prelude.{◌==◌, IfOk, None}
use Rattle.std.proofs.lemmas.Bool.{and_parts}
use Rattle.std.proofs.lemmas.Nat.{shr_split, shr-shr}
use Rattle.std.proofs.lemmas.Result.{IfOk-weaker}
use Rattle.hart_words.specs.declared.privilege.Access.{Access}
use Rattle.hart_words.specs.declared.privilege.Cause.{Cause}
use Rattle.hart_words.specs.declared.privilege.WalkFlags.{WalkFlags}
use Rattle.hart_words.specs.declared.map.Map.{Map}
use Rattle.hart_words.specs.declared.choices.Choices.{Choices}
use Rattle.hart_words.specs.declared.options.Marks.{Marks}
use Rattle.hart_words.specs.declared.options.Marks.TheVariants as marks
use Rattle.hart_words.specs.Memory.{Bytes, number_at}
use Rattle.hart_words.specs.Privilege.{access_fault_of, page_fault_of}
use Rattle.csr_file.specs.declared.csrs.Csrs.{Csrs}
use Rattle.csr_file.specs.declared.stored_csr.StoredCsr.TheVariants.{Satp}
use Rattle.csr_file.specs.Registers.{at}
use Rattle.sv39_walk.specs.Entries.{Tables, address_in, entry_address, final_result, is_canonical, is_leaf, is_link}
use Rattle.sv39_walk.specs.Entries.{is_marked, leaf_allows, page_number, page_size, unmarked_by}
use Rattle.sv39_walk.specs.Walk.{Visit, address_of, chain, chain_from, chain_result, entry_in, root_of, visit_at}
use Rattle.mem_access.specs.declared.place.AccessRequest.{AccessRequest}
use Rattle.mem_access.specs.declared.place.Place.{Place}
use Rattle.mem_access.specs.Translation.{is_readable, is_translated, place_after_translation, tables_of, walk_flags_of}
use Rattle.mem_access.specs.Reads.{AreMapped, IsMapped, address_found, chain_of, place_found}
use Rattle.mem_access.specs.Laws.{PlaceIsMapped}
use Rattle.mem_access.proofs.Physical.{IsAt, placed_at}

-- what is translated
record Walked : Type 0 where
  tables : Tables
  bytes : Bytes
  flags : WalkFlags
  va : ℕ
  access : Access

abbrev entry_at : Walked → Visit → ℕ
entry_at walked visit = entry_in walked.bytes visit

-- a page's entry that gives an address
record IsGiven (walked : Walked) (visit : Visit) (pa : ℕ) : Type 0 where
  leaf : is_leaf (entry_at walked visit) ≡ true
  allows : leaf_allows visit.level walked.flags walked.access (entry_at walked visit) ≡ true
  marks : (is_marked walked.access (entry_at walked visit) ≡ true)
      ⊎ ((walked.tables.marks ≡ marks.Set) × (walked.tables.settable visit.pa ≡ true))
  address : pa ≡ address_in visit.level (entry_at walked visit) walked.va

abbrev given_address : Walked → Visit → ℕ
given_address walked visit = address_in visit.level (entry_at walked visit) walked.va

-- a page that allows the access
abbrev Allows : Walked → Visit → Type 0
Allows walked visit =
    (is_leaf (entry_at walked visit) ≡ true)
    × (leaf_allows visit.level walked.flags walked.access (entry_at walked visit) ≡ true)

unmarked_given : (walked : Walked) (visit : Visit) (pa : ℕ) → Allows walked visit → (choice : Marks) (can : Bool)
    → (walked.tables.marks ≡ choice) × (walked.tables.settable visit.pa ≡ can)
    → address_of (unmarked_by choice can walked.access (entry_at walked visit) (given_address walked visit)) ≡ Ok pa
    → IsGiven walked visit pa
unmarked_given walked visit pa allows marks.Fault can is got = let none : ⊥ = cc in absurd none
unmarked_given walked visit pa allows marks.Set false is got = let none : ⊥ = cc in absurd none
unmarked_given walked visit pa allows marks.Set true is got =
    record { leaf = allows.0; allows = allows.1; marks = inr is; address = cc }

marked_given : (walked : Walked) (visit : Visit) (pa : ℕ) → Allows walked visit → (has : Bool)
    → is_marked walked.access (entry_at walked visit) ≡ has
    → address_of (if has then Ok (given_address walked visit, None) else unmarked_by walked.tables.marks
    (walked.tables.settable visit.pa) walked.access (entry_at walked visit) (given_address walked visit)) ≡ Ok pa
    → IsGiven walked visit pa
marked_given walked visit pa allows true is got =
    record { leaf = allows.0; allows = allows.1; marks = inl is; address = cc }
marked_given walked visit pa allows false is got =
    unmarked_given walked visit pa allows walked.tables.marks (walked.tables.settable visit.pa) (refl, refl) got

given_by : (walked : Walked) (visit : Visit) (pa : ℕ)
    → address_of (final_result walked.tables visit.level walked.flags walked.va walked.access visit.pa
    (entry_at walked visit)) ≡ Ok pa
    → IsGiven walked visit pa
unfolding final_result
given_by walked visit pa got =
    by (is_leaf entry && leaf_allows visit.level walked.flags walked.access entry) refl got
  where
    entry : ℕ
    entry = entry_at walked visit

    by : (passes : Bool) → (is_leaf entry && leaf_allows visit.level walked.flags walked.access entry) ≡ passes
        → address_of (if passes then (if is_marked walked.access entry then Ok (given_address walked visit, None)
        else unmarked_by walked.tables.marks (walked.tables.settable visit.pa) walked.access entry
        (given_address walked visit)) else Err (page_fault_of walked.access)) ≡ Ok pa
        → IsGiven walked visit pa
    by true is got =
        marked_given walked visit pa
        (and_parts (is_leaf entry) (leaf_allows visit.level walked.flags walked.access entry) is)
        (is_marked walked.access entry) refl got
    by false is got = let none : ⊥ = cc in absurd none

-- the leaf that gives an address, in a chain
record IsLeafOf (walked : Walked) (visits : List Visit) (pa : ℕ) : Type 0 where
  number : ℕ
  visit : Visit
  exists : number < length visits
  in_chain : visit_at visits number ≡ visit
  can : walked.tables.readable visit.pa ≡ true
  gives : IsGiven walked visit pa

leaf_of : (walked : Walked) (visits : List Visit) (pa : ℕ)
    → chain_result walked.tables walked.bytes walked.flags walked.va walked.access visits ≡ Ok pa
    → IsLeafOf walked visits pa
unfolding chain_result
leaf_of walked [] pa got = let none : ⊥ = cc in absurd none
leaf_of walked (visit ∷ []) pa got = by (walked.tables.readable visit.pa) refl got
  where
    by : (can : Bool) → walked.tables.readable visit.pa ≡ can
        → address_of (if can then final_result walked.tables visit.level walked.flags walked.va walked.access visit.pa
        (entry_at walked visit) else Err (access_fault_of walked.access)) ≡ Ok pa
        → IsLeafOf walked (visit ∷ []) pa
    by true is got = record {
      number = 0;
      visit = visit;
      exists = omega arith;
      in_chain = refl;
      can = is;
      gives = given_by walked visit pa got;
    }
    by false is got = let none : ⊥ = cc in absurd none
leaf_of walked (visit ∷ next ∷ more) pa got =
    let rest = leaf_of walked (next ∷ more) pa got in
    record {
      number = suc rest.number;
      visit = rest.visit;
      exists = omega (arith, rest.exists);
      in_chain = rest.in_chain;
      can = rest.can;
      gives = rest.gives;
    }

-- addresses of one page of 4 KiB have one chain
abbrev InOnePage : ℕ → ℕ → Type 0
InOnePage va other = (k : ℕ) → other / 2 ^ (12 + k) ≡ va / 2 ^ (12 + k)

same_entry : (level table va other : ℕ) → InOnePage va other → entry_address level table other
    ≡ entry_address level table va
unfolding entry_address
same_entry level table va other same = ap (λ n. 4096 * table + 8 * (n % 512)) (same (9 * level))

abbrev node : (ℕ → Bool) → Bytes → ℕ → ℕ → List Visit → List Visit
node readable bytes level pa rest =
    record { level = suc level; pa = pa } ∷ (if readable pa && is_link (number_at bytes pa 8) then rest else [])

same_from : (readable : ℕ → Bool) (bytes : Bytes) (va other level table : ℕ) → InOnePage va other
    → chain_from readable bytes other level table ≡ chain_from readable bytes va level table
unfolding chain_from
same_from readable bytes va other zero table same =
    ap (λ (pa : ℕ). record { level = 0; pa = pa } ∷ []) (same_entry 0 table va other same)
same_from readable bytes va other (suc level) table same =
    let pa : ℕ = entry_address (suc level) table va in
    ap (λ (at : ℕ). node readable bytes level at
    (chain_from readable bytes other level (page_number (number_at bytes at 8))))
    (same_entry (suc level) table va other same)
    ∙ ap (λ rest. node readable bytes level pa rest)
    (same_from readable bytes va other level (page_number (number_at bytes pa 8)) same)

same_canonical : (va other : ℕ) → InOnePage va other → is_canonical other ≡ is_canonical va
unfolding is_canonical
same_canonical va other same =
    ap (λ n. n == (2 ^ 25 - 1) * (other / 2 ^ 38 % 2)) (same 27)
    ∙ ap (λ n. va / 2 ^ 39 == (2 ^ 25 - 1) * (n % 2)) (same 26)

same_chain : (readable : ℕ → Bool) (bytes : Bytes) (satp va other : ℕ) → InOnePage va other
    → chain readable bytes satp other ≡ chain readable bytes satp va
unfolding chain
same_chain readable bytes satp va other same =
    ap (λ can. if can then chain_from readable bytes other 2 (root_of satp) else []) (same_canonical va other same)
    ∙ ap (λ visits. if is_canonical va then visits else []) (same_from readable bytes va other 2 (root_of satp) same)

-- and so have the bytes of an access in one page
page_of_byte : (va i len : ℕ) → va % 4096 + len ≤ 4096 → i < len → (va + i) / 4096 ≡ va / 4096
page_of_byte va i len page below = omega (arith, page, below)

in_one_page : (va i len : ℕ) → va % 4096 + len ≤ 4096 → i < len → InOnePage va (va + i)
in_one_page va i len page below k =
    sym (shr-shr (va + i) 12 k) ∙ ap (λ n. n / 2 ^ k) (page_of_byte va i len page below) ∙ shr-shr va 12 k

-- their offsets go on with them
offset_of_byte : (va i k : ℕ) → (va + i) / 2 ^ k ≡ va / 2 ^ k → (va + i) % 2 ^ k ≡ va % 2 ^ k + i
offset_of_byte va i k same =
    let whole : (va / 2 ^ k) * 2 ^ k ≡ ((va + i) / 2 ^ k) * 2 ^ k = ap (λ n. n * 2 ^ k) (sym same) in
    omega (arith, whole, shr_split va k, shr_split (va + i) k)

address_of_byte : (level entry va i : ℕ) → InOnePage va (va + i) → address_in level entry va + i
    ≡ address_in level entry (va + i)
unfolding page_size
address_of_byte level entry va i same = omega (arith, offset_of_byte va i (12 + 9 * level) (same (9 * level)))

-- a translation for an access
abbrev walked_of : Csrs → Map → Choices → AccessRequest → Bytes → ℕ → Walked
walked_of csrs map choices request bytes va = record {
  tables = tables_of csrs map choices;
  bytes = bytes;
  flags = walk_flags_of csrs request.mode;
  va = va;
  access = request.access;
}

byte_mapped : (csrs : Csrs) (map : Map) (choices : Choices) (request : AccessRequest) {bytes : Bytes} {va pa : ℕ}
    (i : ℕ) → InOnePage va (va + i)
    → IsLeafOf (walked_of csrs map choices request bytes va) (chain_of csrs map bytes va) pa
    → IsMapped csrs map choices request bytes (va + i) (pa + i)
byte_mapped csrs map choices request {bytes} {va} {pa} i same leaf =
    let chains : chain_of csrs map bytes (va + i) ≡ chain_of csrs map bytes va =
    same_chain (is_readable csrs map) bytes (at csrs Satp) va (va + i) same in
    let entry = entry_in bytes leaf.visit in
    record {
      number = leaf.number;
      visit = leaf.visit;
      exists = subst (λ (visits : List Visit). leaf.number < length visits) (sym chains) leaf.exists;
      in_chain = ap (λ visits. visit_at visits leaf.number) chains ∙ leaf.in_chain;
      readable = leaf.can;
      leaf = leaf.gives.leaf;
      allows = leaf.gives.allows;
      marks = leaf.gives.marks;
      address = ap (λ n. n + i) leaf.gives.address ∙ address_of_byte leaf.visit.level entry va i same;
    }

-- the address that is found where there is translation
by_chain : (csrs : Csrs) (map : Map) (choices : Choices) (request : AccessRequest) (va : ℕ) (bytes : Bytes)
    → is_translated csrs request.mode ≡ true
    → address_found csrs map choices request va bytes
    ≡ chain_result (tables_of csrs map choices) bytes (walk_flags_of csrs request.mode) va request.access
    (chain_of csrs map bytes va)
unfolding address_found
by_chain csrs map choices request va bytes on = rw on refl

pub place_mapped : (csrs : Csrs) (map : Map) (choices : Choices) (request : AccessRequest) (va : ℕ) (bytes : Bytes)
    → PlaceIsMapped csrs map choices request va bytes
unfolding place_found
place_mapped csrs map choices request va bytes page =
    found (address_found csrs map choices request va bytes) refl
  where
    found : (address : Result ℕ Cause) → address_found csrs map choices request va bytes ≡ address
        → IfOk (place_after_translation csrs map request address)
        (λ place. AreMapped csrs map choices request bytes va place.pa)
    found (Err cause) is = tt
    found (Ok pa) is =
        let mapped : (place : Place) → IsAt pa place
        → AreMapped csrs map choices request bytes va place.pa = λ place here on i below.
        let got = sym (by_chain csrs map choices request va bytes on) ∙ is in
        let leaf = leaf_of (walked_of csrs map choices request bytes va) (chain_of csrs map bytes va) pa got in
        let P : ℕ → Type 0 = λ n. IsMapped csrs map choices request bytes (va + i) (n + i) in
        subst P (sym here)
        (byte_mapped csrs map choices request i (in_one_page va i request.len page below) leaf) in
        IfOk-weaker (place_after_translation csrs map request (Ok pa)) (IsAt pa)
        (λ place. AreMapped csrs map choices request bytes va place.pa) mapped
        (placed_at csrs map request pa)

-- Entries that are set leave each byte where a leaf puts it.
use Rattle.std.proofs.Common.{◌≡◌, ℕ, zero, suc, ◌+◌, ◌-◌, ◌%◌, ◌<◌, ◌≤◌, ◌⊎◌, inl, inr, Bool, true, false}
use Rattle.std.proofs.Common.{◌&&◌, List, [], ◌∷◌, ◌++◌, length, refl, sym, ap, ◌∙◌, subst, arith, Ok, Err, Result}
use Rattle.std.proofs.Common.{if◌then◌else◌}
use Rattle.std.specs.Prelude.{◌==◌, All, IfOk}
use Rattle.std.proofs.Math.Nat.{mod-eq_of_lt}
use Rattle.std.proofs.lemmas.Bool.{eqb-true, eqb-false}
use Rattle.std.proofs.lemmas.Bool.Decides.{nat_tests}
use Rattle.std.proofs.lemmas.List.Elements.{All-append, All-head, All-nil, All-tail}
use Rattle.std.proofs.lemmas.Result.{IfOk-weaker}
use Rattle.hart_words.specs.declared.map.Map.{Map}
use Rattle.hart_words.specs.declared.choices.Choices.{Choices}
use Rattle.hart_words.specs.declared.options.Marks.TheVariants as marks
use Rattle.hart_words.specs.declared.accesses.Write.{Write}
use Rattle.hart_words.specs.AccessSizes.{IsLength}
use Rattle.hart_words.specs.Memory.{Bytes, after_writes, bytes_after_store, number_at}
use Rattle.hart_words.proofs.Runs.{after_writes-append}
use Rattle.hart_words.proofs.Stores.{number_after_store, number_apart_from_store}
use Rattle.csr_file.specs.declared.csrs.Csrs.{Csrs}
use Rattle.csr_file.specs.declared.stored_csr.StoredCsr.TheVariants.{Satp}
use Rattle.csr_file.specs.Registers.{at}
use Rattle.sv39_walk.specs.Entries.{address_in, entry_address, is_canonical, is_leaf, is_link, is_marked, leaf_allows}
use Rattle.sv39_walk.specs.Entries.{with_marks, page_number}
use Rattle.sv39_walk.specs.Walk.{Visit, chain, chain_from, root_of, visit_at}
use Rattle.mem_access.specs.declared.place.AccessRequest.{AccessRequest}
use Rattle.mem_access.specs.declared.place.Atomicity.{Atomicity}
use Rattle.mem_access.specs.Translation.{is_readable, is_settable, walk_flags_of}
use Rattle.mem_access.specs.Accesses.{Exception, Part, first_part, has_second_part, is_split, request_for}
use Rattle.mem_access.specs.Accesses.{second_part}
use Rattle.mem_access.specs.Reads.{AreMapped, IsMapped, PlacedPart, chain_of, part_found, parts_found, parts_of}
use Rattle.mem_access.specs.Reads.{places_found, request_at, walk_sets_of, whole_part}
use Rattle.mem_access.specs.Laws.{AreTableSets, IsMappedPart, IsTableSet, PlacesAreMapped}
use Rattle.mem_access.proofs.Grants.{each_is, one_element}
use Rattle.mem_access.proofs.Granted.{Look, first_all}
use Rattle.mem_access.proofs.Mapped.{place_mapped}
use Rattle.mem_access.proofs.Marks.{leaf_below, leaf_no_link, marked_below, marked_leaf, same_address, same_allows}
use Rattle.mem_access.proofs.Sets.{aligned_chain, aligned_entry, sets_append, walk_sets}

-- an entry that is set in memory
record Setting : Type 0 where
  csrs : Csrs
  map : Map
  choices : Choices
  bytes : Bytes
  write : Write
  sets : IsTableSet csrs map choices bytes write

-- memory after it
abbrev now_of : Setting → Bytes
now_of set = bytes_after_store set.write.pa set.write.len set.write.value set.bytes

set_entry : (set : Setting)
    → number_at (now_of set) set.write.pa 8 ≡ with_marks set.sets.access (number_at set.bytes set.write.pa 8)
set_entry set =
    let pa : ℕ = set.write.pa in
    let entry = number_at set.bytes pa 8 in
    let value : ℕ = with_marks set.sets.access entry in
    let below = marked_below set.sets.access entry (leaf_below entry set.sets.leaf) in
    let P : Write → Type 0 = λ w. number_at (bytes_after_store pa w.len w.value set.bytes) pa 8 ≡ value in
    subst P (sym set.sets.value) (number_after_store set.bytes pa 8 value ∙ mod-eq_of_lt (omega (arith, below)))

apart : (one other : ℕ) → one % 8 ≡ 0 → other % 8 ≡ 0 → (one ≡ other → ⊥) → (other + 8 ≤ one) ⊎ (one + 8 ≤ other)
apart one other o t differ = grind (arith)

other_entry : (set : Setting) (pa : ℕ) → pa % 8 ≡ 0 → (set.write.pa ≡ pa → ⊥)
    → number_at (now_of set) pa 8 ≡ number_at set.bytes pa 8
other_entry set pa aligned differ =
    let at : ℕ = set.write.pa in
    let value : ℕ = with_marks set.sets.access (number_at set.bytes at 8) in
    let P : Write → Type 0 =
    λ w. number_at (bytes_after_store at w.len w.value set.bytes) pa 8 ≡ number_at set.bytes pa 8 in
    subst P (sym set.sets.value)
    (number_apart_from_store set.bytes at 8 value pa 8 (apart at pa set.sets.aligned aligned differ))

-- an entry is that of the page that was set, with its marks, or it is as it was
record IsSetThere (set : Setting) (pa : ℕ) : Type 0 where
  here : set.write.pa ≡ pa
  leaf : is_leaf (number_at set.bytes pa 8) ≡ true
  gained : number_at (now_of set) pa 8 ≡ with_marks set.sets.access (number_at set.bytes pa 8)

entry_cases : (set : Setting) (pa : ℕ) → pa % 8 ≡ 0
    → IsSetThere set pa ⊎ (number_at (now_of set) pa 8 ≡ number_at set.bytes pa 8)
entry_cases set pa aligned = by (set.write.pa == pa) refl
  where
    by : (same : Bool) → (set.write.pa == pa) ≡ same
        → IsSetThere set pa ⊎ (number_at (now_of set) pa 8 ≡ number_at set.bytes pa 8)
    by true is =
        let here = eqb-true set.write.pa pa is in
        let P : ℕ → Type 0 = λ a. is_leaf (number_at set.bytes a 8) ≡ true in
        let Q : ℕ → Type 0 =
        λ a. number_at (now_of set) a 8 ≡ with_marks set.sets.access (number_at set.bytes a 8) in
        inl (record { here = here; leaf = subst P here set.sets.leaf; gained = subst Q here (set_entry set) })
    by false is = inr (other_entry set pa aligned (eqb-false set.write.pa pa is))

-- the chain of an address stays
abbrev node : (ℕ → Bool) → ℕ → ℕ → ℕ → List Visit → List Visit
node readable level pa entry rest =
    record { level = suc level; pa = pa } ∷ (if readable pa && is_link entry then rest else [])

ends_by : {A : Type 0} (can link : Bool) (rest : List A) → link ≡ false → (if can && link then rest else []) ≡ []
ends_by true true rest none = cc
ends_by true false rest none = refl
ends_by false link rest none = refl

ends : (readable : ℕ → Bool) (level pa entry : ℕ) (rest : List Visit) → is_link entry ≡ false
    → node readable level pa entry rest ≡ record { level = suc level; pa = pa } ∷ []
ends readable level pa entry rest none =
    ap (λ more. record { level = suc level; pa = pa } ∷ more) (ends_by (readable pa) (is_link entry) rest none)

gained_no_link : (set : Setting) (pa : ℕ) → IsSetThere set pa → is_link (number_at (now_of set) pa 8) ≡ false
gained_no_link set pa there =
    let before = number_at set.bytes pa 8 in
    let leaf = marked_leaf set.sets.access before (leaf_below before there.leaf) ∙ there.leaf in
    ap is_link there.gained ∙ leaf_no_link (with_marks set.sets.access before) leaf

same_from : (set : Setting) (va level table : ℕ)
    → chain_from (is_readable set.csrs set.map) (now_of set) va level table
    ≡ chain_from (is_readable set.csrs set.map) set.bytes va level table
unfolding chain_from
same_from set va zero table = refl
same_from set va (suc level) table =
    let readable = is_readable set.csrs set.map in
    let pa : ℕ = entry_address (suc level) table va in
    let before = number_at set.bytes pa 8 in
    let after = number_at (now_of set) pa 8 in
    let rest : ℕ → List Visit = λ entry. chain_from readable (now_of set) va level (page_number entry) in
    let was : ℕ → List Visit = λ entry. chain_from readable set.bytes va level (page_number entry) in
    elim (entry_cases set pa (aligned_entry (suc level) table va)) [
      | inl there ↦
          ends readable level pa after (rest after) (gained_no_link set pa there)
          ∙ sym (ends readable level pa before (was before) (leaf_no_link before there.leaf))
      | inr same ↦
          ap (λ (entry : ℕ). node readable level pa entry (rest entry)) same
          ∙ ap (λ more. node readable level pa before more) (same_from set va level (page_number before))
    ]

same_chain : (set : Setting) (va : ℕ)
    → chain_of set.csrs set.map (now_of set) va ≡ chain_of set.csrs set.map set.bytes va
unfolding chain
same_chain set va =
    ap (λ visits. if is_canonical va then visits else [])
    (same_from set va 2 (root_of (at set.csrs Satp)))

-- where a byte is mapped after, it is mapped before
mapped_there : (set : Setting) (request : AccessRequest) (va pa : ℕ)
    (mapped : IsMapped set.csrs set.map set.choices request (now_of set) va pa) → IsSetThere set mapped.visit.pa
    → IsMapped set.csrs set.map set.choices request set.bytes va pa
mapped_there set request va pa mapped there =
    let visit = mapped.visit in
    let flags = walk_flags_of set.csrs request.mode in
    let entry = number_at set.bytes visit.pa 8 in
    let below = leaf_below entry there.leaf in
    let chains = same_chain set va in
    let P : ℕ → Type 0 = λ a. is_settable set.csrs set.map a ≡ true in
    record {
      number = mapped.number;
      visit = visit;
      exists = subst (λ (visits : List Visit). mapped.number < length visits) chains mapped.exists;
      in_chain = sym (ap (λ visits. visit_at visits mapped.number) chains) ∙ mapped.in_chain;
      readable = mapped.readable;
      leaf = there.leaf;
      allows = sym (same_allows set.sets.access visit.level flags request.access entry below)
          ∙ sym (ap (leaf_allows visit.level flags request.access) there.gained) ∙ mapped.allows;
      marks = inr (set.sets.marks, subst P there.here set.sets.settable);
      address = mapped.address ∙ ap (λ (n : ℕ). address_in visit.level n va) there.gained
          ∙ same_address set.sets.access visit.level entry va below;
    }

mapped_same : (set : Setting) (request : AccessRequest) (va pa : ℕ)
    (mapped : IsMapped set.csrs set.map set.choices request (now_of set) va pa)
    → number_at (now_of set) mapped.visit.pa 8 ≡ number_at set.bytes mapped.visit.pa 8
    → IsMapped set.csrs set.map set.choices request set.bytes va pa
mapped_same set request va pa mapped same =
    let visit = mapped.visit in
    let flags = walk_flags_of set.csrs request.mode in
    let chains = same_chain set va in
    let P : ℕ → Type 0 = λ entry. (is_marked request.access entry ≡ true)
    ⊎ ((set.choices.marks ≡ marks.Set) × (is_settable set.csrs set.map visit.pa ≡ true)) in
    record {
      number = mapped.number;
      visit = visit;
      exists = subst (λ (visits : List Visit). mapped.number < length visits) chains mapped.exists;
      in_chain = sym (ap (λ visits. visit_at visits mapped.number) chains) ∙ mapped.in_chain;
      readable = mapped.readable;
      leaf = sym (ap is_leaf same) ∙ mapped.leaf;
      allows = sym (ap (leaf_allows visit.level flags request.access) same) ∙ mapped.allows;
      marks = subst P same mapped.marks;
      address = mapped.address ∙ ap (λ (n : ℕ). address_in visit.level n va) same;
    }

aligned_visit : (set : Setting) (va number : ℕ) {visit : Visit}
    → number < length (chain_of set.csrs set.map (now_of set) va)
    → visit_at (chain_of set.csrs set.map (now_of set) va) number ≡ visit → visit.pa % 8 ≡ 0
aligned_visit set va number below is =
    let P : Visit → Type 0 = λ v. v.pa % 8 ≡ 0 in
    subst P is
    (aligned_chain (is_readable set.csrs set.map) (now_of set) (at set.csrs Satp) va number
    (record { level = 0; pa = 0 }) below)

mapped_once : (set : Setting) (request : AccessRequest) (va pa : ℕ)
    → IsMapped set.csrs set.map set.choices request (now_of set) va pa
    → IsMapped set.csrs set.map set.choices request set.bytes va pa
mapped_once set request va pa mapped =
    elim (entry_cases set mapped.visit.pa (aligned_visit set va mapped.number mapped.exists mapped.in_chain)) [
      | inl there ↦ mapped_there set request va pa mapped there
      | inr same ↦ mapped_same set request va pa mapped same
    ]

pub mapped_before : (csrs : Csrs) (map : Map) (choices : Choices) (request : AccessRequest) (bytes : Bytes)
    (writes : List Write) {va pa : ℕ} → AreTableSets csrs map choices bytes writes
    → IsMapped csrs map choices request (after_writes writes bytes) va pa
    → IsMapped csrs map choices request bytes va pa
unfolding AreTableSets after_writes
mapped_before csrs map choices request bytes [] sets mapped = mapped
mapped_before csrs map choices request bytes (write ∷ writes) {va} {pa} sets mapped =
    let set : Setting =
    record { csrs = csrs; map = map; choices = choices; bytes = bytes; write = write; sets = sets.0 } in
    mapped_once set request va pa (mapped_before csrs map choices request (now_of set) writes sets.1 mapped)

-- the parts of an access lie each in one page
abbrev LiesInPage : Part → Type 0
LiesInPage part = part.va % 4096 + part.len ≤ 4096

whole_in_page : (va len : ℕ) → IsLength len → va % len ≡ 0 → va % 4096 + len ≤ 4096
whole_in_page va len (inl e) aligned = omega (arith, e)
whole_in_page va len (inr (inl e)) aligned =
    let low : va % 2 ≡ 0 = subst (λ (n : ℕ). va % n ≡ 0) e aligned in
    omega (arith, e, low)
whole_in_page va len (inr (inr (inl e))) aligned =
    let low : va % 4 ≡ 0 = subst (λ (n : ℕ). va % n ≡ 0) e aligned in
    omega (arith, e, low)
whole_in_page va len (inr (inr (inr e))) aligned =
    let low : va % 8 ≡ 0 = subst (λ (n : ℕ). va % n ≡ 0) e aligned in
    omega (arith, e, low)

at_most_8 : (len : ℕ) → IsLength len → len ≤ 8
at_most_8 len (inl e) = omega (arith, e)
at_most_8 len (inr (inl e)) = omega (arith, e)
at_most_8 len (inr (inr (inl e))) = omega (arith, e)
at_most_8 len (inr (inr (inr e))) = omega (arith, e)

first_in_page : (va len : ℕ) → LiesInPage (first_part va len)
first_in_page va len = omega arith

over_page : (va len : ℕ) → has_second_part va len ≡ true → 4096 - va % 4096 < len
over_page va len over = grind (arith, nat_tests)

not_over : (va len : ℕ) → has_second_part va len ≡ false → va % 4096 + len ≤ 4096
not_over va len over = grind (arith, nat_tests)

second_in_page : (va len : ℕ) → len ≤ 8 → has_second_part va len ≡ true → LiesInPage (second_part va len)
second_in_page va len few over = omega (arith, few, over_page va len over)

parts_in_page : (choices : Choices) (request : AccessRequest) (atomicity : Atomicity) (va : ℕ) → IsLength request.len
    → All LiesInPage (parts_of choices request atomicity va)
unfolding parts_of
parts_in_page choices request atomicity va sized =
    by (va % request.len == 0) (is_split choices request atomicity va) (has_second_part va request.len) refl refl
  where
    by : (aligned split over : Bool) → (va % request.len == 0) ≡ aligned → has_second_part va request.len ≡ over
        → All LiesInPage
        (if aligned then whole_part va request.len ∷ []
        else if split then
        (if over then first_part va request.len ∷ second_part va request.len ∷ [] else whole_part va request.len ∷ [])
        else [])
    by true split over is runs =
        one_element LiesInPage (whole_part va request.len)
        (whole_in_page va request.len sized (eqb-true (va % request.len) 0 is))
    by false true true is runs =
        All-append LiesInPage (first_part va request.len ∷ []) (second_part va request.len ∷ [])
        (one_element LiesInPage (first_part va request.len) (first_in_page va request.len))
        (one_element LiesInPage (second_part va request.len)
        (second_in_page va request.len (at_most_8 request.len sized) runs))
    by false true false is runs =
        one_element LiesInPage (whole_part va request.len) (not_over va request.len runs)
    by false false over is runs = All-nil LiesInPage

-- each is mapped in memory as the access finds it
abbrev IsMappedHere : Look → PlacedPart → Type 0
IsMappedHere look = IsMappedPart look.csrs look.map look.choices look.request look.bytes

parts_mapped : (look : Look) (parts : List Part) (writes : List Write)
    → AreTableSets look.csrs look.map look.choices look.bytes writes → All LiesInPage parts
    → IfOk (parts_found look.csrs look.map look.choices look.request parts (after_writes writes look.bytes))
    (All (IsMappedHere look))
unfolding parts_found
parts_mapped look [] writes sets pages = All-nil (IsMappedHere look)
parts_mapped look (part ∷ parts) writes sets pages =
    let now = after_writes writes look.bytes in
    let request = request_for look.request part in
    let found = part_found look.csrs look.map look.choices look.request part now in
    let more = walk_sets_of look.csrs look.map look.choices look.request part.va now in
    let P : Bytes → Type 0 = λ bytes.
    IfOk (parts_found look.csrs look.map look.choices look.request parts bytes) (All (IsMappedHere look)) in
    let all_sets = sets_append look.csrs look.map look.choices look.bytes writes more sets
    (walk_sets look.csrs look.map look.choices look.request part.va now) in
    first_all (IsMappedHere look) part found
    (parts_found look.csrs look.map look.choices look.request parts (after_writes more now))
    (IfOk-weaker found (λ place. AreMapped look.csrs look.map look.choices request now part.va place.pa)
    (λ place. IsMappedHere look (record { part = part; place = place }))
    (λ place mapped on i below.
    mapped_before look.csrs look.map look.choices request look.bytes writes sets (mapped on i below))
    (place_mapped look.csrs look.map look.choices request part.va now (All-head LiesInPage part parts pages)))
    (subst P (after_writes-append writes more look.bytes)
    (parts_mapped look parts (writes ++ more) all_sets (All-tail LiesInPage part parts pages)))

-- which devices answer does not matter to that
mapped_with_devices : (csrs : Csrs) (map : Map) (choices : Choices) (request : AccessRequest) {bytes : Bytes}
    {va pa : ℕ} → IsMapped csrs map choices (record request { devices = false }) bytes va pa
    → IsMapped csrs map choices request bytes va pa
mapped_with_devices csrs map choices request mapped = record {
  number = mapped.number;
  visit = mapped.visit;
  exists = mapped.exists;
  in_chain = mapped.in_chain;
  readable = mapped.readable;
  leaf = mapped.leaf;
  allows = mapped.allows;
  marks = mapped.marks;
  address = mapped.address;
}

at_any : (csrs : Csrs) (map : Map) (choices : Choices) (request : AccessRequest) (aligned : Bool) (bytes : Bytes)
    (found : Result (List PlacedPart) Exception)
    → IfOk found (All (IsMappedPart csrs map choices
    (if aligned then request else record request { devices = false }) bytes))
    → IfOk found (All (IsMappedPart csrs map choices request bytes))
at_any csrs map choices request true bytes found all = all
at_any csrs map choices request false bytes (Err exception) all = tt
at_any csrs map choices request false bytes (Ok placed) all =
    each_is (IsMappedPart csrs map choices (record request { devices = false }) bytes)
    (IsMappedPart csrs map choices request bytes) placed
    (λ one mapped on i below.
    mapped_with_devices csrs map choices (request_for request one.part) (mapped on i below)) all

pub places_mapped : (csrs : Csrs) (map : Map) (choices : Choices) (request : AccessRequest) (atomicity : Atomicity)
    (va : ℕ) (bytes : Bytes) → PlacesAreMapped csrs map choices request atomicity va bytes
unfolding request_at AreTableSets after_writes
places_mapped csrs map choices request atomicity va bytes sized =
    let look : Look = record {
      csrs = csrs;
      map = map;
      choices = choices;
      request = request_at request va;
      bytes = bytes;
    } in
    at_any csrs map choices request (va % request.len == 0) bytes
    (places_found csrs map choices request atomicity va bytes)
    (parts_mapped look (parts_of choices request atomicity va) [] tt (parts_in_page choices request atomicity va sized))

-- Of segments that are apart, the last that begins before an address tells whether any goes past another.
use Rattle.std.proofs.Common.{◌≡◌, ℕ, ◌+◌, ◌<◌, ◌≤◌, Bool, true, false, List, [], ◌∷◌, Option, Some, None, is_some}
use Rattle.std.proofs.Common.{refl, sym, ◌∙◌, inl, inr, arith, subst}
use Rattle.std.specs.Prelude.{nat_lt, ◌↔◌, ◌||◌}
use Rattle.std.specs.List.{list_any}
use Rattle.std.proofs.lemmas.Bool.{cases_eq, cases_lt}
use Rattle.std.proofs.lemmas.Bool.Decides.{nat_tests}
use Rattle.image_text.proofs.Pages.{eq_same, eq_other}
use Rattle.elf_image.specs.declared.program_header.ProgramHeader.{ProgramHeader}
use Rattle.elf_image.specs.Segments.{overlaps}
use Rattle.elf_image.specs.Loading.{segment_end, AreApart}
use Rattle.elf_image.specs.Laws.{HaveInCommon}

pub or_left : (a b : Bool) → (a || b) ≡ false → a ≡ false
or_left false b h = refl
or_left true b h = cc

pub or_right : (a b : Bool) → (a || b) ≡ false → b ≡ false
or_right false b h = h
or_right true b h = cc

or_second : (a b : Bool) → b ≡ true → (a || b) ≡ true
or_second true b h = refl
or_second false b h = h

or_none : (a b : Bool) → a ≡ false → b ≡ false → (a || b) ≡ false
or_none false b h none = none
or_none true b h none = cc

some_same : (x y : ℕ) → ◌≡◌ {A = Option ℕ} (Some x) (Some y) → x ≡ y
some_same x y h = cc

-- the test of two segments
pub meet : (one other : ProgramHeader) → one.paddr < other.paddr + other.memsz → other.paddr < one.paddr + one.memsz
    → overlaps one other ≡ true
meet one other before after = grind (arith, nat_tests)

pub clear : (one other : ProgramHeader) → overlaps one other ≡ false → one.paddr < other.paddr + other.memsz
    → one.paddr + one.memsz ≤ other.paddr
clear one other apart before = grind (arith, nat_tests)

pub clear_back : (one other : ProgramHeader) → overlaps one other ≡ false → other.paddr < one.paddr + one.memsz
    → other.paddr + other.memsz ≤ one.paddr
clear_back one other apart before = grind (arith, nat_tests)

pub ends_before : (one other : ProgramHeader) → other.paddr + other.memsz ≤ one.paddr → overlaps one other ≡ false
ends_before one other before = grind (arith, nat_tests)

pub begins_after : (one other : ProgramHeader) → one.paddr + one.memsz ≤ other.paddr → overlaps one other ≡ false
begins_after one other after = grind (arith, nat_tests)

-- the end of the first of the segments, and of another
pub end_here : (header : ProgramHeader) (headers : List ProgramHeader) (k : ℕ) → k ≡ header.paddr
    → segment_end (header ∷ headers) k ≡ Some (header.paddr + header.memsz)
unfolding segment_end
end_here header headers k same = rw (same, eq_same header.paddr) refl

pub end_there : (header : ProgramHeader) (headers : List ProgramHeader) (k : ℕ) → (k ≡ header.paddr → ⊥)
    → segment_end (header ∷ headers) k ≡ segment_end headers k
unfolding segment_end
end_there header headers k apart = rw (eq_other k header.paddr apart) refl

end_none : (k end : ℕ) → segment_end [] k ≡ Some end → ⊥
unfolding segment_end
end_none k end h = cc

-- a segment that begins at an address and overlaps
pub found : (header : ProgramHeader) (headers : List ProgramHeader) (k end : ℕ) → segment_end headers k ≡ Some end
    → header.paddr < end → k < header.paddr + header.memsz → list_any (overlaps header) headers ≡ true
found header [] k end h before after = absurd (end_none k end h)
found header (g ∷ gs) k end h before after = elim (cases_eq k g.paddr) [
  | inl same ↦
      (let is : g.paddr + g.memsz ≡ end = some_same _ _ (sym (end_here g gs k same) ∙ h) in
      let meets : overlaps header g ≡ true = meet header g (omega (arith, is, before)) (omega (arith, same, after)) in
      rw meets refl)
  | inr apart ↦
      or_second (overlaps header g) _ (found header gs k end (sym (end_there g gs k apart) ∙ h) before after)
]

-- the same, where none overlaps
unfound : (header : ProgramHeader) (headers : List ProgramHeader) (k end : ℕ) → segment_end headers k ≡ Some end
    → list_any (overlaps header) headers ≡ false → header.paddr < end → header.paddr + header.memsz ≤ k
unfound header headers k end h none before = elim (cases_lt k (header.paddr + header.memsz)) [
  | inl after ↦ (let some = found header headers k end h before after in cc)
  | inr clears ↦ clears
]

-- a segment ends after its beginning
nonempty : (headers : List ProgramHeader) (k end : ℕ) → AreApart headers → segment_end headers k ≡ Some end → k < end
unfolding AreApart
nonempty [] k end apart h = absurd (end_none k end h)
nonempty (g ∷ gs) k end apart h = elim (cases_eq k g.paddr) [
  | inl same ↦
      (let is : g.paddr + g.memsz ≡ end = some_same _ _ (sym (end_here g gs k same) ∙ h) in
      omega (arith, is, same, apart.0))
  | inr other ↦ nonempty gs k end apart.2 (sym (end_there g gs k other) ∙ h)
]

-- each of the segments that begin at an address at the latest ends at another at the latest
EndBy : ℕ → ℕ → List ProgramHeader → Type 0
EndBy k end [] = Unit {0}
EndBy k end (g ∷ gs) = (g.paddr ≤ k → g.paddr + g.memsz ≤ end) × EndBy k end gs

-- those that are apart from a segment and begin no later
apart_from : (g : ProgramHeader) (gs : List ProgramHeader) → 0 < g.memsz → list_any (overlaps g) gs ≡ false
    → EndBy g.paddr (g.paddr + g.memsz) gs
unfolding EndBy
apart_from g [] some none = tt
apart_from g (f ∷ fs) some none =
    let clears = clear_back g f (or_left (overlaps g f) _ none) in (
      λ before. omega (arith, clears (omega (arith, before, some))),
      apart_from g fs some (or_right (overlaps g f) _ none),
    )

end_by : (headers : List ProgramHeader) (k end : ℕ) → AreApart headers → segment_end headers k ≡ Some end
    → EndBy k end headers
unfolding AreApart EndBy
end_by [] k end apart h = tt
end_by (g ∷ gs) k end apart h = elim (cases_eq k g.paddr) [
  | inl same ↦
      (let is : g.paddr + g.memsz ≡ end = some_same _ _ (sym (end_here g gs k same) ∙ h) in
      let P : ℕ → ℕ → Type 0 = λ a b. EndBy a b gs in
      let rest : EndBy k end gs =
      subst (λ (b : ℕ). EndBy k b gs) is
      (subst (λ (a : ℕ). EndBy a (g.paddr + g.memsz) gs) (sym same) (apart_from g gs apart.0 apart.1)) in
      (λ before. omega (arith, is), rest))
  | inr other ↦
      (let there = sym (end_there g gs k other) ∙ h in
      let ends : k < end = nonempty gs k end apart.2 there in (
        λ before. omega (arith, ends, unfound g gs k end there apart.1 (omega (arith, before, ends))),
        end_by gs k end apart.2 there,
      ))
]

-- no segment that begins before an address begins after k
abbrev pub IsLastBefore : ℕ → ℕ → List ProgramHeader → Type 0
IsLastBefore past k headers = (q : ℕ) → q < past → is_some (segment_end headers q) ≡ true → q ≤ k

still_some : (g : ProgramHeader) (gs : List ProgramHeader) (q : ℕ) → is_some (segment_end gs q) ≡ true
    → is_some (segment_end (g ∷ gs) q) ≡ true
still_some g gs q some = elim (cases_eq q g.paddr) [
  | inl same ↦ rw (end_here g gs q same) refl
  | inr apart ↦ rw (end_there g gs q apart) some
]

none_past : (header : ProgramHeader) (headers : List ProgramHeader) (k end : ℕ)
    → IsLastBefore (header.paddr + header.memsz) k headers → EndBy k end headers → end ≤ header.paddr
    → list_any (overlaps header) headers ≡ false
unfolding EndBy
none_past header [] k end last by before = refl
none_past header (g ∷ gs) k end last by before =
    let rest =
    none_past header gs k end (λ q below some. last q below (still_some g gs q some)) by.1 before in
    let first : overlaps header g ≡ false = elim (cases_lt g.paddr (header.paddr + header.memsz)) [
      | inl below ↦
          (let is : is_some (segment_end (g ∷ gs) g.paddr) ≡ true = rw (end_here g gs g.paddr refl) refl in
          ends_before header g (omega (arith, before, by.0 (last g.paddr below is))))
      | inr after ↦ begins_after header g after
    ] in
    or_none (overlaps header g) _ first rest

-- the last of the segments that begin before another's end decides
pub decided : (header : ProgramHeader) (headers : List ProgramHeader) (k end : ℕ) → AreApart headers
    → segment_end headers k ≡ Some end → k < header.paddr + header.memsz
    → IsLastBefore (header.paddr + header.memsz) k headers
    → nat_lt header.paddr end ≡ list_any (overlaps header) headers
decided header headers k end apart h below last = elim (cases_lt header.paddr end) [
  | inl before ↦
      (let test : nat_lt header.paddr end ≡ true = grind (arith, nat_tests) in
      test ∙ sym (found header headers k end h before below))
  | inr past ↦
      (let test : nat_lt header.paddr end ≡ false = grind (arith, nat_tests) in
      test ∙ sym (none_past header headers k end last (end_by headers k end apart h) past))
]

-- where none begins before the end, none overlaps
pub undecided : (header : ProgramHeader) (headers : List ProgramHeader)
    → ((q : ℕ) → q < header.paddr + header.memsz → segment_end headers q ≡ None)
    → list_any (overlaps header) headers ≡ false
undecided header [] none = refl
undecided header (g ∷ gs) none =
    let first : overlaps header g ≡ false = elim (cases_lt g.paddr (header.paddr + header.memsz)) [
      | inl below ↦ (let here = sym (end_here g gs g.paddr refl) ∙ none g.paddr below in cc)
      | inr after ↦ begins_after header g after
    ] in
    or_none (overlaps header g) _ first (undecided header gs (λ q below. rest q (none q below)))
  where
    rest : (q : ℕ) → segment_end (g ∷ gs) q ≡ None → segment_end gs q ≡ None
    rest q h = elim (cases_eq q g.paddr) [
      | inl same ↦ (let some = sym (end_here g gs q same) ∙ h in cc)
      | inr apart ↦ sym (end_there g gs q apart) ∙ h
    ]

-- two segments overlap where they have an address in common: the later of their first ones
pub in_common : (one other : ProgramHeader) → 0 < one.memsz → 0 < other.memsz
    → (overlaps one other ≡ true) ↔ ((address : ℕ) × HaveInCommon one other address)
in_common one other some more = (
  λ meets. elim (cases_lt one.paddr other.paddr) [
    | inl before ↦ (other.paddr, later one other more before meets)
    | inr after ↦ (one.paddr, (let both = later_back one other some after meets in both))
  ],
  λ common. both_meet one other common.0 common.1,
)
  where
    later : (one other : ProgramHeader) → 0 < other.memsz → one.paddr < other.paddr → overlaps one other ≡ true
        → HaveInCommon one other other.paddr
    later one other some before meets =
        (grind (arith, nat_tests, some, before, meets), grind (arith, nat_tests, some, before, meets))

    later_back : (one other : ProgramHeader) → 0 < one.memsz → other.paddr ≤ one.paddr → overlaps one other ≡ true
        → HaveInCommon one other one.paddr
    later_back one other some after meets =
        (grind (arith, nat_tests, some, after, meets), grind (arith, nat_tests, some, after, meets))

    both_meet : (one other : ProgramHeader) (address : ℕ) → HaveInCommon one other address
        → overlaps one other ≡ true
    both_meet one other address common = grind (arith, nat_tests, common.0, common.1)

-- The places that are found for the parts of an access: one, or two of which none is a device's.
use Rattle.std.proofs.Common.{◌≡◌, ℕ, ◌%◌, Bool, true, false, List, [], ◌∷◌, refl, ap, ◌∙◌, subst, Ok, Result, All}
use Rattle.std.proofs.Common.{Some, None, if◌then◌else◌}
use Rattle.std.specs.Prelude.{◌==◌, IfOk, map as each}
use Rattle.std.proofs.lemmas.List.Elements.{All-head, All-tail}
use Rattle.hart_words.specs.declared.map.Map.{Map}
use Rattle.hart_words.specs.declared.choices.Choices.{Choices}
use Rattle.hart_words.specs.Memory.{Bytes}
use Rattle.csr_file.specs.declared.csrs.Csrs.{Csrs}
use Rattle.mem_access.specs.declared.place.AccessRequest.{AccessRequest}
use Rattle.mem_access.specs.declared.place.Atomicity.{Atomicity}
use Rattle.mem_access.specs.declared.place.Place.{Place}
use Rattle.mem_access.specs.Accesses.{Exception, Part, first_part, has_second_part, is_split, request_for, second_part}
use Rattle.mem_access.specs.Laws.{ArePlacesFound, IsPermittedPart}
use Rattle.mem_access.specs.Reads.{PlacedPart, parts_found, parts_of, places_found, request_at, whole_part}
use Rattle.mem_access.proofs.Granted.{parts_all}
use Rattle.mem_access.proofs.Grants.{IsMemory}
use Rattle.mem_access.proofs.Orders.{found_memory}

-- the parts of an access with their places, each of which is permitted
pub record ArePlaced (csrs : Csrs) (map : Map) (choices : Choices) (request : AccessRequest) (atomicity : Atomicity) (va : ℕ)
    (bytes : Bytes) (placed : List PlacedPart) : Type 0 where
  pub found : places_found csrs map choices request atomicity va bytes ≡ Ok placed
  pub permitted : All (IsPermittedPart csrs map request) placed

-- an access of one part
abbrev pub whole_placed : AccessRequest → ℕ → Place → PlacedPart
whole_placed request va place = record { part = whole_part va request.len; place = place }

same_part : (one : PlacedPart) (part : Part) (place : Place) → one.part ≡ part → one.place ≡ place
    → one ≡ record { part = part; place = place }
same_part one part place is at =
    let here : PlacedPart = record { part = part; place = one.place } in
    let there : one ≡ here = ap (λ (p : Part). record { part = p; place = one.place }) is in
    there ∙ ap (λ (p : Place). record { part = part; place = p }) at

-- one part is the whole access
alone_is_whole : (part : Part) (choices : Choices) (request : AccessRequest) (atomicity : Atomicity) (va : ℕ)
    → part ∷ [] ≡ parts_of choices request atomicity va → part ≡ whole_part va request.len
unfolding parts_of
alone_is_whole part choices request atomicity va is =
    by (va % request.len == 0) (is_split choices request atomicity va) (has_second_part va request.len) is
  where
    by : (aligned split second : Bool)
        → part ∷ []
        ≡ (if aligned then whole_part va request.len ∷ [] else if split
        then (if second then first_part va request.len ∷ second_part va request.len ∷ [] else whole_part va
        request.len ∷ []) else [])
        → part ≡ whole_part va request.len
    by true split second same = cc
    by false true true same = cc
    by false true false same = cc
    by false false second same = cc

one_placed : {csrs : Csrs} {map : Map} {choices : Choices} {request : AccessRequest} {atomicity : Atomicity} {va : ℕ}
    {bytes : Bytes} (first : Place) → (is : ArePlacesFound csrs map choices request atomicity va bytes (first, None))
    → is.placed ≡ whole_placed request va first ∷ []
one_placed {choices} {request} {atomicity} {va} first is = by is.placed is.parts is.order
  where
    by : (placed : List PlacedPart) → each (λ one. one.part) placed ≡ parts_of choices request atomicity va
        → each (λ one. one.place) placed ≡ first ∷ [] → placed ≡ whole_placed request va first ∷ []
    by [] parts order = cc
    by (one ∷ []) parts order =
        ap (λ (p : PlacedPart). p ∷ [])
        (same_part one (whole_part va request.len) first (alone_is_whole one.part choices request atomicity va parts) cc)
    by (one ∷ two ∷ more) parts order = cc

-- two parts are those of an access that is not at a multiple of its length
record AreTwoParts (request : AccessRequest) (va : ℕ) (one two : Part) : Type 0 where
  pub misaligned : (va % request.len == 0) ≡ false
  pub first : one ≡ first_part va request.len
  pub second : two ≡ second_part va request.len

two_are_split : (one two : Part) (choices : Choices) (request : AccessRequest) (atomicity : Atomicity) (va : ℕ)
    → one ∷ two ∷ [] ≡ parts_of choices request atomicity va → AreTwoParts request va one two
unfolding parts_of
two_are_split one two choices request atomicity va is =
    by (va % request.len == 0) (is_split choices request atomicity va) (has_second_part va request.len) refl is
  where
    by : (aligned split second : Bool) → (va % request.len == 0) ≡ aligned
        → one ∷ two ∷ []
        ≡ (if aligned then whole_part va request.len ∷ [] else if split
        then (if second then first_part va request.len ∷ second_part va request.len ∷ [] else whole_part va
        request.len ∷ []) else [])
        → AreTwoParts request va one two
    by true split second test same = absurd (let none : ⊥ = cc in none)
    by false true true test same = record { misaligned = test; first = cc; second = cc }
    by false true false test same = absurd (let none : ⊥ = cc in none)
    by false false second test same = absurd (let none : ⊥ = cc in none)

abbrev pub two_placed : AccessRequest → ℕ → Place → Place → List PlacedPart
two_placed request va first second =
    record { part = first_part va request.len; place = first }
    ∷ record { part = second_part va request.len; place = second } ∷ []

record AreTwoPlaced (request : AccessRequest) (va : ℕ) (first second : Place) (placed : List PlacedPart)
    : Type 0 where
  pub misaligned : (va % request.len == 0) ≡ false
  pub are : placed ≡ two_placed request va first second

both_placed : {csrs : Csrs} {map : Map} {choices : Choices} {request : AccessRequest} {atomicity : Atomicity} {va : ℕ}
    {bytes : Bytes} (first second : Place)
    → (is : ArePlacesFound csrs map choices request atomicity va bytes (first, Some second))
    → AreTwoPlaced request va first second is.placed
both_placed {choices} {request} {atomicity} {va} first second is = by is.placed is.parts is.order
  where
    by : (placed : List PlacedPart) → each (λ one. one.part) placed ≡ parts_of choices request atomicity va
        → each (λ one. one.place) placed ≡ first ∷ second ∷ [] → AreTwoPlaced request va first second placed
    by [] parts order = absurd (let none : ⊥ = cc in none)
    by (one ∷ []) parts order = absurd (let none : ⊥ = cc in none)
    by (one ∷ two ∷ []) parts order =
        let split = two_are_split one.part two.part choices request atomicity va parts in
        let low = same_part one (first_part va request.len) first split.first cc in
        let high = same_part two (second_part va request.len) second split.second cc in
        record {
          misaligned = split.misaligned;
          are =
              ap (λ (p : PlacedPart). p ∷ two ∷ []) low
              ∙ ap (λ (p : PlacedPart). record { part = first_part va request.len; place = first } ∷ p ∷ []) high;
        }
    by (one ∷ two ∷ three ∷ more) parts order = absurd (let none : ⊥ = cc in none)

-- where devices answer no access, no part is a device's
abbrev pub IsMemoryPart : PlacedPart → Type 0
IsMemoryPart placed = IsMemory placed.place

pub parts_memory : (csrs : Csrs) (map : Map) (choices : Choices) (request : AccessRequest) (parts : List Part)
    (bytes : Bytes) → request.devices ≡ false
    → IfOk (parts_found csrs map choices request parts bytes) (All IsMemoryPart)
parts_memory csrs map choices request parts bytes none =
    parts_all csrs map choices request IsMemoryPart parts bytes
    (λ part now. found_memory csrs map choices (request_for request part) part.va now none)

no_devices : (request : AccessRequest) (va : ℕ) → (va % request.len == 0) ≡ false
    → (request_at request va).devices ≡ false
unfolding request_at
no_devices request va misaligned = rw misaligned refl

-- a place alone is that of the whole access
pub placed_whole : {csrs : Csrs} {map : Map} {choices : Choices} {request : AccessRequest} {atomicity : Atomicity} {va : ℕ}
    {bytes : Bytes} (first : Place) → ArePlacesFound csrs map choices request atomicity va bytes (first, None)
    → ArePlaced csrs map choices request atomicity va bytes (whole_placed request va first ∷ [])
placed_whole {csrs} {map} {choices} {request} {atomicity} {va} {bytes} first is =
    subst (λ (placed : List PlacedPart). ArePlaced csrs map choices request atomicity va bytes placed)
    (one_placed first is)
    (record { found = is.found; permitted = is.permitted })

-- two places are those of two parts, and of memory
pub record AreBothPlaced (csrs : Csrs) (map : Map) (choices : Choices) (request : AccessRequest) (atomicity : Atomicity)
    (va : ℕ) (bytes : Bytes) (first second : Place) : Type 0 where
  pub placed : ArePlaced csrs map choices request atomicity va bytes (two_placed request va first second)
  pub first_memory : IsMemory first
  pub second_memory : IsMemory second

pub placed_both : {csrs : Csrs} {map : Map} {choices : Choices} {request : AccessRequest} {atomicity : Atomicity} {va : ℕ}
    {bytes : Bytes} (first second : Place)
    → ArePlacesFound csrs map choices request atomicity va bytes (first, Some second)
    → AreBothPlaced csrs map choices request atomicity va bytes first second
placed_both {csrs} {map} {choices} {request} {atomicity} {va} {bytes} first second is =
    let both = both_placed first second is in
    let known : ArePlaced csrs map choices request atomicity va bytes (two_placed request va first second) =
    subst (λ (placed : List PlacedPart). ArePlaced csrs map choices request atomicity va bytes placed) both.are
    (record { found = is.found; permitted = is.permitted }) in
    let Memory : Result (List PlacedPart) Exception → Type 0 = λ found. IfOk found (All IsMemoryPart) in
    let memory : All IsMemoryPart (two_placed request va first second) =
    subst Memory known.found
    (parts_memory csrs map choices (request_at request va) (parts_of choices request atomicity va) bytes
    (no_devices request va both.misaligned)) in
    let low : PlacedPart = record { part = first_part va request.len; place = first } in
    let high : PlacedPart = record { part = second_part va request.len; place = second } in
    record {
      placed = known;
      first_memory = All-head IsMemoryPart low (high ∷ []) memory;
      second_memory = All-head IsMemoryPart high [] (All-tail IsMemoryPart low (high ∷ []) memory);
    }

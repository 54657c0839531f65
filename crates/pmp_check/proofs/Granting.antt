-- An access is allowed exactly where it is granted.
use Rattle.std.proofs.Common.{◌≡◌, ℕ, zero, suc, ◌<◌, ◌⊎◌, ◌↔◌, true, false, ◌&&◌, List, [], ◌∷◌, length, refl, sym}
use Rattle.std.proofs.Common.{◌∙◌, ap, inl, inr, arith}
use Rattle.std.specs.Prelude.{All, IsTrue}
use Rattle.std.proofs.lemmas.Bool.{cases_Bool, and_parts}
use Rattle.hart_words.specs.declared.privilege.Mode.{Mode}
use Rattle.hart_words.specs.declared.privilege.Mode.TheVariants.{User, Supervisor, Machine}
use Rattle.hart_words.specs.declared.privilege.Access.{Access}
use Rattle.hart_words.specs.declared.privilege.PmpEntry.{PmpEntry}
use Rattle.pmp_check.specs.declared.region.Region.{Region}
use Rattle.pmp_check.specs.Protection.{region_of, covers_some, covers_all, entry_permits, is_machine, is_allowed}
use Rattle.pmp_check.specs.Covering.{Decides, IsIn, IsRegister, EachByte, entry_at, register_before}
use Rattle.pmp_check.specs.Laws.{PermitsAccess, IsPermitted}
use Rattle.pmp_check.proofs.Covering.{region_of-Covers, some_byte, each_byte}
use Rattle.pmp_check.proofs.Deciding.{Touches, SomeByte-map, accesses, shift, unshift, head, tail, register_at, some_is}
use Rattle.pmp_check.proofs.Deciding.{no_entry_allows, none_decides, whole_decides, least_decides}

-- the least entry that covers any byte of an access, among those after an entry with the address register `first`
record IsLeast (first : ℕ) (entries : List PmpEntry) (pa len : ℕ) : Type 0 where
  pub number : ℕ
  pub exists : number < length entries
  pub touches : Touches first entries number pa len
  pub least : (j : ℕ) → j < number → Touches first entries j pa len → ⊥

abbrev Untouched : ℕ → List PmpEntry → ℕ → ℕ → Type 0
Untouched first entries pa len = (i : ℕ) → i < length entries → Touches first entries i pa len → ⊥

-- the first entry covers a byte, or the search goes on
at_first : (first : ℕ) (entry : PmpEntry) (entries : List PmpEntry) (pa len : ℕ) → IsRegister entry
    → covers_some (region_of first entry) pa len ≡ true → IsLeast first (entry ∷ entries) pa len
at_first first entry entries pa len h covers = record {
  number = 0;
  exists = omega arith;
  touches =
      SomeByte-map pa len (λ a. (region_of-Covers first entry a h).0)
      ((some_byte (region_of first entry) pa len).0 covers);
  least = λ j below. absurd (omega (arith, below));
}

misses_first : (first : ℕ) (entry : PmpEntry) (entries : List PmpEntry) (pa len : ℕ) → IsRegister entry
    → covers_some (region_of first entry) pa len ≡ false → Touches first (entry ∷ entries) 0 pa len → ⊥
misses_first first entry entries pa len h misses byte =
    let covers : covers_some (region_of first entry) pa len ≡ true = accesses first entry pa len h byte in
    cc

later : (first : ℕ) (entry : PmpEntry) (entries : List PmpEntry) (pa len : ℕ) → IsRegister entry
    → covers_some (region_of first entry) pa len ≡ false → IsLeast entry.addr entries pa len
    → IsLeast first (entry ∷ entries) pa len
later first entry entries pa len h misses found = record {
  number = suc found.number;
  exists = omega (arith, found.exists);
  touches = shift first entry entries found.number pa len found.touches;
  least = before;
}
  where
    before : (j : ℕ) → j < suc found.number → Touches first (entry ∷ entries) j pa len → ⊥
    before zero below = misses_first first entry entries pa len h misses
    before (suc j) below = λ byte. found.least j (omega (arith, below)) (unshift first entry entries j pa len byte)

never : (first : ℕ) (entry : PmpEntry) (entries : List PmpEntry) (pa len : ℕ) → IsRegister entry
    → covers_some (region_of first entry) pa len ≡ false → Untouched entry.addr entries pa len
    → Untouched first (entry ∷ entries) pa len
never first entry entries pa len h misses none zero below = misses_first first entry entries pa len h misses
never first entry entries pa len h misses none (suc i) below =
    λ byte. none i (omega (arith, below)) (unshift first entry entries i pa len byte)

-- the least entry is found by going through them
searched : (first : ℕ) (entries : List PmpEntry) (pa len : ℕ) → All IsRegister entries
    → IsLeast first entries pa len ⊎ Untouched first entries pa len
searched first [] pa len h = inr (λ i below. absurd (omega (arith, below)))
searched first (entry ∷ entries) pa len h = elim (cases_Bool (covers_some (region_of first entry) pa len)) [
  | inl covers ↦ inl (at_first first entry entries pa len (head entry entries h) covers)
  | inr misses ↦ elim (searched entry.addr entries pa len (tail entry entries h)) [
    | inl found ↦ inl (later first entry entries pa len (head entry entries h) misses found)
    | inr none ↦ inr (never first entry entries pa len (head entry entries h) misses none)
  ]
]

machine_alone : (mode : Mode) → is_machine mode ≡ true → mode ≡ Machine
machine_alone Machine is = refl
machine_alone Supervisor is = cc
machine_alone User is = cc

-- the entry that decides an access that is allowed grants it
least_grants : (entries : List PmpEntry) (mode : Mode) (pa len : ℕ) (access : Access) → All IsRegister entries
    → IsTrue (is_allowed entries mode pa len access) → IsLeast 0 entries pa len
    → PermitsAccess entries mode pa len access
least_grants entries mode pa len access h allowed found =
    let i = found.number in
    let region : Region = region_of (register_before 0 entries i) (entry_at entries i) in
    let decides : Decides entries i pa len = record { touches = found.touches; least = found.least } in
    let answers : (covers_all region pa len && entry_permits (entry_at entries i).cfg mode access) ≡ true =
    sym (least_decides mode access h found.exists decides) ∙ allowed in
    let parts = and_parts (covers_all region pa len) (entry_permits (entry_at entries i).cfg mode access) answers in
    let within : EachByte pa len (IsIn region) = (each_byte region pa len (some_is pa len found.touches)).0 parts.0 in
    record {
      number = i;
      exists = found.exists;
      decides = decides;
      covers =
          λ a low high.
          (region_of-Covers (register_before 0 entries i) (entry_at entries i) a
          (register_at entries i h found.exists)).0 (within a low high);
      permits = parts.1;
    }

allowed_is_granted : (entries : List PmpEntry) (mode : Mode) (pa len : ℕ) (access : Access) → All IsRegister entries
    → IsTrue (is_allowed entries mode pa len access) → IsPermitted entries mode pa len access
allowed_is_granted [] mode pa len access h allowed = inr (inr refl)
allowed_is_granted (entry ∷ entries) mode pa len access h allowed =
    let all : List PmpEntry = entry ∷ entries in
    elim (searched 0 all pa len h) [
      | inl found ↦ inl (least_grants all mode pa len access h allowed found)
      | inr none ↦
          let alone : is_machine mode ≡ true =
          sym (none_decides all mode pa len access (omega arith) h none) ∙ allowed in
          inr (inl (machine_alone mode alone, none))
    ]

granted_is_allowed : (entries : List PmpEntry) (mode : Mode) (pa len : ℕ) (access : Access) → All IsRegister entries
    → IsPermitted entries mode pa len access → IsTrue (is_allowed entries mode pa len access)
granted_is_allowed [] mode pa len access h granted = no_entry_allows mode pa len access
granted_is_allowed (entry ∷ entries) mode pa len access h granted = elim granted [
  | inl by ↦ whole_decides (entry ∷ entries) by.number mode pa len access h by.exists by.decides by.covers ∙ by.permits
  | inr (inl free) ↦ none_decides (entry ∷ entries) mode pa len access (omega arith) h free.1 ∙ ap is_machine free.0
  | inr (inr none) ↦ cc
]

pub just_granted : (entries : List PmpEntry) (mode : Mode) (pa len : ℕ) (access : Access) → All IsRegister entries
    → IsTrue (is_allowed entries mode pa len access) ↔ IsPermitted entries mode pa len access
just_granted entries mode pa len access h =
    (allowed_is_granted entries mode pa len access h, granted_is_allowed entries mode pa len access h)

-- What is allowed is allowed in parts, and to S as to U.
use Rattle.std.proofs.Common.{◌≡◌, ℕ, ◌+◌, ◌<◌, ◌≤◌, min, max, true, false, ◌&&◌, List, [], ◌∷◌, refl, sym, ◌∙◌, ap}
use Rattle.std.proofs.Common.{inl, inr, arith, if◌then◌else◌}
use Rattle.std.specs.Prelude.{nat_le}
use Rattle.std.proofs.lemmas.Bool.{cases_Bool, cond-true, cond-false, ltb-true, lt-ltb, leb-true, le-leb, and_parts}
use Rattle.std.proofs.lemmas.Bool.{and_from, false_from_ne_true}
use Rattle.hart_words.specs.declared.privilege.Mode.{Mode}
use Rattle.hart_words.specs.declared.privilege.Mode.TheVariants.{User, Supervisor}
use Rattle.hart_words.specs.declared.privilege.Access.{Access}
use Rattle.hart_words.specs.declared.privilege.PmpEntry.{PmpEntry}
use Rattle.pmp_check.specs.declared.region.Region.{Region}
use Rattle.pmp_check.specs.Protection.{region_of, covers_some, covers_all, entry_permits, is_allowed_after, is_allowed}
use Rattle.pmp_check.specs.Covering.{EachByte}
use Rattle.pmp_check.specs.Laws.{AllowsParts}

-- some bytes are a part of others
record IsPart (pa len part count : ℕ) : Type 0 where
  pub low : pa ≤ part
  pub nonempty : 1 ≤ count
  pub high : part + count ≤ pa + len

-- a region that has every byte of an access has some byte and every byte of each part of it
covers_part : (region : Region) {pa len part count : ℕ} → IsPart pa len part count
    → covers_all region pa len ≡ true → (covers_some region part count ≡ true) × (covers_all region part count ≡ true)
covers_part region {pa} {len} {part} {count} is_part all =
    let low = is_part.low in
    let nonempty = is_part.nonempty in
    let high = is_part.high in
    let ends : (nat_le region.first pa ≡ true) × (nat_le (pa + len) region.past ≡ true) =
    and_parts (nat_le region.first pa) (nat_le (pa + len) region.past) all in
    let first : region.first ≤ pa = leb-true region.first pa ends.0 in
    let past : pa + len ≤ region.past = leb-true (pa + len) region.past ends.1 in (
      lt-ltb (max region.first part) (min region.past (part + count)) (omega arith),
      and_from (nat_le region.first part) (nat_le (part + count) region.past) (le-leb region.first part (omega arith))
          (le-leb (part + count) region.past (omega arith)),
    )

-- a region without a byte of an access has none of a part of it
misses_part : (region : Region) {pa len part count : ℕ} → IsPart pa len part count
    → covers_some region pa len ≡ false → covers_some region part count ≡ false
misses_part region {pa} {len} {part} {count} is_part misses =
    false_from_ne_true (covers_some region part count) refuted
  where
    refuted : covers_some region part count ≡ true → ⊥
    refuted h =
        let below : max region.first part < min region.past (part + count) =
        ltb-true (max region.first part) (min region.past (part + count)) h in
        let whole : covers_some region pa len ≡ true =
        lt-ltb (max region.first pa) (min region.past (pa + len)) (omega (arith, is_part.low, is_part.high)) in
        cc

-- where the first entry decides, and where it does not
by_first : (before : ℕ) (entry : PmpEntry) (entries : List PmpEntry) (mode : Mode) (pa len : ℕ) (access : Access)
    → covers_some (region_of before entry) pa len ≡ true
    → is_allowed_after before (entry ∷ entries) mode pa len access
    ≡ (covers_all (region_of before entry) pa len && entry_permits entry.cfg mode access)
unfolding is_allowed_after
by_first before entry entries mode pa len access covers =
    cond-true (covers_some (region_of before entry) pa len)
    (covers_all (region_of before entry) pa len && entry_permits entry.cfg mode access)
    (is_allowed_after entry.addr entries mode pa len access) covers

by_later : (before : ℕ) (entry : PmpEntry) (entries : List PmpEntry) (mode : Mode) (pa len : ℕ) (access : Access)
    → covers_some (region_of before entry) pa len ≡ false
    → is_allowed_after before (entry ∷ entries) mode pa len access
    ≡ is_allowed_after entry.addr entries mode pa len access
unfolding is_allowed_after
by_later before entry entries mode pa len access misses =
    cond-false (covers_some (region_of before entry) pa len)
    (covers_all (region_of before entry) pa len && entry_permits entry.cfg mode access)
    (is_allowed_after entry.addr entries mode pa len access) misses

part_after : (before : ℕ) (entries : List PmpEntry) (mode : Mode) {pa len : ℕ} (access : Access) {part count : ℕ}
    → IsPart pa len part count → is_allowed_after before entries mode pa len access ≡ true
    → is_allowed_after before entries mode part count access ≡ true
unfolding is_allowed_after
part_after before [] mode access is_part allowed = allowed
part_after before (entry ∷ entries) mode {pa} {len} access {part} {count} is_part allowed =
    elim (cases_Bool (covers_some (region_of before entry) pa len)) [
      | inl covers ↦
          let region : Region = region_of before entry in
          let answers =
          and_parts (covers_all region pa len) (entry_permits entry.cfg mode access)
          (sym (by_first before entry entries mode pa len access covers) ∙ allowed) in
          let covered = covers_part region is_part answers.0 in
          by_first before entry entries mode part count access covered.0
          ∙ and_from (covers_all region part count) (entry_permits entry.cfg mode access) covered.1 answers.1
      | inr misses ↦
          by_later before entry entries mode part count access
          (misses_part (region_of before entry) is_part misses)
          ∙ part_after entry.addr entries mode access is_part
          (sym (by_later before entry entries mode pa len access misses) ∙ allowed)
    ]

pub part_allowed : (entries : List PmpEntry) (mode : Mode) (pa len : ℕ) (access : Access)
    → AllowsParts entries mode pa len access
unfolding is_allowed
part_allowed [] mode pa len access allowed part count low nonempty high = refl
part_allowed (entry ∷ entries) mode pa len access allowed part count low nonempty high =
    part_after 0 (entry ∷ entries) mode access (record { low = low; nonempty = nonempty; high = high }) allowed

-- each byte of an access that is allowed
pub byte_allowed : (entries : List PmpEntry) (mode : Mode) (pa len : ℕ) (access : Access)
    → is_allowed entries mode pa len access ≡ true
    → EachByte pa len (λ byte. is_allowed entries mode byte 1 access ≡ true)
byte_allowed entries mode pa len access allowed byte low high =
    part_allowed entries mode pa len access allowed byte 1 low (omega arith) (omega (arith, high))

permitted_alike : (cfg : ℕ) (access : Access) → entry_permits cfg User access ≡ entry_permits cfg Supervisor access
unfolding entry_permits
permitted_alike cfg access = refl

alike_after : (before : ℕ) (entries : List PmpEntry) (pa len : ℕ) (access : Access)
    → is_allowed_after before entries User pa len access ≡ is_allowed_after before entries Supervisor pa len access
unfolding is_allowed_after
alike_after before [] pa len access = refl
alike_after before (entry ∷ entries) pa len access =
    let region : Region = region_of before entry in
    ap (λ b. if covers_some region pa len then covers_all region pa len
    && b else is_allowed_after entry.addr entries User pa len access) (permitted_alike entry.cfg access)
    ∙ ap (λ b. if covers_some region pa len then covers_all region pa len
    && entry_permits entry.cfg Supervisor access else b) (alike_after entry.addr entries pa len access)

pub both_alike : (entries : List PmpEntry) (pa len : ℕ) (access : Access)
    → is_allowed entries User pa len access ≡ is_allowed entries Supervisor pa len access
unfolding is_allowed
both_alike [] pa len access = refl
both_alike (entry ∷ entries) pa len access = alike_after 0 (entry ∷ entries) pa len access

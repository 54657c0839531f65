-- A fetch where nothing is to be asked of translation and of the entries of protection.
use Rattle.std.proofs.Common.{◌≡◌, ℕ, ◌+◌, ◌*◌, ◌%◌, ◌^◌, ◌<◌, ◌≤◌, Bool, true, false, ◌&&◌, ◌||◌, not, List, [], ◌∷◌, ◌++◌}
use Rattle.std.proofs.Common.{length, refl, sym, ◌∙◌, subst, arith, Ok, if◌then◌else◌}
use Rattle.std.specs.Prelude.{◌==◌, nat_le, Some, None}
use Rattle.std.specs.List.{list_all}
use Rattle.std.proofs.lemmas.Bool.{and_parts, leb-true, not-true}
use Rattle.std.proofs.lemmas.Bool.Decides.{nat_tests}
use Rattle.hart_words.specs.declared.privilege.Mode.{Mode}
use Rattle.hart_words.specs.declared.privilege.Access.{Access}
use Rattle.hart_words.specs.declared.privilege.Access.TheVariants.{Fetch}
use Rattle.hart_words.specs.declared.map.Map.{Map}
use Rattle.hart_words.specs.declared.choices.Choices.{Choices}
use Rattle.hart_words.specs.declared.accesses.Read.{Read}
use Rattle.hart_words.specs.declared.accesses.Write.{Write}
use Rattle.hart_words.specs.Memory.{Bytes, after_writes, number_at}
use Rattle.hart_words.specs.Spans.{holds_all}
use Rattle.hart_words.specs.Actions.{Notes}
use Rattle.csr_file.specs.declared.csrs.Csrs.{Csrs}
use Rattle.csr_file.specs.Registers.{pmp_entries_of}
use Rattle.pmp_check.specs.Protection.{is_allowed, is_machine}
use Rattle.mem_access.specs.declared.place.Place.{Place}
use Rattle.mem_access.specs.Places.{place_of}
use Rattle.mem_access.specs.Translation.{is_translated}
use Rattle.mem_access.specs.Accesses.{fetch_result, parcel_at, parcel_fetch}
use Rattle.mem_access.proofs.Unconfigured.{machine_allowed, others_allowed}
use Rattle.mem_access.proofs.Looks.{fetch_long, fetch_short, parcel_read, reach_placed, untranslated}

-- protection allows the mode every access
abbrev pub is_open : Csrs → Mode → Bool
is_open csrs mode =
    list_all (λ entry. entry.cfg == 0) csrs.entries && (is_machine mode || (length (pmp_entries_of csrs) == 0))

open_allows : (csrs : Csrs) (mode : Mode) (pa len : ℕ) (access : Access) → is_open csrs mode ≡ true
    → is_allowed (pmp_entries_of csrs) mode pa len access ≡ true
open_allows csrs mode pa len access granted =
    let unset = and_parts (list_all (λ entry. entry.cfg == 0) csrs.entries) (is_machine mode || (length (pmp_entries_of csrs) == 0)) granted in
    by (is_machine mode) refl unset.1
  where
    by : (machine : Bool) → is_machine mode ≡ machine → (machine || (length (pmp_entries_of csrs) == 0)) ≡ true
        → is_allowed (pmp_entries_of csrs) mode pa len access ≡ true
    by true is all =
        machine_allowed csrs mode pa len access (and_parts (list_all (λ entry. entry.cfg == 0) csrs.entries) (is_machine mode || (length (pmp_entries_of csrs) == 0)) granted).0 is
    by false is all =
        others_allowed csrs mode pa len access (and_parts (list_all (λ entry. entry.cfg == 0) csrs.entries) (is_machine mode || (length (pmp_entries_of csrs) == 0)) granted).0 is ∙ all

-- the four bytes at an address are read as they are
pub record IsPlain (csrs : Csrs) (map : Map) (mode : Mode) (pc : ℕ) (wrote : List Write) : Type 0 where
  pub none_set : wrote ≡ []
  pub off : is_translated csrs mode ≡ false
  pub granted : is_open csrs mode ≡ true
  pub held : holds_all map.ram pc 4 ≡ true

abbrev pub is_plain : Csrs → Map → Mode → ℕ → List Write → Bool
is_plain csrs map mode pc wrote =
    nat_le (pc % 64) 60 && (length wrote == 0) && not (is_translated csrs mode) && is_open csrs mode
    && holds_all map.ram pc 4

empty : (wrote : List Write) → (length wrote == 0) ≡ true → wrote ≡ []
empty [] none = refl
empty (write ∷ wrote) none = absurd (grind (arith, nat_tests))

plain_if : (csrs : Csrs) (map : Map) (mode : Mode) (pc : ℕ) (wrote : List Write)
    → is_plain csrs map mode pc wrote ≡ true → IsPlain csrs map mode pc wrote
plain_if csrs map mode pc wrote is =
    let held = holds_all map.ram pc 4 in
    let granted = is_open csrs mode in
    let none = length wrote == 0 in
    let near = nat_le (pc % 64) 60 in
    let off = not (is_translated csrs mode) in
    let one = and_parts (near && none && off && granted) held is in
    let two = and_parts (near && none && off) granted one.0 in
    let three = and_parts (near && none) off two.0 in
    let four = and_parts near none three.0 in
    record {
      none_set = empty wrote four.1;
      off = not-true (is_translated csrs mode) three.1;
      granted = two.1;
      held = one.1;
    }

some_if : (test : Bool) (word found : ℕ) → Some word ≡ (if test then Some found else None)
    → (test ≡ true) × (word ≡ found)
some_if true word found is = (refl, cc)
some_if false word found is = cc

pub plain_word : (csrs : Csrs) (map : Map) (mode : Mode) (pc : ℕ) (wrote : List Write) (word found : ℕ)
    → Some word ≡ (if is_plain csrs map mode pc wrote then Some found else None)
    → IsPlain csrs map mode pc wrote × (word ≡ found)
plain_word csrs map mode pc wrote word found is =
    let both = some_if (is_plain csrs map mode pc wrote) word found is in
    (plain_if csrs map mode pc wrote both.0, both.1)

-- two of them
in_ram : (csrs : Csrs) (map : Map) (mode : Mode) (at : ℕ)
    → is_allowed (pmp_entries_of csrs) mode at 2 Fetch ≡ true → holds_all map.ram at 2 ≡ true
    → Ok (record { pa = at; is_device = false }) ≡ place_of csrs map (parcel_fetch mode) at
unfolding place_of
in_ram csrs map mode at allowed held = rw (allowed, held) refl

plain_parcel : (csrs : Csrs) (map : Map) (choices : Choices) (mode : Mode) (at : ℕ) (seen : List Read) (bytes : Bytes)
    → is_translated csrs mode ≡ false → is_open csrs mode ≡ true → holds_all map.ram at 2 ≡ true
    → Notes (parcel_at csrs map choices mode at) (Ok (number_at bytes at 2)) seen
    (seen ++ record { pa = at; len = 2 } ∷ []) [] [] bytes
unfolding after_writes
plain_parcel csrs map choices mode at seen bytes off granted held =
    let place : Place = record { pa = at; is_device = false } in
    let request = parcel_fetch mode in
    parcel_read csrs map choices mode at {place = place} {parcel = number_at bytes at 2} {s0 = seen} {s1 = seen}
    {w0 = []} {w1 = []} {bytes = bytes}
    (reach_placed csrs map choices request at {pa = at} {placed = Ok place} {seen = seen} {seen' = seen}
    {wrote = []} {wrote' = []} {bytes = bytes}
    (untranslated csrs map choices request at {seen = seen} {wrote = []} {bytes = bytes} off)
    (in_ram csrs map mode at (open_allows csrs mode at 2 Fetch granted) held)) refl refl

-- the word of two parcels
pub two_parcels : (bytes : Bytes) (pc : ℕ)
    → number_at bytes pc 4 ≡ number_at bytes pc 2 + 2 ^ 16 * number_at bytes (pc + 2) 2
unfolding number_at
two_parcels bytes pc =
    let third : pc + 1 + 1 ≡ pc + 2 = omega arith in
    let fourth : pc + 1 + 1 + 1 ≡ pc + 2 + 1 = omega arith in
    rw (third) (omega arith)

pub parcel_below : (bytes : Bytes) (pc : ℕ) → ((at : ℕ) → bytes at < 256) → number_at bytes pc 2 < 2 ^ 16
unfolding number_at
parcel_below bytes pc small = omega (arith, small pc, small (pc + 1))

low_parcel : (bytes : Bytes) (pc word : ℕ) → ((at : ℕ) → bytes at < 256) → word ≡ number_at bytes pc 4
    → number_at bytes pc 2 ≡ word % 2 ^ 16
low_parcel bytes pc word small is =
    let parts = two_parcels bytes pc in
    let below = parcel_below bytes pc small in
    omega (arith, is, parts, below)

-- its length is told by its first parcel
same_end : (bytes : Bytes) (pc word : ℕ) → word ≡ number_at bytes pc 4 → number_at bytes pc 2 % 4 ≡ word % 4
same_end bytes pc word is =
    let parts = two_parcels bytes pc in
    omega (arith, is, parts)

-- both are in RAM, the second at an address that does not wrap
first_held : (map : Map) (pc : ℕ) → holds_all map.ram pc 4 ≡ true → holds_all map.ram pc 2 ≡ true
first_held map pc held = grind (arith, nat_tests)

second_held : (map : Map) (pc : ℕ) → holds_all map.ram pc 4 ≡ true → holds_all map.ram (pc + 2) 2 ≡ true
second_held map pc held = grind (arith, nat_tests)

no_wrap : (map : Map) (pc : ℕ) → holds_all map.ram pc 4 ≡ true → pc + 2 ≡ (pc + 2) % 2 ^ 64
no_wrap map pc held =
    let below = map.ram.below in
    let parts = and_parts (nat_le map.ram.base pc) (nat_le (pc + 4) (map.ram.base + map.ram.size)) held in
    let past : pc + 4 ≤ map.ram.base + map.ram.size = leb-true (pc + 4) (map.ram.base + map.ram.size) parts.1 in
    omega (arith, below, past)

pub plain_short : (csrs : Csrs) (map : Map) (choices : Choices) (mode : Mode) (pc word : ℕ) (seen : List Read)
    (wrote : List Write) (bytes : Bytes) → ((at : ℕ) → bytes at < 256) → IsPlain csrs map mode pc wrote
    → word ≡ number_at bytes pc 4 → (word % 4 ≡ 3 → ⊥)
    → Notes (fetch_result csrs map choices mode pc) (Ok (word % 2 ^ 16, 2)) seen
    (seen ++ record { pa = pc; len = 2 } ∷ []) wrote wrote bytes
plain_short csrs map choices mode pc word seen wrote bytes small plain is short =
    let noted : List Read = seen ++ record { pa = pc; len = 2 } ∷ [] in
    let end = same_end bytes pc word is in
    let P : ℕ → Type 0 = λ n. Notes (fetch_result csrs map choices mode pc) (Ok (n, 2)) seen noted [] [] bytes in
    let Q : List Write → Type 0 =
    λ w. Notes (fetch_result csrs map choices mode pc) (Ok (word % 2 ^ 16, 2)) seen noted w w bytes in
    subst Q (sym plain.none_set)
    (subst P (low_parcel bytes pc word small is)
    (fetch_short csrs map choices mode pc
    (plain_parcel csrs map choices mode pc seen bytes plain.off plain.granted (first_held map pc plain.held))
    (λ long. short (sym end ∙ long))))

pub plain_long : (csrs : Csrs) (map : Map) (choices : Choices) (mode : Mode) (pc word : ℕ) (seen : List Read)
    (wrote : List Write) (bytes : Bytes) → IsPlain csrs map mode pc wrote
    → word ≡ number_at bytes pc 4 → word % 4 ≡ 3
    → Notes (fetch_result csrs map choices mode pc) (Ok (word, 4)) seen
    ((seen ++ record { pa = pc; len = 2 } ∷ []) ++ record { pa = pc + 2; len = 2 } ∷ []) wrote wrote bytes
plain_long csrs map choices mode pc word seen wrote bytes plain is long =
    let noted : List Read = seen ++ record { pa = pc; len = 2 } ∷ [] in
    let all : List Read = noted ++ record { pa = pc + 2; len = 2 } ∷ [] in
    let end = same_end bytes pc word is in
    let P : ℕ → Type 0 = λ n. Notes (fetch_result csrs map choices mode pc) (Ok (n, 4)) seen all [] [] bytes in
    let Q : List Write → Type 0 =
    λ w. Notes (fetch_result csrs map choices mode pc) (Ok (word, 4)) seen all w w bytes in
    let R : ℕ → Type 0 =
    λ at. Notes (parcel_at csrs map choices mode at) (Ok (number_at bytes (pc + 2) 2)) noted all [] [] bytes in
    subst Q (sym plain.none_set)
    (subst P (sym (is ∙ two_parcels bytes pc))
    (fetch_long csrs map choices mode pc
    (plain_parcel csrs map choices mode pc seen bytes plain.off plain.granted (first_held map pc plain.held))
    (end ∙ long)
    (subst R (no_wrap map pc plain.held)
    (plain_parcel csrs map choices mode (pc + 2) noted bytes plain.off plain.granted (second_held map pc plain.held)))))

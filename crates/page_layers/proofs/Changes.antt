-- What a change at one key of a map does to the bytes after it.
use Rattle.std.proofs.Common.{◌≡◌, ℕ, ◌+◌, ◌-◌, ◌/◌, ◌%◌, ◌<◌, true, false, Bool, cond, Option, Some, None}
use Rattle.std.proofs.Common.{is_some, List, [], ◌∷◌, refl, sym, ap, ◌∙◌, inl, inr, arith, nat_cmp}
use Rattle.std.proofs.Math.Path.{fun_ext}
use Rattle.std.specs.List.{AllZip}
use Rattle.std.specs.Ordering.{is_eq}
use Rattle.std.specs.BTreeMap.{get}
use Rattle.std.proofs.lemmas.Bool.{cases_eq}
use Rattle.image_text.proofs.Pages.{is_eq_same, is_eq_other, eq_same, eq_other}
use Rattle.hart_words.specs.Memory.{bytes_after_store}
use Rattle.page_layers.specs.declared.map_mem.MapMem.{MapMem}
use Rattle.page_layers.specs.Memories.{map_bytes, map_has_byte}
use Rattle.page_image.proofs.Stored.{stored-byte}

-- what a map holds at each key after one of them was set
abbrev pub Sets : {X : Type 0} → (ℕ → Option X) → (ℕ → Option X) → ℕ → X → Type 0
Sets before after key value = (q : ℕ) → after q ≡ cond (is_eq (nat_cmp key q)) (Some value) (before q)

-- each key that was there is there
pub there_still : {X : Type 0} (before after : ℕ → Option X) (key : ℕ) (value : X) → Sets before after key value
    → (q : ℕ) → is_some (before q) ≡ true → is_some (after q) ≡ true
there_still before after key value sets q there = elim (cases_eq key q) [
  | inl same ↦ rw (sets q, same, is_eq_same q) refl
  | inr apart ↦ rw (sets q, is_eq_other key q apart) there
]

pub there_now : {X : Type 0} (before after : ℕ → Option X) (key : ℕ) (value : X) → Sets before after key value
    → is_some (after key) ≡ true
there_now before after key value sets = rw (sets key, is_eq_same key) refl

pub none_if_absent : {X : Type 0} (o : Option X) → is_some o ≡ false → o ≡ None
none_if_absent None h = refl
none_if_absent (Some x) h = cc

pub byte_added : (before after : MapMem) (pa : ℕ) → Sets (get nat_cmp before.bytes) (get nat_cmp after.bytes) pa 0
    → is_some (get nat_cmp before.bytes pa) ≡ false → map_bytes after ≡ map_bytes before
unfolding map_bytes
byte_added before after pa sets absent = fun_ext (λ a. elim (cases_eq pa a) [
  | inl here ↦
      let none : get nat_cmp before.bytes a ≡ None =
      ap (get nat_cmp before.bytes) (sym here) ∙ none_if_absent _ absent in
      rw (sets a, here, is_eq_same a, none) refl
  | inr apart ↦ rw (sets a, is_eq_other pa a apart) refl
])

pub byte_changed : (before after : MapMem) (pa byte : ℕ)
    → Sets (get nat_cmp before.bytes) (get nat_cmp after.bytes) pa byte → byte < 256
    → map_bytes after ≡ bytes_after_store pa 1 byte (map_bytes before)
unfolding map_bytes
byte_changed before after pa byte sets small =
    fun_ext (λ a. rw (stored-byte pa byte a (map_bytes before) small) (elim (cases_eq a pa) [
      | inl same ↦ rw (sets a, same, is_eq_same pa, eq_same pa) refl
      | inr apart ↦ rw (sets a, is_eq_other pa a (λ e. apart (sym e)), eq_other a pa apart) refl
    ]))

pub map_unchanged : (before after : MapMem) → after.bytes.entries ≡ before.bytes.entries
    → map_bytes after ≡ map_bytes before
unfolding map_bytes
map_unchanged before after e = fun_ext (λ pa. rw e refl)

pub has_unchanged : (before after : MapMem) → after.bytes.entries ≡ before.bytes.entries → (pa : ℕ)
    → map_has_byte after pa ≡ map_has_byte before pa
unfolding map_has_byte
has_unchanged before after e pa = rw e refl

pub untested : {X : Type 0} {b : Bool} → b ≡ false → b ≡ true → X
untested absent present = cc

-- an address of a page, from the page's first
pub from_first : (pa at : ℕ) → at / 4096 ≡ pa / 4096 → pa - pa % 4096 + at % 4096 ≡ at
from_first pa at is = grind arith

pub map_cloned : (es fs : List (ℕ × ℕ)) → AllZip (λ p q. (q.0 ≡ p.0) × (q.1 ≡ p.1)) es fs → fs ≡ es
map_cloned [] [] same = refl
map_cloned [] (f ∷ fs) same = absurd same
map_cloned (e ∷ es) [] same = absurd same
map_cloned (e ∷ es) (f ∷ fs) same =
    let rest = map_cloned es fs same.1 in λ i. (same.0.0 i, same.0.1 i) ∷ rest i

-- What a change of one page does to the bytes.
use Rattle.std.proofs.Common.{◌≡◌, ℕ, ◌/◌, ◌%◌, ◌<◌, true, false, cond, Option, Some, None, is_some, List, length}
use Rattle.std.proofs.Common.{slice_index, refl, sym, subst, inl, inr, arith, nat_cmp, if◌then◌else◌, eqb, replicate}
use Rattle.std.proofs.Common.{◌&&◌, set, lit<}
use Rattle.std.proofs.Math.Path.{fun_ext}
use Rattle.std.specs.Prelude.{option_and_then, ◌==◌}
use Rattle.std.specs.List.{slice_index_or}
use Rattle.std.specs.Ordering.{is_eq}
use Rattle.std.specs.BTreeMap.{get}
use Rattle.std.proofs.lemmas.Bool.{cases_eq, cases_lt}
use Rattle.std.proofs.lemmas.Bool.Decides.{nat_tests}
use Rattle.std.proofs.lemmas.Grind.{common_steps}
use Rattle.std.proofs.lemmas.List.{get_or-set_same, get_or-set_other, get_or-replicate, length-replicate}
use Rattle.std.proofs.Math.ListN.{get_or-eq_default}
use Rattle.image_text.specs.declared.pieces.Pieces.{Pieces}
use Rattle.image_text.specs.Bytes.{byte_at, with_byte}

-- what a page, if there is one, has at an offset
abbrev pub content : {X : Type 0} → (X → ℕ → Option ℕ) → Option X → ℕ → Option ℕ
content f page k = option_and_then (λ x. f x k) page

is_eq_cmp : (n q : ℕ) → is_eq (nat_cmp n q) ≡ eqb n q
is_eq_cmp n q = grind (arith, common_steps)

pub is_eq_same : (n : ℕ) → is_eq (nat_cmp n n) ≡ true
is_eq_same n = rw (is_eq_cmp n n) (grind (arith, nat_tests))

pub is_eq_other : (n q : ℕ) → (n ≡ q → ⊥) → is_eq (nat_cmp n q) ≡ false
is_eq_other n q apart = rw (is_eq_cmp n q) (grind (arith, nat_tests))

pub eq_same : (n : ℕ) → (n == n) ≡ true
eq_same n = grind (arith, nat_tests)

pub eq_other : (n q : ℕ) → (n ≡ q → ⊥) → (n == q) ≡ false
eq_other n q apart = grind (arith, nat_tests)

-- the pages after one was put at a number
pub record IsPut {X : Type 0} (before after : ℕ → Option X) (number : ℕ) (page : X) : Type 0 where
  pub updates : (q : ℕ) → after q ≡ cond (is_eq (nat_cmp number q)) (Some page) (before q)

-- a page with no byte adds none
pub added : {X : Type 0} (f : X → ℕ → Option ℕ) {before after : ℕ → Option X} {number : ℕ} {page : X}
    → IsPut before after number page
    → before number ≡ None
    → ((k : ℕ) → f page k ≡ None)
    → (q k : ℕ) → content f (after q) k ≡ content f (before q) k
added f {before} {after} {number} put absent empty q k =
    let P : ℕ → Type 0 = λ n. content f (after n) k ≡ content f (before n) k in
    elim (cases_eq number q) [
      | inl same ↦ subst P same (rw (put.updates number, is_eq_same number, absent) (empty k))
      | inr apart ↦ rw (put.updates q, is_eq_other number q apart) refl
    ]

-- the same pages have the same bytes
pub unchanged : (before after : Pieces) → after.pages.entries ≡ before.pages.entries → byte_at after ≡ byte_at before
unfolding byte_at
unchanged before after e = rw e refl

pub added_page : (before after : Pieces) (number : ℕ) (page : _)
    → ((q : ℕ) → get nat_cmp after.pages q ≡ cond (is_eq (nat_cmp number q)) (Some page) (get nat_cmp before.pages q))
    → get nat_cmp before.pages number ≡ None
    → ((k : ℕ) → slice_index_or page.value.bytes k None ≡ None)
    → byte_at after ≡ byte_at before
unfolding byte_at
added_page before after number page updates absent empty =
    let put : IsPut (get nat_cmp before.pages) (get nat_cmp after.pages) number page = record { updates = updates } in
    fun_ext (λ a. added (λ p k. slice_index_or p.value.bytes k None) put absent empty (a / 4096) (a % 4096))

-- an empty page has no byte at any offset
pub none_at : {X : Type 0} (none : X) (n k : ℕ) → slice_index_or (replicate n none) k none ≡ none
none_at none n k =
    elim (cases_lt k n) [
      | inl below ↦
          get_or-replicate n k none none below
      | inr past ↦
          get_or-eq_default (replicate n none) none (rw length-replicate past)
    ]

pub none_from_test : {X : Type 0} (o : Option X) → is_some o ≡ false → o ≡ None
none_from_test None h = refl
none_from_test (Some x) h = cc

-- a page with one byte written
pub written : {X : Type 0} (f : X → ℕ → Option ℕ) {before after : ℕ → Option X} {number : ℕ} (offset value : ℕ)
    {old new : X} → IsPut before after number new
    → before number ≡ Some old
    → ((k : ℕ) → f new k ≡ (if k == offset then Some value else f old k))
    → (q k : ℕ) → content f (after q) k ≡ (if q == number && k == offset then Some value else content f (before q) k)
written f {before} {after} {number} offset value put was writes q k =
    let P : ℕ → Type 0 =
    λ n. content f (after n) k ≡ (if n == number && k == offset then Some value else content f (before n) k) in
    elim (cases_eq number q) [
      | inl same ↦ subst P same (rw (put.updates number, is_eq_same number, was, eq_same number) (writes k))
      | inr apart ↦ rw (put.updates q, is_eq_other number q apart, eq_other q number (λ e. apart (sym e))) refl
    ]

-- an address is its page's number and its offset there
same_place : (a b : ℕ) → (a == b) ≡ (a / 4096 == b / 4096 && a % 4096 == b % 4096)
same_place a b = grind (arith, nat_tests)

-- a byte written into a page that is there
pub written_page : (before after : Pieces) (address value : ℕ) {old new : _}
    → IsPut (get nat_cmp before.pages) (get nat_cmp after.pages) (address / 4096) new
    → get nat_cmp before.pages (address / 4096) ≡ Some old
    → ((k : ℕ) → slice_index_or new.value.bytes k None ≡ (if k == address % 4096 then Some value else slice_index_or
    old.value.bytes k None))
    → byte_at after ≡ with_byte (byte_at before) address value
unfolding byte_at
written_page before after address value put was writes =
    fun_ext
    (λ a. rw (same_place a address)
    (written (λ p k. slice_index_or p.value.bytes k None) (address % 4096) value put was writes (a / 4096)
    (a % 4096)))

-- a list with one element written
pub set_at : {X : Type 0} (xs : List X) (offset k : ℕ) (x d : X) → offset < length xs
    → slice_index_or (set xs offset x) k d ≡ (if k == offset then x else slice_index_or xs k d)
set_at xs offset k x d below =
    elim (cases_eq k offset) [
      | inl same ↦ rw (same, eq_same offset) (get_or-set_same xs offset x d below)
      | inr apart ↦ rw (eq_other k offset apart) (get_or-set_other xs offset k x d apart)
    ]

-- bytes with another byte among them are bytes
pub bytes_set : (bytes : List ℕ) (offset byte : ℕ) → offset < length bytes → byte < 256
    → ((k : ℕ) → slice_index bytes k < 256) → (k : ℕ) → slice_index (set bytes offset byte) k < 256
bytes_set bytes offset byte below small are k =
    elim (cases_eq k offset) [
      | inl same ↦ rw (set_at bytes offset k byte 0 below, same, eq_same offset) small
      | inr apart ↦ rw (set_at bytes offset k byte 0 below, eq_other k offset apart) (are k)
    ]

-- zeros are bytes
pub zeros_are_bytes : (n k : ℕ) → slice_index (replicate n 0) k < 256
zeros_are_bytes n k = rw (none_at {X = ℕ} 0 n k) (lit< tt)

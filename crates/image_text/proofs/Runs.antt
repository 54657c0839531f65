-- Bytes that are put one after another.
use Rattle.std.proofs.Common.{◌≡◌, ℕ, ◌+◌, ◌-◌, ◌/◌, ◌%◌, ◌<◌, ◌≤◌, ◌⊎◌, false, List, Option, Some, None}
use Rattle.std.proofs.Common.{length, get_or, refl, sym, inl, inr, arith, nat_cmp}
use Rattle.std.specs.List.{slice_index_or}
use Rattle.std.specs.BTreeMap.{get}
use Rattle.std.proofs.Math.Path.{fun_ext}
use Rattle.std.proofs.lemmas.Bool.{cases_eq}
use Rattle.std.proofs.lemmas.Bool.Decides.{nat_tests}
use Rattle.hart_words.specs.Memory.{is_within}
use Rattle.hart_words.proofs.Stores.{within-true, within-false}
use Rattle.image_text.specs.declared.pieces.Pieces.{Pieces}
use Rattle.image_text.specs.Bytes.{byte_at}
use Rattle.image_text.specs.Runs.{with_bytes}
use Rattle.image_text.proofs.Pages.{IsPut, is_eq_same, is_eq_other}

pub put_inside : (address : ℕ) (values : List ℕ) (bytes : ℕ → Option ℕ) (j : ℕ) → j < length values
    → with_bytes bytes address values (address + j) ≡ Some (get_or values j 0)
put_inside address values bytes j below =
    let offset : address + j - address ≡ j = omega arith in
    rw (within-true address (length values) j below, offset) refl

pub put_outside : (address : ℕ) (values : List ℕ) (bytes : ℕ → Option ℕ) (at : ℕ)
    → (at < address) ⊎ (address + length values ≤ at) → with_bytes bytes address values at ≡ bytes at
put_outside address values bytes at apart = rw (within-false address (length values) at apart) refl

-- the place of an address in a run that lies in one page
same_run : (a address len : ℕ) → a / 4096 ≡ address / 4096
    → is_within (address % 4096) len (a % 4096) ≡ is_within address len a
same_run a address len same = grind (arith, nat_tests)

other_run : (a address len : ℕ) → (a / 4096 ≡ address / 4096 → ⊥) → address % 4096 + len ≤ 4096
    → is_within address len a ≡ false
other_run a address len apart short = grind (arith, nat_tests)

same_offset : (a address : ℕ) → a / 4096 ≡ address / 4096 → a % 4096 - address % 4096 ≡ a - address
same_offset a address same = grind arith

-- bytes written into a page that is there
pub written_run : (before after : Pieces) (address : ℕ) (values : List ℕ) {old new : _}
    → IsPut (get nat_cmp before.pages) (get nat_cmp after.pages) (address / 4096) new
    → get nat_cmp before.pages (address / 4096) ≡ Some old
    → address % 4096 + length values ≤ 4096
    → ((k : ℕ) → slice_index_or new.value.bytes k None
    ≡ with_bytes (λ k. slice_index_or old.value.bytes k None) (address % 4096) values k)
    → byte_at after ≡ with_bytes (byte_at before) address values
unfolding byte_at
written_run before after address values put was short writes =
    fun_ext (λ a. elim (cases_eq (a / 4096) (address / 4096)) [
      | inl same ↦
          rw (put.updates (a / 4096), same, is_eq_same (address / 4096), was)
          (rw (writes (a % 4096), same_run a address (length values) same, same_offset a address same) refl)
      | inr apart ↦
          rw (
            put.updates (a / 4096),
            is_eq_other (address / 4096) (a / 4096) (λ e. apart (sym e)),
            other_run a address (length values) apart short,
          ) refl
    ])

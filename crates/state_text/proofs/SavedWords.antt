-- The numbers of a hart that holds words.
use Rattle.std.proofs.Common.{◌≡◌, ℕ, suc, ◌<◌, ◌≤◌, ◌^◌, length, get_or, map, All, refl, sym, ap, ◌∙◌, subst}
use Rattle.std.proofs.Common.{inl, inr, lit<, arith, Option, Some, None}
use Rattle.std.specs.Prelude.{◌==◌, ◌-◌, false, slice_index}
use Rattle.std.proofs.lemmas.Bool.Decides.{nat_tests}
use Rattle.std.specs.List.{range_with_len}
use Rattle.std.specs.Option.{ForSome, IfSome}
use Rattle.std.proofs.Math.ListN.{get_or-eq_default, get_or-map}
use Rattle.std.proofs.lemmas.Bool.{cases_lt}
use Rattle.std.proofs.lemmas.List.FromFn.{get_or-range_with_len}
use Rattle.hart_words.specs.declared.registers.Registers.{Registers}
use Rattle.hart_words.specs.Registers.{register_of}
use Rattle.csr_file.specs.declared.csrs.Csrs.{Csrs}
use Rattle.csr_file.specs.declared.stored_csr.StoredCsr.{StoredCsr}
use Rattle.csr_file.specs.declared.stored_csr.StoredCsr.TheVariants.{Mstatus}
use Rattle.csr_file.specs.Registers.{at, no_entry, pmp_entry_of}
use Rattle.csr_file.specs.Table.{stored_csrs, stored_index_of}

pub register_value : (registers : Registers) → ((number : ℕ) → register_of registers number < 2 ^ 64) → (k : ℕ)
    → slice_index registers.values k < 2 ^ 64
register_value registers words k =
    let apart : (suc k == 0) ≡ false = grind (arith, nat_tests) in
    let back : suc k - 1 ≡ k = omega arith in
    rw (apart, back) at (words (suc k))

index_at : (k : ℕ) → k < 21 → stored_index_of (get_or stored_csrs k Mstatus) ≡ k
index_at k below =
    let indices : map stored_index_of stored_csrs ≡ range_with_len 0 21 = refl in
    sym (get_or-map stored_index_of stored_csrs k Mstatus) ∙ ap (λ xs. get_or xs k 0) indices
    ∙ get_or-range_with_len 0 21 k 0 below ∙ omega arith

pub csr_value : (csrs : Csrs) → ((stored : StoredCsr) → at csrs stored < 2 ^ 64) → length csrs.values ≡ 21 → (k : ℕ)
    → slice_index csrs.values k < 2 ^ 64
unfolding at
csr_value csrs words whole k = elim (cases_lt k 21) [
  | inl below ↦
      subst (λ i. slice_index csrs.values i < 2 ^ 64) (index_at k below) (words (get_or stored_csrs k Mstatus))
  | inr past ↦ let long : length csrs.values ≤ k = omega (arith, past, whole) in rw (get_or-eq_default csrs.values 0 long) (lit< tt)
]

pub configuration_at : (csrs : Csrs) → All (λ entry. entry.cfg < 2 ^ 8) csrs.entries → (k : ℕ)
    → (pmp_entry_of csrs k).cfg < 256
configuration_at csrs words k = elim (cases_lt k (length csrs.entries)) [
  | inl below ↦ words k no_entry below
  | inr past ↦ rw (get_or-eq_default csrs.entries no_entry past) (lit< tt)
]

pub for_some : {A : Type 0} (P : A → Type 0) (o : Option A) → IfSome o P → ForSome o P
for_some P None holds = λ x is. absurd cc
for_some P (Some y) holds = λ x is. let same : y ≡ x = cc in subst P same holds

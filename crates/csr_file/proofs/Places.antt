-- No two registers stand at one index, and what one of them gets changes no other.
use Rattle.std.proofs.Common.{◌≡◌, ◌≢◌, ℕ, ◌<◌, Bool, true, List, length, map, get_or, refl, slice_index}
use Rattle.std.proofs.Common.{ap, ◌∙◌, sym, subst, lit<, arith, get_or-set_same, get_or-set_other}
use Rattle.std.specs.List.{list_all}
use Rattle.std.proofs.lemmas.List.{ext_get_or, get_or-map}
use Rattle.std.proofs.lemmas.List.Sums.{AllPass-from_list_all}
use Rattle.csr_file.specs.declared.csrs.Csrs.{Csrs}
use Rattle.csr_file.specs.declared.stored_csr.StoredCsr.{StoredCsr}
use Rattle.csr_file.specs.declared.stored_csr.StoredCsr.TheVariants.{Mstatus}
use Rattle.csr_file.specs.declared.stored_csr.TheConstants.{STORED_CSRS}
use Rattle.csr_file.specs.Registers.{at, with_at}
use Rattle.csr_file.specs.Table.{stored_csrs, stored_index_of}

-- each stands at its index in the list of all
found : (stored : StoredCsr) → get_or stored_csrs (stored_index_of stored) Mstatus ≡ stored
found Mstatus = refl
found _ = refl

pub same_index : (one other : StoredCsr) → stored_index_of one ≡ stored_index_of other → one ≡ other
same_index one other e = sym (found one) ∙ ap (λ n. get_or stored_csrs n Mstatus) e ∙ found other

pub inside : (stored : StoredCsr) → stored_index_of stored < STORED_CSRS
inside Mstatus = lit< tt
inside _ = lit< tt

-- a test that all of them pass holds of each
pub of_each : (test : StoredCsr → Bool) → list_all test stored_csrs ≡ true → (stored : StoredCsr)
    → test stored ≡ true
of_each test h stored =
    subst (λ one. test one ≡ true) (found stored)
    (AllPass-from_list_all test stored_csrs h (stored_index_of stored) Mstatus (inside stored))

-- a list that has at the place of each of them what a function gives
pub filled : (f : StoredCsr → ℕ) (values : List ℕ) → length values ≡ STORED_CSRS
    → ((k : ℕ) → k < STORED_CSRS → get_or values k 0 ≡ f (get_or stored_csrs k Mstatus)) → values ≡ map f stored_csrs
filled f values whole each =
    ext_get_or 0 values (map f stored_csrs) whole
    (λ k within. let below : k < STORED_CSRS = omega (arith, whole, within) in
    each k below ∙ sym (get_or-map f stored_csrs k Mstatus 0 below))

-- what a list of what a function gives has at the place of each
pub at_list : (f : StoredCsr → ℕ) (stored : StoredCsr) → slice_index (map f stored_csrs) (stored_index_of stored) ≡ f stored
at_list f stored =
    get_or-map f stored_csrs (stored_index_of stored) Mstatus 0 (inside stored) ∙ ap f (found stored)

-- a register has what it got, where there is a place for it
pub at_same : (csrs : Csrs) (stored : StoredCsr) (value : ℕ) → length csrs.values ≡ STORED_CSRS
    → at (with_at csrs stored value) stored ≡ value
unfolding at with_at
at_same csrs stored value whole =
    get_or-set_same csrs.values (stored_index_of stored) value 0
    (subst (λ n. stored_index_of stored < n) (sym whole) (inside stored))

-- any other has what it had
pub at_other : (csrs : Csrs) (stored other : StoredCsr) (value : ℕ) → stored_index_of other ≢ stored_index_of stored
    → at (with_at csrs stored value) other ≡ at csrs other
unfolding at with_at
at_other csrs stored other value apart =
    get_or-set_other csrs.values (stored_index_of stored) (stored_index_of other) value 0 apart

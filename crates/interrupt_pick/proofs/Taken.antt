-- What is picked is pending, enabled and taken.
use Rattle.std.proofs.Common.{◌≡◌, ◌⊎◌, inl, inr, ℕ, ◌≤◌, Bool, true, false, not, cond, ◌&&◌, Option, Some, None, List}
use Rattle.std.proofs.Common.{[], ◌∷◌, refl, ap, ◌∙◌, sym, subst, lit≤, if◌then◌else◌}
use Rattle.std.specs.List.{find}
use Rattle.std.specs.Option.{option_map, option_or}
use Rattle.hart_words.specs.declared.privilege.Mode.{Mode}
use Rattle.hart_words.specs.declared.privilege.Mode.TheVariants.{User, Supervisor, Machine}
use Rattle.hart_words.specs.Privilege.{mode_number}
use Rattle.csr_file.specs.declared.csrs.Csrs.{Csrs}
use Rattle.csr_file.specs.declared.stored_csr.StoredCsr.TheVariants.{Mideleg}
use Rattle.csr_file.specs.Registers.{at as value_at}
use Rattle.csr_file.specs.Fields.{bit_is_set}
use Rattle.interrupt_pick.specs.Interrupts.{order, is_pending_and_enabled, machine_takes, supervisor_takes}
use Rattle.interrupt_pick.specs.Interrupts.{is_for_machine, is_for_supervisor, pick_of}
use Rattle.interrupt_pick.specs.Laws.{IsTaken, PicksTaken}

pub wrong : (P : Type 0) → false ≡ true → P
wrong P h = cc

pub both : (a b : Bool) → (a && b) ≡ true → (a ≡ true) × (b ≡ true)
both true b h = (refl, h)
both false b h = wrong _ h

pub off : (a : Bool) → not a ≡ true → a ≡ false
off true h = wrong _ h
off false h = refl

-- what is found passes the test
step : (p : ℕ → Bool) (x : ℕ) (rest : Option ℕ) (code : ℕ) (b : Bool) → p x ≡ b → (rest ≡ Some code → p code ≡ true)
    → cond b (Some x) rest ≡ Some code → p code ≡ true
step p x rest code true passes later is = let same : x ≡ code = cc in ap p (sym same) ∙ passes
step p x rest code false fails later is = later is

pub found : (p : ℕ → Bool) (xs : List ℕ) (code : ℕ) → find p xs ≡ Some code → p code ≡ true
found p [] code is = cc
found p (x ∷ xs) code is = step p x (find p xs) code (p x) refl (found p xs code) is

parts : (one other : ℕ × Mode) → Some one ≡ Some other → (one.0 ≡ other.0) × (one.1 ≡ other.1)
parts one other h =
    let same : one ≡ other = cc in
    (ap (λ (t : ℕ × Mode). t.0) same, ap (λ (t : ℕ × Mode). t.1) same)

-- where it came from
pub from : (here there : Option ℕ) (code : ℕ) (taker : Mode)
    → option_or {T = ℕ × Mode} (option_map (λ c. (c, Machine)) here) (option_map (λ c. (c, Supervisor)) there)
    ≡ Some (code, taker) → ((here ≡ Some code) × (taker ≡ Machine)) ⊎ ((there ≡ Some code) × (taker ≡ Supervisor))
from (Some c) there code taker is = let same = parts (c, Machine) (code, taker) is in inl (ap Some same.0, sym same.1)
from None (Some c) code taker is = let same = parts (c, Supervisor) (code, taker) is in inr (ap Some same.0, sym same.1)
from None None code taker is = cc

below_machine : (mode : Mode) → mode_number mode ≤ 3
below_machine User = lit≤ tt
below_machine Supervisor = lit≤ tt
below_machine Machine = lit≤ tt

below_supervisor : (csrs : Csrs) (mode : Mode) → supervisor_takes csrs mode ≡ true → mode_number mode ≤ 1
below_supervisor csrs User h = lit≤ tt
below_supervisor csrs Supervisor h = lit≤ tt
below_supervisor csrs Machine h = wrong _ h

for_machine : (csrs : Csrs) (mode : Mode) (lines code : ℕ) → is_for_machine csrs mode lines code ≡ true
    → IsTaken csrs mode lines code Machine
unfolding is_for_machine
for_machine csrs mode lines code h =
    let outer =
    both (machine_takes csrs mode && is_pending_and_enabled csrs lines code)
    (not (bit_is_set (value_at csrs Mideleg) code)) h in
    let inner = both (machine_takes csrs mode) (is_pending_and_enabled csrs lines code) outer.0 in
    record {
      pending =
          inner.1;
      by = ap (λ b. if b then Supervisor else Machine) (sym (off _ outer.1));
      above = below_machine mode;
    }

for_supervisor : (csrs : Csrs) (mode : Mode) (lines code : ℕ) → is_for_supervisor csrs mode lines code ≡ true
    → IsTaken csrs mode lines code Supervisor
unfolding is_for_supervisor
for_supervisor csrs mode lines code h =
    let outer =
    both (supervisor_takes csrs mode && is_pending_and_enabled csrs lines code)
    (bit_is_set (value_at csrs Mideleg) code) h in
    let inner = both (supervisor_takes csrs mode) (is_pending_and_enabled csrs lines code) outer.0 in
    record {
      pending =
          inner.1;
      by =
          ap (λ b. if b then Supervisor else Machine) (sym outer.1);
      above = below_supervisor csrs mode inner.0;
    }

pub picks_taken : (csrs : Csrs) (mode : Mode) (lines : ℕ) → PicksTaken csrs mode lines
unfolding pick_of
picks_taken csrs mode lines code taker is =
    elim
    (from (find (is_for_machine csrs mode lines) order) (find (is_for_supervisor csrs mode lines) order) code
    taker is) [
      | inl here ↦
          subst (IsTaken csrs mode lines code) (sym here.1)
          (for_machine csrs mode lines code (found (is_for_machine csrs mode lines) order code here.0))
      | inr there ↦
          subst (IsTaken csrs mode lines code) (sym there.1)
          (for_supervisor csrs mode lines code (found (is_for_supervisor csrs mode lines) order code there.0))
    ]

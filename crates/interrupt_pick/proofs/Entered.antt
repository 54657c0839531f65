-- What is picked is entered in the mode that takes it.
use Rattle.std.proofs.Common.{◌≡◌, inl, inr, ℕ, true, false, not, ◌&&◌, refl, ap, ◌∙◌, sym, if◌then◌else◌}
use Rattle.std.specs.List.{find}
use Rattle.hart_words.specs.declared.privilege.Mode.{Mode}
use Rattle.hart_words.specs.declared.privilege.Mode.TheVariants.{User, Supervisor, Machine}
use Rattle.csr_file.specs.declared.csrs.Csrs.{Csrs}
use Rattle.csr_file.specs.declared.stored_csr.StoredCsr.TheVariants.{Mideleg}
use Rattle.csr_file.specs.Registers.{at as value_at}
use Rattle.csr_file.specs.Fields.{bit_is_set}
use Rattle.trap_entry.specs.Entries.{is_delegated, mode_by_enter}
use Rattle.interrupt_pick.specs.Interrupts.{order, is_pending_and_enabled, machine_takes, supervisor_takes}
use Rattle.interrupt_pick.specs.Interrupts.{is_for_machine, is_for_supervisor, pick_of}
use Rattle.interrupt_pick.specs.Laws.{PicksWhereEntered}
use Rattle.interrupt_pick.proofs.Taken.{both, found, from, off, wrong}

not_delegated : (csrs : Csrs) (mode : Mode) (code : ℕ) → bit_is_set (value_at csrs Mideleg) code ≡ false
    → is_delegated csrs mode true code ≡ false
unfolding is_delegated
not_delegated csrs Machine code out = refl
not_delegated csrs Supervisor code out = out
not_delegated csrs User code out = out

delegated : (csrs : Csrs) (mode : Mode) (code : ℕ) → supervisor_takes csrs mode ≡ true
    → bit_is_set (value_at csrs Mideleg) code ≡ true → is_delegated csrs mode true code ≡ true
unfolding is_delegated
delegated csrs Machine code takes is = wrong _ takes
delegated csrs Supervisor code takes is = is
delegated csrs User code takes is = is

in_machine : (csrs : Csrs) (mode : Mode) (lines code : ℕ) → is_for_machine csrs mode lines code ≡ true
    → Machine ≡ mode_by_enter csrs mode true code
unfolding is_for_machine mode_by_enter
in_machine csrs mode lines code h =
    let outer =
    both (machine_takes csrs mode && is_pending_and_enabled csrs lines code)
    (not (bit_is_set (value_at csrs Mideleg) code)) h in
    ap (λ b. if b then Supervisor else Machine) (sym (not_delegated csrs mode code (off _ outer.1)))

in_supervisor : (csrs : Csrs) (mode : Mode) (lines code : ℕ) → is_for_supervisor csrs mode lines code ≡ true
    → Supervisor ≡ mode_by_enter csrs mode true code
unfolding is_for_supervisor mode_by_enter
in_supervisor csrs mode lines code h =
    let outer =
    both (supervisor_takes csrs mode && is_pending_and_enabled csrs lines code)
    (bit_is_set (value_at csrs Mideleg) code) h in
    let inner = both (supervisor_takes csrs mode) (is_pending_and_enabled csrs lines code) outer.0 in
    ap (λ b. if b then Supervisor else Machine) (sym (delegated csrs mode code inner.0 outer.1))

pub picks_where_entered : (csrs : Csrs) (mode : Mode) (lines : ℕ) → PicksWhereEntered csrs mode lines
unfolding pick_of
picks_where_entered csrs mode lines code taker is =
    elim
    (from (find (is_for_machine csrs mode lines) order) (find (is_for_supervisor csrs mode lines) order) code
    taker is) [
      | inl here ↦ here.1 ∙ in_machine csrs mode lines code (found (is_for_machine csrs mode lines) order code here.0)
      | inr there ↦
          there.1 ∙ in_supervisor csrs mode lines code (found (is_for_supervisor csrs mode lines) order code there.0)
    ]

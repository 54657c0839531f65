-- A return undoes an entry.
use Rattle.std.proofs.Common.{arith, ◌≡◌, ℕ, ◌<◌, Bool, true, false, length, refl, ap, ◌∙◌, sym, subst, lit<}
use Rattle.std.proofs.Common.{length-set, if◌then◌else◌, ◌≤◌, inl, inr, lit≤}
use Rattle.std.specs.Int.{bit_at}
use Rattle.std.proofs.lemmas.Bool.{cases_Bool}
use Rattle.hart_words.specs.declared.privilege.Mode.{Mode}
use Rattle.hart_words.specs.declared.privilege.Mode.TheVariants.{User, Supervisor, Machine}
use Rattle.hart_words.specs.Privilege.{mode_number}
use Rattle.csr_file.specs.declared.csrs.Csrs.{Csrs}
use Rattle.csr_file.specs.declared.stored_csr.StoredCsr.{StoredCsr}
use Rattle.csr_file.specs.declared.stored_csr.StoredCsr.TheVariants.{Mstatus, Mepc, Mcause, Mtval, Sepc, Scause, Stval}
use Rattle.csr_file.specs.declared.stored_csr.TheConstants.{STORED_CSRS}
use Rattle.csr_file.specs.declared.fields.TheConstants.{SIE, MIE, SPP}
use Rattle.csr_file.specs.Registers.{at as value_at, with_at}
use Rattle.csr_file.specs.Table.{stored_index_of}
use Rattle.csr_file.specs.Fields.{mode_of_encoding, mpp_of}
use Rattle.csr_file.proofs.Places.{at_same, at_other}
use Rattle.trap_entry.specs.Entries.{is_delegated, cause_value, status_into_machine, status_into_supervisor, enter_of}
use Rattle.trap_entry.specs.Entries.{enter_machine_of, enter_supervisor_of, mode_by_enter}
use Rattle.trap_entry.specs.Returns.{mode_by_mret, mode_by_sret, status_by_mret, status_by_sret, mret_of, sret_of}
use Rattle.trap_entry.specs.Laws.{IsGivenBackByMret, IsGivenBackBySret, MretUndoesEntry, SretUndoesEntry, NeverLowers}
use Rattle.trap_entry.proofs.Stacks.{stacked_for_machine, stacked_for_supervisor, unstacked_by_mret, unstacked_by_sret}
use Rattle.trap_entry.proofs.Stacks.{differs}

whole_with : (csrs : Csrs) (stored : StoredCsr) (value : ℕ) → length csrs.values ≡ STORED_CSRS
    → length (with_at csrs stored value).values ≡ STORED_CSRS
unfolding with_at
whole_with csrs stored value whole = length-set csrs.values (stored_index_of stored) value ∙ whole

whole_machine : (csrs : Csrs) (mode : Mode) (interrupt : Bool) (cause tval pc : ℕ) → length csrs.values ≡ STORED_CSRS
    → length (enter_machine_of csrs mode (cause_value interrupt cause) tval pc).values ≡ STORED_CSRS
unfolding enter_machine_of
whole_machine csrs mode interrupt cause tval pc whole =
    whole_with _ Mstatus _ (whole_with _ Mtval tval (whole_with _ Mcause _ (whole_with csrs Mepc pc whole)))

whole_supervisor : (csrs : Csrs) (mode : Mode) (interrupt : Bool) (cause tval pc : ℕ)
    → length csrs.values ≡ STORED_CSRS
    → length (enter_supervisor_of csrs mode (cause_value interrupt cause) tval pc).values ≡ STORED_CSRS
unfolding enter_supervisor_of
whole_supervisor csrs mode interrupt cause tval pc whole =
    whole_with _ Mstatus _ (whole_with _ Stval tval (whole_with _ Scause _ (whole_with csrs Sepc pc whole)))

status_machine : (csrs : Csrs) (mode : Mode) (interrupt : Bool) (cause tval pc : ℕ) → length csrs.values ≡ STORED_CSRS
    → value_at (enter_machine_of csrs mode (cause_value interrupt cause) tval pc) Mstatus
    ≡ status_into_machine (value_at csrs Mstatus) mode
unfolding enter_machine_of
status_machine csrs mode interrupt cause tval pc whole =
    at_same _ Mstatus _ (whole_with _ Mtval tval (whole_with _ Mcause _ (whole_with csrs Mepc pc whole)))

status_supervisor : (csrs : Csrs) (mode : Mode) (interrupt : Bool) (cause tval pc : ℕ)
    → length csrs.values ≡ STORED_CSRS
    → value_at (enter_supervisor_of csrs mode (cause_value interrupt cause) tval pc) Mstatus
    ≡ status_into_supervisor (value_at csrs Mstatus) mode
unfolding enter_supervisor_of
status_supervisor csrs mode interrupt cause tval pc whole =
    at_same _ Mstatus _ (whole_with _ Stval tval (whole_with _ Scause _ (whole_with csrs Sepc pc whole)))

pc_machine : (csrs : Csrs) (mode : Mode) (interrupt : Bool) (cause tval pc : ℕ) → length csrs.values ≡ STORED_CSRS
    → value_at (enter_machine_of csrs mode (cause_value interrupt cause) tval pc) Mepc ≡ pc
unfolding enter_machine_of
pc_machine csrs mode interrupt cause tval pc whole =
    at_other _ Mstatus Mepc _ (differs 9 0 refl)
    ∙ at_other _ Mtval Mepc tval (differs 9 11 refl)
    ∙ at_other _ Mcause Mepc _ (differs 9 10 refl)
    ∙ at_same csrs Mepc pc whole

pc_supervisor : (csrs : Csrs) (mode : Mode) (interrupt : Bool) (cause tval pc : ℕ) → length csrs.values ≡ STORED_CSRS
    → value_at (enter_supervisor_of csrs mode (cause_value interrupt cause) tval pc) Sepc ≡ pc
unfolding enter_supervisor_of
pc_supervisor csrs mode interrupt cause tval pc whole =
    at_other _ Mstatus Sepc _ (differs 17 0 refl)
    ∙ at_other _ Stval Sepc tval (differs 17 19 refl)
    ∙ at_other _ Scause Sepc _ (differs 17 18 refl)
    ∙ at_same csrs Sepc pc whole

numbered : (mode : Mode) → mode_of_encoding (mode_number mode) ≡ mode
numbered User = refl
numbered Supervisor = refl
numbered Machine = refl

after_mret : (csrs : Csrs) → length csrs.values ≡ STORED_CSRS
    → value_at (mret_of csrs) Mstatus ≡ status_by_mret (value_at csrs Mstatus)
unfolding mret_of
after_mret csrs whole = at_same csrs Mstatus _ whole

after_sret : (csrs : Csrs) → length csrs.values ≡ STORED_CSRS
    → value_at (sret_of csrs) Mstatus ≡ status_by_sret (value_at csrs Mstatus)
unfolding sret_of
after_sret csrs whole = at_same csrs Mstatus _ whole

mode_back : (csrs : Csrs) (status : ℕ) (mode : Mode) → value_at csrs Mstatus ≡ status
    → mpp_of status ≡ mode_number mode → mode_by_mret csrs ≡ mode
unfolding mode_by_mret
mode_back csrs status mode is mpp = ap (λ s. mode_of_encoding (mpp_of s)) is ∙ ap mode_of_encoding mpp ∙ numbered mode

mode_back_by_sret : (csrs : Csrs) (status : ℕ) (mode : Mode) → value_at csrs Mstatus ≡ status
    → bit_at status SPP ≡ mode_number mode → mode_by_sret csrs ≡ mode
unfolding mode_by_sret
mode_back_by_sret csrs status mode is spp =
    ap (λ s. mode_of_encoding (bit_at s SPP)) is ∙ ap mode_of_encoding spp ∙ numbered mode

machine_back : (csrs : Csrs) (mode : Mode) (interrupt : Bool) (cause tval pc : ℕ) → length csrs.values ≡ STORED_CSRS
    → IsGivenBackByMret csrs mode pc (enter_machine_of csrs mode (cause_value interrupt cause) tval pc)
machine_back csrs mode interrupt cause tval pc whole =
    let is = status_machine csrs mode interrupt cause tval pc whole in
    let stacked = stacked_for_machine (value_at csrs Mstatus) mode in
    let after =
    after_mret (enter_machine_of csrs mode (cause_value interrupt cause) tval pc)
    (whole_machine csrs mode interrupt cause tval pc whole) ∙ ap status_by_mret is in
    let unstacked = unstacked_by_mret (status_into_machine (value_at csrs Mstatus) mode) in
    record {
      mode = mode_back _ _ mode is stacked.mpp;
      pc = pc_machine csrs mode interrupt cause tval pc whole;
      mie = ap (λ s. bit_at s MIE) after ∙ unstacked.mie ∙ stacked.mpie;
      sie = ap (λ s. bit_at s SIE) after ∙ unstacked.rest SIE (lit< tt) refl ∙ stacked.rest SIE (lit< tt) refl;
    }

supervisor_back : (csrs : Csrs) (mode : Mode) (interrupt : Bool) (cause tval pc : ℕ)
    → length csrs.values ≡ STORED_CSRS → mode_number mode < 2
    → IsGivenBackBySret csrs mode pc (enter_supervisor_of csrs mode (cause_value interrupt cause) tval pc)
supervisor_back csrs mode interrupt cause tval pc whole below =
    let is = status_supervisor csrs mode interrupt cause tval pc whole in
    let stacked = stacked_for_supervisor (value_at csrs Mstatus) mode in
    let after =
    after_sret (enter_supervisor_of csrs mode (cause_value interrupt cause) tval pc)
    (whole_supervisor csrs mode interrupt cause tval pc whole) ∙ ap status_by_sret is in
    let unstacked = unstacked_by_sret (status_into_supervisor (value_at csrs Mstatus) mode) in
    record {
      mode = mode_back_by_sret _ _ mode is (stacked.spp below);
      pc = pc_supervisor csrs mode interrupt cause tval pc whole;
      mie = ap (λ s. bit_at s MIE) after ∙ unstacked.rest MIE (lit< tt) refl ∙ stacked.rest MIE (lit< tt) refl;
      sie = ap (λ s. bit_at s SIE) after ∙ unstacked.sie ∙ stacked.spie;
    }

never : (P : Type 0) → false ≡ true → P
never P wrong = cc

below_machine : (csrs : Csrs) (mode : Mode) (interrupt : Bool) (cause : ℕ)
    → is_delegated csrs mode interrupt cause ≡ true → mode_number mode < 2
unfolding is_delegated
below_machine csrs User interrupt cause taken = lit< tt
below_machine csrs Supervisor interrupt cause taken = lit< tt
below_machine csrs Machine interrupt cause taken = never (3 < 2) taken

pub mret_undoes : (csrs : Csrs) (mode : Mode) (interrupt : Bool) (cause tval pc : ℕ)
    → MretUndoesEntry csrs mode interrupt cause tval pc
unfolding enter_of
mret_undoes csrs mode interrupt cause tval pc legal out =
    subst
    (λ b. IsGivenBackByMret csrs mode pc
    (if b then enter_supervisor_of csrs mode (cause_value interrupt cause) tval pc else enter_machine_of csrs mode
    (cause_value interrupt cause) tval pc)) (sym out) (machine_back csrs mode interrupt cause tval pc legal.whole)

pub sret_undoes : (csrs : Csrs) (mode : Mode) (interrupt : Bool) (cause tval pc : ℕ)
    → SretUndoesEntry csrs mode interrupt cause tval pc
unfolding enter_of
sret_undoes csrs mode interrupt cause tval pc legal taken =
    subst
    (λ b. IsGivenBackBySret csrs mode pc
    (if b then enter_supervisor_of csrs mode (cause_value interrupt cause) tval pc else enter_machine_of csrs mode
    (cause_value interrupt cause) tval pc)) (sym taken)
    (supervisor_back csrs mode interrupt cause tval pc legal.whole (below_machine csrs mode interrupt cause taken))

up_to_machine : (mode : Mode) → mode_number mode ≤ 3
up_to_machine User = lit≤ tt
up_to_machine Supervisor = lit≤ tt
up_to_machine Machine = lit≤ tt

pub never_lowers : (csrs : Csrs) (mode : Mode) (interrupt : Bool) (cause : ℕ) → NeverLowers csrs mode interrupt cause
unfolding mode_by_enter
never_lowers csrs mode interrupt cause =
    let Raises : Bool → Type 0 = λ b. mode_number mode ≤ mode_number (if b then Supervisor else Machine) in
    elim (cases_Bool (is_delegated csrs mode interrupt cause)) [
      | inl taken ↦
          let below : mode_number mode < 2 = below_machine csrs mode interrupt cause taken in
          let most : mode_number mode ≤ 1 = omega arith in
          subst Raises (sym taken) most
      | inr out ↦ subst Raises (sym out) (up_to_machine mode)
    ]

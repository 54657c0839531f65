-- Entries and returns leave what they do not name.
use Rattle.std.proofs.Common.{◌≡◌, ◌≢◌, inl, inr, ℕ, Bool, true, false, refl, ap, ◌∙◌, sym, subst, if◌then◌else◌}
use Rattle.std.proofs.lemmas.Bool.{cases_Bool}
use Rattle.hart_words.specs.declared.privilege.Mode.{Mode}
use Rattle.csr_file.specs.declared.csrs.Csrs.{Csrs}
use Rattle.csr_file.specs.declared.stored_csr.StoredCsr.{StoredCsr}
use Rattle.csr_file.specs.declared.stored_csr.StoredCsr.TheVariants.{Mstatus, Mepc, Mcause, Mtval, Sepc, Scause, Stval}
use Rattle.csr_file.specs.Registers.{at as value_at, with_at}
use Rattle.csr_file.specs.Table.{stored_index_of}
use Rattle.csr_file.proofs.Places.{at_other, same_index}
use Rattle.trap_entry.specs.Entries.{cause_value, is_delegated, enter_of, enter_machine_of, enter_supervisor_of}
use Rattle.trap_entry.specs.Returns.{mret_of, sret_of}
use Rattle.trap_entry.specs.Laws.{ChangesOnly, EntersOnly, is_of_machine, is_of_supervisor, is_status}

never : true ≡ false → ⊥
never wrong = cc

apart : (named : StoredCsr → Bool) (stored written : StoredCsr) → named written ≡ true → named stored ≡ false
    → stored_index_of stored ≢ stored_index_of written
apart named stored written is out same = never (sym is ∙ ap named (sym (same_index stored written same)) ∙ out)

-- a write of a register that is named leaves one that is not
unnamed : (named : StoredCsr → Bool) (csrs : Csrs) (written : StoredCsr) (value : ℕ) (stored : StoredCsr)
    → named written ≡ true → named stored ≡ false
    → value_at (with_at csrs written value) stored ≡ value_at csrs stored
unnamed named csrs written value stored is out =
    at_other csrs written stored value (apart named stored written is out)

machine_only : (csrs : Csrs) (mode : Mode) (interrupt : Bool) (cause tval pc : ℕ)
    → ChangesOnly is_of_machine csrs (enter_machine_of csrs mode (cause_value interrupt cause) tval pc)
unfolding enter_machine_of with_at
machine_only csrs mode interrupt cause tval pc = record {
  registers = λ stored out.
      unnamed is_of_machine _ Mstatus _ stored refl out
      ∙ unnamed is_of_machine _ Mtval _ stored refl out
      ∙ unnamed is_of_machine _ Mcause _ stored refl out
      ∙ unnamed is_of_machine csrs Mepc _ stored refl out;
  entries = refl;
  profile = refl;
}

supervisor_only : (csrs : Csrs) (mode : Mode) (interrupt : Bool) (cause tval pc : ℕ)
    → ChangesOnly is_of_supervisor csrs (enter_supervisor_of csrs mode (cause_value interrupt cause) tval pc)
unfolding enter_supervisor_of with_at
supervisor_only csrs mode interrupt cause tval pc = record {
  registers = λ stored out.
      unnamed is_of_supervisor _ Mstatus _ stored refl out
      ∙ unnamed is_of_supervisor _ Stval _ stored refl out
      ∙ unnamed is_of_supervisor _ Scause _ stored refl out
      ∙ unnamed is_of_supervisor csrs Sepc _ stored refl out;
  entries = refl;
  profile = refl;
}

pub enters_only : (csrs : Csrs) (mode : Mode) (interrupt : Bool) (cause tval pc : ℕ)
    → EntersOnly csrs mode interrupt cause tval pc
unfolding enter_of
enters_only csrs mode interrupt cause tval pc =
    let Only : Bool → Type 0 =
    λ b. ChangesOnly (if b then is_of_supervisor else is_of_machine) csrs
    (if b then enter_supervisor_of csrs mode (cause_value interrupt cause) tval pc else enter_machine_of csrs mode
    (cause_value interrupt cause) tval pc) in
    elim (cases_Bool (is_delegated csrs mode interrupt cause)) [
      | inl taken ↦ subst Only (sym taken) (supervisor_only csrs mode interrupt cause tval pc)
      | inr out ↦ subst Only (sym out) (machine_only csrs mode interrupt cause tval pc)
    ]

pub mret_only : (csrs : Csrs) → ChangesOnly is_status csrs (mret_of csrs)
unfolding mret_of with_at
mret_only csrs = record {
  registers = λ stored out. unnamed is_status csrs Mstatus _ stored refl out;
  entries = refl;
  profile = refl;
}

pub sret_only : (csrs : Csrs) → ChangesOnly is_status csrs (sret_of csrs)
unfolding sret_of with_at
sret_only csrs = record {
  registers = λ stored out. unnamed is_status csrs Mstatus _ stored refl out;
  entries = refl;
  profile = refl;
}

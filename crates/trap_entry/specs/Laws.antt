-- What entries and returns leave, in the words of the Privileged Architecture's chapter "Machine-Level ISA" (the
-- stack of mstatus), and that a return undoes an entry.
use Rattle.std.specs.Prelude.{◌≤◌, ◌≡◌, ◌≢◌, ℕ, ◌<◌, Bool, true, false, if◌then◌else◌}
use Rattle.std.specs.Int.{bit_at}
use Rattle.hart_words.specs.declared.privilege.Mode.{Mode}
use Rattle.hart_words.specs.Privilege.{mode_number}
use Rattle.csr_file.specs.declared.csrs.Csrs.{Csrs}
use Rattle.csr_file.specs.declared.stored_csr.StoredCsr.{StoredCsr}
use Rattle.csr_file.specs.declared.stored_csr.StoredCsr.TheVariants.{Mstatus, Mepc, Mcause, Mtval, Sepc, Scause, Stval}
use Rattle.csr_file.specs.declared.fields.TheConstants.{SIE, MIE, SPIE, MPIE, SPP, MPRV}
use Rattle.csr_file.specs.Registers.{at}
use Rattle.csr_file.specs.Fields.{bit_is_set, mpp_of}
use Rattle.csr_file.specs.Legal.{IsLegal}
use Rattle.trap_entry.specs.Entries.{is_delegated, enter_of, machine_stack, mode_by_enter, supervisor_stack}
use Rattle.trap_entry.specs.Returns.{machine_stack_and_mprv, mode_by_mret, mode_by_sret, mret_of, sret_of}
use Rattle.trap_entry.specs.Returns.{supervisor_stack_and_mprv}

-- the registers that an entry to M writes
abbrev pub is_of_machine : StoredCsr → Bool
is_of_machine Mstatus = true
is_of_machine Mepc = true
is_of_machine Mcause = true
is_of_machine Mtval = true
is_of_machine _ = false

-- the registers that an entry to S writes
abbrev pub is_of_supervisor : StoredCsr → Bool
is_of_supervisor Mstatus = true
is_of_supervisor Sepc = true
is_of_supervisor Scause = true
is_of_supervisor Stval = true
is_of_supervisor _ = false

-- a trap is never entered in a mode below the one that it comes in
abbrev pub NeverLowers : Csrs → Mode → Bool → ℕ → Type 0
NeverLowers csrs mode interrupt cause = mode_number mode ≤ mode_number (mode_by_enter csrs mode interrupt cause)

-- the registers after are those before but for some
pub record ChangesOnly (some : StoredCsr → Bool) (before after : Csrs) : Type 0 where
  pub registers : (stored : StoredCsr) → some stored ≡ false → at after stored ≡ at before stored
  pub entries : after.entries ≡ before.entries
  pub profile : after.profile ≡ before.profile

-- an entry changes the registers of the mode that it enters, and no other
abbrev pub EntersOnly : Csrs → Mode → Bool → ℕ → ℕ → ℕ → Type 0
EntersOnly csrs mode interrupt cause tval pc =
    let some = if is_delegated csrs mode interrupt cause then is_of_supervisor else is_of_machine in
    ChangesOnly some csrs (enter_of csrs mode interrupt cause tval pc)

-- a return changes mstatus, and no other register
abbrev pub is_status : StoredCsr → Bool
is_status Mstatus = true
is_status _ = false

-- no bit but those of the mask changes
abbrev pub KeepsOtherBits : ℕ → ℕ → ℕ → Type 0
KeepsOtherBits mask before after =
    (bit : ℕ) → bit < 64 → bit_is_set mask bit ≡ false → bit_at after bit ≡ bit_at before bit

-- mstatus at an entry to M
pub record IsStackedForMachine (before : ℕ) (mode : Mode) (after : ℕ) : Type 0 where
  pub mpie : bit_at after MPIE ≡ bit_at before MIE
  pub mie : bit_at after MIE ≡ 0
  pub mpp : mpp_of after ≡ mode_number mode
  pub rest : KeepsOtherBits machine_stack before after

-- mstatus at an entry to S, which is from S or U
pub record IsStackedForSupervisor (before : ℕ) (mode : Mode) (after : ℕ) : Type 0 where
  pub spie : bit_at after SPIE ≡ bit_at before SIE
  pub sie : bit_at after SIE ≡ 0
  pub spp : mode_number mode < 2 → bit_at after SPP ≡ mode_number mode
  pub rest : KeepsOtherBits supervisor_stack before after

-- mstatus at MRET
pub record IsUnstackedByMret (before after : ℕ) : Type 0 where
  pub mie : bit_at after MIE ≡ bit_at before MPIE
  pub mpie : bit_at after MPIE ≡ 1
  pub mpp : mpp_of after ≡ 0
  pub mprv : mpp_of before ≢ 3 → bit_at after MPRV ≡ 0
  pub mprv_in_machine : mpp_of before ≡ 3 → bit_at after MPRV ≡ bit_at before MPRV
  pub rest : KeepsOtherBits machine_stack_and_mprv before after

-- mstatus at SRET
pub record IsUnstackedBySret (before after : ℕ) : Type 0 where
  pub sie : bit_at after SIE ≡ bit_at before SPIE
  pub spie : bit_at after SPIE ≡ 1
  pub spp : bit_at after SPP ≡ 0
  pub mprv : bit_at after MPRV ≡ 0
  pub rest : KeepsOtherBits supervisor_stack_and_mprv before after

-- MRET after an entry to M gives back the mode, the address, and the enables of interrupts
pub record IsGivenBackByMret (csrs : Csrs) (old_mode : Mode) (old_pc : ℕ) (trapped : Csrs) : Type 0 where
  pub mode : mode_by_mret trapped ≡ old_mode
  pub pc : at trapped Mepc ≡ old_pc
  pub mie : bit_at (at (mret_of trapped) Mstatus) MIE ≡ bit_at (at csrs Mstatus) MIE
  pub sie : bit_at (at (mret_of trapped) Mstatus) SIE ≡ bit_at (at csrs Mstatus) SIE

-- SRET after an entry to S does
pub record IsGivenBackBySret (csrs : Csrs) (old_mode : Mode) (old_pc : ℕ) (trapped : Csrs) : Type 0 where
  pub mode : mode_by_sret trapped ≡ old_mode
  pub pc : at trapped Sepc ≡ old_pc
  pub mie : bit_at (at (sret_of trapped) Mstatus) MIE ≡ bit_at (at csrs Mstatus) MIE
  pub sie : bit_at (at (sret_of trapped) Mstatus) SIE ≡ bit_at (at csrs Mstatus) SIE

-- so it is after each entry to M
abbrev pub MretUndoesEntry : Csrs → Mode → Bool → ℕ → ℕ → ℕ → Type 0
MretUndoesEntry csrs mode interrupt cause tval pc =
    IsLegal csrs → is_delegated csrs mode interrupt cause ≡ false
    → IsGivenBackByMret csrs mode pc (enter_of csrs mode interrupt cause tval pc)

-- and after each entry to S
abbrev pub SretUndoesEntry : Csrs → Mode → Bool → ℕ → ℕ → ℕ → Type 0
SretUndoesEntry csrs mode interrupt cause tval pc =
    IsLegal csrs → is_delegated csrs mode interrupt cause ≡ true
    → IsGivenBackBySret csrs mode pc (enter_of csrs mode interrupt cause tval pc)

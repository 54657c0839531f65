-- What holds of every interrupt that is picked, from the Privileged Architecture's chapter "Machine-Level ISA"
-- (mideleg, mip and mie).
use Rattle.std.specs.Prelude.{◌≡◌, ◌≢◌, ℕ, ◌≤◌, true, false, List, [], ◌∷◌, ◌++◌, All, Some, None, if◌then◌else◌}
use Rattle.hart_words.specs.declared.privilege.Mode.{Mode}
use Rattle.hart_words.specs.declared.privilege.Mode.TheVariants.{User, Supervisor, Machine}
use Rattle.hart_words.specs.Privilege.{mode_number}
use Rattle.csr_file.specs.declared.csrs.Csrs.{Csrs}
use Rattle.csr_file.specs.declared.stored_csr.StoredCsr.TheVariants.{Mstatus, Mideleg, Mie}
use Rattle.csr_file.specs.declared.fields.TheConstants.{SIE, MIE}
use Rattle.csr_file.specs.Registers.{at}
use Rattle.csr_file.specs.Fields.{bit_is_set}
use Rattle.csr_file.specs.Values.{pending_interrupts_of}
use Rattle.trap_entry.specs.Entries.{mode_by_enter}
use Rattle.interrupt_pick.specs.Interrupts.{is_pending_and_enabled, pick_of}

-- the interrupt is pending and enabled; S takes it where it is delegated, else M; and no mode below the one that
-- it comes in
pub record IsTaken (csrs : Csrs) (mode : Mode) (lines code : ℕ) (taker : Mode) : Type 0 where
  pub pending : is_pending_and_enabled csrs lines code ≡ true
  pub by : taker ≡ (if bit_is_set (at csrs Mideleg) code then Supervisor else Machine)
  pub above : mode_number mode ≤ mode_number taker

-- so it is with each that is picked
abbrev pub PicksTaken : Csrs → Mode → ℕ → Type 0
PicksTaken csrs mode lines =
    (code : ℕ) (taker : Mode) → pick_of csrs mode lines ≡ Some (code, taker) → IsTaken csrs mode lines code taker

-- the mode that is picked is the one that the entry of that interrupt enters
abbrev pub PicksWhereEntered : Csrs → Mode → ℕ → Type 0
PicksWhereEntered csrs mode lines =
    (code : ℕ) (taker : Mode) → pick_of csrs mode lines ≡ Some (code, taker) → taker ≡ mode_by_enter csrs mode true code

-- the standard's order among interrupts that one mode takes, by their codes: MEI, MSI, MTI, SEI, SSI, STI
abbrev pub standard_order : List ℕ
standard_order = 11 ∷ 3 ∷ 7 ∷ 9 ∷ 1 ∷ 5 ∷ []

-- M takes an interrupt that is pending, enabled and not delegated: from S and U always, from M where MIE is 1
pub record IsTakenByMachine (csrs : Csrs) (mode : Mode) (lines code : ℕ) : Type 0 where
  pub pending : bit_is_set (pending_interrupts_of csrs lines) code ≡ true
  pub enabled : bit_is_set (at csrs Mie) code ≡ true
  pub not_delegated : bit_is_set (at csrs Mideleg) code ≡ false
  pub unmasked : mode ≡ Machine → bit_is_set (at csrs Mstatus) MIE ≡ true

-- S takes one that is pending, enabled and delegated: from U always, from S where SIE is 1, from M never
pub record IsTakenBySupervisor (csrs : Csrs) (mode : Mode) (lines code : ℕ) : Type 0 where
  pub pending : bit_is_set (pending_interrupts_of csrs lines) code ≡ true
  pub enabled : bit_is_set (at csrs Mie) code ≡ true
  pub delegated : bit_is_set (at csrs Mideleg) code ≡ true
  pub below_machine : mode ≢ Machine
  pub unmasked : mode ≡ Supervisor → bit_is_set (at csrs Mstatus) SIE ≡ true

-- something holds of no element of a list
abbrev pub HoldsOfNone : (ℕ → Type 0) → List ℕ → Type 0
HoldsOfNone holds codes = All (λ code. holds code → ⊥) codes

-- the first element of a list of which something holds
pub record IsFirst (holds : ℕ → Type 0) (codes : List ℕ) (code : ℕ) : Type 0 where
  pub before : List ℕ
  pub after : List ℕ
  pub place : codes ≡ before ++ code ∷ after
  pub none_before : HoldsOfNone holds before
  pub here : holds code

-- the interrupt to take: the first that M takes; where M takes none, the first that S takes
abbrev pub IsPicked : Csrs → Mode → ℕ → ℕ → Mode → Type 0
IsPicked csrs mode lines code Machine = IsFirst (IsTakenByMachine csrs mode lines) standard_order code
IsPicked csrs mode lines code Supervisor =
    HoldsOfNone (IsTakenByMachine csrs mode lines) standard_order
    × IsFirst (IsTakenBySupervisor csrs mode lines) standard_order code
IsPicked csrs mode lines code User = ⊥

-- neither M nor S takes an interrupt
pub record TakesNone (csrs : Csrs) (mode : Mode) (lines : ℕ) : Type 0 where
  pub by_machine : HoldsOfNone (IsTakenByMachine csrs mode lines) standard_order
  pub by_supervisor : HoldsOfNone (IsTakenBySupervisor csrs mode lines) standard_order

-- what is picked is the interrupt to take
abbrev pub PicksFirst : Csrs → Mode → ℕ → Type 0
PicksFirst csrs mode lines =
    (code : ℕ) (taker : Mode) → pick_of csrs mode lines ≡ Some (code, taker) → IsPicked csrs mode lines code taker

-- and nothing is picked just where there is none to take
pub record PicksNoneRightly (csrs : Csrs) (mode : Mode) (lines : ℕ) : Type 0 where
  pub takes_none : pick_of csrs mode lines ≡ None → TakesNone csrs mode lines
  pub picks_none : TakesNone csrs mode lines → pick_of csrs mode lines ≡ None

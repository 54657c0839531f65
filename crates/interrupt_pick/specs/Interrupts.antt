-- Which interrupt is taken, from the Privileged Architecture's chapters "Machine-Level ISA" (mip, mie, mideleg) and
-- "Supervisor-Level ISA" (sip, sie).
use Rattle.std.specs.Prelude.{ℕ, Bool, true, false, not, ◌&&◌, List, [], ◌∷◌, Option, option_map, find}
use Rattle.std.specs.Option.{option_or}
use Rattle.hart_words.specs.declared.privilege.Mode.{Mode}
use Rattle.hart_words.specs.declared.privilege.Mode.TheVariants.{User, Supervisor, Machine}
use Rattle.csr_file.specs.declared.csrs.Csrs.{Csrs}
use Rattle.csr_file.specs.declared.stored_csr.StoredCsr.TheVariants.{Mstatus, Mideleg, Mie}
use Rattle.csr_file.specs.declared.fields.TheConstants.{SIE, MIE, SSIP, MSIP, STIP, MTIP, SEIP, MEIP}
use Rattle.csr_file.specs.Registers.{at}
use Rattle.csr_file.specs.Fields.{bit_is_set}
use Rattle.csr_file.specs.Values.{pending_interrupts_of}

-- the order in which interrupts are taken
abbrev pub order : List ℕ
order = MEIP ∷ MSIP ∷ MTIP ∷ SEIP ∷ SSIP ∷ STIP ∷ []

-- the interrupt is pending and enabled
abbrev pub is_pending_and_enabled : Csrs → ℕ → ℕ → Bool
is_pending_and_enabled csrs lines code =
    bit_is_set (pending_interrupts_of csrs lines) code && bit_is_set (at csrs Mie) code

-- M takes interrupts from S and U always, and from M where MIE is set
abbrev pub machine_takes : Csrs → Mode → Bool
machine_takes csrs Machine = bit_is_set (at csrs Mstatus) MIE
machine_takes csrs Supervisor = true
machine_takes csrs User = true

-- S takes them from U always, from S where SIE is set, and from M never
abbrev pub supervisor_takes : Csrs → Mode → Bool
supervisor_takes csrs Machine = false
supervisor_takes csrs Supervisor = bit_is_set (at csrs Mstatus) SIE
supervisor_takes csrs User = true

-- M takes those that are not delegated
unfoldable pub is_for_machine : Csrs → Mode → ℕ → ℕ → Bool
is_for_machine csrs mode lines code =
    machine_takes csrs mode && is_pending_and_enabled csrs lines code && not (bit_is_set (at csrs Mideleg) code)

-- S takes those that are delegated
unfoldable pub is_for_supervisor : Csrs → Mode → ℕ → ℕ → Bool
is_for_supervisor csrs mode lines code =
    supervisor_takes csrs mode && is_pending_and_enabled csrs lines code && bit_is_set (at csrs Mideleg) code

-- the first for M, else the first for S, with the mode that takes it
unfoldable pub pick_of : Csrs → Mode → ℕ → Option (ℕ × Mode)
pick_of csrs mode lines =
    option_or
    (option_map (λ code. (code, Machine)) (find (is_for_machine csrs mode lines) order))
    (option_map (λ code. (code, Supervisor)) (find (is_for_supervisor csrs mode lines) order))

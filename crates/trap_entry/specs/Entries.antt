-- Entry of a trap, from the Privileged Architecture's chapters "Machine-Level ISA" (medeleg, mideleg, mtvec, the
-- stack of mstatus) and "Supervisor-Level ISA".
use Rattle.std.specs.Prelude.{ℕ, ◌+◌, ◌*◌, ◌/◌, ◌%◌, ◌^◌, Bool, false, ◌&&◌, ◌==◌, if◌then◌else◌, [], ◌∷◌}
use Rattle.std.specs.Int.{bit_at}
use Rattle.hart_words.specs.declared.privilege.Mode.{Mode}
use Rattle.hart_words.specs.declared.privilege.Mode.TheVariants.{User, Supervisor, Machine}
use Rattle.hart_words.specs.Privilege.{mode_number}
use Rattle.csr_file.specs.declared.csrs.Csrs.{Csrs}
use Rattle.csr_file.specs.declared.stored_csr.StoredCsr.TheVariants.{Mstatus, Medeleg, Mideleg, Mtvec, Mepc, Mcause}
use Rattle.csr_file.specs.declared.stored_csr.StoredCsr.TheVariants.{Mtval, Stvec, Sepc, Scause, Stval}
use Rattle.csr_file.specs.declared.fields.TheConstants.{SIE, MIE, SPIE, MPIE, SPP, MPP}
use Rattle.csr_file.specs.Registers.{at, with_at}
use Rattle.csr_file.specs.Fields.{bits, field_bits, bit_is_set, masked_update}

-- a trap in S or U goes to S where the bit of its code is set, in mideleg for an interrupt and in medeleg for an
-- exception; a trap in M never does
unfoldable pub is_delegated : Csrs → Mode → Bool → ℕ → Bool
is_delegated csrs Machine interrupt cause = false
is_delegated csrs Supervisor interrupt cause =
    bit_is_set (if interrupt then at csrs Mideleg else at csrs Medeleg) cause
is_delegated csrs User interrupt cause =
    bit_is_set (if interrupt then at csrs Mideleg else at csrs Medeleg) cause

-- the code, with bit 63 set for an interrupt
abbrev pub cause_value : Bool → ℕ → ℕ
cause_value interrupt cause = if interrupt then 2 ^ 63 + cause else cause

-- the trap value, where a core writes it at all: the standard lets it be 0 in every trap
abbrev pub trap_value_of : Bool → ℕ → ℕ
trap_value_of zero tval = if zero then 0 else tval

-- the base of a vector, bits 1:0 cleared; in its mode 1 an interrupt adds 4 times the code
unfoldable pub handler_address : ℕ → Bool → ℕ → ℕ
handler_address tvec interrupt cause =
    if interrupt && (tvec % 4 == 1) then (tvec / 4 * 4 + 4 * cause) % 2 ^ 64 else tvec / 4 * 4

-- the fields of mstatus that entries to M and MRET write, and those of entries to S and SRET
abbrev pub machine_stack : ℕ
machine_stack = bits (MIE ∷ MPIE ∷ []) + field_bits MPP 2

abbrev pub supervisor_stack : ℕ
supervisor_stack = bits (SIE ∷ SPIE ∷ SPP ∷ [])

-- mstatus in M: MPIE is MIE, MIE is 0, MPP is the old mode
unfoldable pub status_into_machine : ℕ → Mode → ℕ
status_into_machine status mode =
    masked_update machine_stack status (2 ^ MPIE * bit_at status MIE + 2 ^ MPP * mode_number mode)

-- mstatus in S: SPIE is SIE, SIE is 0, SPP is the old mode, which is S or U
unfoldable pub status_into_supervisor : ℕ → Mode → ℕ
status_into_supervisor status mode =
    masked_update supervisor_stack status (2 ^ SPIE * bit_at status SIE + 2 ^ SPP * mode_number mode)

-- entry to M, with the value of mcause
unfoldable pub enter_machine_of : Csrs → Mode → ℕ → ℕ → ℕ → Csrs
enter_machine_of csrs mode value tval pc =
    let trapped = with_at (with_at (with_at csrs Mepc pc) Mcause value) Mtval tval in
    with_at trapped Mstatus (status_into_machine (at csrs Mstatus) mode)

-- entry to S, with the value of scause
unfoldable pub enter_supervisor_of : Csrs → Mode → ℕ → ℕ → ℕ → Csrs
enter_supervisor_of csrs mode value tval pc =
    let trapped = with_at (with_at (with_at csrs Sepc pc) Scause value) Stval tval in
    with_at trapped Mstatus (status_into_supervisor (at csrs Mstatus) mode)

-- the registers after a trap was entered
unfoldable pub enter_of : Csrs → Mode → Bool → ℕ → ℕ → ℕ → Csrs
enter_of csrs mode interrupt cause tval pc =
    if is_delegated csrs mode interrupt cause
    then enter_supervisor_of csrs mode (cause_value interrupt cause) tval pc
    else enter_machine_of csrs mode (cause_value interrupt cause) tval pc

-- the mode that it is entered in
unfoldable pub mode_by_enter : Csrs → Mode → Bool → ℕ → Mode
mode_by_enter csrs mode interrupt cause =
    if is_delegated csrs mode interrupt cause then Supervisor else Machine

-- the address that it is entered at
unfoldable pub pc_by_enter : Csrs → Mode → Bool → ℕ → ℕ
pc_by_enter csrs mode interrupt cause =
    handler_address (if is_delegated csrs mode interrupt cause then at csrs Stvec else at csrs Mtvec) interrupt cause

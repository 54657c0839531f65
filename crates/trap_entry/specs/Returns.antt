-- Return from a trap by MRET and SRET, from the Privileged Architecture's chapter "Machine-Level ISA" (trap-return
-- instructions, the stack of mstatus).
use Rattle.std.specs.Prelude.{ℕ, ◌+◌, ◌*◌, ◌^◌, ◌==◌, if◌then◌else◌, [], ◌∷◌}
use Rattle.std.specs.Int.{bit_at}
use Rattle.hart_words.specs.declared.privilege.Mode.{Mode}
use Rattle.csr_file.specs.declared.csrs.Csrs.{Csrs}
use Rattle.csr_file.specs.declared.stored_csr.StoredCsr.TheVariants.{Mstatus}
use Rattle.csr_file.specs.declared.fields.TheConstants.{SIE, MIE, SPIE, MPIE, SPP, MPRV}
use Rattle.csr_file.specs.Registers.{at, with_at}
use Rattle.csr_file.specs.Fields.{bits, masked_update, mode_of_encoding, mpp_of}
use Rattle.trap_entry.specs.Entries.{machine_stack, supervisor_stack}

-- the mode that MRET returns to: MPP
unfoldable pub mode_by_mret : Csrs → Mode
mode_by_mret csrs = mode_of_encoding (mpp_of (at csrs Mstatus))

-- the mode that SRET returns to: SPP
unfoldable pub mode_by_sret : Csrs → Mode
mode_by_sret csrs = mode_of_encoding (bit_at (at csrs Mstatus) SPP)

-- MPRV is cleared on a return to another mode than M
abbrev pub machine_stack_and_mprv : ℕ
machine_stack_and_mprv = machine_stack + bits (MPRV ∷ [])

abbrev pub supervisor_stack_and_mprv : ℕ
supervisor_stack_and_mprv = supervisor_stack + bits (MPRV ∷ [])

-- mstatus after MRET: MIE is MPIE, MPIE is 1, MPP is U, and MPRV is cleared where the new mode is not M
unfoldable pub status_by_mret : ℕ → ℕ
status_by_mret status =
    masked_update
    (if mpp_of status == 3 then machine_stack else machine_stack_and_mprv)
    status
    (2 ^ MIE * bit_at status MPIE + 2 ^ MPIE)

-- mstatus after SRET: SIE is SPIE, SPIE is 1, SPP is U, and MPRV is cleared
unfoldable pub status_by_sret : ℕ → ℕ
status_by_sret status = masked_update supervisor_stack_and_mprv status (2 ^ SIE * bit_at status SPIE + 2 ^ SPIE)

-- the registers after MRET
unfoldable pub mret_of : Csrs → Csrs
mret_of csrs = with_at csrs Mstatus (status_by_mret (at csrs Mstatus))

-- the registers after SRET
unfoldable pub sret_of : Csrs → Csrs
sret_of csrs = with_at csrs Mstatus (status_by_sret (at csrs Mstatus))

-- What a write leaves as it was.
use Rattle.std.specs.Prelude.{◌≡◌, ◌≢◌, ◌⊎◌, ℕ, ◌-◌, ◌%◌, ◌<◌, Bool, true, false, Option, Some, None, if◌then◌else◌}
use Rattle.std.specs.Int.{bit_at}
use Rattle.csr_table.specs.declared.registers.Csr.{Csr}
use Rattle.csr_file.specs.declared.csrs.Csrs.{Csrs}
use Rattle.csr_file.specs.declared.stored_csr.StoredCsr.{StoredCsr}
use Rattle.csr_file.specs.declared.stored_csr.StoredCsr.TheVariants.{Mstatus, Mepc, Mie, Mip, Satp, Sepc}
use Rattle.csr_file.specs.declared.csr_kind.CsrKind.{CsrKind}
use Rattle.csr_file.specs.declared.csr_kind.CsrKind.TheVariants.{Stored, Status, Pending, SupervisorStatus}
use Rattle.csr_file.specs.declared.csr_kind.CsrKind.TheVariants.{SupervisorEnables, SupervisorPending, Translation}
use Rattle.csr_file.specs.declared.csr_kind.CsrKind.TheVariants.{LowConfigurations, HighConfigurations, EntryAddress}
use Rattle.csr_file.specs.declared.csr_kind.CsrKind.TheVariants.{Constant, ImplementationDefined, Counter}
use Rattle.csr_file.specs.declared.fields.TheConstants.{BARE, SV39, PMP_LOCK}
use Rattle.csr_file.specs.Registers.{at, pmp_entry_of}
use Rattle.csr_file.specs.declared.profile.CsrProfile.{CsrProfile}
use Rattle.csr_file.specs.Fields.{bit_is_set, masked_update, mpp_of, satp_mode_of}
use Rattle.csr_file.specs.Table.{stored_row_of}
use Rattle.csr_file.specs.Profiles.{fixed_bits, is_from_row, kind_in, plain_mask, plain_profile, presence_of, writable_bits}
use Rattle.csr_file.specs.Values.{configuration_of, csr_write_of, is_locked_from_below}

-- the stored register that a write changes: a view's is another register
abbrev pub written_register_of : CsrKind → Option StoredCsr
written_register_of (Stored stored) = Some stored
written_register_of Status = Some Mstatus
written_register_of Pending = Some Mip
written_register_of SupervisorStatus = Some Mstatus
written_register_of SupervisorEnables = Some Mie
written_register_of SupervisorPending = Some Mip
written_register_of Translation = Some Satp
written_register_of LowConfigurations = None
written_register_of HighConfigurations = None
written_register_of (EntryAddress number) = None
written_register_of (Constant number) = None
written_register_of ImplementationDefined = None
written_register_of (Counter bit) = None

-- a write changes no register but that one
abbrev pub LeavesOtherRegisters : Csrs → Csr → ℕ → Type 0
LeavesOtherRegisters csrs csr value =
    (stored : StoredCsr) → written_register_of (kind_in csrs.profile csr) ≢ Some stored
    → at (csr_write_of csrs (kind_in csrs.profile csr) value) stored ≡ at csrs stored

-- the register is one of physical memory protection
abbrev pub is_protective : CsrKind → Bool
is_protective LowConfigurations = true
is_protective HighConfigurations = true
is_protective (EntryAddress number) = true
is_protective _ = false

-- a write of any other leaves physical memory protection
abbrev pub LeavesProtection : Csrs → Csr → ℕ → Type 0
LeavesProtection csrs csr value =
    is_protective (kind_in csrs.profile csr) ≡ false
    → (csr_write_of csrs (kind_in csrs.profile csr) value).entries ≡ csrs.entries

-- an entry that is locked stays, and where it begins at the address of the entry before it, that address too; and
-- so does what the core makes of its registers
pub record KeepsLocked (before after : Csrs) (number : ℕ) : Type 0 where
  pub profile : after.profile ≡ before.profile
  pub entry : pmp_entry_of after number ≡ pmp_entry_of before number
  pub below : is_locked_from_below (configuration_of before number) ≡ true
      → (pmp_entry_of after (number - 1)).addr ≡ (pmp_entry_of before (number - 1)).addr

abbrev pub LeavesLocked : Csrs → Csr → ℕ → Type 0
LeavesLocked csrs csr value =
    (number : ℕ) → number < 16 → bit_is_set (configuration_of csrs number) PMP_LOCK ≡ true
    → KeepsLocked csrs (csr_write_of csrs (kind_in csrs.profile csr) value) number

-- a write leaves what the core makes of its registers
abbrev pub LeavesProfile : Csrs → Csr → ℕ → Type 0
LeavesProfile csrs csr value = (csr_write_of csrs (kind_in csrs.profile csr) value).profile ≡ csrs.profile

-- a register that the core decides is one that no write changes
abbrev pub DropsWrites : Csrs → Csr → ℕ → Type 0
DropsWrites csrs csr value =
    is_from_row (presence_of csrs.profile csr) ≡ true → csr_write_of csrs (kind_in csrs.profile csr) value ≡ csrs

-- where nothing is said, the bits that a write changes are those of the table, and so are those that are always 1
abbrev pub IsAsTheTable : StoredCsr → Type 0
IsAsTheTable stored =
    (writable_bits plain_profile stored ≡ plain_mask stored)
    × (fixed_bits plain_profile stored ≡ (stored_row_of stored).constant)

-- a value that a register can have: the registers that hold an address of an instruction are even, MPP of mstatus is a
-- mode, and MODE of satp is Bare or Sv39
abbrev pub HoldsInWords : CsrProfile → StoredCsr → ℕ → Type 0
HoldsInWords profile Mepc value = value % 2 ≡ 0
HoldsInWords profile Sepc value = value % 2 ≡ 0
HoldsInWords profile Mstatus value = mpp_of value ≢ 2
HoldsInWords profile Satp value = (satp_mode_of value ≡ BARE) ⊎ (satp_mode_of value ≡ SV39)
HoldsInWords profile stored value = Unit {0}

-- a merged value has the bits of the mask from the new value and all others from the old one
abbrev pub MergesByBits : ℕ → ℕ → ℕ → Type 0
MergesByBits mask old value =
    (bit : ℕ) → bit < 64
    → bit_at (masked_update mask old value) bit ≡ (if bit_is_set mask bit then bit_at value bit else bit_at old bit)

-- Which accesses are legal, and what they give, from the Privileged Architecture's chapter "Control and Status
-- Registers (CSRs)" and its descriptions of mcounteren, scounteren and TVM.
use Rattle.std.specs.Prelude.{ℕ, Bool, true, false, not, ◌&&◌, nat_le, Option, Some, None, Result, Ok, Err}
use Rattle.std.specs.Prelude.{if◌then◌else◌}
use Rattle.hart_words.specs.declared.privilege.Mode.{Mode}
use Rattle.hart_words.specs.declared.privilege.Mode.TheVariants.{User, Supervisor, Machine}
use Rattle.hart_words.specs.Privilege.{mode_number}
use Rattle.csr_table.specs.declared.registers.CsrRow.{CsrRow}
use Rattle.csr_table.specs.Addresses.{csr_row_of}
use Rattle.csr_file.specs.declared.csrs.Csrs.{Csrs}
use Rattle.csr_file.specs.declared.stored_csr.StoredCsr.TheVariants.{Mstatus, Mcounteren, Scounteren}
use Rattle.csr_file.specs.declared.csr_kind.CsrKind.{CsrKind}
use Rattle.csr_file.specs.declared.csr_kind.CsrKind.TheVariants.{Stored, Status, Pending, SupervisorStatus}
use Rattle.csr_file.specs.declared.csr_kind.CsrKind.TheVariants.{SupervisorEnables, SupervisorPending, Translation}
use Rattle.csr_file.specs.declared.csr_kind.CsrKind.TheVariants.{LowConfigurations, HighConfigurations, EntryAddress}
use Rattle.csr_file.specs.declared.csr_kind.CsrKind.TheVariants.{Constant, ImplementationDefined, Counter}
use Rattle.csr_file.specs.declared.access.CsrRead.{CsrRead}
use Rattle.csr_file.specs.declared.access.Illegal.{Illegal}
use Rattle.csr_file.specs.declared.fields.TheConstants.{TVM}
use Rattle.csr_file.specs.Registers.{at}
use Rattle.csr_file.specs.Fields.{bit_is_set}
use Rattle.csr_file.specs.Profiles.{is_absent, kind_in, presence_of}
use Rattle.csr_file.specs.Values.{csr_read_of, csr_write_of, has_entry}

-- the counter of this bit may be read: in S where mcounteren has the bit, in U where scounteren has it too
abbrev pub counter_is_enabled : Csrs → Mode → ℕ → Bool
counter_is_enabled csrs Machine bit = true
counter_is_enabled csrs Supervisor bit = bit_is_set (at csrs Mcounteren) bit
counter_is_enabled csrs User bit =
    bit_is_set (at csrs Mcounteren) bit && bit_is_set (at csrs Scounteren) bit

-- satp may be accessed in the mode: in S where TVM of mstatus is clear
abbrev pub translation_is_open : Csrs → Mode → Bool
translation_is_open csrs Machine = true
translation_is_open csrs Supervisor = not (bit_is_set (at csrs Mstatus) TVM)
translation_is_open csrs User = false

-- the core has physical memory protection
abbrev pub has_entries : Csrs → Bool
has_entries csrs = has_entry csrs 0

-- the register may be accessed in the mode, as far as TVM, the enables of counters and what the core has go
unfoldable pub is_enabled : Csrs → Mode → CsrKind → Bool
is_enabled csrs mode (Stored stored) = true
is_enabled csrs mode Status = true
is_enabled csrs mode Pending = true
is_enabled csrs mode SupervisorStatus = true
is_enabled csrs mode SupervisorEnables = true
is_enabled csrs mode SupervisorPending = true
is_enabled csrs mode Translation = translation_is_open csrs mode
is_enabled csrs mode LowConfigurations = has_entries csrs
is_enabled csrs mode HighConfigurations = has_entries csrs
is_enabled csrs mode (EntryAddress number) = has_entries csrs
is_enabled csrs mode (Constant number) = true
is_enabled csrs mode ImplementationDefined = true
is_enabled csrs mode (Counter bit) = counter_is_enabled csrs mode bit

-- a read of the row's register is legal in the mode
unfoldable pub may_read : Csrs → Mode → CsrRow → Bool
may_read csrs mode row =
    nat_le row.least_mode (mode_number mode) && is_enabled csrs mode (kind_in csrs.profile row.csr)
    && not (is_absent (presence_of csrs.profile row.csr))

-- a write of it is legal
unfoldable pub may_write : Csrs → Mode → CsrRow → Bool
may_write csrs mode row = may_read csrs mode row && not row.read_only

-- what a read gives, where the address has a row and the read is legal
abbrev pub csr_read_by : Csrs → Mode → ℕ → Option CsrRow → Result CsrRead Illegal
csr_read_by csrs mode lines None = Err (record {})
csr_read_by csrs mode lines (Some row) =
    if may_read csrs mode row then Ok (csr_read_of csrs (kind_in csrs.profile row.csr) lines) else Err (record {})

-- a read by address
unfoldable pub csr_read_at : Csrs → ℕ → Mode → ℕ → Result CsrRead Illegal
csr_read_at csrs address mode lines = csr_read_by csrs mode lines (csr_row_of address)

-- the registers after a write, where the address has a row and the write is legal
abbrev pub csr_write_by : Csrs → Mode → ℕ → Option CsrRow → Result Csrs Illegal
csr_write_by csrs mode value None = Err (record {})
csr_write_by csrs mode value (Some row) =
    if may_write csrs mode row then Ok (csr_write_of csrs (kind_in csrs.profile row.csr) value) else Err (record {})

-- a write by address
unfoldable pub csr_write_at : Csrs → ℕ → Mode → ℕ → Result Csrs Illegal
csr_write_at csrs address mode value = csr_write_by csrs mode value (csr_row_of address)

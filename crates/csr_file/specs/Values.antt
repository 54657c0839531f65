-- What each register reads as, and what a write leaves, from the Privileged Architecture's chapters
-- "Machine-Level ISA" and "Supervisor-Level ISA".
use Rattle.std.specs.Prelude.{ℕ, ◌+◌, ◌-◌, ◌*◌, ◌/◌, ◌%◌, ◌^◌, Bool, ◌&&◌, ◌||◌, ◌==◌, nat_le, nat_lt, if◌then◌else◌}
use Rattle.std.specs.Prelude.{bit_and, bit_or, map, not, slice_set}
use Rattle.std.specs.List.{range_with_len}
use Rattle.std.specs.Int.{w64, from_le_bytes}
use Rattle.hart_words.specs.Words.{bit_field}
use Rattle.hart_words.specs.declared.privilege.PmpEntry.{PmpEntry}
use Rattle.hart_words.specs.declared.signal.CsrName.{CsrName}
use Rattle.hart_words.specs.declared.signal.CsrName.TheVariants as names
use Rattle.csr_table.specs.declared.registers.Csr.{Csr}
use Rattle.csr_table.specs.declared.registers.Csr.TheVariants as csr
use Rattle.csr_file.specs.declared.csrs.Csrs.{Csrs}
use Rattle.csr_file.specs.declared.stored_csr.StoredCsr.TheVariants.{Mstatus, Mideleg, Mie, Mip, Satp}
use Rattle.csr_file.specs.declared.csr_kind.CsrKind.{CsrKind}
use Rattle.csr_file.specs.declared.csr_kind.CsrKind.TheVariants.{Stored, Status, Pending, SupervisorStatus}
use Rattle.csr_file.specs.declared.csr_kind.CsrKind.TheVariants.{SupervisorEnables, SupervisorPending, Translation}
use Rattle.csr_file.specs.declared.csr_kind.CsrKind.TheVariants.{LowConfigurations, HighConfigurations, EntryAddress}
use Rattle.csr_file.specs.declared.csr_kind.CsrKind.TheVariants.{Constant, ImplementationDefined, Counter}
use Rattle.csr_file.specs.declared.access.CsrRead.{CsrRead}
use Rattle.csr_file.specs.Registers.{at, with_at, pmp_entry_of}
use Rattle.csr_file.specs.declared.fields.TheConstants.{FS, VS, SD, MPP, PMP_MATCHING, PMP_LOCK}
use Rattle.csr_file.specs.Fields.{all_bits, bit_is_set, field_bits, is_supported_mode, masked_update, mpp_of}
use Rattle.csr_file.specs.Fields.{satp_mode_of}
use Rattle.csr_file.specs.declared.stored_csr.StoredCsr.{StoredCsr}
use Rattle.csr_file.specs.declared.profile.CsrProfile.{CsrProfile}
use Rattle.csr_file.specs.Table.{sip_writable, sstatus_shown, sstatus_writable}
use Rattle.csr_file.specs.Profiles.{entry_bits_of, entry_count_of, kind_in, line_bits_of, writable_bits}

-- the interrupts that are pending: those stored in mip, and the lines from outside
unfoldable pub pending_interrupts_of : Csrs → ℕ → ℕ
pending_interrupts_of csrs lines = bit_or (at csrs Mip) (bit_and lines (line_bits_of csrs.profile))

-- mstatus as it reads: SD is 1 where a unit's state is 3, which is dirty
abbrev pub status_shown : ℕ → ℕ
status_shown status =
    if (status / 2 ^ FS % 4 == 3) || (status / 2 ^ VS % 4 == 3) then bit_or status (2 ^ SD) else status

-- the configuration byte of an entry of physical memory protection
abbrev pub configuration_of : Csrs → ℕ → ℕ
configuration_of csrs number = (pmp_entry_of csrs number).cfg

-- the configurations of eight entries from one on, the lowest first
unfoldable pub packed_pmpcfg_of : Csrs → ℕ → ℕ
packed_pmpcfg_of csrs first = from_le_bytes w64 (map (configuration_of csrs) (range_with_len first 8))

-- the address of the entry with this number, of which the low four bits count
abbrev pub entry_address_of : Csrs → ℕ → ℕ
entry_address_of csrs number = (pmp_entry_of csrs (number % 16)).addr

-- the value that a register reads as; what the core decides is 0 here
unfoldable pub csr_value_of : Csrs → CsrKind → ℕ → ℕ
csr_value_of csrs (Stored stored) lines = at csrs stored
csr_value_of csrs Status lines = status_shown (at csrs Mstatus)
csr_value_of csrs Pending lines = pending_interrupts_of csrs lines
csr_value_of csrs SupervisorStatus lines = bit_and (status_shown (at csrs Mstatus)) sstatus_shown
csr_value_of csrs SupervisorEnables lines = bit_and (at csrs Mie) (at csrs Mideleg)
csr_value_of csrs SupervisorPending lines = bit_and (pending_interrupts_of csrs lines) (at csrs Mideleg)
csr_value_of csrs Translation lines = at csrs Satp
csr_value_of csrs LowConfigurations lines = packed_pmpcfg_of csrs 0
csr_value_of csrs HighConfigurations lines = packed_pmpcfg_of csrs 8
csr_value_of csrs (EntryAddress number) lines = entry_address_of csrs number
csr_value_of csrs (Constant number) lines = number
csr_value_of csrs ImplementationDefined lines = 0
csr_value_of csrs (Counter bit) lines = 0

-- what the set and clear forms start from: the value read, but of mip the stored bits alone
unfoldable pub csr_base_of : Csrs → CsrKind → ℕ → ℕ
csr_base_of csrs Pending lines = at csrs Mip
csr_base_of csrs (Stored stored) lines = csr_value_of csrs (Stored stored) lines
csr_base_of csrs Status lines = csr_value_of csrs Status lines
csr_base_of csrs SupervisorStatus lines = csr_value_of csrs SupervisorStatus lines
csr_base_of csrs SupervisorEnables lines = csr_value_of csrs SupervisorEnables lines
csr_base_of csrs SupervisorPending lines = csr_value_of csrs SupervisorPending lines
csr_base_of csrs Translation lines = csr_value_of csrs Translation lines
csr_base_of csrs LowConfigurations lines = csr_value_of csrs LowConfigurations lines
csr_base_of csrs HighConfigurations lines = csr_value_of csrs HighConfigurations lines
csr_base_of csrs (EntryAddress number) lines = csr_value_of csrs (EntryAddress number) lines
csr_base_of csrs (Constant number) lines = csr_value_of csrs (Constant number) lines
csr_base_of csrs ImplementationDefined lines = csr_value_of csrs ImplementationDefined lines
csr_base_of csrs (Counter bit) lines = csr_value_of csrs (Counter bit) lines

-- the bits that may be lines and are not stored
abbrev pub open_lines_of : Csrs → ℕ
open_lines_of csrs = bit_and (all_bits - at csrs Mip) (line_bits_of csrs.profile)

-- the bits of a value that the core decides, or that may be lines: of sip those under mideleg
unfoldable pub adoptable_bits_of : Csrs → CsrKind → ℕ
adoptable_bits_of csrs (Stored stored) = 0
adoptable_bits_of csrs Status = 0
adoptable_bits_of csrs Pending = open_lines_of csrs
adoptable_bits_of csrs SupervisorStatus = 0
adoptable_bits_of csrs SupervisorEnables = 0
adoptable_bits_of csrs SupervisorPending = bit_and (open_lines_of csrs) (at csrs Mideleg)
adoptable_bits_of csrs Translation = 0
adoptable_bits_of csrs LowConfigurations = 0
adoptable_bits_of csrs HighConfigurations = 0
adoptable_bits_of csrs (EntryAddress number) = 0
adoptable_bits_of csrs (Constant number) = 0
adoptable_bits_of csrs ImplementationDefined = all_bits
adoptable_bits_of csrs (Counter bit) = all_bits

-- the bits of a value that are taken from the row, where the row shows these lines: they take nothing away
-- from what the core decides
abbrev pub adopted_bits_of : Csrs → CsrKind → ℕ → ℕ
adopted_bits_of csrs (Stored stored) shown = adoptable_bits_of csrs (Stored stored)
adopted_bits_of csrs Status shown = adoptable_bits_of csrs Status
adopted_bits_of csrs Pending shown = bit_and (adoptable_bits_of csrs Pending) (all_bits - shown)
adopted_bits_of csrs SupervisorStatus shown = adoptable_bits_of csrs SupervisorStatus
adopted_bits_of csrs SupervisorEnables shown = adoptable_bits_of csrs SupervisorEnables
adopted_bits_of csrs SupervisorPending shown =
    bit_and (adoptable_bits_of csrs SupervisorPending) (all_bits - shown)
adopted_bits_of csrs Translation shown = adoptable_bits_of csrs Translation
adopted_bits_of csrs LowConfigurations shown = adoptable_bits_of csrs LowConfigurations
adopted_bits_of csrs HighConfigurations shown = adoptable_bits_of csrs HighConfigurations
adopted_bits_of csrs (EntryAddress number) shown = adoptable_bits_of csrs (EntryAddress number)
adopted_bits_of csrs (Constant number) shown = adoptable_bits_of csrs (Constant number)
adopted_bits_of csrs ImplementationDefined shown = adoptable_bits_of csrs ImplementationDefined
adopted_bits_of csrs (Counter bit) shown = adoptable_bits_of csrs (Counter bit)

-- what a read of a register gives
unfoldable pub csr_read_of : Csrs → CsrKind → ℕ → CsrRead
csr_read_of csrs kind lines =
    record {
      value =
          csr_value_of csrs kind lines;
      free = adoptable_bits_of csrs kind;
      base = csr_base_of csrs kind lines;
    }

-- a write changes the bits of a mask
abbrev pub with_bits_at : Csrs → StoredCsr → ℕ → ℕ → Csrs
with_bits_at csrs stored mask value = with_at csrs stored (masked_update mask (at csrs stored) value)

-- a write changes the bits of a register that it may change
unfoldable pub stored_write_of : Csrs → StoredCsr → ℕ → Csrs
stored_write_of csrs stored value = with_bits_at csrs stored (writable_bits csrs.profile stored) value

-- what a write of mstatus writes: MPP keeps its old value where it would become 2, which is no mode
abbrev pub status_written_bits : CsrProfile → ℕ → ℕ
status_written_bits profile value =
    if mpp_of value == 2 then bit_and (writable_bits profile Mstatus) (all_bits - field_bits MPP 2)
    else writable_bits profile Mstatus

-- the registers after a write of mstatus
unfoldable pub status_write_of : Csrs → ℕ → Csrs
status_write_of csrs value = with_bits_at csrs Mstatus (status_written_bits csrs.profile value) value

-- the registers after a write of satp: where it selects a mode that the hart has not, the whole write has no effect
unfoldable pub translation_write_of : Csrs → ℕ → Csrs
translation_write_of csrs value =
    if is_supported_mode (satp_mode_of value) then stored_write_of csrs Satp value else csrs

-- the bits of mstatus that a write of sstatus changes
abbrev pub supervisor_status_bits : CsrProfile → ℕ
supervisor_status_bits profile = bit_and sstatus_writable (writable_bits profile Mstatus)

-- a configuration byte after a write of it: it stays where its entry is locked, and where W would come without
-- R, which is reserved; bits 6:5 are 0
unfoldable pub configuration_after : ℕ → ℕ → ℕ
configuration_after old byte =
    if bit_is_set old PMP_LOCK || (byte % 4 == 2) then old else byte % 2 ^ 5 + byte / 2 ^ PMP_LOCK % 2 * 2 ^ PMP_LOCK

-- the entry with this number is one that the core has
abbrev pub has_entry : Csrs → ℕ → Bool
has_entry csrs number = nat_lt number (entry_count_of csrs.profile.entry_count)

-- the configuration of an entry after a write of the eight from one on, each byte by itself
unfoldable pub configuration_after_write : Csrs → ℕ → ℕ → ℕ → ℕ
configuration_after_write csrs first value number =
    if nat_le first number && nat_lt number (first + 8) && has_entry csrs number
    then configuration_after (configuration_of csrs number) (bit_field (8 * (number - first)) 8 value)
    else configuration_of csrs number

-- the entry after that write
abbrev pub entry_after_write : Csrs → ℕ → ℕ → ℕ → PmpEntry
entry_after_write csrs first value number =
    record (pmp_entry_of csrs number) { cfg = configuration_after_write csrs first value number }

unfoldable pub configurations_write_of : Csrs → ℕ → ℕ → Csrs
configurations_write_of csrs first value =
    record csrs { entries = map (entry_after_write csrs first value) (range_with_len 0 16) }

abbrev pub is_locked_from_below : ℕ → Bool
is_locked_from_below configuration = bit_is_set configuration PMP_LOCK && (configuration / 2 ^ PMP_MATCHING % 4 == 1)

-- an entry's address is locked with it, and where the entry after it is locked and begins there (TOR)
unfoldable pub address_is_locked : Csrs → ℕ → Bool
address_is_locked csrs number =
    bit_is_set (configuration_of csrs number) PMP_LOCK
    || (nat_lt number 15 && is_locked_from_below (configuration_of csrs (number + 1)))

-- the same registers with another address of an entry, of which the bits are kept that the core has
abbrev pub with_entry_address : Csrs → ℕ → ℕ → Csrs
with_entry_address csrs number value =
    let entry = record (pmp_entry_of csrs number) { addr = value % 2 ^ entry_bits_of csrs.profile } in
    record csrs { entries = slice_set csrs.entries number entry }

unfoldable pub entry_address_write_of : Csrs → ℕ → ℕ → Csrs
entry_address_write_of csrs number value =
    if has_entry csrs (number % 16) && not (address_is_locked csrs (number % 16))
    then with_entry_address csrs (number % 16) value else csrs

-- the registers after a legal write of a register
unfoldable pub csr_write_of : Csrs → CsrKind → ℕ → Csrs
csr_write_of csrs (Stored stored) value = stored_write_of csrs stored value
csr_write_of csrs Status value = status_write_of csrs value
csr_write_of csrs Pending value = stored_write_of csrs Mip value
csr_write_of csrs SupervisorStatus value = with_bits_at csrs Mstatus (supervisor_status_bits csrs.profile) value
csr_write_of csrs SupervisorEnables value =
    with_bits_at csrs Mie (bit_and (at csrs Mideleg) (writable_bits csrs.profile Mie)) value
csr_write_of csrs SupervisorPending value =
    with_bits_at csrs Mip (bit_and (at csrs Mideleg) (bit_and sip_writable (writable_bits csrs.profile Mip))) value
csr_write_of csrs Translation value = translation_write_of csrs value
csr_write_of csrs LowConfigurations value = configurations_write_of csrs 0 value
csr_write_of csrs HighConfigurations value = configurations_write_of csrs 8 value
csr_write_of csrs (EntryAddress number) value = entry_address_write_of csrs number value
csr_write_of csrs (Constant number) value = csrs
csr_write_of csrs ImplementationDefined value = csrs
csr_write_of csrs (Counter bit) value = csrs

-- the register that has the columns of a name
abbrev pub csr_named : CsrName → Csr
csr_named names.Mstatus = csr.Mstatus
csr_named names.Misa = csr.Misa
csr_named names.Medeleg = csr.Medeleg
csr_named names.Mideleg = csr.Mideleg
csr_named names.Mie = csr.Mie
csr_named names.Mtvec = csr.Mtvec
csr_named names.Mscratch = csr.Mscratch
csr_named names.Mepc = csr.Mepc
csr_named names.Mcause = csr.Mcause
csr_named names.Mtval = csr.Mtval
csr_named names.Mip = csr.Mip
csr_named names.Satp = csr.Satp
csr_named names.Sstatus = csr.Sstatus
csr_named names.Sie = csr.Sie
csr_named names.Sip = csr.Sip
csr_named names.Stvec = csr.Stvec
csr_named names.Sscratch = csr.Sscratch
csr_named names.Sepc = csr.Sepc
csr_named names.Scause = csr.Scause
csr_named names.Stval = csr.Stval
csr_named names.Pmpcfg0 = csr.Pmpcfg0
csr_named names.Pmpcfg2 = csr.Pmpcfg2

-- the value that a trace shows of a register
unfoldable pub shown_csr : Csrs → CsrName → ℕ → ℕ
shown_csr csrs name lines = csr_value_of csrs (kind_in csrs.profile (csr_named name)) lines

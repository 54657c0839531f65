-- A write leaves all but the register that it writes.
use Rattle.std.proofs.Common.{◌≡◌, ◌≢◌, ℕ, ◌-◌, ◌%◌, ◌<◌, Bool, true, false, ◌&&◌, not, Some, refl, ap, sym, slice_index_or}
use Rattle.std.proofs.Common.{if◌then◌else◌}
use Rattle.csr_table.specs.declared.registers.Csr.{Csr}
use Rattle.csr_file.specs.declared.csrs.Csrs.{Csrs}
use Rattle.csr_file.specs.declared.stored_csr.StoredCsr.{StoredCsr}
use Rattle.csr_file.specs.declared.stored_csr.StoredCsr.TheVariants.{Mstatus, Mie, Mip, Satp}
use Rattle.csr_file.specs.declared.csr_kind.CsrKind.{CsrKind}
use Rattle.csr_file.specs.declared.csr_kind.CsrKind.TheVariants.{Stored, Status, Pending, SupervisorStatus}
use Rattle.csr_file.specs.declared.csr_kind.CsrKind.TheVariants.{SupervisorEnables, SupervisorPending, Translation}
use Rattle.csr_file.specs.declared.csr_kind.CsrKind.TheVariants.{LowConfigurations, HighConfigurations, EntryAddress}
use Rattle.csr_file.specs.declared.csr_kind.CsrKind.TheVariants.{Constant, ImplementationDefined, Counter}
use Rattle.csr_file.specs.Registers.{at, with_at, no_entry}
use Rattle.csr_file.specs.Profiles.{is_from_row, kind_in, presence_of}
use Rattle.csr_file.specs.Table.{csr_kind_of, stored_index_of}
use Rattle.csr_file.specs.declared.fields.TheConstants.{PMP_LOCK}
use Rattle.csr_file.specs.Fields.{bit_is_set, is_supported_mode, satp_mode_of}
use Rattle.csr_file.specs.Values.{has_entry, status_write_of, stored_write_of, translation_write_of, csr_write_of, configuration_of}
use Rattle.csr_file.specs.Values.{configurations_write_of, address_is_locked, with_entry_address}
use Rattle.csr_file.specs.Values.{entry_address_write_of}
use Rattle.csr_file.specs.Laws.{DropsWrites, LeavesOtherRegisters, LeavesProfile, LeavesProtection, LeavesLocked, KeepsLocked, is_protective}
use Rattle.csr_file.specs.Laws.{written_register_of}
use Rattle.csr_file.proofs.Protection.{configurations_keep, address_keeps}
use Rattle.csr_file.proofs.Places.{at_other, same_index}

other_index : (stored other : StoredCsr) → (Some stored ≢ Some other) → stored_index_of other ≢ stored_index_of stored
other_index stored other apart same = apart (ap Some (sym (same_index other stored same)))

leaves : (csrs : Csrs) (stored other : StoredCsr) (value : ℕ) → (Some stored ≢ Some other)
    → at (with_at csrs stored value) other ≡ at csrs other
leaves csrs stored other value apart = at_other csrs stored other value (other_index stored other apart)

by_lock : (csrs : Csrs) (number value : ℕ) (other : StoredCsr) (free : Bool)
    → at (if free then with_entry_address csrs number value else csrs) other ≡ at csrs other
unfolding at
by_lock csrs number value other true = refl
by_lock csrs number value other false = refl

by_mode : (csrs : Csrs) (value : ℕ) (other : StoredCsr) (supported : Bool) → (Some Satp ≢ Some other)
    → at (if supported then stored_write_of csrs Satp value else csrs) other ≡ at csrs other
unfolding stored_write_of
by_mode csrs value other true apart = leaves csrs Satp other _ apart
by_mode csrs value other false apart = refl

by_kind : (csrs : Csrs) (kind : CsrKind) (value : ℕ) (other : StoredCsr) → written_register_of kind ≢ Some other
    → at (csr_write_of csrs kind value) other ≡ at csrs other
unfolding csr_write_of stored_write_of status_write_of translation_write_of configurations_write_of entry_address_write_of at
by_kind csrs (Stored stored) value other apart = leaves csrs stored other _ apart
by_kind csrs Status value other apart = leaves csrs Mstatus other _ apart
by_kind csrs Pending value other apart = leaves csrs Mip other _ apart
by_kind csrs SupervisorStatus value other apart = leaves csrs Mstatus other _ apart
by_kind csrs SupervisorEnables value other apart = leaves csrs Mie other _ apart
by_kind csrs SupervisorPending value other apart = leaves csrs Mip other _ apart
by_kind csrs Translation value other apart = by_mode csrs value other (is_supported_mode (satp_mode_of value)) apart
by_kind csrs LowConfigurations value other apart = refl
by_kind csrs HighConfigurations value other apart = refl
by_kind csrs (EntryAddress number) value other apart =
    by_lock csrs (number % 16) value other (has_entry csrs (number % 16) && not (address_is_locked csrs (number % 16)))
by_kind csrs (Constant number) value other apart = refl
by_kind csrs ImplementationDefined value other apart = refl
by_kind csrs (Counter bit) value other apart = refl

pub leaves_registers : (csrs : Csrs) (csr : Csr) (value : ℕ) → LeavesOtherRegisters csrs csr value
leaves_registers csrs csr value = by_kind csrs (kind_in csrs.profile csr) value

entries_by_mode : (csrs : Csrs) (value : ℕ) (supported : Bool)
    → (if supported then stored_write_of csrs Satp value else csrs).entries ≡ csrs.entries
unfolding with_at stored_write_of
entries_by_mode csrs value true = refl
entries_by_mode csrs value false = refl

protection_by_kind : (csrs : Csrs) (kind : CsrKind) (value : ℕ) → is_protective kind ≡ false
    → (csr_write_of csrs kind value).entries ≡ csrs.entries
unfolding csr_write_of stored_write_of status_write_of translation_write_of with_at
protection_by_kind csrs (Stored stored) value other = refl
protection_by_kind csrs Status value other = refl
protection_by_kind csrs Pending value other = refl
protection_by_kind csrs SupervisorStatus value other = refl
protection_by_kind csrs SupervisorEnables value other = refl
protection_by_kind csrs SupervisorPending value other = refl
protection_by_kind csrs Translation value other = entries_by_mode csrs value (is_supported_mode (satp_mode_of value))
protection_by_kind csrs LowConfigurations value other = cc
protection_by_kind csrs HighConfigurations value other = cc
protection_by_kind csrs (EntryAddress number) value other = cc
protection_by_kind csrs (Constant number) value other = refl
protection_by_kind csrs ImplementationDefined value other = refl
protection_by_kind csrs (Counter bit) value other = refl

pub leaves_protection : (csrs : Csrs) (csr : Csr) (value : ℕ) → LeavesProtection csrs csr value
leaves_protection csrs csr value = protection_by_kind csrs (kind_in csrs.profile csr) value

-- what the core makes of its registers
profile_by_mode : (csrs : Csrs) (value : ℕ) (supported : Bool)
    → (if supported then stored_write_of csrs Satp value else csrs).profile ≡ csrs.profile
unfolding with_at stored_write_of
profile_by_mode csrs value true = refl
profile_by_mode csrs value false = refl

profile_by_lock : (csrs : Csrs) (number value : ℕ) (free : Bool)
    → (if free then with_entry_address csrs number value else csrs).profile ≡ csrs.profile
profile_by_lock csrs number value true = refl
profile_by_lock csrs number value false = refl

profile_by_kind : (csrs : Csrs) (kind : CsrKind) (value : ℕ) → (csr_write_of csrs kind value).profile ≡ csrs.profile
unfolding csr_write_of stored_write_of status_write_of translation_write_of configurations_write_of entry_address_write_of with_at
profile_by_kind csrs (Stored stored) value = refl
profile_by_kind csrs Status value = refl
profile_by_kind csrs Pending value = refl
profile_by_kind csrs SupervisorStatus value = refl
profile_by_kind csrs SupervisorEnables value = refl
profile_by_kind csrs SupervisorPending value = refl
profile_by_kind csrs Translation value = profile_by_mode csrs value (is_supported_mode (satp_mode_of value))
profile_by_kind csrs LowConfigurations value = refl
profile_by_kind csrs HighConfigurations value = refl
profile_by_kind csrs (EntryAddress number) value =
    profile_by_lock csrs (number % 16) value (has_entry csrs (number % 16) && not (address_is_locked csrs (number % 16)))
profile_by_kind csrs (Constant number) value = refl
profile_by_kind csrs ImplementationDefined value = refl
profile_by_kind csrs (Counter bit) value = refl

pub leaves_profile : (csrs : Csrs) (csr : Csr) (value : ℕ) → LeavesProfile csrs csr value
leaves_profile csrs csr value = profile_by_kind csrs (kind_in csrs.profile csr) value

dropped_by : (csrs : Csrs) (csr : Csr) (value : ℕ) (from_row : Bool) → from_row ≡ true
    → csr_write_of csrs (if from_row then ImplementationDefined else csr_kind_of csr) value ≡ csrs
unfolding csr_write_of
dropped_by csrs csr value true is = refl
dropped_by csrs csr value false is = cc

pub drops_writes : (csrs : Csrs) (csr : Csr) (value : ℕ) → DropsWrites csrs csr value
unfolding kind_in
drops_writes csrs csr value is = dropped_by csrs csr value (is_from_row (presence_of csrs.profile csr)) is

kept : (csrs after : Csrs) (number : ℕ) → after.profile ≡ csrs.profile → after.entries ≡ csrs.entries
    → KeepsLocked csrs after number
kept csrs after number profile same = record {
  profile = profile;
  entry = ap (λ entries. slice_index_or entries number no_entry) same;
  below = λ begins. ap (λ entries. (slice_index_or entries (number - 1) no_entry).addr) same;
}

locked_by_kind : (csrs : Csrs) (kind : CsrKind) (value number : ℕ) → number < 16
    → bit_is_set (configuration_of csrs number) PMP_LOCK ≡ true → KeepsLocked csrs (csr_write_of csrs kind value) number
unfolding csr_write_of
locked_by_kind csrs LowConfigurations value number below locked = configurations_keep csrs 0 value number below locked
locked_by_kind csrs HighConfigurations value number below locked = configurations_keep csrs 8 value number below locked
locked_by_kind csrs (EntryAddress one) value number below locked = address_keeps csrs one value number below locked
locked_by_kind csrs (Stored stored) value number below locked =
    kept csrs (csr_write_of csrs (Stored stored) value) number (profile_by_kind csrs (Stored stored) value)
    (protection_by_kind csrs (Stored stored) value refl)
locked_by_kind csrs Status value number below locked =
    kept csrs (csr_write_of csrs Status value) number (profile_by_kind csrs Status value)
    (protection_by_kind csrs Status value refl)
locked_by_kind csrs Pending value number below locked =
    kept csrs (csr_write_of csrs Pending value) number (profile_by_kind csrs Pending value)
    (protection_by_kind csrs Pending value refl)
locked_by_kind csrs SupervisorStatus value number below locked =
    kept csrs (csr_write_of csrs SupervisorStatus value) number (profile_by_kind csrs SupervisorStatus value)
    (protection_by_kind csrs SupervisorStatus value refl)
locked_by_kind csrs SupervisorEnables value number below locked =
    kept csrs (csr_write_of csrs SupervisorEnables value) number (profile_by_kind csrs SupervisorEnables value)
    (protection_by_kind csrs SupervisorEnables value refl)
locked_by_kind csrs SupervisorPending value number below locked =
    kept csrs (csr_write_of csrs SupervisorPending value) number (profile_by_kind csrs SupervisorPending value)
    (protection_by_kind csrs SupervisorPending value refl)
locked_by_kind csrs Translation value number below locked =
    kept csrs (csr_write_of csrs Translation value) number (profile_by_kind csrs Translation value)
    (protection_by_kind csrs Translation value refl)
locked_by_kind csrs (Constant one) value number below locked = kept csrs csrs number refl refl
locked_by_kind csrs ImplementationDefined value number below locked = kept csrs csrs number refl refl
locked_by_kind csrs (Counter bit) value number below locked = kept csrs csrs number refl refl

pub leaves_locked : (csrs : Csrs) (csr : Csr) (value : ℕ) → LeavesLocked csrs csr value
leaves_locked csrs csr value = locked_by_kind csrs (kind_in csrs.profile csr) value

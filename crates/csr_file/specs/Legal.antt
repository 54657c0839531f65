-- The values that the registers can have, from the Privileged Architecture's chapters "Machine-Level ISA" and
-- "Supervisor-Level ISA": all of them from reset on.
use Rattle.std.specs.Prelude.{◌≡◌, ◌≢◌, ◌⊎◌, ℕ, ◌-◌, ◌/◌, ◌%◌, ◌^◌, ◌<◌, Bool, true, false, ◌==◌, ◌&&◌, not, nat_lt}
use Rattle.std.specs.Prelude.{bit_and, length, All}
use Rattle.hart_words.specs.declared.privilege.PmpEntry.{PmpEntry}
use Rattle.csr_file.specs.declared.csrs.Csrs.{Csrs}
use Rattle.csr_file.specs.declared.stored_csr.StoredCsr.{StoredCsr}
use Rattle.csr_file.specs.declared.stored_csr.TheConstants.{STORED_CSRS}
use Rattle.csr_file.specs.Registers.{at, no_entry, pmp_entry_of}
use Rattle.csr_file.specs.declared.stored_row.FieldRule.{FieldRule}
use Rattle.csr_file.specs.declared.stored_row.FieldRule.TheVariants.{Free, PreviousMode, TranslationMode}
use Rattle.csr_file.specs.declared.fields.TheConstants.{BARE, SV39}
use Rattle.csr_file.specs.Fields.{all_bits, is_supported_mode, mpp_of, satp_mode_of}
use Rattle.csr_file.specs.Table.{stored_row_of}
use Rattle.csr_file.specs.declared.profile.CsrProfile.{CsrProfile}
use Rattle.csr_file.specs.Profiles.{entry_bits_of, fixed_bits, writable_bits}
use Rattle.csr_file.specs.Values.{has_entry}

-- all bits of the value are in the mask
abbrev pub IsWithinMask : ℕ → ℕ → Type 0
IsWithinMask mask value = bit_and value mask ≡ value

-- the bits that no write changes are as they always are
abbrev pub KeepsFixed : CsrProfile → StoredCsr → ℕ → Type 0
KeepsFixed profile stored value = bit_and value (all_bits - writable_bits profile stored) ≡ fixed_bits profile stored

-- what holds of a field beside that: MPP of mstatus is a mode, and MODE of satp is Bare or Sv39
abbrev pub FollowsRule : FieldRule → ℕ → Type 0
FollowsRule Free value = Unit {0}
FollowsRule PreviousMode value = mpp_of value ≢ 2
FollowsRule TranslationMode value = (satp_mode_of value ≡ BARE) ⊎ (satp_mode_of value ≡ SV39)

-- a stored register can have the value
pub record IsLegalValue (profile : CsrProfile) (stored : StoredCsr) (value : ℕ) : Type 0 where
  pub constant : KeepsFixed profile stored value
  pub rule : FollowsRule (stored_row_of stored).rule value

-- a configuration byte of physical memory protection: bits 6:5 are 0, and W is not set without R
pub record IsLegalConfiguration (byte : ℕ) : Type 0 where
  pub reserved : byte / 32 % 4 ≡ 0
  pub rights : byte % 4 ≢ 2

-- an entry of it: its configuration, and an address register of the bits that the core has
pub record IsLegalEntry (profile : CsrProfile) (entry : PmpEntry) : Type 0 where
  pub configuration : IsLegalConfiguration entry.cfg
  pub address : entry.addr < 2 ^ entry_bits_of profile

-- each register, by itself, has a value that it can have, and entries that the core has not are off, and all 0
pub record IsLegal (csrs : Csrs) : Type 0 where
  pub whole : length csrs.values ≡ STORED_CSRS
  pub values : (stored : StoredCsr) → IsLegalValue csrs.profile stored (at csrs stored)
  pub entries : All (IsLegalEntry csrs.profile) csrs.entries
  pub missing : (number : ℕ) → has_entry csrs number ≡ false → pmp_entry_of csrs number ≡ no_entry

-- the same as tests
abbrev pub keeps_fixed : CsrProfile → StoredCsr → ℕ → Bool
keeps_fixed profile stored value =
    bit_and value (all_bits - writable_bits profile stored) == fixed_bits profile stored

abbrev pub follows_rule : FieldRule → ℕ → Bool
follows_rule Free value = true
follows_rule PreviousMode value = not (mpp_of value == 2)
follows_rule TranslationMode value = is_supported_mode (satp_mode_of value)

-- a stored register can have the value
unfoldable pub is_legal_value : CsrProfile → StoredCsr → ℕ → Bool
is_legal_value profile stored value =
    keeps_fixed profile stored value && follows_rule (stored_row_of stored).rule value

abbrev pub is_legal_configuration : ℕ → Bool
is_legal_configuration byte = (byte / 32 % 4 == 0) && not (byte % 4 == 2)

abbrev pub is_legal_address : CsrProfile → ℕ → Bool
is_legal_address profile address = nat_lt address (2 ^ entry_bits_of profile)

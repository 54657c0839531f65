-- The registers that are stored, from the Privileged Architecture's chapters "Control and Status Registers
-- (CSRs)" and "Machine-Level ISA".
use Rattle.std.specs.Prelude.{ℕ, List, map, take, slice_index, slice_index_or, slice_set, replicate}
use Rattle.hart_words.specs.declared.privilege.PmpEntry.{PmpEntry}
use Rattle.csr_file.specs.declared.csrs.Csrs.{Csrs}
use Rattle.csr_file.specs.declared.stored_csr.StoredCsr.{StoredCsr}
use Rattle.csr_file.specs.declared.profile.CsrProfile.{CsrProfile}
use Rattle.csr_file.specs.Table.{stored_csrs, stored_index_of}
use Rattle.csr_file.specs.Profiles.{entry_count_of, fixed_bits, plain_profile}

-- the value of a stored register
unfoldable pub at : Csrs → StoredCsr → ℕ
at csrs stored = slice_index csrs.values (stored_index_of stored)

-- the same registers with another value in one
unfoldable pub with_at : Csrs → StoredCsr → ℕ → Csrs
with_at csrs stored value = record csrs { values = slice_set csrs.values (stored_index_of stored) value }

-- an entry of physical memory protection that is off, and all 0
abbrev pub no_entry : PmpEntry
no_entry = record { cfg = 0; addr = 0 }

-- at reset all bits are 0 but those that are always 1
unfoldable pub csrs_at_reset_of : CsrProfile → Csrs
csrs_at_reset_of profile = record {
  values = map (fixed_bits profile) stored_csrs;
  entries = replicate 16 no_entry;
  profile = profile;
}

-- the same where nothing is said of what the core makes of them
unfoldable pub csrs_at_reset : Csrs
csrs_at_reset = csrs_at_reset_of plain_profile

-- the entries of physical memory protection that the core has, in their order
abbrev pub pmp_entries_of : Csrs → List PmpEntry
pmp_entries_of csrs = take (entry_count_of csrs.profile.entry_count) csrs.entries

-- the entry with this number
abbrev pub pmp_entry_of : Csrs → ℕ → PmpEntry
pmp_entry_of csrs number = slice_index_or csrs.entries number no_entry

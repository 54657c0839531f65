-- The values that a hart can have, as tests of the numbers of a text.
use Rattle.std.specs.Prelude.{ℕ, Bool, true, ◌==◌, nat_lt, if◌then◌else◌}
use Rattle.std.specs.List.{list_all}
use Rattle.std.specs.Int.{w64, to_le_bytes}
use Rattle.csr_file.specs.declared.profile.CsrProfile.{CsrProfile}
use Rattle.csr_file.specs.Profiles.{entry_count_of}
use Rattle.csr_file.specs.Legal.{is_legal_address, is_legal_configuration, is_legal_value}
use Rattle.state_text.specs.declared.numbers.NumberKind.{NumberKind}
use Rattle.state_text.specs.declared.numbers.NumberKind.TheVariants.{Register, Stored, Configurations, EntryAddress}

-- the core has the entry of physical memory protection with this number
abbrev pub is_entry : CsrProfile → ℕ → Bool
is_entry profile number = nat_lt number (entry_count_of profile.entry_count)

-- a number can have the value; configurations are eight bytes, the lowest first, and of entries that the core has not
-- all is 0
unfoldable pub is_legal : CsrProfile → NumberKind → ℕ → Bool
is_legal profile Register value = true
is_legal profile (Stored stored) value = is_legal_value profile stored value
is_legal profile (Configurations first) value =
    if is_entry profile first then list_all is_legal_configuration (to_le_bytes w64 value) else value == 0
is_legal profile (EntryAddress number) value =
    if is_entry profile number then is_legal_address profile value else value == 0

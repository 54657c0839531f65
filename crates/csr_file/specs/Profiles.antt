-- What a core makes of its control and status registers, where the standard leaves it a choice. From the Privileged
-- Architecture's chapters "Machine-Level ISA" and "Supervisor-Level ISA".
use Rattle.std.specs.Prelude.{ℕ, ◌-◌, Bool, true, false, List, [], ◌∷◌, Option, Some, None, min}
use Rattle.std.specs.Prelude.{bit_and, bit_or, if◌then◌else◌, map, slice_index, slice_index_or, slice_set, replicate}
use Rattle.csr_table.specs.declared.registers.Csr.{Csr}
use Rattle.csr_file.specs.declared.csr_kind.CsrKind.{CsrKind}
use Rattle.csr_file.specs.declared.csr_kind.CsrKind.TheVariants.{ImplementationDefined}
use Rattle.csr_file.specs.declared.stored_csr.StoredCsr.{StoredCsr}
use Rattle.csr_file.specs.declared.stored_csr.StoredCsr.TheVariants as stored
use Rattle.csr_file.specs.declared.profile.OptionalCsr.{OptionalCsr}
use Rattle.csr_file.specs.declared.profile.OptionalCsr.TheVariants as optional
use Rattle.csr_file.specs.declared.profile.Presence.{Presence}
use Rattle.csr_file.specs.declared.profile.Presence.TheVariants.{Kept, FromRow, Absent, MayTrap}
use Rattle.csr_file.specs.declared.profile.EntryCount.{EntryCount}
use Rattle.csr_file.specs.declared.profile.EntryCount.TheVariants.{Zero, Eight, Sixteen}
use Rattle.csr_file.specs.declared.profile.CsrProfile.{CsrProfile}
use Rattle.csr_file.specs.declared.stored_csr.TheConstants.{STORED_CSRS}
use Rattle.csr_file.specs.Fields.{all_bits}
use Rattle.csr_file.specs.Table.{addable_lines, csr_kind_of, line_bits, register_row_of, stored_csrs, stored_index_of}
use Rattle.csr_file.specs.Table.{stored_row_of}

-- the bits that a core may let writes change, those that it must let them change, and those that it may have as 1
-- always
abbrev pub most_bits : StoredCsr → ℕ
most_bits stored = (stored_row_of stored).most

abbrev pub least_bits : StoredCsr → ℕ
least_bits stored = (stored_row_of stored).least

abbrev pub fixable_bits : StoredCsr → ℕ
fixable_bits stored = (stored_row_of stored).fixable

-- where what is said of it stands
abbrev pub optional_index_of : OptionalCsr → ℕ
optional_index_of optional.Misa = 0
optional_index_of optional.Mcounteren = 1
optional_index_of optional.Menvcfg = 2
optional_index_of optional.Mcountinhibit = 3
optional_index_of optional.Mhpmevent = 4
optional_index_of optional.Mhpmcounter = 5
optional_index_of optional.Cycle = 6
optional_index_of optional.Time = 7
optional_index_of optional.Instret = 8
optional_index_of optional.Hpmcounter = 9
optional_index_of optional.Senvcfg = 10
optional_index_of optional.Mconfigptr = 11

-- the bits of mip that are lines and no more; and with MSIP, MTIP, SEIP and MEIP all that may be lines
abbrev pub added_lines_of : CsrProfile → ℕ
added_lines_of profile = bit_and profile.lines addable_lines

abbrev pub line_bits_of : CsrProfile → ℕ
line_bits_of profile = bit_or line_bits (added_lines_of profile)

-- the bits of a stored register that the core lets writes change: all that it must, and of those that it may the
-- ones that it says
abbrev pub chosen_bits : CsrProfile → StoredCsr → ℕ
chosen_bits profile stored =
    bit_or (least_bits stored) (bit_and (slice_index profile.masks (stored_index_of stored)) (most_bits stored))

-- the bits that a write changes: what is a line and no more is not stored
unfoldable pub writable_bits : CsrProfile → StoredCsr → ℕ
writable_bits profile stored =
    bit_and (chosen_bits profile stored) (all_bits - bit_and profile.lines (stored_row_of stored).lines)

-- those that are always 1, as far as the core may choose them; a write changes none of them
unfoldable pub fixed_bits : CsrProfile → StoredCsr → ℕ
fixed_bits profile stored =
    bit_or (stored_row_of stored).constant
    (bit_and (bit_and (slice_index profile.fixed (stored_index_of stored)) (fixable_bits stored))
    (all_bits - writable_bits profile stored))

-- which of the registers that a core may have in several ways a register is
abbrev pub optional_of : Csr → Option OptionalCsr
optional_of csr = (register_row_of csr).optional

abbrev pub presence_by : CsrProfile → Option OptionalCsr → Presence
presence_by profile None = Kept
presence_by profile (Some csr) = slice_index_or profile.presences (optional_index_of csr) Kept

-- how the core has a register
unfoldable pub presence_of : CsrProfile → Csr → Presence
presence_of profile csr = presence_by profile (optional_of csr)

-- the core decides what a read gives, and drops writes
abbrev pub is_from_row : Presence → Bool
is_from_row FromRow = true
is_from_row _ = false

-- what a register is on a core
unfoldable pub kind_in : CsrProfile → Csr → CsrKind
kind_in profile csr = if is_from_row (presence_of profile csr) then ImplementationDefined else csr_kind_of csr

-- an access is illegal
abbrev pub is_absent : Presence → Bool
is_absent Absent = true
is_absent _ = false

-- an access may trap, as the row says
abbrev pub may_trap : Presence → Bool
may_trap MayTrap = true
may_trap _ = false

-- the entries of physical memory protection that there are
abbrev pub entry_count_of : EntryCount → ℕ
entry_count_of Zero = 0
entry_count_of Eight = 8
entry_count_of Sixteen = 16

abbrev pub entry_bits_of : CsrProfile → ℕ
entry_bits_of profile = min profile.entry_bits 54

-- the bits that a write changes where nothing is said
abbrev pub plain_mask : StoredCsr → ℕ
plain_mask stored = (stored_row_of stored).plain

-- all is kept, but that a read of `time` may trap
abbrev pub plain_presence : OptionalCsr → Presence
plain_presence optional.Time = MayTrap
plain_presence _ = Kept

abbrev pub optional_csrs : List OptionalCsr
optional_csrs =
    optional.Misa ∷ optional.Mcounteren ∷ optional.Menvcfg ∷ optional.Mcountinhibit ∷ optional.Mhpmevent
    ∷ optional.Mhpmcounter ∷ optional.Cycle ∷ optional.Time ∷ optional.Instret ∷ optional.Hpmcounter
    ∷ optional.Senvcfg ∷ optional.Mconfigptr ∷ []

-- where nothing is said
unfoldable pub plain_profile : CsrProfile
plain_profile = record {
  masks = map plain_mask stored_csrs;
  fixed = replicate STORED_CSRS 0;
  presences = map plain_presence optional_csrs;
  entry_count = Sixteen;
  entry_bits = 54;
  lines = 0;
}

-- the same with other bits of a register
unfoldable pub with_bits : CsrProfile → StoredCsr → ℕ → ℕ → CsrProfile
with_bits profile stored mask fixed =
    record profile {
      masks = slice_set profile.masks (stored_index_of stored) mask;
      fixed = slice_set profile.fixed (stored_index_of stored) fixed;
    }

-- which of the stored registers a register is
abbrev pub held_by : OptionalCsr → Option StoredCsr
held_by optional.Mcounteren = Some stored.Mcounteren
held_by optional.Menvcfg = Some stored.Menvcfg
held_by optional.Mcountinhibit = Some stored.Mcountinhibit
held_by optional.Senvcfg = Some stored.Senvcfg
held_by _ = None

-- a register that the core does not hold has no bit that a write changes, and none that is always 1
abbrev pub without_bits : CsrProfile → Option StoredCsr → CsrProfile
without_bits profile None = profile
without_bits profile (Some stored) = with_bits profile stored 0 0

abbrev pub with_bits_of : CsrProfile → OptionalCsr → Presence → CsrProfile
with_bits_of profile csr Kept = profile
with_bits_of profile csr MayTrap = profile
with_bits_of profile csr FromRow = without_bits profile (held_by csr)
with_bits_of profile csr Absent = without_bits profile (held_by csr)

-- the same with a register that the core has in another way
unfoldable pub with_presence : CsrProfile → OptionalCsr → Presence → CsrProfile
with_presence profile csr presence =
    with_bits_of (record profile { presences = slice_set profile.presences (optional_index_of csr) presence })
    csr presence

-- What the words say of a core's control and status registers.
use Rattle.std.specs.Prelude.{ℕ, ◌==◌, ◌&&◌, nat_le, Bool, true, false, List, [], ◌∷◌, Option, Some, None, bit_and}
use Rattle.std.specs.Prelude.{bit_or, codes, if◌then◌else◌}
use Rattle.std.specs.List.{after_first, before_first, find, list_any}
use Rattle.std.specs.Str.{bytes_eq}
use Rattle.csr_file.specs.Profiles.{fixable_bits, least_bits, most_bits, plain_profile, with_bits}
use Rattle.csr_file.specs.Profiles.{with_presence}
use Rattle.csr_file.specs.Table.{addable_lines, is_chosen, line_bits, stored_csrs, stored_name_of}
use Rattle.csr_file.specs.declared.stored_csr.StoredCsr.{StoredCsr}
use Rattle.csr_file.specs.declared.profile.OptionalCsr.{OptionalCsr}
use Rattle.csr_file.specs.declared.profile.OptionalCsr.TheVariants as optional
use Rattle.csr_file.specs.declared.profile.Presence.{Presence}
use Rattle.csr_file.specs.declared.profile.Presence.TheVariants.{Kept, FromRow, Absent, MayTrap}
use Rattle.csr_file.specs.declared.profile.EntryCount.{EntryCount}
use Rattle.csr_file.specs.declared.profile.EntryCount.TheVariants.{Zero, Eight, Sixteen}
use Rattle.csr_file.specs.declared.profile.CsrProfile.{CsrProfile}
use Rattle.judge_words.specs.Lists.{items_of, value_at}
use Rattle.judge_words.specs.Values.{◌>>=◌, colon, number_of_text}

-- the byte `=`
abbrev pub equals : ℕ
equals = 61

-- the register of this name, of those whose bits a core chooses
unfoldable pub chosen_named : List ℕ → Option StoredCsr
chosen_named name = find (λ stored. is_chosen stored && bytes_eq (stored_name_of stored) name) stored_csrs

-- the registers that a core may have in several ways; mhpmevent, mhpmcounter and hpmcounter are all of 3 to 31
unfoldable pub optional_names : List (List ℕ × OptionalCsr)
optional_names =
    (codes "misa", optional.Misa) ∷ (codes "mcounteren", optional.Mcounteren) ∷ (codes "menvcfg", optional.Menvcfg)
    ∷ (codes "mcountinhibit", optional.Mcountinhibit) ∷ (codes "mhpmevent", optional.Mhpmevent)
    ∷ (codes "mhpmcounter", optional.Mhpmcounter) ∷ (codes "cycle", optional.Cycle) ∷ (codes "time", optional.Time)
    ∷ (codes "instret", optional.Instret) ∷ (codes "hpmcounter", optional.Hpmcounter)
    ∷ (codes "senvcfg", optional.Senvcfg) ∷ (codes "mconfigptr", optional.Mconfigptr) ∷ []

-- the ways in which a core may have one
unfoldable pub presence_names : List (List ℕ × Presence)
presence_names = (codes "row", FromRow) ∷ (codes "none", Absent) ∷ (codes "maybe", MayTrap) ∷ []

-- the core may decide what a read of it gives
abbrev pub may_be_from_row : OptionalCsr → Bool
may_be_from_row optional.Misa = true
may_be_from_row optional.Mcountinhibit = true
may_be_from_row optional.Menvcfg = true
may_be_from_row optional.Senvcfg = true
may_be_from_row optional.Mhpmevent = true
may_be_from_row _ = false

-- the core may lack it
abbrev pub may_be_absent : OptionalCsr → Bool
may_be_absent optional.Misa = false
may_be_absent _ = true

abbrev pub may_be : OptionalCsr → Presence → Bool
may_be csr Kept = false
may_be csr FromRow = may_be_from_row csr
may_be csr Absent = may_be_absent csr
may_be csr MayTrap = may_be_absent csr

-- a register that the core has in another way
unfoldable pub with_way : List ℕ → Presence → CsrProfile → Option CsrProfile
with_way name presence profile = do
  csr ← value_at optional_names name
  if may_be csr presence then Some (with_presence profile csr presence) else None

-- a register may have these bits that a write changes, and these that are always 1
unfoldable pub are_lawful_bits : StoredCsr → (mask fixed : ℕ) → Bool
are_lawful_bits stored mask fixed =
    bit_and mask (most_bits stored) == mask && bit_and mask (least_bits stored) == least_bits stored
    && bit_and fixed (fixable_bits stored) == fixed && bit_and fixed mask == 0

-- what stands after the colon, where there is one
abbrev pub after_colon : List ℕ → Option (List ℕ)
after_colon text =
    if list_any (λ byte. byte == colon) text then Some (after_first (λ byte. byte == colon) text) else None

-- the bits that are always 1, which may be left out
abbrev pub fixed_in : Option (List ℕ) → Option ℕ
fixed_in None = Some 0
fixed_in (Some text) = number_of_text text

-- a register with other bits
unfoldable pub with_mask : (name value : List ℕ) → CsrProfile → Option CsrProfile
with_mask name value profile = do
  stored ← chosen_named name
  mask ← number_of_text (before_first (λ byte. byte == colon) value)
  fixed ← fixed_in (after_colon value)
  if are_lawful_bits stored mask fixed then Some (with_bits profile stored mask fixed) else None

abbrev pub with_value : Option Presence → (name value : List ℕ) → CsrProfile → Option CsrProfile
with_value None name value profile = with_mask name value profile
with_value (Some presence) name value profile = with_way name presence profile

-- the two parts of an item, NAME=VALUE
abbrev pub name_of : List ℕ → List ℕ
name_of item = before_first (λ byte. byte == equals) item

abbrev pub value_of : List ℕ → List ℕ
value_of item = after_first (λ byte. byte == equals) item

-- the profile with what an item says of a register
unfoldable pub with_item : List ℕ → CsrProfile → Option CsrProfile
with_item item profile =
    with_value (value_at presence_names (value_of item)) (name_of item) (value_of item) profile

-- one of the items has this name
abbrev pub is_named : List ℕ → List (List ℕ) → Bool
is_named name items = list_any (λ item. bytes_eq (name_of item) name) items

-- the profile that the items say, each of another register
abbrev pub registers_in : List (List ℕ) → Option CsrProfile
registers_in [] = Some plain_profile
registers_in (item ∷ others) =
    if is_named (name_of item) others then None else registers_in others >>= with_item item

-- the same of a list that may be left out
abbrev pub csr_in : Option (List ℕ) → Option CsrProfile
csr_in text = registers_in (items_of text)

abbrev pub entry_count_for : ℕ → Option EntryCount
entry_count_for number =
    if number == 0 then Some Zero
    else (if number == 8 then Some Eight else (if number == 16 then Some Sixteen else None))

-- how many entries of physical memory protection there are
unfoldable pub entry_count_in : List ℕ → Option EntryCount
entry_count_in text = number_of_text text >>= entry_count_for

abbrev pub entry_bits_for : ℕ → Option ℕ
entry_bits_for number = if nat_le 10 number && nat_le number 54 then Some number else None

-- how many low bits an address register of physical memory protection has
unfoldable pub entry_bits_in : List ℕ → Option ℕ
entry_bits_in text = number_of_text text >>= entry_bits_for

-- the lines that are added to those that always may be lines
abbrev pub lines_for : ℕ → Option ℕ
lines_for mask =
    if bit_and mask (bit_or line_bits addable_lines) == mask && bit_and mask line_bits == line_bits
    then Some (bit_and mask addable_lines) else None

-- the bits of mip that are lines
unfoldable pub lines_in : List ℕ → Option ℕ
lines_in text = number_of_text text >>= lines_for

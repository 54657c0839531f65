-- The entries of Sv39 page tables and what they allow, from the Privileged Architecture's chapter "Supervisor-Level
-- ISA". A virtual address has 9 bits for each of the levels 2, 1 and 0 above the 12 of a page's offset.
use Rattle.std.specs.Prelude.{ℕ, ◌+◌, ◌-◌, ◌*◌, ◌/◌, ◌%◌, ◌^◌, Bool, not, ◌&&◌, ◌||◌, ◌==◌, nat_lt, bit_or}
use Rattle.std.specs.Prelude.{if◌then◌else◌}
use Rattle.std.specs.Prelude.{Option, Some, None, Result, Ok, Err}
use Rattle.hart_words.specs.declared.options.Marks.{Marks}
use Rattle.hart_words.specs.declared.options.Marks.TheVariants as marks
use Rattle.hart_words.specs.declared.privilege.Mode.{Mode}
use Rattle.hart_words.specs.declared.privilege.Mode.TheVariants.{User, Supervisor, Machine}
use Rattle.hart_words.specs.declared.privilege.Access.{Access}
use Rattle.hart_words.specs.declared.privilege.Access.TheVariants.{Fetch, Load, Store}
use Rattle.hart_words.specs.declared.privilege.Cause.{Cause}
use Rattle.hart_words.specs.declared.privilege.WalkFlags.{WalkFlags}
use Rattle.hart_words.specs.declared.span.TheConstants.{PAGE_SIZE}
use Rattle.hart_words.specs.Privilege.{access_fault_of, page_fault_of}
use Rattle.sv39_walk.specs.declared.entry.Flag.{Flag}
use Rattle.sv39_walk.specs.declared.entry.Flag.TheVariants.{Valid, Readable, Writable, Executable, ForUser, Accessed}
use Rattle.sv39_walk.specs.declared.entry.Flag.TheVariants.{Dirty}
use Rattle.sv39_walk.specs.declared.entry.TheConstants.{OFFSET_BITS, INDEX_BITS, ENTRY_SIZE, ENTRIES, NUMBER_BIT}
use Rattle.sv39_walk.specs.declared.entry.TheConstants.{NUMBER_BITS, RESERVED_BIT, ADDRESS_BITS}

-- which entries may be read and which may be set, and what an access does where A, or D, is clear
pub record Tables : Type 0 where
  pub readable : ℕ → Bool
  pub settable : ℕ → Bool
  pub marks : Marks

-- the bits V, R, W, X, U, A and D of an entry
abbrev pub bit_of : Flag → ℕ
bit_of Valid = 0
bit_of Readable = 1
bit_of Writable = 2
bit_of Executable = 3
bit_of ForUser = 4
bit_of Accessed = 6
bit_of Dirty = 7

-- the bit is 1
unfoldable pub is_set : ℕ → Flag → Bool
is_set entry flag = entry / 2 ^ bit_of flag % 2 == 1

-- the physical page number, bits 53:10
abbrev pub page_number : ℕ → ℕ
page_number entry = entry / 2 ^ NUMBER_BIT % 2 ^ NUMBER_BITS

-- not valid, writable but not readable, or with one of the reserved bits from 54 on
unfoldable pub is_meaningless : ℕ → Bool
is_meaningless entry =
    not (is_set entry Valid) || (is_set entry Writable && not (is_set entry Readable))
    || not (entry / 2 ^ RESERVED_BIT == 0)

-- neither readable nor executable: names a table and not a page
unfoldable pub is_pointer : ℕ → Bool
is_pointer entry = not (is_set entry Readable) && not (is_set entry Executable)

-- a pointer to the table of the next level; A, D and U are reserved in it
unfoldable pub is_link : ℕ → Bool
is_link entry =
    not (is_meaningless entry) && is_pointer entry && not (is_set entry Accessed) && not (is_set entry Dirty)
    && not (is_set entry ForUser)

-- a walk that reads the entry at a level goes on from it
abbrev pub leads_on : ℕ → ℕ → Bool
leads_on level entry = nat_lt 0 level && is_link entry

-- a page
unfoldable pub is_leaf : ℕ → Bool
is_leaf entry = not (is_meaningless entry) && not (is_pointer entry)

-- the page has the right that the access needs; under MXR what can be executed can be loaded
abbrev pub leaf_permits : Bool → Access → ℕ → Bool
leaf_permits mxr Fetch entry = is_set entry Executable
leaf_permits mxr Load entry = is_set entry Readable || (mxr && is_set entry Executable)
leaf_permits mxr Store entry = is_set entry Writable

-- S never fetches from a page of U, and its loads and stores there need SUM
abbrev pub is_open_to_supervisor : Bool → Access → ℕ → Bool
is_open_to_supervisor sum Fetch entry = not (is_set entry ForUser)
is_open_to_supervisor sum Load entry = not (is_set entry ForUser) || sum
is_open_to_supervisor sum Store entry = not (is_set entry ForUser) || sum

-- U uses its own pages alone; M, which has no translation, is taken as S
abbrev pub is_open_to : Mode → Bool → Access → ℕ → Bool
is_open_to User sum access entry = is_set entry ForUser
is_open_to Supervisor sum access entry = is_open_to_supervisor sum access entry
is_open_to Machine sum access entry = is_open_to_supervisor sum access entry

-- A is set, and D for a store
abbrev pub is_marked : Access → ℕ → Bool
is_marked Fetch entry = is_set entry Accessed
is_marked Load entry = is_set entry Accessed
is_marked Store entry = is_set entry Accessed && is_set entry Dirty

-- the bits that an access needs to be set
abbrev pub marks_of : Access → ℕ
marks_of Fetch = 2 ^ bit_of Accessed
marks_of Load = 2 ^ bit_of Accessed
marks_of Store = 2 ^ bit_of Accessed + 2 ^ bit_of Dirty

-- the entry with A set, and for a store D
unfoldable pub with_marks : Access → ℕ → ℕ
with_marks access entry = bit_or entry (marks_of access)

-- the bytes of a page at a level: 4 KiB, 2 MiB, 1 GiB
unfoldable pub page_size : ℕ → ℕ
page_size level = 2 ^ (OFFSET_BITS + INDEX_BITS * level)

-- a page lies at a multiple of its size
abbrev pub is_aligned : ℕ → ℕ → Bool
is_aligned level entry = PAGE_SIZE * page_number entry % page_size level == 0

-- a page at a level allows the access, whatever A and D are
unfoldable pub leaf_allows : ℕ → WalkFlags → Access → ℕ → Bool
leaf_allows level flags access entry =
    leaf_permits flags.mxr access entry && is_open_to flags.mode flags.sum access entry && is_aligned level entry

-- it lets the access pass as it is
unfoldable pub leaf_admits : ℕ → WalkFlags → Access → ℕ → Bool
leaf_admits level flags access entry = leaf_allows level flags access entry && is_marked access entry

-- the address in an aligned page
abbrev pub address_in : ℕ → ℕ → ℕ → ℕ
address_in level entry va = PAGE_SIZE * page_number entry + va % page_size level

-- the address of a page that allows an access but lacks A, or D: with the entry that is set where it may be set, or a
-- fault
abbrev pub unmarked_by : Marks → Bool → Access → ℕ → ℕ → Result (ℕ × Option ℕ) Cause
unmarked_by marks.Fault can_set access entry address = Err (page_fault_of access)
unmarked_by marks.Set can_set access entry address =
    if can_set then Ok (address, Some (with_marks access entry)) else Err (access_fault_of access)

abbrev pub unmarked_result : Tables → Access → ℕ → ℕ → ℕ → Result (ℕ × Option ℕ) Cause
unmarked_result tables access pa entry address =
    unmarked_by tables.marks (tables.settable pa) access entry address

-- what the last entry gives, read at a level: a page that allows the access gives the address in it, and what the entry
-- becomes where that changes; all else is a page fault
unfoldable pub final_result : Tables → ℕ → WalkFlags → ℕ → Access → ℕ → ℕ → Result (ℕ × Option ℕ) Cause
final_result tables level flags va access pa entry =
    let address = address_in level entry va in
    if is_leaf entry && leaf_allows level flags access entry
    then (if is_marked access entry then Ok (address, None) else unmarked_result tables access pa entry address)
    else Err (page_fault_of access)

-- where the entry for a virtual address stands in a table, by level and the table's page number
unfoldable pub entry_address : ℕ → ℕ → ℕ → ℕ
entry_address level table va =
    PAGE_SIZE * table + ENTRY_SIZE * (va / 2 ^ (OFFSET_BITS + INDEX_BITS * level) % ENTRIES)

-- bits 63:39 equal bit 38, the last of those that are translated
unfoldable pub is_canonical : ℕ → Bool
is_canonical va = va / 2 ^ ADDRESS_BITS == (2 ^ (64 - ADDRESS_BITS) - 1) * (va / 2 ^ (ADDRESS_BITS - 1) % 2)

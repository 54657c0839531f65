-- What a translation amounts to, by the entries that it comes to, from the Privileged Architecture's chapter
-- "Supervisor-Level ISA".
use Rattle.std.specs.Prelude.{◌≡◌, ℕ, ◌+◌, ◌-◌, ◌*◌, ◌/◌, ◌%◌, ◌^◌, ◌≤◌, ◌<◌, ◌==◌, Bool, true, false, not, ◌&&◌}
use Rattle.std.specs.Prelude.{◌||◌, IsTrue, List, [], All, length, if◌then◌else◌, Err}
use Rattle.std.specs.Bool.{IsFalse}
use Rattle.std.specs.Int.{bit_at}
use Rattle.hart_words.specs.declared.accesses.Write.{Write}
use Rattle.hart_words.specs.declared.options.Marks.TheVariants as marks
use Rattle.hart_words.specs.declared.privilege.Access.{Access}
use Rattle.hart_words.specs.declared.privilege.Access.TheVariants.{Fetch, Load, Store}
use Rattle.hart_words.specs.declared.privilege.WalkFlags.{WalkFlags}
use Rattle.hart_words.specs.EntryWrites.{entry_write}
use Rattle.hart_words.specs.Memory.{Bytes}
use Rattle.hart_words.specs.Privilege.{page_fault_of}
use Rattle.sv39_walk.specs.declared.entry.Flag.TheVariants.{Readable, Writable, Accessed, Dirty}
use Rattle.sv39_walk.specs.declared.entry.TheConstants.{INDEX_BITS, OFFSET_BITS, TOP_LEVEL}
use Rattle.sv39_walk.specs.Entries.{Tables, address_in, bit_of, entry_address, is_aligned, is_canonical, is_leaf}
use Rattle.sv39_walk.specs.Entries.{is_marked, is_set, leaf_allows, with_marks, page_number}
use Rattle.sv39_walk.specs.Walk.{IsWalk, Visit, by_chain, chain, entry_in, root_of, translation_of, visit_at}

-- a translation gives what the last entry of its chain decides, reads its entries and writes at most the last
abbrev pub IsByChain : Tables → Bytes → ℕ → WalkFlags → ℕ → Access → Type 0
IsByChain tables bytes satp flags va access =
    (translation_of tables satp flags va access).run bytes
    ≡ by_chain tables bytes flags va access (chain tables.readable bytes satp va)

-- the bits that an access needs to be set: A, and D for a store
abbrev pub is_mark : Access → ℕ → Bool
is_mark Fetch i = i == bit_of Accessed
is_mark Load i = i == bit_of Accessed
is_mark Store i = (i == bit_of Accessed) || (i == bit_of Dirty)

-- the entry that is set gains these bits and no other
abbrev pub GainsItsMarks : Access → ℕ → Type 0
GainsItsMarks access entry =
    (i : ℕ) → bit_at (with_marks access entry) i ≡ (if is_mark access i then 1 else bit_at entry i)

-- what a translation writes
abbrev pub walk_writes_of : Tables → Bytes → ℕ → WalkFlags → ℕ → Access → List Write
walk_writes_of tables bytes satp flags va access = ((translation_of tables satp flags va access).run bytes).wrote

-- a write sets the entry of a visit, a page that may be set and that allows the access but lacks A, or D
pub record SetsEntry (tables : Tables) (bytes : Bytes) (flags : WalkFlags) (access : Access) (visit : Visit)
    (write : Write) : Type 0 where
  pub marks : tables.marks ≡ marks.Set
  pub readable : tables.readable visit.pa ≡ true
  pub settable : tables.settable visit.pa ≡ true
  pub leaf : is_leaf (entry_in bytes visit) ≡ true
  pub allows : leaf_allows visit.level flags access (entry_in bytes visit) ≡ true
  pub unmarked : is_marked access (entry_in bytes visit) ≡ false
  pub write_is : write ≡ entry_write visit.pa (with_marks access (entry_in bytes visit))

-- a translation writes at most one entry, the last of its chain
abbrev pub WritesAtMostOne : Tables → Bytes → ℕ → WalkFlags → ℕ → Access → Type 0
WritesAtMostOne tables bytes satp flags va access = length (walk_writes_of tables bytes satp flags va access) ≤ 1

abbrev pub last_visit : List Visit → Visit
last_visit visits = visit_at visits (length visits - 1)

abbrev pub SetsItsLast : Tables → Bytes → ℕ → WalkFlags → ℕ → Access → Type 0
SetsItsLast tables bytes satp flags va access =
    All (SetsEntry tables bytes flags access (last_visit (chain tables.readable bytes satp va)))
    (walk_writes_of tables bytes satp flags va access)

-- and none where A and D that are clear are page faults
abbrev pub WritesNoneUnderFault : Tables → Bytes → ℕ → WalkFlags → ℕ → Access → Type 0
WritesNoneUnderFault tables bytes satp flags va access =
    tables.marks ≡ marks.Fault → walk_writes_of tables bytes satp flags va access ≡ []

-- an entry is writable and not readable, which is reserved
abbrev pub is_writable_alone : ℕ → Bool
is_writable_alone entry = is_set entry Writable && not (is_set entry Readable)

-- a walk that reads such an entry ends in a page fault of the access, whatever the entry's level and its other bits
abbrev pub RefusesWritableAlone : Tables → Bytes → ℕ → WalkFlags → ℕ → Access → Type 0
RefusesWritableAlone tables bytes satp flags va access =
    (i : ℕ) → i < length (chain tables.readable bytes satp va)
    → tables.readable (visit_at (chain tables.readable bytes satp va) i).pa ≡ true
    → is_writable_alone (entry_in bytes (visit_at (chain tables.readable bytes satp va) i)) ≡ true
    → ((translation_of tables satp flags va access).run bytes).value ≡ Err (page_fault_of access)

-- a walk from level 2 on, in the table that satp names
abbrev pub IsWalkFromRoot : (ℕ → Bool) → Bytes → ℕ → ℕ → List Visit → Type 0
IsWalkFromRoot readable bytes satp va visits =
    IsWalk readable bytes va TOP_LEVEL (entry_address TOP_LEVEL (root_of satp) va) visits

-- the chain of an address that extends its low 39 bits is such a walk, and the only one
abbrev pub ChainIsWalk : (ℕ → Bool) → Bytes → ℕ → ℕ → Type 0
ChainIsWalk readable bytes satp va =
    IsTrue (is_canonical va) → IsWalkFromRoot readable bytes satp va (chain readable bytes satp va)

abbrev pub WalkIsChain : (ℕ → Bool) → Bytes → ℕ → ℕ → List Visit → Type 0
WalkIsChain readable bytes satp va visits =
    IsTrue (is_canonical va) → IsWalkFromRoot readable bytes satp va visits → visits ≡ chain readable bytes satp va

-- any other address has none
abbrev pub ChainIsEmpty : (ℕ → Bool) → Bytes → ℕ → ℕ → Type 0
ChainIsEmpty readable bytes satp va = IsFalse (is_canonical va) → chain readable bytes satp va ≡ []

-- the address in a page has the low bits of the virtual address, and above them those of the page number
abbrev pub KeepsOffset : ℕ → ℕ → ℕ → Type 0
KeepsOffset level entry va =
    let offset_bits = OFFSET_BITS + INDEX_BITS * level in
    IsTrue (is_aligned level entry) → address_in level entry va % 2 ^ offset_bits ≡ va % 2 ^ offset_bits

abbrev pub HasPageNumber : ℕ → ℕ → ℕ → Type 0
HasPageNumber level entry va =
    let offset_bits = OFFSET_BITS + INDEX_BITS * level in
    IsTrue (is_aligned level entry)
    → address_in level entry va / 2 ^ offset_bits ≡ page_number entry / 2 ^ (INDEX_BITS * level)

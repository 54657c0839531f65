-- The walk of a virtual address through the page tables, with what it reads, from the Privileged Architecture's
-- chapter "Supervisor-Level ISA".
use Rattle.std.specs.Prelude.{◌≡◌, ℕ, zero, suc, ◌%◌, ◌^◌, ◌<◌, ◌≤◌, ◌⊎◌, Bool, true, false, ◌&&◌, if◌then◌else◌, List}
use Rattle.std.specs.Prelude.{[], ◌∷◌, length, slice_index_or, map, filter, Option, Some, None, Result, Ok, Err}
use Rattle.hart_words.specs.declared.privilege.Access.{Access}
use Rattle.hart_words.specs.declared.privilege.Cause.{Cause}
use Rattle.hart_words.specs.declared.privilege.WalkFlags.{WalkFlags}
use Rattle.hart_words.specs.declared.accesses.Read.{Read}
use Rattle.hart_words.specs.declared.accesses.Write.{Write}
use Rattle.hart_words.specs.Memory.{Bytes, number_at}
use Rattle.hart_words.specs.Actions.{Run, Action, pure, read_memory, write_memory, ◌>>=◌, mapped}
use Rattle.hart_words.specs.EntryWrites.{entry_write}
use Rattle.hart_words.specs.Privilege.{access_fault_of, page_fault_of}
use Rattle.sv39_walk.specs.declared.walk.Request.{Request}
use Rattle.sv39_walk.specs.declared.walk.Table.{Table}
use Rattle.sv39_walk.specs.declared.entry.TheConstants.{ENTRY_SIZE, NUMBER_BITS, TOP_LEVEL}
use Rattle.sv39_walk.specs.Entries.{Tables, page_number, is_link, final_result, entry_address, is_canonical}

-- the read of an entry
abbrev pub entry_read : ℕ → Read
entry_read pa = record { pa = pa; len = ENTRY_SIZE }

-- the entry at an address is read and taken on; where it may not be read, that is a fault of the access
unfoldable pub visit_of : (ℕ → Bool) → Access → ℕ → (ℕ → Action (Result ℕ Cause)) → Action (Result ℕ Cause)
visit_of readable access pa next =
    if readable pa then (read_memory (entry_read pa) >>= next) else pure (Err (access_fault_of access))

-- the address that an entry gives; where the entry changes, it is set first
unfoldable pub after_result : ℕ → Result (ℕ × Option ℕ) Cause → Action (Result ℕ Cause)
after_result pa (Err fault) = pure (Err fault)
after_result pa (Ok (address, None)) = pure (Ok address)
after_result pa (Ok (address, Some entry)) = mapped (λ _. Ok address) (write_memory (entry_write pa entry))

-- the last step of a walk: the entry at an address gives the result
abbrev pub last_of : Tables → ℕ → WalkFlags → ℕ → Access → ℕ → ℕ → Action (Result ℕ Cause)
last_of tables level flags va access pa entry = after_result pa (final_result tables level flags va access pa entry)

-- from the table of a level on, by its page number
unfoldable pub walk_of : Tables → WalkFlags → ℕ → Access → ℕ → ℕ → Action (Result ℕ Cause)
walk_of tables flags va access zero table =
    let pa = entry_address 0 table va in
    visit_of tables.readable access pa (λ entry. last_of tables 0 flags va access pa entry)
walk_of tables flags va access (suc level) table =
    let pa = entry_address (suc level) table va in
    visit_of tables.readable access pa (λ entry.
    if is_link entry
    then walk_of tables flags va access level (page_number entry)
    else last_of tables (suc level) flags va access pa entry)

-- the page number of the table that satp names
abbrev pub root_of : ℕ → ℕ
root_of satp = satp % 2 ^ NUMBER_BITS

-- the physical address of a virtual one, or a fault: from level 2 on, in the table that satp names
unfoldable pub translation_of : Tables → ℕ → WalkFlags → ℕ → Access → Action (Result ℕ Cause)
translation_of tables satp flags va access =
    if is_canonical va
    then walk_of tables flags va access TOP_LEVEL (root_of satp)
    else pure (Err (page_fault_of access))

-- the tables as a request sees them, and what a walk from one of them on does for it
abbrev pub tables_for : (ℕ → Bool) → (ℕ → Bool) → Request → Tables
tables_for readable settable request = record { readable = readable; settable = settable; marks = request.marks }

abbrev pub walk_for : (ℕ → Bool) → (ℕ → Bool) → Request → Table → Action (Result ℕ Cause)
walk_for readable settable request table =
    walk_of (tables_for readable settable request) request.flags request.va request.access table.level table.number

-- an entry that the walk comes to
pub record Visit : Type 0 where
  pub level : ℕ
  pub pa : ℕ

-- the entries that the walk comes to from the table of a level on: each but the last can be read and names the
-- table of the next
unfoldable pub chain_from : (ℕ → Bool) → Bytes → ℕ → ℕ → ℕ → List Visit
chain_from readable bytes va zero table = record { level = 0; pa = entry_address 0 table va } ∷ []
chain_from readable bytes va (suc level) table =
    let pa = entry_address (suc level) table va in
    let entry = number_at bytes pa ENTRY_SIZE in
    record { level = suc level; pa = pa }
    ∷ (if readable pa && is_link entry then chain_from readable bytes va level (page_number entry) else [])

-- the chain of a virtual address: at most three entries, from level 2 on
unfoldable pub chain : (ℕ → Bool) → Bytes → ℕ → ℕ → List Visit
chain readable bytes satp va =
    if is_canonical va then chain_from readable bytes va TOP_LEVEL (root_of satp) else []

-- the entry of a visit
abbrev pub entry_in : Bytes → Visit → ℕ
entry_in bytes visit = number_at bytes visit.pa ENTRY_SIZE

-- what the last visit gives
abbrev pub visit_result : Tables → Bytes → WalkFlags → ℕ → Access → Visit → Result (ℕ × Option ℕ) Cause
visit_result tables bytes flags va access visit =
    if tables.readable visit.pa
    then final_result tables visit.level flags va access visit.pa (entry_in bytes visit)
    else Err (access_fault_of access)

-- the address that it gives, and the write of the entry where that changes
abbrev pub address_of : Result (ℕ × Option ℕ) Cause → Result ℕ Cause
address_of (Ok (address, entry)) = Ok address
address_of (Err fault) = Err fault

abbrev pub entry_writes_of : ℕ → Result (ℕ × Option ℕ) Cause → List Write
entry_writes_of pa (Ok (address, Some entry)) = entry_write pa entry ∷ []
entry_writes_of pa (Ok (address, None)) = []
entry_writes_of pa (Err fault) = []

-- the last entry of the chain decides
unfoldable pub chain_result : Tables → Bytes → WalkFlags → ℕ → Access → List Visit → Result ℕ Cause
chain_result tables bytes flags va access [] = Err (page_fault_of access)
chain_result tables bytes flags va access (visit ∷ []) = address_of (visit_result tables bytes flags va access visit)
chain_result tables bytes flags va access (visit ∷ next ∷ more) =
    chain_result tables bytes flags va access (next ∷ more)

-- and is the one that may be set
unfoldable pub chain_wrote : Tables → Bytes → WalkFlags → ℕ → Access → List Visit → List Write
chain_wrote tables bytes flags va access [] = []
chain_wrote tables bytes flags va access (visit ∷ []) =
    entry_writes_of visit.pa (visit_result tables bytes flags va access visit)
chain_wrote tables bytes flags va access (visit ∷ next ∷ more) =
    chain_wrote tables bytes flags va access (next ∷ more)

-- the reads of a chain: its entries that can be read
abbrev pub entry_reads_of : (ℕ → Bool) → List Visit → List Read
entry_reads_of readable visits = map (λ visit. entry_read visit.pa) (filter (λ visit. readable visit.pa) visits)

-- the value, the reads and the writes that a chain makes
abbrev pub by_chain : Tables → Bytes → WalkFlags → ℕ → Access → List Visit → Run (Result ℕ Cause)
by_chain tables bytes flags va access visits = record {
  value = chain_result tables bytes flags va access visits;
  reads = entry_reads_of tables.readable visits;
  wrote = chain_wrote tables bytes flags va access visits;
}

-- the visit at a place of a chain
abbrev pub visit_at : List Visit → ℕ → Visit
visit_at visits i = slice_index_or visits i (record { level = 0; pa = 0 })

-- one visit leads to the next: its entry can be read and names the table, one level below, that the next is in
pub record LeadsTo (readable : ℕ → Bool) (bytes : Bytes) (va : ℕ) (visit next : Visit) : Type 0 where
  pub read : readable visit.pa ≡ true
  pub link : is_link (entry_in bytes visit) ≡ true
  pub below : visit.level ≡ suc next.level
  pub place : next.pa ≡ entry_address next.level (page_number (entry_in bytes visit)) va

-- a visit leads no further: it is at level 0, its entry cannot be read, or it names no table
abbrev pub LeadsNoFurther : (ℕ → Bool) → Bytes → Visit → Type 0
LeadsNoFurther readable bytes visit =
    (visit.level ≡ 0) ⊎ ((readable visit.pa ≡ false) ⊎ (is_link (entry_in bytes visit) ≡ false))

-- from one visit each leads to the next, until one that leads no further
pub record IsWalk (readable : ℕ → Bool) (bytes : Bytes) (va level pa : ℕ) (visits : List Visit) : Type 0 where
  pub nonempty : 1 ≤ length visits
  pub within_levels : length visits ≤ suc level
  pub first : visit_at visits 0 ≡ record { level = level; pa = pa }
  pub next : (i : ℕ) → suc i < length visits → LeadsTo readable bytes va (visit_at visits i) (visit_at visits (suc i))
  pub last : (i : ℕ) → suc i ≡ length visits → LeadsNoFurther readable bytes (visit_at visits i)

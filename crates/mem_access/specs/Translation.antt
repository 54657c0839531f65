-- From a virtual address to its place, with the entries of page tables that are read on the way. From the Privileged
-- Architecture's chapters "Supervisor-Level ISA" (satp, Sv39) and "Machine-Level ISA" (protection).
use Rattle.std.specs.Prelude.{ℕ, Bool, not, ◌&&◌, ◌==◌, if◌then◌else◌, Result, Ok, Err}
use Rattle.hart_words.specs.declared.privilege.Mode.{Mode}
use Rattle.hart_words.specs.declared.privilege.Mode.TheVariants.{Supervisor}
use Rattle.hart_words.specs.declared.privilege.Access.TheVariants.{Load, Store}
use Rattle.hart_words.specs.declared.privilege.Cause.{Cause}
use Rattle.hart_words.specs.declared.privilege.WalkFlags.{WalkFlags}
use Rattle.hart_words.specs.declared.map.Map.{Map}
use Rattle.hart_words.specs.declared.choices.Choices.{Choices}
use Rattle.hart_words.specs.Spans.{holds_all}
use Rattle.hart_words.specs.Actions.{Action, pure, mapped}
use Rattle.csr_file.specs.declared.csrs.Csrs.{Csrs}
use Rattle.csr_file.specs.declared.stored_csr.StoredCsr.TheVariants.{Mstatus, Satp}
use Rattle.csr_file.specs.declared.fields.TheConstants.{BARE, MXR, SUM}
use Rattle.csr_file.specs.Registers.{at, pmp_entries_of}
use Rattle.csr_file.specs.Fields.{bit_is_set, satp_mode_of}
use Rattle.pmp_check.specs.Protection.{is_allowed, is_machine}
use Rattle.sv39_walk.specs.declared.entry.TheConstants.{ENTRY_SIZE}
use Rattle.sv39_walk.specs.Entries.{Tables}
use Rattle.sv39_walk.specs.Walk.{translation_of}
use Rattle.mem_access.specs.declared.place.AccessRequest.{AccessRequest}
use Rattle.mem_access.specs.declared.place.Place.{Place}
use Rattle.mem_access.specs.Places.{place_of}

-- the accesses of a mode are translated: not those of M, and none while satp's MODE is Bare
unfoldable pub is_translated : Csrs → Mode → Bool
is_translated csrs mode = not (is_machine mode) && not (satp_mode_of (at csrs Satp) == BARE)

-- the mode, with what mstatus says of the pages that it may use
unfoldable pub walk_flags_of : Csrs → Mode → WalkFlags
walk_flags_of csrs mode = record {
  mode = mode;
  sum = bit_is_set (at csrs Mstatus) SUM;
  mxr = bit_is_set (at csrs Mstatus) MXR;
}

-- an entry of a page table is read as by a load of S, from RAM alone
abbrev pub is_readable : Csrs → Map → ℕ → Bool
is_readable csrs map pa =
    holds_all map.ram pa ENTRY_SIZE && is_allowed (pmp_entries_of csrs) Supervisor pa ENTRY_SIZE Load

-- and set as by a store of S
abbrev pub is_settable : Csrs → Map → ℕ → Bool
is_settable csrs map pa =
    holds_all map.ram pa ENTRY_SIZE && is_allowed (pmp_entries_of csrs) Supervisor pa ENTRY_SIZE Store

abbrev pub tables_of : Csrs → Map → Choices → Tables
tables_of csrs map choices =
    record { readable = is_readable csrs map; settable = is_settable csrs map; marks = choices.marks }

-- the physical address of a virtual one
unfoldable pub physical_address_of : Csrs → Map → Choices → AccessRequest → ℕ → Action (Result ℕ Cause)
physical_address_of csrs map choices request va =
    if is_translated csrs request.mode
    then translation_of (tables_of csrs map choices) (at csrs Satp) (walk_flags_of csrs request.mode) va request.access
    else pure (Ok va)

-- translation comes first, protection and the map after it
abbrev pub place_after_translation : Csrs → Map → AccessRequest → Result ℕ Cause → Result Place Cause
place_after_translation csrs map request (Err cause) = Err cause
place_after_translation csrs map request (Ok pa) = place_of csrs map request pa

-- the place of an access to a virtual address
unfoldable pub virtual_place_of : Csrs → Map → Choices → AccessRequest → ℕ → Action (Result Place Cause)
virtual_place_of csrs map choices request va =
    mapped (place_after_translation csrs map request) (physical_address_of csrs map choices request va)

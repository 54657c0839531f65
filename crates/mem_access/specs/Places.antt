-- Where an access to a physical address goes, and why it may not go there. From the Privileged Architecture's
-- chapter "Machine-Level ISA" (physical memory attributes and protection, exception codes).
use Rattle.std.specs.Prelude.{ℕ, Bool, true, false, ◌&&◌, if◌then◌else◌, Result, Ok, Err}
use Rattle.hart_words.specs.declared.privilege.Mode.{Mode}
use Rattle.hart_words.specs.declared.privilege.Mode.TheVariants.{User, Supervisor, Machine}
use Rattle.hart_words.specs.declared.privilege.Cause.{Cause}
use Rattle.hart_words.specs.declared.map.Map.{Map}
use Rattle.hart_words.specs.Devices.{is_device}
use Rattle.hart_words.specs.Spans.{holds_all}
use Rattle.hart_words.specs.Privilege.{access_fault_of}
use Rattle.csr_file.specs.declared.csrs.Csrs.{Csrs}
use Rattle.csr_file.specs.declared.stored_csr.StoredCsr.TheVariants.{Mstatus}
use Rattle.csr_file.specs.declared.fields.TheConstants.{MPRV}
use Rattle.csr_file.specs.Registers.{at, pmp_entries_of}
use Rattle.csr_file.specs.Fields.{bit_is_set, mode_of_encoding, mpp_of}
use Rattle.pmp_check.specs.Protection.{is_allowed}
use Rattle.mem_access.specs.declared.place.AccessRequest.{AccessRequest}
use Rattle.mem_access.specs.declared.place.Place.{Place}

-- the mode of a load or a store: MPP in M where MPRV is set, else the mode itself; a fetch has the mode itself
unfoldable pub data_mode_of : Csrs → Mode → Mode
data_mode_of csrs Machine =
    if bit_is_set (at csrs Mstatus) MPRV then mode_of_encoding (mpp_of (at csrs Mstatus)) else Machine
data_mode_of csrs Supervisor = Supervisor
data_mode_of csrs User = User

-- RAM, or, for accesses that devices answer, one range of devices; elsewhere is nothing
abbrev pub place_in : Map → AccessRequest → ℕ → Result Place Cause
place_in map request pa =
    if holds_all map.ram pa request.len then Ok (record { pa = pa; is_device = false })
    else if request.devices && is_device map.io pa request.len then Ok (record { pa = pa; is_device = true })
    else Err (access_fault_of request.access)

-- protection allows the access
abbrev pub is_permitted : Csrs → AccessRequest → ℕ → Bool
is_permitted csrs request pa = is_allowed (pmp_entries_of csrs) request.mode pa request.len request.access

-- the place of an access, unless protection refuses it or nothing is there
unfoldable pub place_of : Csrs → Map → AccessRequest → ℕ → Result Place Cause
place_of csrs map request pa =
    if is_permitted csrs request pa then place_in map request pa else Err (access_fault_of request.access)

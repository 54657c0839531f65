-- The memory access of an instruction, as riscv-formal's description of RVFI has a row show it: an
-- address, at which eight bytes begin, masks that say which of them are read and written, and their
-- data. `named` is the address that the row shows.
use Rattle.std.specs.Prelude.{ℕ, ◌+◌, ◌-◌, ◌%◌, ◌^◌, Option, Some, None, option_map}
use Rattle.rvfi_rows.specs.Window.{distance_in_window, moved_up}
use Rattle.rvfi_rows.specs.declared.expected.Accessed.{Accessed}
use Rattle.row_compare.specs.declared.expected_signal.ExpectedSignal.{ExpectedSignal}
use Rattle.row_compare.specs.Wanted.{whole, where_known}

-- how far the access begins above the address that is shown, where all its bytes are among the eight from there on
abbrev pub distance_shown : Accessed → Option ℕ → Option ℕ
distance_shown access None = None
distance_shown access (Some named) = distance_in_window access.va access.len named

-- so many ones from a bit on
abbrev pub ones : ℕ → ℕ → ℕ
ones from count = 2 ^ (from + count) - 2 ^ from

-- the bits of so many bytes from a byte on
abbrev pub byte_ones : ℕ → ℕ → ℕ
byte_ones from count = 256 ^ (from + count) - 256 ^ from

-- the address is right where the access lies in its eight bytes
abbrev pub address_at : ℕ → Option ℕ → Option ExpectedSignal
address_at va None = whole va
address_at va (Some away) = None

abbrev pub expected_address : Accessed → Option ℕ → Option ExpectedSignal
expected_address access named = address_at access.va (distance_shown access named)

-- the physical address moves with the address that is shown
abbrev pub moved_back : ℕ → ℕ → ℕ
moved_back pa away = (pa + (2 ^ 64 - away)) % 2 ^ 64

abbrev pub expected_physical : Accessed → Option ℕ → Option ExpectedSignal
expected_physical access None = whole access.pa
expected_physical access (Some named) =
    where_known (option_map (moved_back access.pa) (distance_in_window access.va access.len named))

-- the bytes that are read are in their mask, and further ones may be
abbrev pub read_mask_at : ℕ → Option ℕ → Option ℕ → Option ExpectedSignal
read_mask_at len None read = None
read_mask_at len (Some away) None = None
read_mask_at len (Some away) (Some value) = Some (record { value = ones away len; mask = ones away len })

abbrev pub expected_read_mask : Accessed → Option ℕ → Option ExpectedSignal
expected_read_mask access named = read_mask_at access.len (distance_shown access named) access.read

-- data are wanted in the bits of the access's bytes
abbrev pub data_at : ℕ → Option ℕ → Option ℕ → Option ExpectedSignal
data_at len None number = None
data_at len (Some away) None = None
data_at len (Some away) (Some value) = Some (record { value = moved_up value away; mask = byte_ones away len })

abbrev pub expected_read : Accessed → Option ℕ → Option ExpectedSignal
expected_read access named = data_at access.len (distance_shown access named) access.read

abbrev pub expected_write : Accessed → Option ℕ → Option ExpectedSignal
expected_write access named = data_at access.len (distance_shown access named) access.written

-- just the bytes that are written are in their mask
abbrev pub write_mask_at : ℕ → Option ℕ → Option ℕ → Option ExpectedSignal
write_mask_at len away None = whole 0
write_mask_at len None (Some value) = None
write_mask_at len (Some away) (Some value) = whole (ones away len)

-- where there is no access, nothing is written either
abbrev pub expected_write_mask : Option Accessed → Option ℕ → Option ExpectedSignal
expected_write_mask None named = whole 0
expected_write_mask (Some access) named = write_mask_at access.len (distance_shown access named) access.written

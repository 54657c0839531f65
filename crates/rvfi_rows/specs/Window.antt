-- The eight bytes that a row shows of memory: those from `mem_addr` on, as riscv-formal's description of RVFI has it.
use Rattle.std.specs.Prelude.{ℕ, ◌+◌, ◌-◌, ◌*◌, ◌/◌, ◌%◌, ◌^◌, nat_le, if◌then◌else◌, Option, Some, None}

-- how far an address lies above another
abbrev pub above : ℕ → ℕ → ℕ
above va address = (va + (2 ^ 64 - address)) % 2 ^ 64

-- how far an access of so many bytes begins above an address, where all of them are among the eight from there on
abbrev pub distance_in_window : ℕ → ℕ → ℕ → Option ℕ
distance_in_window va len address = if nat_le (above va address + len) 8 then Some (above va address) else None

-- a number of eight bytes whose lowest byte is moved up to a byte of the window; what is above the eight is lost
abbrev pub moved_up : ℕ → ℕ → ℕ
moved_up value away = value * 256 ^ away % 2 ^ 64

-- a number of eight bytes of which a byte of the window is moved down to the lowest
abbrev pub moved_down : ℕ → ℕ → ℕ
moved_down value away = value / 256 ^ away

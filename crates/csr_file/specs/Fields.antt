-- Bits and fields of the registers, from the Privileged Architecture's chapters "Machine-Level ISA" (mstatus, mip)
-- and "Supervisor-Level ISA" (satp).
use Rattle.std.specs.Prelude.{ℕ, ◌+◌, ◌-◌, ◌*◌, ◌/◌, ◌%◌, ◌^◌, Bool, ◌||◌, ◌==◌, if◌then◌else◌, bit_and, bit_or, List}
use Rattle.std.specs.Prelude.{[], ◌∷◌}
use Rattle.hart_words.specs.declared.privilege.Mode.{Mode}
use Rattle.hart_words.specs.declared.privilege.Mode.TheVariants.{User, Supervisor, Machine}
use Rattle.csr_file.specs.declared.fields.TheConstants.{MPP, SATP_MODE, BARE, SV39}

-- the number that has just these bits
abbrev pub bits : List ℕ → ℕ
bits [] = 0
bits (bit ∷ more) = 2 ^ bit + bits more

-- the bits of a field: so many from the lowest on
abbrev pub field_bits : ℕ → ℕ → ℕ
field_bits lowest count = (2 ^ count - 1) * 2 ^ lowest

-- all bits of a register
abbrev pub all_bits : ℕ
all_bits = 2 ^ 64 - 1

-- the bit of a value is set
abbrev pub bit_is_set : ℕ → ℕ → Bool
bit_is_set value bit = value / 2 ^ bit % 2 == 1

-- the bits of a mask from one value, all others from the old one
unfoldable pub masked_update : ℕ → ℕ → ℕ → ℕ
masked_update mask old value = bit_or (bit_and old (all_bits - mask)) (bit_and value mask)

-- MPP of mstatus, two bits
abbrev pub mpp_of : ℕ → ℕ
mpp_of status = status / 2 ^ MPP % 4

-- MODE of satp, its four highest bits
abbrev pub satp_mode_of : ℕ → ℕ
satp_mode_of satp = satp / 2 ^ SATP_MODE

-- the hart has this mode of satp
abbrev pub is_supported_mode : ℕ → Bool
is_supported_mode mode = (mode == BARE) || (mode == SV39)

-- the mode of an encoding; 2 is none, and MPP never holds it
abbrev pub mode_of_encoding : ℕ → Mode
mode_of_encoding number = if number == 3 then Machine else (if number == 1 then Supervisor else User)

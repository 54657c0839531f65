-- What a step wrote and what it read: registers, and bytes of RAM by its own data access.
use Rattle.std.specs.Prelude.{ℕ, zero, suc, ◌+◌, ◌-◌, ◌%◌, min, nat_le, nat_lt, Bool, ◌&&◌, ◌==◌, if◌then◌else◌}
use Rattle.std.specs.Prelude.{List, [], ◌∷◌, length, drop, Option, Some, None, is_some, Result, Ok, Err}
use Rattle.std.specs.List.{filter, flat_map, list_any}
use Rattle.hart_words.specs.declared.accesses.Read.{Read}
use Rattle.hart_words.specs.declared.accesses.Write.{Write}
use Rattle.hart_words.specs.declared.privilege.Cause.{Cause}
use Rattle.hart_words.specs.declared.span.TheConstants.{PAGE_SIZE}
use Rattle.hart_words.specs.Memory.{is_within}
use Rattle.rvfi_rows.specs.declared.expected.Accessed.{Accessed}
use Rattle.rvfi_rows.specs.declared.expected.Effects.{Effects}
use Rattle.rvfi_rows.specs.declared.expected.Expected.{Expected}
use Rattle.rvfi_rows.specs.declared.expected.Expected.TheVariants.{Halted, Retired}
use Rattle.row_origin.specs.declared.origins.TheConstants.{MOST_BYTES}
use Rattle.row_origin.specs.declared.sources.TheConstants.{REGISTERS}
use Rattle.row_origin.specs.Trails.{RowFacts}

-- what the row's instruction did: nothing where it took a synchronous trap, or where the hart had halted
abbrev pub effects_in : Result Effects Cause → Option Effects
effects_in (Err cause) = None
effects_in (Ok effects) = Some effects

abbrev pub effects_of : Expected → Option Effects
effects_of Halted = None
effects_of (Retired retired) = effects_in retired.effects

-- a register that keeps what is written to it: x1 to x31
abbrev pub is_kept : ℕ → Bool
is_kept number = nat_le 1 number && nat_lt number REGISTERS

-- the register that an instruction wrote, 0 where it wrote none
abbrev pub rd_of : Option Effects → ℕ
rd_of None = 0
rd_of (Some effects) = effects.rd

abbrev pub register_written : Expected → ℕ
register_written expected = rd_of (effects_of expected)

abbrev pub writes_register : ℕ → ℕ → RowFacts → Bool
writes_register hart number facts =
    is_kept number && (facts.hart == hart) && (register_written facts.expected == number)

abbrev pub is_written : List Write → ℕ → Bool
is_written wrote address = list_any (λ write. is_within write.pa write.len address) wrote

abbrev pub writes_byte : ℕ → RowFacts → Bool
writes_byte address facts = is_written facts.wrote address

-- the registers that an instruction read, rs1 first, once where both are one
abbrev pub registers_read : Option Effects → List ℕ
registers_read None = []
registers_read (Some effects) = effects.rs1 ∷ (if effects.rs2 == effects.rs1 then [] else effects.rs2 ∷ [])

abbrev pub sources_of : Expected → List ℕ
sources_of expected = filter is_kept (registers_read (effects_of expected))

-- the data access that read a value
abbrev pub load_in : Option Accessed → Option Accessed
load_in None = None
load_in (Some access) = if is_some access.read then Some access else None

abbrev pub load_of : Option Effects → Option Accessed
load_of None = None
load_of (Some effects) = load_in effects.access

-- how many bytes of an access lie in the page of its first
abbrev pub first_len : ℕ → ℕ → ℕ
first_len va len = min len (PAGE_SIZE - va % PAGE_SIZE)

-- what was read last is an access in one part, whose bytes lie in one page
abbrev pub one_part : Accessed → List Read → List Read
one_part access (read ∷ []) = if (read.pa == access.pa) && (read.len == access.len) then read ∷ [] else []
one_part access reads = []

-- its two parts, the one with the lower addresses first
abbrev pub in_order : Read → Read → List Read
in_order first second = if nat_le first.pa second.pa then first ∷ second ∷ [] else second ∷ first ∷ []

-- or it is an access in two parts, whose bytes lie in two pages
abbrev pub two_parts : Accessed → ℕ → List Read → List Read
two_parts access len (first ∷ second ∷ []) =
    if (first.pa == access.pa) && (first.len == len) && (second.len == access.len - len)
    then in_order first second
    else []
two_parts access len reads = []

-- so many reads at the end
abbrev pub last_reads : ℕ → List Read → List Read
last_reads count reads = drop (length reads - count) reads

-- what an access read from RAM: a device has no bytes there, and no access has more than 8
abbrev pub parts_of : Accessed → List Read → List Read
parts_of access reads =
    if nat_lt MOST_BYTES access.len
    then []
    else (if first_len access.va access.len == access.len
    then one_part access (last_reads 1 reads)
    else two_parts access (first_len access.va access.len) (last_reads 2 reads))

abbrev pub parts_in : Option Accessed → List Read → List Read
parts_in None reads = []
parts_in (Some access) reads = parts_of access reads

-- of all that a step read, what its data access read from RAM: a data access reads last
abbrev pub loaded_by : Expected → List Read → List Read
loaded_by expected reads = parts_in (load_of (effects_of expected)) reads

-- the addresses of so many bytes from one on
unfoldable pub addresses_from : ℕ → ℕ → List ℕ
addresses_from pa zero = []
addresses_from pa (suc len) = pa ∷ addresses_from (pa + 1) len

abbrev pub addresses_of : List Read → List ℕ
addresses_of reads = flat_map (λ read. addresses_from read.pa read.len) reads

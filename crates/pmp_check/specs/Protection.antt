-- Physical memory protection, from the Privileged Architecture's chapter "Machine-Level ISA". An address register
-- holds bits 55:2 of an address.
use Rattle.std.specs.Prelude.{ℕ, ◌+◌, ◌-◌, ◌*◌, ◌/◌, ◌%◌, ◌^◌, min, max, Bool, true, false, ◌&&◌, ◌==◌, nat_le, nat_lt}
use Rattle.std.specs.Prelude.{if◌then◌else◌, List, [], ◌∷◌}
use Rattle.std.specs.Int.{w64, trailing_ones}
use Rattle.hart_words.specs.declared.privilege.Mode.{Mode}
use Rattle.hart_words.specs.declared.privilege.Mode.TheVariants.{User, Supervisor, Machine}
use Rattle.hart_words.specs.declared.privilege.Access.{Access}
use Rattle.hart_words.specs.declared.privilege.Access.TheVariants.{Fetch, Load, Store}
use Rattle.hart_words.specs.declared.privilege.PmpEntry.{PmpEntry}
use Rattle.pmp_check.specs.declared.check.TheConstants.{R, W, X, L}
use Rattle.pmp_check.specs.declared.region.TheConstants.{A}
use Rattle.pmp_check.specs.declared.region.Matching.{Matching}
use Rattle.pmp_check.specs.declared.region.Matching.TheVariants.{Off, TopOfRange, FourBytes, PowerOfTwo}
use Rattle.pmp_check.specs.declared.region.Region.{Region}

-- the field A of a configuration byte, two bits
abbrev pub matching_of : ℕ → Matching
matching_of cfg =
    let field = cfg / 2 ^ A % 4 in
    if field == 0 then Off else if field == 1 then TopOfRange else if field == 2 then FourBytes else PowerOfTwo

-- what an address register with so many trailing ones covers in NAPOT: 8 bytes with none, twice as many with each
abbrev pub power_region : ℕ → ℕ → Region
power_region addr ones =
    let first = 4 * (addr - (2 ^ ones - 1)) in record { first = first; past = first + 2 ^ (ones + 3) }

-- what an address register covers; `before` is the address register of the entry before, 0 for the first
abbrev pub region_by_matching : Matching → ℕ → ℕ → Region
region_by_matching Off before addr = record { first = 0; past = 0 }
region_by_matching TopOfRange before addr = record { first = 4 * before; past = 4 * addr }
region_by_matching FourBytes before addr = record { first = 4 * addr; past = 4 * addr + 4 }
region_by_matching PowerOfTwo before addr = power_region addr (trailing_ones w64 addr)

-- what an entry covers
unfoldable pub region_of : ℕ → PmpEntry → Region
region_of before entry = region_by_matching (matching_of entry.cfg) before entry.addr

-- some byte of the access lies in the region
abbrev pub covers_some : Region → ℕ → ℕ → Bool
covers_some region pa len = nat_lt (max region.first pa) (min region.past (pa + len))

-- every byte of the access lies in the region
abbrev pub covers_all : Region → ℕ → ℕ → Bool
covers_all region pa len = nat_le region.first pa && nat_le (pa + len) region.past

-- the configuration byte has the bit R, W or X that the access needs
abbrev pub permits : ℕ → Access → Bool
permits cfg Load = cfg / 2 ^ R % 2 == 1
permits cfg Store = cfg / 2 ^ W % 2 == 1
permits cfg Fetch = cfg / 2 ^ X % 2 == 1

-- the entry that decides lets the mode pass: M is bound by it only where its bit L is set
unfoldable pub entry_permits : ℕ → Mode → Access → Bool
entry_permits cfg Machine access = if cfg / 2 ^ L % 2 == 0 then true else permits cfg access
entry_permits cfg Supervisor access = permits cfg access
entry_permits cfg User access = permits cfg access

-- where no entry covers any byte, M alone has access
abbrev pub is_machine : Mode → Bool
is_machine Machine = true
is_machine Supervisor = false
is_machine User = false

-- by the entries after one with the address register `before`: the first that covers any byte decides
unfoldable pub is_allowed_after : ℕ → List PmpEntry → Mode → ℕ → ℕ → Access → Bool
is_allowed_after before [] mode pa len access = is_machine mode
is_allowed_after before (entry ∷ entries) mode pa len access =
    let region = region_of before entry in
    if covers_some region pa len
    then covers_all region pa len && entry_permits entry.cfg mode access
    else is_allowed_after entry.addr entries mode pa len access

-- an access of so many bytes from an address on is allowed; it always is where there are no entries
unfoldable pub is_allowed : List PmpEntry → Mode → ℕ → ℕ → Access → Bool
is_allowed [] mode pa len access = true
is_allowed (entry ∷ entries) mode pa len access = is_allowed_after 0 (entry ∷ entries) mode pa len access

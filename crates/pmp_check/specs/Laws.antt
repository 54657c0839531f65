-- What the check amounts to, byte by byte, from the Privileged Architecture's chapter "Machine-Level ISA".
use Rattle.std.specs.Prelude.{◌≡◌, ℕ, ◌+◌, ◌<◌, ◌≤◌, ◌↔◌, ◌⊎◌, List, [], All, length, IsTrue, false}
use Rattle.hart_words.specs.declared.privilege.Mode.{Mode}
use Rattle.hart_words.specs.declared.privilege.Mode.TheVariants.{User, Supervisor, Machine}
use Rattle.hart_words.specs.declared.privilege.Access.{Access}
use Rattle.hart_words.specs.declared.privilege.PmpEntry.{PmpEntry}
use Rattle.pmp_check.specs.declared.region.Region.{Region}
use Rattle.pmp_check.specs.Protection.{covers_all, covers_some, is_allowed, is_machine, entry_permits, region_of}
use Rattle.pmp_check.specs.Covering.{Covers, CoversAt, Decides, EachByte, IsIn, IsRegister, NoneCovers, SomeByte}
use Rattle.pmp_check.specs.Covering.{entry_at}

-- the region of an entry has just the bytes that the entry covers
abbrev pub HasJustCovered : ℕ → PmpEntry → ℕ → Type 0
HasJustCovered before entry a = IsRegister entry → (IsIn (region_of before entry) a ↔ Covers before entry a)

-- one comparison with a region is of some byte of an access, the other of every byte
abbrev pub ComparesSome : Region → ℕ → ℕ → Type 0
ComparesSome region pa len = IsTrue (covers_some region pa len) ↔ SomeByte pa len (IsIn region)

abbrev pub ComparesEach : Region → ℕ → ℕ → Type 0
ComparesEach region pa len = 1 ≤ len → (IsTrue (covers_all region pa len) ↔ EachByte pa len (IsIn region))

-- the least entry that covers any byte decides by what it permits, where it covers every byte
abbrev pub LeastDecides : List PmpEntry → ℕ → Mode → ℕ → ℕ → Access → Type 0
LeastDecides entries i mode pa len access =
    All IsRegister entries → i < length entries → Decides entries i pa len → EachByte pa len (CoversAt entries i)
    → is_allowed entries mode pa len access ≡ entry_permits (entry_at entries i).cfg mode access

-- it refuses where there is a byte that it does not cover
abbrev pub LeastRefusesPart : List PmpEntry → ℕ → Mode → ℕ → ℕ → Access → Type 0
LeastRefusesPart entries i mode pa len access =
    All IsRegister entries → i < length entries → Decides entries i pa len
    → SomeByte pa len (λ a. CoversAt entries i a → ⊥) → is_allowed entries mode pa len access ≡ false

-- without entries every access is allowed
abbrev pub NoEntryAllowsAll : Mode → ℕ → ℕ → Access → Type 0
NoEntryAllowsAll mode pa len access = IsTrue (is_allowed [] mode pa len access)

-- where there are entries, and none covers any byte, M alone has access
abbrev pub NoneLeavesMachine : List PmpEntry → Mode → ℕ → ℕ → Access → Type 0
NoneLeavesMachine entries mode pa len access =
    0 < length entries → All IsRegister entries → NoneCovers entries pa len
    → is_allowed entries mode pa len access ≡ is_machine mode

-- an entry is the least that covers any byte of an access, covers every byte of it, and permits it
pub record PermitsAccess (entries : List PmpEntry) (mode : Mode) (pa len : ℕ) (access : Access) : Type 0 where
  pub number : ℕ
  pub exists : number < length entries
  pub decides : Decides entries number pa len
  pub covers : EachByte pa len (CoversAt entries number)
  pub permits : IsTrue (entry_permits (entry_at entries number).cfg mode access)

-- an entry grants the access, or it is M's and no entry covers a byte of it, or there are no entries
abbrev pub IsPermitted : List PmpEntry → Mode → ℕ → ℕ → Access → Type 0
IsPermitted entries mode pa len access =
    PermitsAccess entries mode pa len access ⊎ (((mode ≡ Machine) × NoneCovers entries pa len) ⊎ (entries ≡ []))

-- the check allows what is granted, and nothing else
abbrev pub AllowsJustPermitted : List PmpEntry → Mode → ℕ → ℕ → Access → Type 0
AllowsJustPermitted entries mode pa len access =
    All IsRegister entries → (IsTrue (is_allowed entries mode pa len access) ↔ IsPermitted entries mode pa len access)

-- what is allowed is allowed in each of its parts
abbrev pub AllowsParts : List PmpEntry → Mode → ℕ → ℕ → Access → Type 0
AllowsParts entries mode pa len access =
    IsTrue (is_allowed entries mode pa len access)
    → (part count : ℕ) → pa ≤ part → 1 ≤ count → part + count ≤ pa + len
    → IsTrue (is_allowed entries mode part count access)

-- S and U are allowed the same
abbrev pub AllowsBothAlike : List PmpEntry → ℕ → ℕ → Access → Type 0
AllowsBothAlike entries pa len access =
    is_allowed entries User pa len access ≡ is_allowed entries Supervisor pa len access

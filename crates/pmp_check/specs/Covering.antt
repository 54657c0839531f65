-- Which bytes the entries cover, one byte at a time, as the Privileged Architecture's chapter "Machine-Level ISA"
-- has it.
use Rattle.std.specs.Prelude.{◌≡◌, ℕ, zero, suc, ◌+◌, ◌-◌, ◌*◌, ◌/◌, ◌%◌, ◌^◌, ◌<◌, ◌≤◌, List, slice_index_or, length}
use Rattle.hart_words.specs.declared.privilege.PmpEntry.{PmpEntry}
use Rattle.pmp_check.specs.declared.region.Matching.{Matching}
use Rattle.pmp_check.specs.declared.region.Matching.TheVariants.{Off, TopOfRange, FourBytes, PowerOfTwo}
use Rattle.pmp_check.specs.declared.region.Region.{Region}
use Rattle.pmp_check.specs.Protection.{matching_of}

-- NAPOT: an address register yy..y01..1 with so many ones covers the naturally aligned bytes whose higher bits are
-- yy..y
pub record IsInBlock (addr a : ℕ) : Type 0 where
  pub ones : ℕ
  pub ends : addr % 2 ^ (ones + 1) ≡ 2 ^ ones - 1
  pub block : a / 2 ^ (ones + 3) ≡ addr / 2 ^ (ones + 1)

-- OFF covers no byte, TOR those from one address up to another, NA4 those of four naturally aligned bytes
abbrev pub CoversAs : Matching → ℕ → ℕ → ℕ → Type 0
CoversAs Off before addr a = ⊥
CoversAs TopOfRange before addr a = (4 * before ≤ a) × (a < 4 * addr)
CoversAs FourBytes before addr a = a / 4 ≡ addr
CoversAs PowerOfTwo before addr a = IsInBlock addr a

-- the entry covers the byte, where `before` is the address register of the entry before it
abbrev pub Covers : ℕ → PmpEntry → ℕ → Type 0
Covers before entry a = CoversAs (matching_of entry.cfg) before entry.addr a

-- the byte is one of a region
abbrev pub IsIn : Region → ℕ → Type 0
IsIn region a = (region.first ≤ a) × (a < region.past)

-- something holds of some byte of an access
pub record SomeByte (pa len : ℕ) (P : ℕ → Type 0) : Type 0 where
  pub a : ℕ
  pub low : pa ≤ a
  pub high : a < pa + len
  pub holds : P a

-- something holds of every byte of an access
abbrev pub EachByte : ℕ → ℕ → (ℕ → Type 0) → Type 0
EachByte pa len P = (a : ℕ) → pa ≤ a → a < pa + len → P a

-- the entry at a place
abbrev pub entry_at : List PmpEntry → ℕ → PmpEntry
entry_at entries i = slice_index_or entries i (record { cfg = 0; addr = 0 })

-- the address register of the entry before a place, the given one before the first
abbrev pub register_before : ℕ → List PmpEntry → ℕ → ℕ
register_before first entries zero = first
register_before first entries (suc i) = (entry_at entries i).addr

-- the entry at a place covers a byte; TOR starts at 0 in the first
abbrev pub CoversAt : List PmpEntry → ℕ → ℕ → Type 0
CoversAt entries i a = Covers (register_before 0 entries i) (entry_at entries i) a

-- an address register has 64 bits
abbrev pub IsRegister : PmpEntry → Type 0
IsRegister entry = entry.addr < 2 ^ 64

-- the entry at a place is the least that covers any byte of an access
pub record Decides (entries : List PmpEntry) (i pa len : ℕ) : Type 0 where
  pub touches : SomeByte pa len (CoversAt entries i)
  pub least : (j : ℕ) → j < i → SomeByte pa len (CoversAt entries j) → ⊥

-- no entry covers a byte of an access
abbrev pub NoneCovers : List PmpEntry → ℕ → ℕ → Type 0
NoneCovers entries pa len = (i : ℕ) → i < length entries → SomeByte pa len (CoversAt entries i) → ⊥

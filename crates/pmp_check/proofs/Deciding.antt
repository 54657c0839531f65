-- The first entry that covers any byte decides.
use Rattle.std.proofs.Common.{◌≡◌, ℕ, zero, suc, ◌<◌, ◌≤◌, Bool, true, false, ◌&&◌, List, [], ◌∷◌, length, refl, ◌∙◌}
use Rattle.std.proofs.Common.{ap, subst, arith}
use Rattle.std.specs.Prelude.{All}
use Rattle.std.proofs.lemmas.Bool.{cond-true, cond-false, false_from_ne_true}
use Rattle.hart_words.specs.declared.privilege.Mode.{Mode}
use Rattle.hart_words.specs.declared.privilege.Access.{Access}
use Rattle.hart_words.specs.declared.privilege.PmpEntry.{PmpEntry}
use Rattle.pmp_check.specs.declared.region.Region.{Region}
use Rattle.pmp_check.specs.Protection.{region_of, covers_some, covers_all, entry_permits, is_machine, is_allowed_after}
use Rattle.pmp_check.specs.Protection.{is_allowed}
use Rattle.pmp_check.specs.Covering.{Covers, Decides, IsRegister, SomeByte, entry_at}
use Rattle.pmp_check.specs.Covering.{register_before}
use Rattle.pmp_check.specs.Laws.{LeastDecides, LeastRefusesPart, NoEntryAllowsAll, NoneLeavesMachine}
use Rattle.pmp_check.proofs.Covering.{region_of-Covers, some_byte, each_byte}

-- the entry at a place of a list that comes after an entry with the address register `first`
abbrev pub CoversFrom : ℕ → List PmpEntry → ℕ → ℕ → Type 0
CoversFrom first entries i a = Covers (register_before first entries i) (entry_at entries i) a

abbrev pub Touches : ℕ → List PmpEntry → ℕ → ℕ → ℕ → Type 0
Touches first entries i pa len = SomeByte pa len (CoversFrom first entries i)

pub SomeByte-map : {P Q : ℕ → Type 0} (pa len : ℕ) → ((a : ℕ) → P a → Q a) → SomeByte pa len P → SomeByte pa len Q
SomeByte-map pa len f byte = record { a = byte.a; low = byte.low; high = byte.high; holds = f byte.a byte.holds }

pub accesses : (before : ℕ) (entry : PmpEntry) (pa len : ℕ) → IsRegister entry → SomeByte pa len (Covers before entry)
    → covers_some (region_of before entry) pa len ≡ true
accesses before entry pa len h byte =
    (some_byte (region_of before entry) pa len).1
    (SomeByte-map pa len (λ a. (region_of-Covers before entry a h).1) byte)

untouched : (before : ℕ) (entry : PmpEntry) (pa len : ℕ) → IsRegister entry
    → (SomeByte pa len (Covers before entry) → ⊥) → covers_some (region_of before entry) pa len ≡ false
untouched before entry pa len h not_one =
    false_from_ne_true (covers_some (region_of before entry) pa len)
    (λ e. not_one
    (SomeByte-map pa len (λ a. (region_of-Covers before entry a h).0)
    ((some_byte (region_of before entry) pa len).0 e)))

-- the entries after the first, at their places in the whole list
before_shift : (first : ℕ) (entry : PmpEntry) (entries : List PmpEntry) (i : ℕ)
    → register_before entry.addr entries i ≡ register_before first (entry ∷ entries) (suc i)
before_shift first entry entries zero = refl
before_shift first entry entries (suc i) = refl

pub shift : (first : ℕ) (entry : PmpEntry) (entries : List PmpEntry) (i pa len : ℕ)
    → Touches entry.addr entries i pa len → Touches first (entry ∷ entries) (suc i) pa len
shift first entry entries i pa len =
    subst (λ (b : ℕ). Touches entry.addr entries i pa len → SomeByte pa len (Covers b (entry_at entries i)))
    (before_shift first entry entries i) (λ byte. byte)

pub unshift : (first : ℕ) (entry : PmpEntry) (entries : List PmpEntry) (i pa len : ℕ)
    → Touches first (entry ∷ entries) (suc i) pa len → Touches entry.addr entries i pa len
unshift first entry entries i pa len =
    subst (λ (b : ℕ). SomeByte pa len (Covers b (entry_at entries i)) → Touches entry.addr entries i pa len)
    (before_shift first entry entries i) (λ byte. byte)

-- an entry of the list has a register
pub register_at : (entries : List PmpEntry) (i : ℕ) → All IsRegister entries → i < length entries
    → IsRegister (entry_at entries i)
register_at entries i h below = h i (record { cfg = 0; addr = 0 }) below

pub head : (entry : PmpEntry) (entries : List PmpEntry) → All IsRegister (entry ∷ entries) → IsRegister entry
head entry entries h = h 0 entry (omega arith)

pub tail : (entry : PmpEntry) (entries : List PmpEntry) → All IsRegister (entry ∷ entries) → All IsRegister entries
tail entry entries h = λ k d below. h (suc k) d (omega arith)

pub after_none : (first : ℕ) (entries : List PmpEntry) (mode : Mode) (pa len : ℕ) (access : Access)
    → All IsRegister entries → ((i : ℕ) → i < length entries → Touches first entries i pa len → ⊥)
    → is_allowed_after first entries mode pa len access ≡ is_machine mode
unfolding is_allowed_after
after_none first [] mode pa len access h none = refl
after_none first (entry ∷ entries) mode pa len access h none =
    cond-false (covers_some (region_of first entry) pa len)
    (covers_all (region_of first entry) pa len && entry_permits entry.cfg mode access)
    (is_allowed_after entry.addr entries mode pa len access)
    (untouched first entry pa len (head entry entries h) (none 0 (omega arith)))
    ∙ after_none entry.addr entries mode pa len access (tail entry entries h)
    (λ i below byte. none (suc i) (omega arith) (shift first entry entries i pa len byte))

-- the answer of the entry at a place
answer : ℕ → List PmpEntry → ℕ → Mode → ℕ → ℕ → Access → Bool
answer first entries i mode pa len access =
    covers_all (region_of (register_before first entries i) (entry_at entries i)) pa len
    && entry_permits (entry_at entries i).cfg mode access

-- the entry at a place is the first that touches an access
record IsFirst (first : ℕ) (entries : List PmpEntry) (i pa len : ℕ) : Type 0 where
  pub exists : i < length entries
  pub touches : Touches first entries i pa len
  pub least : (j : ℕ) → j < i → Touches first entries j pa len → ⊥

-- so it is among the entries after the first of all
first_later : {first : ℕ} {entry : PmpEntry} {entries : List PmpEntry} {i pa len : ℕ}
    → IsFirst first (entry ∷ entries) (suc i) pa len → IsFirst entry.addr entries i pa len
first_later {first} {entry} {entries} {i} {pa} {len} found = record {
  exists = omega (arith, found.exists);
  touches = unshift first entry entries i pa len found.touches;
  least = λ j lower byte. found.least (suc j) (omega arith) (shift first entry entries j pa len byte);
}

after_least : {first : ℕ} (entries : List PmpEntry) (i : ℕ) (mode : Mode) {pa len : ℕ} (access : Access)
    → All IsRegister entries → IsFirst first entries i pa len
    → is_allowed_after first entries mode pa len access ≡ answer first entries i mode pa len access
unfolding is_allowed_after answer
after_least [] i mode access h found = absurd (omega (arith, found.exists))
after_least {first} (entry ∷ entries) zero mode {pa} {len} access h found =
    cond-true (covers_some (region_of first entry) pa len)
    (covers_all (region_of first entry) pa len && entry_permits entry.cfg mode access)
    (is_allowed_after entry.addr entries mode pa len access)
    (accesses first entry pa len (head entry entries h) found.touches)
after_least {first} (entry ∷ entries) (suc i) mode {pa} {len} access h found =
    cond-false (covers_some (region_of first entry) pa len)
    (covers_all (region_of first entry) pa len && entry_permits entry.cfg mode access)
    (is_allowed_after entry.addr entries mode pa len access)
    (untouched first entry pa len (head entry entries h) (found.least 0 (omega arith)))
    ∙ after_least entries i mode access (tail entry entries h) (first_later found)
    ∙ ap (λ b. covers_all (region_of b (entry_at entries i)) pa len
    && entry_permits (entry_at entries i).cfg mode access) (before_shift first entry entries i)

pub none_decides : (entries : List PmpEntry) (mode : Mode) (pa len : ℕ) (access : Access)
    → NoneLeavesMachine entries mode pa len access
unfolding is_allowed
none_decides [] mode pa len access there h none = absurd (omega (arith, there))
none_decides (entry ∷ entries) mode pa len access there h none =
    after_none 0 (entry ∷ entries) mode pa len access h none

-- without entries every access is allowed
pub no_entry_allows : (mode : Mode) (pa len : ℕ) (access : Access) → NoEntryAllowsAll mode pa len access
unfolding is_allowed
no_entry_allows mode pa len access = refl

pub some_is : (pa len : ℕ) {P : ℕ → Type 0} → SomeByte pa len P → 1 ≤ len
some_is pa len byte = omega (arith, byte.low, byte.high)

-- the least entry decides, whether it covers every byte or not
pub least_decides : {entries : List PmpEntry} {i : ℕ} (mode : Mode) {pa len : ℕ} (access : Access)
    → All IsRegister entries → i < length entries → Decides entries i pa len
    → is_allowed entries mode pa len access
    ≡ (covers_all (region_of (register_before 0 entries i) (entry_at entries i)) pa len
    && entry_permits (entry_at entries i).cfg mode access)
unfolding is_allowed answer
least_decides {entries = []} {i} mode access h below decides = absurd (omega (arith, below))
least_decides {entries = entry ∷ entries} {i} mode access h below decides =
    after_least (entry ∷ entries) i mode access h
    (record { exists = below; touches = decides.touches; least = decides.least })

pub whole_decides : (entries : List PmpEntry) (i : ℕ) (mode : Mode) (pa len : ℕ) (access : Access)
    → LeastDecides entries i mode pa len access
whole_decides entries i mode pa len access h below decides each =
    let region : Region = region_of (register_before 0 entries i) (entry_at entries i) in
    let all : covers_all region pa len ≡ true =
    (each_byte region pa len (some_is pa len decides.touches)).1
    (λ a low high.
    (region_of-Covers (register_before 0 entries i) (entry_at entries i) a (register_at entries i h below)).1
    (each a low high)) in
    least_decides mode access h below decides
    ∙ ap (λ b. b && entry_permits (entry_at entries i).cfg mode access) all

pub part_decides : (entries : List PmpEntry) (i : ℕ) (mode : Mode) (pa len : ℕ) (access : Access)
    → LeastRefusesPart entries i mode pa len access
part_decides entries i mode pa len access h below decides outside =
    let region : Region = region_of (register_before 0 entries i) (entry_at entries i) in
    let not_all : covers_all region pa len ≡ false =
    false_from_ne_true (covers_all region pa len)
    (λ e. outside.holds
    ((region_of-Covers (register_before 0 entries i) (entry_at entries i) outside.a
    (register_at entries i h below)).0
    ((each_byte region pa len (some_is pa len decides.touches)).0 e outside.a outside.low outside.high))) in
    least_decides mode access h below decides
    ∙ ap (λ b. b && entry_permits (entry_at entries i).cfg mode access) not_all

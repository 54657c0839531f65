-- What a footprint has after a block was noted.
use Rattle.std.proofs.Common.{◌≡◌, inl, inr, ℕ, ◌+◌, ◌/◌, ◌%◌, ◌<◌, Bool, true, false, cond, ◌==◌, ◌&&◌, ◌||◌, Option}
use Rattle.std.proofs.Common.{Some, None, unwrap_or, is_some, [], ◌≢◌, refl, ap, ◌∙◌, sym, arith}
use Rattle.std.specs.Prelude.{not, nat_eq, nat_lt, nat_le, Result, Ok, Err, OnErr}
use Rattle.std.specs.HashMap.{get}
use Rattle.std.proofs.lemmas.Bool.{eq-eqb, ne_eqb, lt-ltb, le-ltb, ltb-true, ltb-false}
use Rattle.std.proofs.lemmas.Bool.Decides.{eqb_tells}
use Rattle.hart_words.specs.Memory.{is_within}
use Rattle.read_footprint.specs.declared.block.Block.{Block}
use Rattle.read_footprint.specs.declared.footprint.Footprint.{Footprint}
use Rattle.read_footprint.specs.Bits.{has_bit}
use Rattle.read_footprint.specs.Sets.{IsAsBefore, NotesBlock, footprint_block_at, has_read, has_written}
use Rattle.read_footprint.proofs.Bits.{none_has}

abbrev pub nothing : Block
nothing = record { read = 0; wrote = 0 }

pub or_false : (b : Bool) → (b || false) ≡ b
or_false true = refl
or_false false = refl

-- a block followed by another
pub record Follows (old later new : Block) : Type 0 where
  pub read : (place : ℕ) → place < 64
      → has_bit new.read place ≡ (has_bit old.read place || (has_bit later.read place && not (has_bit old.wrote place)))
  pub wrote : (place : ℕ) → has_bit new.wrote place ≡ (has_bit old.wrote place || has_bit later.wrote place)

-- the first that is noted of a block
pub first_follows : (later : Block) → Follows (record { read = 0; wrote = 0 }) later later
first_follows later = record {
  read = λ place inside. rw (none_has place) (sym (and_true (has_bit later.read place)));
  wrote = λ place. rw (none_has place) refl;
}
  where
    and_true : (b : Bool) → (b && true) ≡ b
    and_true true = refl
    and_true false = refl

block_after : (test : Bool) (new : Block) (entry : Option Block) (other : Block)
    → unwrap_or (cond test (Some new) entry) other ≡ cond test new (unwrap_or entry other)
block_after true new entry other = refl
block_after false new entry other = refl

-- a footprint has a new block in place of an old one, and each other block as before
pub record Replaces (number : ℕ) (old new : Block) (before after : Footprint) : Type 0 where
  pub was : footprint_block_at before number ≡ old
  pub sets : (q : ℕ) → get nat_eq after.blocks q ≡ cond (nat_eq number q) (Some new) (get nat_eq before.blocks q)

-- what it has of that block, and of any other
block_now : {number : ℕ} {old new : Block} {before after : Footprint} → Replaces number old new before after
    → (q : ℕ) (test : Bool) → nat_eq number q ≡ test
    → footprint_block_at after q ≡ cond test new (footprint_block_at before q)
block_now {number} {new = new} {before} replaces q test is =
    ap (λ entry. unwrap_or entry nothing) (replaces.sets q)
    ∙ block_after (nat_eq number q) new (get nat_eq before.blocks q) nothing
    ∙ ap (λ t. cond t new (footprint_block_at before q)) is

inside : (address : ℕ) → address % 64 < 64
inside address = omega arith

read_noted : {number : ℕ} {old later new : Block} {before after : Footprint} (address : ℕ)
    → Replaces number old new before after → Follows old later new
    → has_read after address
    ≡ (has_read before address
    || ((address / 64 == number) && has_bit later.read (address % 64) && not (has_written before address)))
unfolding has_read has_written
read_noted {number} {old} {later} {before = before} address replaces follows = elim (eqb_tells number (address / 64)) [
  | inl same ↦
      let place = address % 64 in
      let here : footprint_block_at before (address / 64) ≡ old =
      ap (footprint_block_at before) (sym same.1) ∙ replaces.was in
      ap (λ block. has_bit block.read place) (block_now replaces (address / 64) true same.0)
      ∙ follows.read place (inside address)
      ∙ ap (λ block. has_bit block.read place || (has_bit later.read place && not (has_bit block.wrote place)))
      (sym here)
      ∙ ap (λ t. has_bit (footprint_block_at before (address / 64)).read place
      || (t && has_bit later.read place && not (has_bit (footprint_block_at before (address / 64)).wrote place)))
      (sym (eq-eqb (address / 64) number (sym same.1)))
  | inr apart ↦
      let place = address % 64 in
      ap (λ block. has_bit block.read place) (block_now replaces (address / 64) false apart.0)
      ∙ sym (or_false (has_bit (footprint_block_at before (address / 64)).read place))
      ∙ ap (λ t. has_bit (footprint_block_at before (address / 64)).read place
      || (t && has_bit later.read place && not (has_bit (footprint_block_at before (address / 64)).wrote place)))
      (sym (ne_eqb (address / 64) number (λ e. apart.1 (sym e))))
]

wrote_noted : {number : ℕ} {old later new : Block} {before after : Footprint} (address : ℕ)
    → Replaces number old new before after → Follows old later new
    → has_written after address
    ≡ (has_written before address || ((address / 64 == number) && has_bit later.wrote (address % 64)))
unfolding has_read has_written
wrote_noted {number} {old} {later} {before = before} address replaces follows = elim (eqb_tells number (address / 64)) [
  | inl same ↦
      let place = address % 64 in
      let here : footprint_block_at before (address / 64) ≡ old =
      ap (footprint_block_at before) (sym same.1) ∙ replaces.was in
      ap (λ block. has_bit block.wrote place) (block_now replaces (address / 64) true same.0)
      ∙ follows.wrote place
      ∙ ap (λ block. has_bit block.wrote place || has_bit later.wrote place) (sym here)
      ∙ ap (λ t. has_bit (footprint_block_at before (address / 64)).wrote place || (t && has_bit later.wrote place))
      (sym (eq-eqb (address / 64) number (sym same.1)))
  | inr apart ↦
      let place = address % 64 in
      ap (λ block. has_bit block.wrote place) (block_now replaces (address / 64) false apart.0)
      ∙ sym (or_false (has_bit (footprint_block_at before (address / 64)).wrote place))
      ∙ ap (λ t. has_bit (footprint_block_at before (address / 64)).wrote place || (t && has_bit later.wrote place))
      (sym (ne_eqb (address / 64) number (λ e. apart.1 (sym e))))
]

pub noted : {number : ℕ} {old later new : Block} {before after : Footprint} → Replaces number old new before after
    → Follows old later new → NotesBlock number later before after
noted replaces follows = record {
  read = λ address. read_noted address replaces follows;
  wrote = λ address. wrote_noted address replaces follows;
}

pub block_found : (footprint : Footprint) (number : ℕ) (old : Block) → get nat_eq footprint.blocks number ≡ Some old
    → footprint_block_at footprint number ≡ old
block_found footprint number old is = ap (λ entry. unwrap_or entry nothing) is

absent_is : (entry : Option Block) → is_some entry ≡ false
    → unwrap_or entry (record { read = 0; wrote = 0 }) ≡ record { read = 0; wrote = 0 }
absent_is None absent = refl
absent_is (Some block) absent = cc

-- the first that is noted of a block, in a footprint with the sets of an earlier one
pub noted_first : (before middle after : Footprint) (number : ℕ) (later : Block) → IsAsBefore before middle
    → is_some (get nat_eq middle.blocks number) ≡ false
    → ((q : ℕ) → get nat_eq after.blocks q ≡ cond (nat_eq number q) (Some later) (get nat_eq middle.blocks q))
    → NotesBlock number later before after
noted_first before middle after number later same absent sets =
    let replaces : Replaces number nothing later middle after = record { was = absent_is _ absent; sets = sets } in
    let from = noted replaces (first_follows later) in
    record {
      read = λ address. rw (← same.read address, ← same.wrote address) (from.read address);
      wrote = λ address. rw (← same.wrote address) (from.wrote address);
    }

-- a footprint with the same blocks
pub same_blocks : (before after : Footprint) → after.blocks.entries ≡ before.blocks.entries → IsAsBefore before after
unfolding has_read has_written
same_blocks before after same = record {
  read = λ address. rw same refl;
  wrote = λ address. rw same refl;
}

pub same_found : (before after : Footprint) → ((q : ℕ) → get nat_eq after.blocks q ≡ get nat_eq before.blocks q)
    → IsAsBefore before after
unfolding has_read has_written
same_found before after same = record {
  read = λ address. ap (λ entry. has_bit (unwrap_or entry nothing).read (address % 64)) (same (address / 64));
  wrote = λ address. ap (λ entry. has_bit (unwrap_or entry nothing).wrote (address % 64)) (same (address / 64));
}

-- an empty footprint
pub none_read : (footprint : Footprint) → footprint.blocks.entries ≡ [] → (address : ℕ)
    → has_read footprint address ≡ false
unfolding has_read
none_read footprint empty address = rw empty (none_has (address % 64))

pub none_written : (footprint : Footprint) → footprint.blocks.entries ≡ [] → (address : ℕ)
    → has_written footprint address ≡ false
unfolding has_written
none_written footprint empty address = rw empty (none_has (address % 64))

-- an address below the next number is below this one, unless it is at it
pub still_below : (block number : ℕ) → block ≢ number → nat_lt block (number + 1) ≡ nat_lt block number
still_below block number apart = by (nat_lt block number) refl
  where
    by : (test : Bool) → nat_lt block number ≡ test → nat_lt block (number + 1) ≡ nat_lt block number
    by true below = lt-ltb block (number + 1) (omega (arith, ltb-true block number below)) ∙ sym below
    by false above = le-ltb block (number + 1) (omega (arith, ltb-false block number above, apart)) ∙ sym above

-- one block more of those that an access touches
pub one_more : (number block : ℕ) (had within clear bit : Bool) → (block ≡ number → bit ≡ within)
    → ((had || (within && nat_lt block number && clear)) || ((block == number) && bit && clear))
    ≡ (had || (within && nat_lt block (number + 1) && clear))
one_more number block had within clear bit is = elim (eqb_tells block number) [
  | inl same ↦
      rw (
        is same.1,
        le-ltb block number (omega (arith, same.1)),
        lt-ltb block (number + 1) (omega (arith, same.1)),
        same.0,
      )
      (here had within clear)
  | inr apart ↦ rw (still_below block number apart.1, apart.0) (or_false _)
]
  where
    here : (had within clear : Bool)
        → ((had || (within && false && clear)) || (true && within && clear)) ≡ (had || (within && true && clear))
    here true within clear = refl
    here false true clear = refl
    here false false clear = refl

and_true : (x y : Bool) → (x && y && true) ≡ (x && y)
and_true true true = refl
and_true true false = refl
and_true false y = refl

none_more_read : (had test clear : Bool) (bit : Bool) → bit ≡ false → (had || (test && bit && clear)) ≡ had
none_more_read had true clear bit none = rw none (or_false had)
none_more_read had false clear bit none = or_false had

none_more_written : (had test bit : Bool) → bit ≡ false → (had || (test && bit)) ≡ had
none_more_written had true bit none = rw none (or_false had)
none_more_written had false bit none = or_false had

-- the bits of a block are those of the bytes of an access
pub record AreBitsOf (pa len number bits : ℕ) : Type 0 where
  pub are : (address : ℕ) → address / 64 ≡ number → has_bit bits (address % 64) ≡ is_within pa len address

pub bits_up_to : {pa len end number bits : ℕ} → end ≡ pa + len
    → ((address : ℕ) → address / 64 ≡ number → has_bit bits (address % 64) ≡ (nat_le pa address && nat_lt address end))
    → AreBitsOf pa len number bits
bits_up_to {pa} is_end are = record {
  are = λ address here. are address here ∙ ap (λ e. nat_le pa address && nat_lt address e) is_end;
}

-- a block of a read was noted
pub read_more : {number bits pa len : ℕ} {now next : Footprint} (start : Footprint) (address : ℕ)
    → NotesBlock number (record { read = bits; wrote = 0 }) now next → AreBitsOf pa len number bits
    → has_read now address
    ≡ (has_read start address
    || (is_within pa len address && nat_lt (address / 64) number && not (has_written start address)))
    → has_written now address ≡ has_written start address
    → has_read next address
    ≡ (has_read start address
    || (is_within pa len address && nat_lt (address / 64) (number + 1) && not (has_written start address)))
read_more {number} {bits} {pa} {len} {now} start address notes bits_of had kept =
    notes.read address
    ∙ ap (λ h. h || ((address / 64 == number) && has_bit bits (address % 64) && not (has_written now address))) had
    ∙ ap (λ w. (has_read start address || (is_within pa len address && nat_lt (address / 64) number
    && not (has_written start address))) || ((address / 64 == number) && has_bit bits (address % 64) && not w)) kept
    ∙ one_more number (address / 64) (has_read start address) (is_within pa len address)
    (not (has_written start address)) (has_bit bits (address % 64)) (bits_of.are address)

pub written_same : (now next : Footprint) (number bits address : ℕ)
    → NotesBlock number (record { read = bits; wrote = 0 }) now next
    → has_written next address ≡ has_written now address
written_same now next number bits address notes =
    notes.wrote address ∙ none_more_written _ _ _ (none_has (address % 64))

pub read_same : (now next : Footprint) (number bits address : ℕ)
    → NotesBlock number (record { read = 0; wrote = bits }) now next → has_read next address ≡ has_read now address
read_same now next number bits address notes = notes.read address ∙ none_more_read _ _ _ _ (none_has (address % 64))

-- a block of a write was noted
pub written_more : {number bits pa len : ℕ} {now next : Footprint} (start : Footprint) (address : ℕ)
    → NotesBlock number (record { read = 0; wrote = bits }) now next → AreBitsOf pa len number bits
    → has_written now address
    ≡ (has_written start address || (is_within pa len address && nat_lt (address / 64) number))
    → has_written next address
    ≡ (has_written start address || (is_within pa len address && nat_lt (address / 64) (number + 1)))
written_more {number} {bits} {pa} {len} start address notes bits_of had =
    let had_been = has_written start address in
    let within = is_within pa len address in
    notes.wrote address
    ∙ ap (λ h. h || ((address / 64 == number) && has_bit bits (address % 64))) had
    ∙ ap (λ b. (had_been || b) || ((address / 64 == number) && has_bit bits (address % 64)))
    (sym (and_true within (nat_lt (address / 64) number)))
    ∙ ap (λ b. (had_been || (within && nat_lt (address / 64) number && true)) || b)
    (sym (and_true (address / 64 == number) (has_bit bits (address % 64))))
    ∙ one_more number (address / 64) had_been within true (has_bit bits (address % 64)) (bits_of.are address)
    ∙ ap (λ b. had_been || b) (and_true within (nat_lt (address / 64) (number + 1)))

pub on_err : {T E P : Type 0} (result : Result T E) → P → OnErr result P
on_err (Ok x) holds = tt
on_err (Err e) holds = holds

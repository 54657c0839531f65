-- The lines of memory that were read are those of the memory that they make.
use Rattle.std.proofs.Common.{◌≡◌, ℕ, zero, suc, ◌+◌, ◌-◌, ◌*◌, ◌<◌, ◌≤◌, Bool, true, false, List, [], ◌∷◌, ◌++◌, Ok}
use Rattle.std.proofs.Common.{length}
use Rattle.std.proofs.Common.{refl, sym, ap, subst, ◌∙◌, arith, get_or, map, ◌⊎◌, inl, inr}
use Rattle.std.specs.Prelude.{◌%◌, ◌/◌, if◌then◌else◌, slice_index, ◌==◌, ◌||◌, not}
use Rattle.std.specs.List.{concat, range_with_len, list_all}
use Rattle.std.proofs.lemmas.List.{same_lists, get_or_default}
use Rattle.std.proofs.lemmas.List.FromFn.{get_or-map-range_with_len, length-map-range_with_len}
use Rattle.std.proofs.lemmas.Bool.Decides.{nat_tests}
use Rattle.hart_words.specs.declared.span.Span.{Span}
use Rattle.hart_words.specs.Memory.{Bytes, is_within}
use Rattle.hart_words.specs.Spans.{holds_all}
use Rattle.hart_words.specs.Results.{◌>>=◌}
use Rattle.state_text.specs.declared.fault.FaultKind.TheVariants.{BadLine, OutsideRam}
use Rattle.state_text.specs.declared.memory.MemoryBlock.{MemoryBlock}
use Rattle.state_text.specs.Lines.{block_line, end_line}
use Rattle.state_text.specs.Reading.{Remaining, fault_at, is_next, after, choice_in, is_zero, is_no_block, guess_of_block}
use Rattle.state_text.specs.Reading.{block_in}
use Rattle.state_text.specs.Memory.{bytes_from, memory_lines, with_block, memory_end_in, memory_in}
use Rattle.state_text.proofs.Fronts.{next_stands, choice_stands, one_choice, then_read, not_refused, same_read}
use Rattle.state_text.proofs.Guesses.{guessed_fit}

-- what is known of a block that was read
pub record HasBlock (ram : Span) (least : ℕ) (left : Remaining) (block : MemoryBlock) (next : Remaining) : Type 0 where
  pub stands : left.text ≡ block_line block.address block.bytes ++ next.text
  pub len : length block.bytes ≡ 16
  pub some : is_zero block.bytes ≡ false
  pub whole : block.address % 16 ≡ 0
  pub rises : least ≤ block.address
  pub low : ram.base ≤ block.address
  pub high : block.address + 16 ≤ ram.base + ram.size

no_or : (a b : Bool) → (a || b) ≡ false → (a ≡ false) × (b ≡ false)
no_or true b h = absurd cc
no_or false b h = (refl, h)

not_not : (a : Bool) → not a ≡ false → a ≡ true
not_not true h = refl
not_not false h = absurd cc

abbrev line_of_block : MemoryBlock → List ℕ
line_of_block block = block_line block.address block.bytes

pub has_block : (ram : Span) (least : ℕ) (left : Remaining) (block : MemoryBlock) (next : Remaining)
    → block_in ram least left ≡ Ok (block, next) → HasBlock ram least left block next
unfolding block_in
has_block ram least left block next h =
    let read = then_read (choice_in line_of_block (guess_of_block left.text ∷ []) left) _ (block, next) h in
    let placed = not_refused (is_no_block least read.0.0) (fault_at left BadLine) _ (block, next) read.2 in
    let inside =
    not_refused (not (holds_all ram read.0.0.address 16)) (fault_at left OutsideRam) (Ok read.0)
    (block, next) placed.1 in
    let same = same_read read.0.0 block read.0.1 next inside.1 in
    let guess : guess_of_block left.text ≡ read.0.0 =
    one_choice line_of_block (guess_of_block left.text) read.0.0 left read.0.1 read.1 in
    let one = no_or (is_zero read.0.0.bytes || not (read.0.0.address % 16 == 0)) _ placed.0 in
    let two = no_or (is_zero read.0.0.bytes) _ one.0 in
    let aligned = not_not (read.0.0.address % 16 == 0) two.1 in
    let held = not_not (holds_all ram read.0.0.address 16) inside.0 in
    let known : HasBlock ram least left read.0.0 read.0.1 = record {
      stands = choice_stands line_of_block _ left read.0.0 read.0.1 read.1;
      len = subst (λ (b : MemoryBlock). length b.bytes ≡ 16) guess (guessed_fit 18 16 left.text).0;
      some = two.0;
      whole = grind (arith, nat_tests, aligned);
      rises = grind (arith, nat_tests, one.1);
      low = grind (arith, nat_tests, held);
      high = grind (arith, nat_tests, held);
    } in
    subst (λ (x : MemoryBlock). HasBlock ram least left x next) same.0
    (subst (λ (x : Remaining). HasBlock ram least left read.0.0 x) same.1 known)

-- blocks of zeros have no lines
all_zero : (bytes : Bytes) (address count : ℕ) → ((a : ℕ) → address ≤ a → a < address + count → bytes a ≡ 0)
    → list_all (λ byte. byte == 0) (map bytes (range_with_len address count)) ≡ true
all_zero bytes address zero zeros = refl
all_zero bytes address (suc count) zeros =
    rw (zeros address (omega arith) (omega arith))
    (all_zero bytes (address + 1) count (λ a low high. zeros a (omega arith) (omega arith)))

zeros_at : (bytes : Bytes) (address : ℕ) → ((a : ℕ) → address ≤ a → a < address + 16 → bytes a ≡ 0)
    → is_zero (bytes_from bytes address) ≡ true
zeros_at bytes address zeros = all_zero bytes address 16 zeros

pub no_lines : (bytes : Bytes) (address over count total : ℕ) → total ≡ over + count
    → ((a : ℕ) → address ≤ a → a < address + 16 * over → bytes a ≡ 0)
    → memory_lines bytes address total ≡ memory_lines bytes (address + 16 * over) count
unfolding memory_lines
no_lines bytes address zero count total sum zeros =
    ap (memory_lines bytes address) {x = total} {y = count} (omega arith)
    ∙ ap (λ (a : ℕ). memory_lines bytes a count) {x = address} {y = address + 16 * 0} (omega arith)
no_lines bytes address (suc over) count zero sum zeros = absurd (omega arith)
no_lines bytes address (suc over) count (suc total) sum zeros =
    rw (zeros_at bytes address (λ a low high. zeros a low (omega arith)))
    (no_lines bytes (address + 16) over count total (omega arith) (λ a low high. zeros a (omega arith) (omega arith))
    ∙ ap (λ (a : ℕ). memory_lines bytes a count) {x = address + 16 + 16 * over} {y = address + 16 * suc over}
    (omega arith))

-- an address of a block
pub within_block : (pa len a : ℕ) → pa ≤ a → a < pa + len → is_within pa len a ≡ true
within_block pa len a low high = grind (arith, nat_tests)

-- memory with a block has its bytes there
pub block_there : (block : MemoryBlock) (bytes final : Bytes) → length block.bytes ≡ 16
    → ((a : ℕ) → a < block.address + 16 → final a ≡ with_block block bytes a)
    → bytes_from final block.address ≡ block.bytes
block_there block bytes final len same =
    same_lists (bytes_from final block.address) block.bytes
    (length-map-range_with_len final block.address 16 ∙ sym len)
    (λ k d within. each k d (omega (arith, length-map-range_with_len final block.address 16)))
  where
    there : (k : ℕ) → k < 16 → with_block block bytes (block.address + k) ≡ get_or block.bytes k 0
    there k within =
        rw (within_block block.address (length block.bytes) (block.address + k) (omega arith) (omega (arith, len)))
        (ap (λ (i : ℕ). get_or block.bytes i 0) (omega arith))

    each : (k d : ℕ) → k < 16 → get_or (bytes_from final block.address) k d ≡ get_or block.bytes k d
    each k d within =
        get_or-map-range_with_len final block.address 16 k (block.address + k) d within refl
        ∙ same (block.address + k) (omega arith) ∙ there k within
        ∙ get_or_default block.bytes k 0 d (omega (arith, len))

pub block_away : (block : MemoryBlock) (bytes : Bytes) (a : ℕ) → length block.bytes ≡ 16
    → (a < block.address) ⊎ (block.address + 16 ≤ a) → with_block block bytes a ≡ bytes a
block_away block bytes a len apart = by (is_within block.address (length block.bytes) a) refl
  where
    by : (test : Bool) → is_within block.address (length block.bytes) a ≡ test
        → (if test then slice_index block.bytes (a - block.address) else bytes a) ≡ bytes a
    by true test = absurd (grind (arith, nat_tests, test, len, apart))
    by false test = refl

-- what is known of memory that was read from an address on
pub record HasMemory (bytes final : Bytes) (address count : ℕ) (left : Remaining) : Type 0 where
  pub stands : left.text ≡ concat (memory_lines final address count ++ end_line ∷ [])
  pub before : (a : ℕ) → a < address → final a ≡ bytes a

line_there : (final : Bytes) (block : MemoryBlock) (count : ℕ) → bytes_from final block.address ≡ block.bytes
    → is_zero block.bytes ≡ false
    → memory_lines final block.address (suc count)
    ≡ line_of_block block ∷ memory_lines final (block.address + 16) count
unfolding memory_lines
line_there final block count there some =
    let test : is_zero (bytes_from final block.address) ≡ false =
    subst (λ (bytes : List ℕ). is_zero bytes ≡ false) (sym there) some in
    rw test
    (ap (λ (bytes : List ℕ). block_line block.address bytes ∷ memory_lines final (block.address + 16) count) there)

ended : (bytes final : Bytes) (left : Remaining) → memory_end_in bytes left ≡ Ok final → (left.text ≡ []) × (bytes ≡ final)
ended bytes final left h = by left.text left.line h
  where
    by : (text : List ℕ) (line : ℕ) → memory_end_in bytes (record { line = line; text = text }) ≡ Ok final
        → (text ≡ []) × (bytes ≡ final)
    by [] line h = (refl, cc)
    by (byte ∷ text) line h = absurd cc

-- what reading so many lines at most tells
Remembers : Span → ℕ → Bytes → Type 0
Remembers ram most final =
    (least : ℕ) (bytes : Bytes) (left : Remaining) (address count : ℕ) → memory_in ram most least bytes left ≡ Ok final
    → address + 16 * count ≡ ram.base + ram.size → address % 16 ≡ 0
    → ((a : ℕ) → least ≤ a → ram.base ≤ a → address ≤ a) → ((a : ℕ) → address ≤ a → bytes a ≡ 0)
    → HasMemory bytes final address count left

last_line : (bytes final : Bytes) (left : Remaining) (address count : ℕ) → is_next end_line left ≡ true
    → memory_end_in bytes (after end_line left) ≡ Ok final → ((a : ℕ) → address ≤ a → bytes a ≡ 0)
    → HasMemory bytes final address count left
unfolding memory_lines
last_line bytes final left address count next h zeros =
    let end = ended bytes final (after end_line left) h in
    let none : memory_lines bytes address count ≡ [] =
    no_lines bytes address count 0 count (omega arith) (λ a low high. zeros a low) in
    let text : left.text ≡ end_line ++ [] =
    next_stands end_line left next ∙ ap (λ (t : List ℕ). end_line ++ t) end.0 in
    record {
      stands = text ∙ ap (λ (lines : List (List ℕ)). concat (lines ++ end_line ∷ []))
          (sym none ∙ ap (λ (b : Bytes). memory_lines b address count) end.1);
      before = λ a below. ap (λ (b : Bytes). b a) (sym end.1);
    }

one_more : (ram : Span) (least : ℕ) (bytes final : Bytes) (left : Remaining) (address count : ℕ) (block : MemoryBlock)
    (next : Remaining) → HasBlock ram least left block next → address ≤ block.address
    → address + 16 * count ≡ ram.base + ram.size → address % 16 ≡ 0 → ((a : ℕ) → address ≤ a → bytes a ≡ 0)
    → HasMemory (with_block block bytes) final (block.address + 16) (count - (block.address - address) / 16 - 1) next
    → HasMemory bytes final address count left
one_more ram least bytes final left address count block next has above fits whole zeros rest =
    let over = (block.address - address) / 16 in
    let far : block.address ≡ address + 16 * over = omega (arith, whole, has.whole, above) in
    let left_over : count ≡ over + suc (count - over - 1) = omega (arith, far, has.high, fits) in
    let there = block_there block bytes final has.len rest.before in
    let zero_between : (a : ℕ) → address ≤ a → a < address + 16 * over → final a ≡ 0 =
    λ a at_least below. rest.before a (omega arith)
    ∙ block_away block bytes a has.len (inl (omega arith)) ∙ zeros a at_least in
    let lines : memory_lines final address count
    ≡ line_of_block block ∷ memory_lines final (block.address + 16) (count - over - 1) =
    no_lines final address over (suc (count - over - 1)) count left_over zero_between
    ∙ ap (λ (a : ℕ). memory_lines final a (suc (count - over - 1))) (sym far)
    ∙ line_there final block (count - over - 1) there has.some in
    record {
      stands = has.stands ∙ ap (λ (t : List ℕ). line_of_block block ++ t) rest.stands
          ∙ ap (λ (l : List (List ℕ)). concat (l ++ end_line ∷ [])) (sym lines);
      before = λ a below. rest.before a (omega arith) ∙ block_away block bytes a has.len (inl (omega arith));
    }

one_turn : (ram : Span) (most : ℕ) (final : Bytes) → Remembers ram most final → (least : ℕ) (bytes : Bytes)
    (left : Remaining) (address count : ℕ) (test : Bool) → is_next end_line left ≡ test
    → (if test then memory_end_in bytes (after end_line left)
    else (block_in ram least left
    >>= λ read. memory_in ram most (read.0.address + 16) (with_block read.0 bytes) read.1)) ≡ Ok final
    → address + 16 * count ≡ ram.base + ram.size → address % 16 ≡ 0
    → ((a : ℕ) → least ≤ a → ram.base ≤ a → address ≤ a) → ((a : ℕ) → address ≤ a → bytes a ≡ 0)
    → HasMemory bytes final address count left
unfolding Remembers
one_turn ram most final rest least bytes left address count true next h fits whole low zeros =
    last_line bytes final left address count next h zeros
one_turn ram most final rest least bytes left address count false next h fits whole low zeros =
    let read =
    then_read (block_in ram least left)
    (λ (read : MemoryBlock × Remaining). memory_in ram most (read.0.address + 16)
    (with_block read.0 bytes) read.1) final h in
    let block = read.0.0 in
    let has = has_block ram least left block read.0.1 read.1 in
    let above : address ≤ block.address = low block.address has.rises has.low in
    let over = (block.address - address) / 16 in
    let far : block.address ≡ address + 16 * over = omega (arith, whole, has.whole, above) in
    let fits_on : block.address + 16 + 16 * (count - over - 1)
    ≡ ram.base + ram.size = omega (arith, far, has.high, fits) in
    let whole_on : (block.address + 16) % 16 ≡ 0 = omega (arith, has.whole) in
    one_more ram least bytes final left address count block read.0.1 has above fits whole zeros
    (rest (block.address + 16) (with_block block bytes) read.0.1 (block.address + 16) (count - over - 1) read.2 fits_on
    whole_on (λ a at_least in_ram. at_least)
    (λ a beyond. block_away block bytes a has.len (inr beyond) ∙ zeros a (omega (arith, above, beyond))))

remembers : (ram : Span) (most : ℕ) (final : Bytes) → Remembers ram most final
unfolding Remembers memory_in
remembers ram zero final = λ least bytes left address count h fits whole low zeros. absurd cc
remembers ram (suc most) final =
    λ least bytes left address count h fits whole low zeros.
    one_turn ram most final (remembers ram most final) least bytes left address count (is_next end_line left) refl h
    fits whole low zeros

pub has_memory : (ram : Span) (most least : ℕ) (bytes : Bytes) (left : Remaining) (final : Bytes) (address count : ℕ)
    → memory_in ram most least bytes left ≡ Ok final
    → address + 16 * count ≡ ram.base + ram.size → address % 16 ≡ 0
    → ((a : ℕ) → least ≤ a → ram.base ≤ a → address ≤ a) → ((a : ℕ) → address ≤ a → bytes a ≡ 0)
    → HasMemory bytes final address count left
unfolding Remembers
has_memory ram most least bytes left final address count h fits whole low zeros =
    remembers ram most final least bytes left address count h fits whole low zeros

-- The walk over the blocks of a text.
use Rattle.std.proofs.Common.{◌≡◌, ℕ, zero, suc, ◌+◌, ◌-◌, ◌<◌, ◌≤◌, Bool, true, false, List, [], ◌∷◌, Ok, Err}
use Rattle.std.proofs.Common.{Result, length}
use Rattle.std.proofs.Common.{refl, sym, ap, subst, ◌∙◌, arith}
use Rattle.std.specs.Prelude.{Option, Some, None, IsTrue, is_some, if◌then◌else◌, slice_index, unwrap_or, ◌==◌}
use Rattle.std.proofs.Math.Path.{fun_ext}
use Rattle.std.proofs.lemmas.Bool.Decides.{nat_tests}
use Rattle.hart_words.specs.declared.span.Span.{Span}
use Rattle.hart_words.specs.Memory.{Bytes, is_within}
use Rattle.hart_words.specs.Spans.{LiesIn}
use Rattle.hart_words.specs.Results.{◌>>=◌}
use Rattle.image_text.specs.declared.pieces.Pieces.{Pieces}
use Rattle.image_text.specs.Bytes.{byte_at}
use Rattle.image_text.specs.Runs.{with_bytes}
use Rattle.state_text.specs.declared.fault.FaultKind.TheVariants.{BadLine}
use Rattle.state_text.specs.declared.fault.StateFault.{StateFault}
use Rattle.state_text.specs.declared.memory.MemoryBlock.{MemoryBlock}
use Rattle.state_text.specs.Lines.{end_line}
use Rattle.state_text.specs.Reading.{Remaining, fault_at, is_next, after, block_in}
use Rattle.state_text.specs.Memory.{with_block, memory_end_in, memory_in, memory_of}

-- what the rest of the text gives, after what was found so far, is what all of it gives
pub record GoesOn (ram : Span) (whole : Result Bytes StateFault) (least : ℕ) (bytes : Bytes)
    (left : Remaining) : Type 0 where
  pub most : ℕ
  pub room : length left.text < most
  pub leads : memory_in ram most least bytes left ≡ whole

pub goes_on : (ram : Span) (least : ℕ) (bytes : Bytes) (left : Remaining)
    → GoesOn ram (memory_in ram (length left.text + 1) least bytes left) least bytes left
goes_on ram least bytes left = record { most = length left.text + 1; room = omega arith; leads = refl }

-- one turn of it
unfoldable turn : Span → ℕ → ℕ → Bytes → Remaining → Bool → Result Bytes StateFault
turn ram most least bytes left ended =
    if ended then memory_end_in bytes (after end_line left)
    else (block_in ram least left
    >>= λ read. memory_in ram most (read.0.address + 16) (with_block read.0 bytes) read.1)

turned : (ram : Span) (whole : Result Bytes StateFault) (least : ℕ) (bytes : Bytes) (left : Remaining) (ended : Bool)
    → GoesOn ram whole least bytes left → is_next end_line left ≡ ended
    → (most : ℕ) × (length left.text ≤ most) × (turn ram most least bytes left ended ≡ whole)
unfolding memory_in turn
turned ram whole least bytes left ended goes test = by goes.most goes.room goes.leads
  where
    by : (most : ℕ) → length left.text < most → memory_in ram most least bytes left ≡ whole
        → (most : ℕ) × (length left.text ≤ most) × (turn ram most least bytes left ended ≡ whole)
    by zero room leads = absurd (omega arith)
    by (suc most) room leads = (most, omega arith, rw test at leads)

end_with : (bytes : Bytes) (left : Remaining) → left.text ≡ [] → memory_end_in bytes left ≡ Ok bytes
end_with bytes left nothing = rw nothing refl

pub ends : (ram : Span) (whole : Result Bytes StateFault) (least : ℕ) (bytes : Bytes) (left : Remaining)
    → GoesOn ram whole least bytes left → is_next end_line left ≡ true → (after end_line left).text ≡ []
    → whole ≡ Ok bytes
unfolding turn
ends ram whole least bytes left goes test nothing =
    let last = turned ram whole least bytes left true goes test in
    sym last.2 ∙ end_with bytes (after end_line left) nothing

pub ends_early : (ram : Span) (whole : Result Bytes StateFault) (least : ℕ) (bytes : Bytes) (left : Remaining)
    → GoesOn ram whole least bytes left → is_next end_line left ≡ true → 0 < length (after end_line left).text
    → whole ≡ Err (fault_at (after end_line left) BadLine)
unfolding turn
ends_early ram whole least bytes left goes test more =
    let last = turned ram whole least bytes left true goes test in
    sym last.2 ∙ by (after end_line left) more
  where
    cases : (text : List ℕ) (line : ℕ) → 0 < length text
        → memory_end_in bytes (record { line = line; text = text })
        ≡ Err (fault_at (record { line = line; text = text }) BadLine)
    cases [] line more = absurd (omega arith)
    cases (byte ∷ text) line more = refl

    by : (left : Remaining) → 0 < length left.text → memory_end_in bytes left ≡ Err (fault_at left BadLine)
    by left more = cases left.text left.line more

pub no_block : (ram : Span) (whole : Result Bytes StateFault) (least : ℕ) (bytes : Bytes) (left : Remaining)
    (fault : StateFault) → GoesOn ram whole least bytes left → is_next end_line left ≡ false
    → block_in ram least left ≡ Err fault → whole ≡ Err fault
unfolding turn
no_block ram whole least bytes left fault goes test fails =
    let last = turned ram whole least bytes left false goes test in
    sym (rw fails at last.2)

pub one_block : (ram : Span) (whole : Result Bytes StateFault) (least : ℕ) (bytes : Bytes) (left : Remaining)
    (block : MemoryBlock) (next : Remaining) → GoesOn ram whole least bytes left → is_next end_line left ≡ false
    → block_in ram least left ≡ Ok (block, next) → length next.text < length left.text
    → GoesOn ram whole (block.address + 16) (with_block block bytes) next
unfolding turn
one_block ram whole least bytes left block next goes test reads less =
    let last = turned ram whole least bytes left false goes test in
    record { most = last.0; room = omega (arith, less, last.1); leads = rw reads at last.2 }

-- memory with a block, of the pieces that it was put into
pub memory_with : (old new : Pieces) (block : MemoryBlock)
    → byte_at new ≡ with_bytes (byte_at old) block.address block.bytes
    → memory_of new ≡ with_block block (memory_of old)
memory_with old new block put = fun_ext (λ address. at address)
  where
    by : (address : ℕ) (within : Bool)
        → unwrap_or (if within then Some (slice_index block.bytes (address - block.address)) else byte_at old address) 0
        ≡ (if within then slice_index block.bytes (address - block.address) else unwrap_or (byte_at old address) 0)
    by address true = refl
    by address false = refl

    at : (address : ℕ) → memory_of new address ≡ with_block block (memory_of old) address
    at address =
        ap (λ (f : ℕ → Option ℕ). unwrap_or (f address) 0) put
        ∙ by address (is_within block.address (length block.bytes) address)

-- each byte that pieces have lies in RAM
abbrev pub AreInside : Span → Pieces → Type 0
AreInside ram pieces = (a : ℕ) → IsTrue (is_some (byte_at pieces a)) → LiesIn a ram

pub inside_with : (ram : Span) (old new : Pieces) (block : MemoryBlock)
    → byte_at new ≡ with_bytes (byte_at old) block.address block.bytes → length block.bytes ≡ 16
    → ram.base ≤ block.address → block.address + 16 ≤ ram.base + ram.size → AreInside ram old → AreInside ram new
inside_with ram old new block put len low high inside a some =
    by (is_within block.address (length block.bytes) a) refl
    (subst (λ (f : ℕ → Option ℕ). IsTrue (is_some (f a))) put some)
  where
    by : (within : Bool) → is_within block.address (length block.bytes) a ≡ within
        → IsTrue (is_some (if within then Some (slice_index block.bytes (a - block.address)) else byte_at old a))
        → LiesIn a ram
    by true test some = (grind (arith, nat_tests, test, len, low), grind (arith, nat_tests, test, len, high))
    by false test some = inside a some

-- what a test for the last line tells
is_after : (line : List ℕ) (left next : Remaining) (test : Bool) → is_next line left ≡ test
    → Some next ≡ (if test then Some (after line left) else None)
    → (is_next line left ≡ true) × (next ≡ after line left)
is_after line left next true is found = (is, cc)
is_after line left next false is found = absurd cc

not_after : (line : List ℕ) (left : Remaining) (test : Bool) → is_next line left ≡ test
    → None ≡ (if test then Some (after line left) else None) → is_next line left ≡ false
not_after line left true is found = absurd cc
not_after line left false is found = is

no_bytes : (text : List ℕ) (test : Bool) → test ≡ (length text == 0) → test ≡ true → text ≡ []
no_bytes [] test is holds = refl
no_bytes (byte ∷ text) test is holds = absurd (grind (arith, nat_tests))

some_bytes : (text : List ℕ) (test : Bool) → test ≡ (length text == 0) → test ≡ false → 0 < length text
some_bytes [] test is fails = absurd cc
some_bytes (byte ∷ text) test is fails = omega arith

pub ends_here : (ram : Span) (whole : Result Bytes StateFault) (least : ℕ) (bytes : Bytes) (left next : Remaining)
    (test : Bool) → GoesOn ram whole least bytes left
    → Some next ≡ (if is_next end_line left then Some (after end_line left) else None)
    → test ≡ (length next.text == 0) → test ≡ true → whole ≡ Ok bytes
ends_here ram whole least bytes left next test goes found is holds =
    let here = is_after end_line left next (is_next end_line left) refl found in
    ends ram whole least bytes left goes here.0
    (ap (λ (l : Remaining). l.text) (sym here.1) ∙ no_bytes next.text test is holds)

pub ends_later : (ram : Span) (whole : Result Bytes StateFault) (least : ℕ) (bytes : Bytes) (left next : Remaining)
    (test : Bool) → GoesOn ram whole least bytes left
    → Some next ≡ (if is_next end_line left then Some (after end_line left) else None)
    → test ≡ (length next.text == 0) → test ≡ false → whole ≡ Err (fault_at next BadLine)
ends_later ram whole least bytes left next test goes found is fails =
    let here = is_after end_line left next (is_next end_line left) refl found in
    let more : 0 < length (after end_line left).text =
    subst (λ (l : Remaining). 0 < length l.text) here.1 (some_bytes next.text test is fails) in
    ends_early ram whole least bytes left goes here.0 more ∙ ap (λ (l : Remaining). early l) (sym here.1)
  where
    early : Remaining → Result Bytes StateFault
    early left = Err (fault_at left BadLine)

pub blocked : (ram : Span) (whole : Result Bytes StateFault) (least : ℕ) (bytes : Bytes) (left : Remaining)
    (fault : StateFault) → GoesOn ram whole least bytes left
    → None ≡ (if is_next end_line left then Some (after end_line left) else None)
    → Err fault ≡ block_in ram least left → whole ≡ Err fault
blocked ram whole least bytes left fault goes found fails =
    no_block ram whole least bytes left fault goes (not_after end_line left (is_next end_line left) refl found)
    (sym fails)

pub goes_past : (ram : Span) (whole : Result Bytes StateFault) (least : ℕ) (bytes : Bytes) (left : Remaining)
    (block : MemoryBlock) (next : Remaining) (more : Bytes) → GoesOn ram whole least bytes left
    → None ≡ (if is_next end_line left then Some (after end_line left) else None)
    → Ok (block, next) ≡ block_in ram least left → length next.text < length left.text
    → more ≡ with_block block bytes → GoesOn ram whole (block.address + 16) more next
goes_past ram whole least bytes left block next more goes found reads less is =
    subst (λ (b : Bytes). GoesOn ram whole (block.address + 16) b next) (sym is)
    (one_block ram whole least bytes left block next goes (not_after end_line left (is_next end_line left) refl found)
    (sym reads) less)

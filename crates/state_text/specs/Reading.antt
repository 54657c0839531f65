-- What the lines of a text say, or the first fault. Each line is one of those that the values in question have: a value
-- is guessed from the text, and the text goes on with that value's line, or it has another line there.
use Rattle.std.specs.Prelude.{ℕ, ◌+◌, ◌*◌, ◌%◌, ◌==◌, ◌||◌, Bool, true, false, not, nat_lt, if◌then◌else◌}
use Rattle.std.specs.Prelude.{List, [], ◌∷◌, ◌++◌, codes, length, take, drop, replicate, Option, Some, None, Result}
use Rattle.std.specs.Prelude.{Ok, Err}
use Rattle.std.specs.List.{list_all, starts_with}
use Rattle.std.specs.Int.{w64, from_be_bytes}
use Rattle.hex.specs.declared.error.FromHexError.{FromHexError}
use Rattle.hex.specs.Hex.{decode_sized}
use Rattle.hart_words.specs.declared.span.Span.{Span}
use Rattle.hart_words.specs.declared.privilege.Mode.{Mode}
use Rattle.hart_words.specs.declared.privilege.Mode.TheVariants.{User, Supervisor, Machine}
use Rattle.hart_words.specs.Results.{◌>>=◌, ◌>>◌, refuse_if}
use Rattle.hart_words.specs.Spans.{holds_all}
use Rattle.csr_file.specs.declared.profile.CsrProfile.{CsrProfile}
use Rattle.state_text.specs.declared.fault.FaultKind.{FaultKind}
use Rattle.state_text.specs.declared.fault.FaultKind.TheVariants.{BadLine, BadValue, OutsideRam}
use Rattle.state_text.specs.declared.fault.StateFault.{StateFault}
use Rattle.state_text.specs.declared.fault.StateFault.TheVariants.{InLine}
use Rattle.state_text.specs.declared.head.Head.{Head}
use Rattle.state_text.specs.declared.numbers.NumberKind.{NumberKind}
use Rattle.state_text.specs.declared.memory.MemoryBlock.{MemoryBlock}
use Rattle.state_text.specs.Lines.{number_line, option_line, version_line, harts_line, mode_line, flags_line}
use Rattle.state_text.specs.Lines.{block_line}
use Rattle.state_text.specs.Values.{is_legal}

-- what is left of a text, and the number of the line in which that begins
pub record Remaining : Type 0 where
  pub line : ℕ
  pub text : List ℕ

-- a fault of the line at hand
abbrev pub fault_at : Remaining → FaultKind → StateFault
fault_at remaining kind = InLine kind remaining.line

-- the line is the next one
abbrev pub is_next : List ℕ → Remaining → Bool
is_next line remaining = starts_with (λ a b. a == b) remaining.text line

-- what is left after it
abbrev pub after : List ℕ → Remaining → Remaining
after line remaining = record { line = remaining.line + 1; text = drop (length line) remaining.text }

-- the first of some values whose line is the next one, with what is left after it
unfoldable pub choice_in : {A : Type 0} → (A → List ℕ) → List A → Remaining → Result (A × Remaining) StateFault
choice_in line [] remaining = Err (fault_at remaining BadLine)
choice_in line (value ∷ others) remaining =
    if is_next (line value) remaining then Ok (value, after (line value) remaining) else choice_in line others remaining

-- so many bytes in hexadecimal digits, from a place of the text on; zeros where there are no such digits
abbrev pub bytes_or_zeros : ℕ → Result (List ℕ) FromHexError → List ℕ
bytes_or_zeros count (Ok bytes) = bytes
bytes_or_zeros count (Err e) = replicate count 0

unfoldable pub guess_of_bytes : ℕ → ℕ → List ℕ → List ℕ
guess_of_bytes place count text = bytes_or_zeros count (decode_sized (take (2 * count) (drop place text)) count)

unfoldable pub guess_of_number : ℕ → List ℕ → ℕ
guess_of_number place text = from_be_bytes w64 (guess_of_bytes place 8 text)

-- the number of the next line, which has this name
unfoldable pub number_in : List ℕ → Remaining → Result (ℕ × Remaining) StateFault
number_in name remaining = choice_in (number_line name) (guess_of_number (length name) remaining.text ∷ []) remaining

-- the same where there may be none
unfoldable pub option_in : List ℕ → Remaining → Result (Option ℕ × Remaining) StateFault
option_in name remaining =
    choice_in (option_line name) (Some (guess_of_number (length name) remaining.text) ∷ None ∷ []) remaining

unfoldable pub version_in : Remaining → Result ((Unit {0}) × Remaining) StateFault
version_in remaining = choice_in (λ _. version_line) (tt ∷ []) remaining

-- the line that counts the harts, where they are counted
unfoldable pub count_in : ℕ → Remaining → Result ((Unit {0}) × Remaining) StateFault
count_in harts remaining =
    if harts == 1 then Ok (tt, remaining) else choice_in (λ _. harts_line harts) (tt ∷ []) remaining

-- the lines before those of so many harts
unfoldable pub front_in : ℕ → Remaining → Result ((Unit {0}) × Remaining) StateFault
front_in harts remaining = version_in remaining >>= λ version. count_in harts version.1

-- pc is even
unfoldable pub pc_in : Remaining → Result (ℕ × Remaining) StateFault
pc_in remaining = do
  read ← number_in (codes "pc ") remaining
  refuse_if (read.0 % 2 == 1) (fault_at remaining BadValue)
  Ok read

unfoldable pub mode_in : Remaining → Result (Mode × Remaining) StateFault
mode_in remaining = choice_in mode_line (User ∷ Supervisor ∷ Machine ∷ []) remaining

unfoldable pub flags_in : Remaining → Result ((Bool × Bool) × Remaining) StateFault
flags_in remaining =
    choice_in (λ flags. flags_line flags.0 flags.1)
    ((false, false) ∷ (false, true) ∷ (true, false) ∷ (true, true) ∷ []) remaining

-- a reserved block begins at a multiple of its size, and lies in RAM
abbrev pub is_misplaced : ℕ → Option ℕ → Bool
is_misplaced size None = false
is_misplaced size (Some address) = not (address % size == 0)

abbrev pub is_outside : Span → ℕ → Option ℕ → Bool
is_outside ram size None = false
is_outside ram size (Some address) = not (holds_all ram address size)

unfoldable pub reserved_in : Span → ℕ → Remaining → Result (Option ℕ × Remaining) StateFault
reserved_in ram size remaining = do
  read ← option_in (codes "reserved ") remaining
  refuse_if (is_misplaced size read.0) (fault_at remaining BadValue)
  refuse_if (is_outside ram size read.0) (fault_at remaining OutsideRam)
  Ok read

-- the lines of a hart before the numbers
unfoldable pub head_in : Span → ℕ → Remaining → Result (Head × Remaining) StateFault
head_in ram size remaining = do
  pc ← pc_in remaining
  mode ← mode_in pc.1
  order ← option_in (codes "order ") mode.1
  flags ← flags_in order.1
  reserved ← reserved_in ram size flags.1
  Ok (
    record {
      pc = pc.0;
      mode = mode.0;
      next_order = order.0;
      trapped_last = flags.0.0;
      halted = flags.0.1;
      reserved = reserved.0;
    },
    reserved.1,
  )

-- the numbers of lines with these names, after some numbers; each is one that the hart can have there
unfoldable pub numbers_in :
    CsrProfile → List (List ℕ) → List NumberKind → List ℕ → Remaining → Result (List ℕ × Remaining) StateFault
numbers_in profile (name ∷ names) (kind ∷ kinds) before remaining = do
  read ← number_in name remaining
  refuse_if (not (is_legal profile kind read.0)) (fault_at remaining BadValue)
  numbers_in profile names kinds (before ++ read.0 ∷ []) read.1
numbers_in profile _ _ before remaining = Ok (before, remaining)

abbrev pub is_zero : List ℕ → Bool
is_zero bytes = list_all (λ byte. byte == 0) bytes

abbrev pub guess_of_block : List ℕ → MemoryBlock
guess_of_block text = record { address = guess_of_number 1 text; bytes = guess_of_bytes 18 16 text }

-- a block with zeros alone, at no multiple of 16, or below the least address at which one may stand
abbrev pub is_no_block : ℕ → MemoryBlock → Bool
is_no_block least block = is_zero block.bytes || not (block.address % 16 == 0) || nat_lt block.address least

-- the block of the next line
unfoldable pub block_in : Span → ℕ → Remaining → Result (MemoryBlock × Remaining) StateFault
block_in ram least remaining = do
  read ← choice_in (λ block. block_line block.address block.bytes) (guess_of_block remaining.text ∷ []) remaining
  refuse_if (is_no_block least read.0) (fault_at remaining BadLine)
  refuse_if (not (holds_all ram read.0.address 16)) (fault_at remaining OutsideRam)
  Ok read

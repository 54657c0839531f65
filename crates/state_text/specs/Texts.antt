-- The text of a saved state, and the state that a text says.
use Rattle.std.specs.Prelude.{ℕ, zero, suc, ◌+◌, ◌/◌, List, [], ◌∷◌, ◌++◌, codes, length, Option, Some, None}
use Rattle.std.specs.Prelude.{option_map, Result, Ok, Err, if◌then◌else◌}
use Rattle.std.specs.List.{concat}
use Rattle.hart_words.specs.declared.map.Map.{Map}
use Rattle.hart_words.specs.declared.choices.Choices.{Choices}
use Rattle.hart_words.specs.Memory.{Bytes}
use Rattle.hart_words.specs.Results.{◌>>=◌}
use Rattle.rv_atomic.specs.declared.reservation.Block.{Block}
use Rattle.csr_file.specs.declared.profile.CsrProfile.{CsrProfile}
use Rattle.hart_step.specs.declared.state.Core.{Core}
use Rattle.state_text.specs.declared.fault.StateFault.{StateFault}
use Rattle.state_text.specs.declared.fault.StateFault.TheVariants.{WrongHarts}
use Rattle.state_text.specs.declared.fault.StateError.{StateError}
use Rattle.state_text.specs.declared.fault.StateError.TheVariants as errors
use Rattle.state_text.specs.declared.head.Head.{Head}
use Rattle.state_text.specs.declared.numbers.TheConstants.{KINDS}
use Rattle.state_text.specs.Lines.{number_line, option_line, mode_line, flags_line, end_line, front_lines}
use Rattle.state_text.specs.Numbers.{number_names, numbers_of, registers_with, csrs_with}
use Rattle.state_text.specs.Counts.{says_harts}
use Rattle.state_text.specs.Reading.{Remaining, front_in, head_in, numbers_in}
use Rattle.state_text.specs.Memory.{memory_lines, memory_in}

-- the lines of numbers, each with its name
unfoldable pub number_lines : List (List ℕ) → List ℕ → List (List ℕ)
number_lines (name ∷ names) (number ∷ numbers) = number_line name number ∷ number_lines names numbers
number_lines _ _ = []

-- the lines of a hart before its numbers
abbrev pub head_lines_of : Core → List (List ℕ)
head_lines_of core =
    number_line (codes "pc ") core.pc
    ∷ mode_line core.mode
    ∷ option_line (codes "order ") core.next_order
    ∷ flags_line core.trapped_last core.halted
    ∷ option_line (codes "reserved ") (option_map (λ block. block.address) core.reservation.block)
    ∷ []

-- the lines of a hart
unfoldable pub core_lines : Core → List (List ℕ)
core_lines core = head_lines_of core ++ number_lines number_names (numbers_of core.registers core.csrs)

-- the lines of harts, in order
unfoldable pub cores_lines : List Core → List (List ℕ)
cores_lines [] = []
cores_lines (core ∷ cores) = core_lines core ++ cores_lines cores

-- the lines of the memory that harts share: its RAM is that of each one's map
abbrev pub ram_lines : List Core → Bytes → List (List ℕ)
ram_lines [] bytes = []
ram_lines (core ∷ cores) bytes = memory_lines bytes core.map.ram.base (core.map.ram.size / 16)

-- the lines of a state: the harts, and memory
unfoldable pub saved_lines : List Core → Bytes → List (List ℕ)
saved_lines cores bytes =
    front_lines (length cores) ++ (cores_lines cores ++ (ram_lines cores bytes ++ end_line ∷ []))

-- the text of a state
abbrev pub saved_text : List Core → Bytes → List ℕ
saved_text cores bytes = concat (saved_lines cores bytes)

-- a reserved block of so many bytes
abbrev pub block_with : ℕ → ℕ → Block
block_with size address = record { address = address; size = size }

-- the hart that its lines say, of a core that makes this of its registers
abbrev pub core_with : CsrProfile → Map → Choices → Head → List ℕ → Core
core_with profile map choices head numbers = record {
  registers = registers_with numbers;
  pc = head.pc;
  mode = head.mode;
  csrs = csrs_with profile numbers;
  reservation = record { block = option_map (block_with choices.block_size) head.reserved };
  next_order = head.next_order;
  trapped_last = head.trapped_last;
  halted = head.halted;
  map = map;
  choices = choices;
}

-- the hart of the next lines
unfoldable pub core_in : CsrProfile → Map → Choices → Remaining → Result (Core × Remaining) StateFault
core_in profile map choices remaining = do
  head ← head_in map.ram choices.block_size remaining
  numbers ← numbers_in profile number_names KINDS [] head.1
  Ok (core_with profile map choices head.0 numbers.0, numbers.1)

-- so many harts more, after some
unfoldable pub cores_in :
    CsrProfile → Map → Choices → ℕ → List Core → Remaining → Result (List Core × Remaining) StateFault
cores_in profile map choices zero before remaining = Ok (before, remaining)
cores_in profile map choices (suc left) before remaining = do
  core ← core_in profile map choices remaining
  cores_in profile map choices left (before ++ core.0 ∷ []) core.1

-- the state of so many harts that lines say, of a core over a map and choices, or their first fault
unfoldable pub lines_in : CsrProfile → Map → Choices → ℕ → Remaining → Result (List Core × Bytes) StateFault
lines_in profile map choices harts remaining = do
  front ← front_in harts remaining
  cores ← cores_in profile map choices harts [] front.1
  bytes ← memory_in map.ram (length cores.1.text + 1) 0 (λ _. 0) cores.1
  Ok (cores.0, bytes)

-- the state of so many harts that a text says; a text that says another number of harts is read no further
unfoldable pub state_in : CsrProfile → Map → Choices → ℕ → List ℕ → Result (List Core × Bytes) StateFault
state_in profile map choices harts text =
    if says_harts harts text then lines_in profile map choices harts (record { line = 1; text = text })
    else Err WrongHarts

-- the fault that an error stands for; want of memory is none
abbrev pub state_fault : StateError → Option StateFault
state_fault (errors.Fault fault) = Some fault
state_fault errors.NoMemory = None

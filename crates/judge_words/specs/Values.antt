-- The values of the command line's options.
use Rattle.std.specs.Prelude.{ℕ, ◌%◌, ◌==◌, ◌&&◌, nat_le, Bool, true, false, List, Option, Some, None, option_map}
use Rattle.std.specs.Prelude.{codes, if◌then◌else◌}
use Rattle.std.specs.List.{before_first, after_first}
use Rattle.std.specs.Result.{result_ok}
use Rattle.std.specs.Str.{bytes_eq}
use Rattle.hart_words.specs.Numbers.{number_within}
use Rattle.hart_words.specs.Spans.{span_of}
use Rattle.hart_words.specs.declared.span.Span.{Span}
use Rattle.hart_words.specs.declared.options.Misaligned.{Misaligned}
use Rattle.hart_words.specs.declared.options.Misaligned.TheVariants as misaligned
use Rattle.hart_words.specs.declared.options.Marks.{Marks}
use Rattle.hart_words.specs.declared.options.Marks.TheVariants as marks
use Rattle.hart_words.specs.declared.options.InsnBits.{InsnBits}
use Rattle.hart_words.specs.declared.options.InsnBits.TheVariants as insn
use Rattle.hart_words.specs.declared.options.DeviceFaults.{DeviceFaults}
use Rattle.hart_words.specs.declared.options.DeviceFaults.TheVariants as faults
use Rattle.judge_words.specs.declared.values.TheConstants.{MOST_IMAGE_BYTES, MOST_TRACE_BYTES, MOST_WORKERS, MOST_LINES}
use Rattle.judge_words.specs.declared.values.TheConstants.{MOST_SEGMENTS, MOST_HARTS, MOST_BLOCK_BYTES, MOST_MADE_NUMBER}
use Rattle.judge_words.specs.declared.values.TheConstants.{MOST_MADE_ROWS}

-- the next step at the value, where there is one
infixl 10 ◌>>=◌
abbrev pub ◌>>=◌ : {A B : Type 0} → Option A → (A → Option B) → Option B
None >>= f = None
(Some x) >>= f = f x

-- the number that a text writes, below 2^64
unfoldable pub number_of_text : List ℕ → Option ℕ
number_of_text text = result_ok (number_within 64 text)

abbrev pub if_even : ℕ → Option ℕ
if_even value = if value % 2 == 0 then Some value else None

-- an even number, as the address of an instruction is
unfoldable pub even_in : List ℕ → Option ℕ
even_in text = number_of_text text >>= if_even

-- the address of the first instruction, which may be left out
abbrev pub first_pc_in : Option (List ℕ) → Option (Option ℕ)
first_pc_in None = Some None
first_pc_in (Some text) = option_map (λ pc. Some pc) (even_in text)

-- a number from 1 to `most`
abbrev pub up_to : ℕ → ℕ → Option ℕ
up_to most value = if nat_le 1 value && nat_le value most then Some value else None

-- the number from 1 to `most` that a text writes
unfoldable pub number_up_to : ℕ → List ℕ → Option ℕ
number_up_to most text = number_of_text text >>= up_to most

-- a number of bytes of an image, at least one
abbrev pub image_limit_in : List ℕ → Option ℕ
image_limit_in text = number_up_to MOST_IMAGE_BYTES text

-- a number of bytes of a trace, at least one
abbrev pub trace_limit_in : List ℕ → Option ℕ
trace_limit_in text = number_up_to MOST_TRACE_BYTES text

-- a number of workers, at least one
abbrev pub workers_in : List ℕ → Option ℕ
workers_in text = number_up_to MOST_WORKERS text

-- a number of lines of a segment, at least one
abbrev pub segment_in : List ℕ → Option ℕ
segment_in text = number_up_to MOST_LINES text

-- a number of segments of a window, at least one
abbrev pub window_in : List ℕ → Option ℕ
window_in text = number_up_to MOST_SEGMENTS text

-- a number of harts, at least one
abbrev pub harts_in : List ℕ → Option ℕ
harts_in text = number_up_to MOST_HARTS text

-- a number of bytes of the block that LR reserves, at least one
abbrev pub block_size_in : List ℕ → Option ℕ
block_size_in text = number_up_to MOST_BLOCK_BYTES text

-- the first value where a text is the first of two words, the second where it is the other
abbrev pub one_of_two : {X : Type 0} → (first second : List ℕ) → X → X → List ℕ → Option X
one_of_two first second x y text =
    if bytes_eq text first then Some x else (if bytes_eq text second then Some y else None)

-- what misaligned loads and stores do
unfoldable pub misaligned_in : List ℕ → Option Misaligned
misaligned_in text = one_of_two (codes "trap") (codes "done") misaligned.Trap misaligned.Done text

-- what becomes of an access whose page lacks A or D
unfoldable pub marks_in : List ℕ → Option Marks
marks_in text = one_of_two (codes "fault") (codes "set") marks.Fault marks.Set text

-- whether the extensions of bit manipulation are there
unfoldable pub bits_in : List ℕ → Option Bool
bits_in text = one_of_two (codes "on") (codes "off") true false text

-- what rows show of an instruction of 16 bits
unfoldable pub insn_bits_in : List ℕ → Option InsnBits
insn_bits_in text = one_of_two (codes "full") (codes "length") insn.Full insn.Length text

-- whether a device may refuse an access
unfoldable pub device_faults_in : List ℕ → Option DeviceFaults
device_faults_in text = one_of_two (codes "none") (codes "row") faults.Never faults.ByRow text

-- a number up to `most`
abbrev pub at_most : ℕ → ℕ → Option ℕ
at_most most value = if nat_le value most then Some value else None

-- the number up to `most` that a text writes
unfoldable pub number_at_most : ℕ → List ℕ → Option ℕ
number_at_most most text = number_of_text text >>= at_most most

-- the number of a made trace
abbrev pub made_number_in : List ℕ → Option ℕ
made_number_in text = number_at_most MOST_MADE_NUMBER text

-- a number of rows of a made trace
abbrev pub made_rows_in : List ℕ → Option ℕ
made_rows_in text = number_at_most MOST_MADE_ROWS text

-- the byte `:`
abbrev pub colon : ℕ
colon = 58

-- two numbers and one colon, the base and the size of a range
unfoldable pub span_in : List ℕ → Option Span
span_in text = do
  base ← number_of_text (before_first (λ byte. byte == colon) text)
  size ← number_of_text (after_first (λ byte. byte == colon) text)
  span_of base size

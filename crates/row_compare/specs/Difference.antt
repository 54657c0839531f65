-- The first signal in which a row differs from what the hart did, in the order of comparison.
use Rattle.std.specs.Prelude.{ℕ, ◌==◌, if◌then◌else◌, bit_and, List, [], ◌∷◌, Option, Some, None}
use Rattle.std.specs.Option.{option_or}
use Rattle.hart_words.specs.Signals.{Shown}
use Rattle.hart_words.specs.declared.signal.Signal.{Signal}
use Rattle.hart_words.specs.declared.signal.Signal.TheVariants.{Valid}
use Rattle.hart_words.specs.declared.signal.SignalEntry.{SignalEntry}
use Rattle.hart_words.specs.declared.signal.TheConstants.{SIGNALS}
use Rattle.hart_words.specs.declared.signal.Difference.{Difference}
use Rattle.rvfi_rows.specs.declared.expected.Expected.{Expected}
use Rattle.rvfi_rows.specs.declared.expected.Expected.TheVariants.{Halted, Retired}
use Rattle.rvfi_rows.specs.declared.expected.Retired.{Retired as Retirement}
use Rattle.row_compare.specs.declared.expected_signal.ExpectedSignal.{ExpectedSignal}
use Rattle.row_compare.specs.Signals.{expected_signal}

-- a signal differs where it is shown, something is wanted of it, and the two are unequal in the bits of the mask,
-- which alone are given
abbrev pub difference_between : Signal → Option ℕ → Option ExpectedSignal → Option Difference
difference_between signal None want = None
difference_between signal (Some found) None = None
difference_between signal (Some found) (Some want) =
    if bit_and want.value want.mask == bit_and found want.mask then None
    else Some (record { signal = signal; expected = bit_and want.value want.mask; found = bit_and found want.mask })

unfoldable pub signal_difference : Retirement → Shown → Signal → Option Difference
signal_difference retired shown signal = difference_between signal (shown signal) (expected_signal retired shown signal)

-- the first of entries whose signal differs
unfoldable pub first_among : Retirement → Shown → List SignalEntry → Option Difference
first_among retired shown [] = None
first_among retired shown (entry ∷ entries) =
    option_or (signal_difference retired shown entry.signal) (first_among retired shown entries)

-- the table of signals is in the order of comparison; a valid row counts as showing `valid` as 1
unfoldable pub difference_of : Expected → Shown → Option Difference
difference_of Halted shown = Some (record { signal = Valid; expected = 0; found = 1 })
difference_of (Retired retired) shown = first_among retired shown SIGNALS

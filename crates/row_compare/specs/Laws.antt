-- What holds of every comparison.
use Rattle.std.specs.Prelude.{◌≡◌, ◌≢◌, ℕ, bit_and, Some, None}
use Rattle.hart_words.specs.Signals.{Shown}
use Rattle.hart_words.specs.declared.signal.Signal.{Signal}
use Rattle.hart_words.specs.declared.signal.Difference.{Difference}
use Rattle.rvfi_rows.specs.declared.expected.Expected.TheVariants.{Retired}
use Rattle.rvfi_rows.specs.declared.expected.Retired.{Retired as Retirement}
use Rattle.row_compare.specs.declared.expected_signal.ExpectedSignal.{ExpectedSignal}
use Rattle.row_compare.specs.Signals.{expected_signal}
use Rattle.row_compare.specs.Difference.{difference_of, signal_difference}

-- the signal is shown and something is wanted of it; the values are those in the bits of the mask, and unequal
pub record IsOfShownSignal (retired : Retirement) (shown : Shown) (difference : Difference) : Type 0 where
  pub value : ℕ
  pub want : ExpectedSignal
  pub is_shown : shown difference.signal ≡ Some value
  pub is_wanted : expected_signal retired shown difference.signal ≡ Some want
  pub expected : difference.expected ≡ bit_and want.value want.mask
  pub found : difference.found ≡ bit_and value want.mask
  pub unequal : difference.expected ≢ difference.found

-- so is every difference from an instruction
abbrev pub DiffersWhereShown : Retirement → Shown → Type 0
DiffersWhereShown retired shown =
    (difference : Difference) → difference_of (Retired retired) shown ≡ Some difference
    → IsOfShownSignal retired shown difference

-- where there is no difference, no signal at all differs
abbrev pub AgreesInAll : Retirement → Shown → Type 0
AgreesInAll retired shown =
    difference_of (Retired retired) shown ≡ None → (signal : Signal) → signal_difference retired shown signal ≡ None

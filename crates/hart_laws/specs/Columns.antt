-- What the columns of control and status registers are compared with.
use Rattle.std.specs.Prelude.{◌≡◌, ℕ, bit_and, Some, None}
use Rattle.hart_words.specs.Memory.{Bytes}
use Rattle.hart_words.specs.Signals.{Shown}
use Rattle.hart_words.specs.declared.signal.CsrName.{CsrName}
use Rattle.hart_words.specs.declared.signal.Signal.{Signal}
use Rattle.rvfi_rows.specs.declared.expected.Expected.{Expected}
use Rattle.rvfi_rows.specs.declared.expected.Expected.TheVariants as expected
use Rattle.row_compare.specs.declared.expected_signal.ExpectedSignal.{ExpectedSignal}
use Rattle.row_compare.specs.Difference.{difference_of}
use Rattle.row_compare.specs.Signals.{csr_after, csr_before, expected_signal}
use Rattle.hart_step.specs.declared.state.Core.{Core}
use Rattle.hart_step.specs.Choices.{pending_lines_of}
use Rattle.hart_step.specs.Laws.{next_of}
use Rattle.hart_step.specs.Steps.{before_instruction, step_of}

-- this is wanted of the signal
abbrev pub IsWanted : Expected → Shown → Signal → ExpectedSignal → Type 0
IsWanted expected.Halted shown signal want = ⊥
IsWanted (expected.Retired retired) shown signal want = expected_signal retired shown signal ≡ Some want

-- a value that is shown of the signal is compared with this one, and where the row agrees it is the same in the bits of
-- the mask
pub record IsComparedWith (expected : Expected) (shown : Shown) (signal : Signal) (value : ℕ) (want : ExpectedSignal)
    : Type 0 where
  pub is_wanted : IsWanted expected shown signal want
  pub agrees : difference_of expected shown ≡ None → bit_and want.value want.mask ≡ bit_and value want.mask

-- what the hart did at the row
abbrev pub done_by : Core → Shown → Bytes → Expected
done_by core shown bytes = ((step_of core shown).run bytes).value.expected

-- what a register has as the row's instruction finds it, and as the row leaves it, in the bits that are compared
abbrev pub had_before : Core → Shown → CsrName → ExpectedSignal
had_before core shown name = csr_before (before_instruction core shown).csrs name (pending_lines_of shown).up shown

abbrev pub has_after : Core → Shown → Bytes → CsrName → ExpectedSignal
has_after core shown bytes name = csr_after (next_of core shown bytes).csrs name (pending_lines_of shown).up shown

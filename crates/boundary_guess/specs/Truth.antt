-- When the guesses of the harts' state are the true states.
use Rattle.std.specs.Prelude.{◌≡◌, ℕ, List, [], ◌∷◌, All, Some, None, Ok, Err, replicate, true}
use Rattle.std.specs.Option.{is_some}
use Rattle.hart_words.specs.declared.map.Map.{Map}
use Rattle.hart_words.specs.declared.choices.Choices.{Choices}
use Rattle.hart_words.specs.declared.options.Marks.TheVariants.{Fault}
use Rattle.hart_words.specs.Memory.{Bytes}
use Rattle.hart_words.specs.Signals.{Shown}
use Rattle.hart_words.specs.declared.signal.Signal.{Signal}
use Rattle.hart_words.specs.declared.signal.Signal.TheVariants.{Insn, Trap, RdAddr, RdWdata, PcWdata}
use Rattle.rvfi_rows.specs.Columns.{TraceColumns}
use Rattle.rvfi_rows.specs.Rows.{RowReading, rows_of}
use Rattle.row_compare.specs.Difference.{difference_of}
use Rattle.csr_file.specs.declared.profile.CsrProfile.{CsrProfile}
use Rattle.hart_step.specs.declared.state.Core.{Core}
use Rattle.hart_step.specs.Cores.{IsSound, core_at_reset_of}
use Rattle.hart_step.specs.HartSets.{SetHoldsWords, SetState, set_after_row, set_step_of}

-- so many harts at reset, over a memory
abbrev pub state_at_reset : CsrProfile → ℕ → ℕ → Map → Choices → Bytes → SetState
state_at_reset profile harts pc map choices bytes =
    record { core = replicate harts (core_at_reset_of profile pc map choices); bytes = bytes }

-- A and D that are clear are page faults: no hart sets them
abbrev pub SetNoMarks : List Core → Type 0
SetNoMarks cores = All (λ core. core.choices.marks ≡ Fault) cores

-- a row shows a value of the signal
abbrev pub IsShown : Shown → Signal → Type 0
IsShown shown signal = is_some (shown signal) ≡ true

-- a row shows its instruction, and what that changes but for memory: whether it trapped, the register and its value,
-- and where the hart goes on
pub record ShowsChanges (shown : Shown) : Type 0 where
  pub insn : IsShown shown Insn
  pub trap : IsShown shown Trap
  pub register : IsShown shown RdAddr
  pub value : IsShown shown RdWdata
  pub next : IsShown shown PcWdata

-- each valid row does
unfoldable pub ShowChanges : List RowReading → Type 0
ShowChanges [] = Unit {0}
ShowChanges (Err fault ∷ rows) = ShowChanges rows
ShowChanges (Ok None ∷ rows) = ShowChanges rows
ShowChanges (Ok (Some shown) ∷ rows) = ShowsChanges shown × ShowChanges rows

-- rows agree with the harts from a state on: none is refused, and no valid one differs from the step by it
unfoldable pub Agree : SetState → List RowReading → Type 0
Agree state [] = Unit {0}
Agree state (Err fault ∷ rows) = ⊥
Agree state (Ok None ∷ rows) = Agree state rows
Agree state (Ok (Some shown) ∷ rows) =
    (difference_of ((set_step_of state.core shown).run state.bytes).value.expected shown ≡ None)
    × Agree (set_after_row state shown) rows

-- the true state after rows: that of a step by each valid one; from a refused one on nothing changes
unfoldable pub true_state_after : SetState → List RowReading → SetState
true_state_after state [] = state
true_state_after state (Err fault ∷ rows) = state
true_state_after state (Ok None ∷ rows) = true_state_after state rows
true_state_after state (Ok (Some shown) ∷ rows) = true_state_after (set_after_row state shown) rows

-- the true state before the lines of each segment
unfoldable pub true_starts : SetState → TraceColumns → List (List (List ℕ)) → List SetState
true_starts state columns [] = []
true_starts state columns (lines ∷ segments) =
    state ∷ true_starts (true_state_after state (rows_of columns lines)) columns segments

-- rows leave a sound state sound, and its values words and bytes
pub record StaysSound (state : SetState) (rows : List RowReading) : Type 0 where
  pub sound : All IsSound (true_state_after state rows).core
  pub words : SetHoldsWords (true_state_after state rows)

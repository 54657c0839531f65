-- The hart with its memory, by one row after another.
use Rattle.std.specs.Prelude.{◌≢◌, List, [], ◌∷◌}
use Rattle.hart_words.specs.declared.privilege.Mode.TheVariants.{Machine}
use Rattle.hart_words.specs.Memory.{after_writes}
use Rattle.hart_words.specs.States.{State}
use Rattle.hart_words.specs.Signals.{Shown}
use Rattle.hart_step.specs.declared.state.Core.{Core}
use Rattle.hart_step.specs.Steps.{before_instruction, step_of}

-- a hart with its memory
abbrev pub HartState : Type 0
HartState = State Core

-- after the step by one row
abbrev pub after_row : HartState → Shown → HartState
after_row state shown =
    let run = (step_of state.core shown).run state.bytes in
    record { core = run.value.next; bytes = after_writes run.wrote state.bytes }

-- after the steps by rows, one after another
unfoldable pub after_rows : HartState → List Shown → HartState
after_rows state [] = state
after_rows state (shown ∷ rows) = after_rows (after_row state shown) rows

-- each row runs its instruction in S or U
unfoldable pub RunBelowMachine : HartState → List Shown → Type 0
RunBelowMachine state [] = Unit {0}
RunBelowMachine state (shown ∷ rows) =
    ((before_instruction state.core shown).mode ≢ Machine) × RunBelowMachine (after_row state shown) rows

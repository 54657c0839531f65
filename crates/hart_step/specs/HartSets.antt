-- The harts of a trace over their memory, as contracts see them. What a row does to them hart_set says; each is a `Core`.
use Rattle.std.specs.Prelude.{ℕ, ◌^◌, ◌<◌, List, All}
use Rattle.hart_words.specs.declared.span.Span.{Span}
use Rattle.hart_words.specs.Actions.{Action}
use Rattle.hart_words.specs.Memory.{Bytes, after_writes}
use Rattle.hart_words.specs.Signals.{Shown}
use Rattle.hart_words.specs.States.{State}
use Rattle.rvfi_rows.specs.Meanings.{Gave}
use Rattle.hart_set.specs.declared.set.HartSet.{HartSet}
use Rattle.hart_set.specs.Calls.{CanStep}
use Rattle.hart_set.specs.Sets.{step_of_set}
use Rattle.hart_step.specs.declared.state.Core.{Core}
use Rattle.hart_step.specs.Cores.{IsSound}
use Rattle.hart_step.specs.Harts.{CoreHoldsWords}
use Rattle.hart_step.specs.Meanings.{core_meaning}

-- harts with their memory
abbrev pub SetState : Type 0
SetState = State (List Core)

-- the state of harts, by the bytes of their memory
abbrev pub set_state_of : {M : Type 0} → (M → Bytes) → HartSet Core M → SetState
set_state_of bytes_of set = record { core = set.cores.items; bytes = bytes_of set.mem }

-- a step may begin: there is a hart at least, each is sound, and the memory's RAM is that of each one's map
abbrev pub SetCanStep : {M : Type 0} → (M → Span) → HartSet Core M → Type 0
SetCanStep ram_of set = CanStep core_meaning IsSound (ram_of set.mem) set.cores.items

-- the step by a row: its hart goes on, and the others lose what it writes
abbrev pub set_step_of : List Core → Shown → Action (Gave (List Core))
set_step_of cores shown = step_of_set core_meaning cores shown

-- after the step by one row
abbrev pub set_after_row : SetState → Shown → SetState
set_after_row state shown =
    let run = (set_step_of state.core shown).run state.bytes in
    record { core = run.value.next; bytes = after_writes run.wrote state.bytes }

-- the registers of each hart hold words, and memory bytes: so it is with all harts
pub record SetHoldsWords (state : SetState) : Type 0 where
  pub cores : All CoreHoldsWords state.core
  pub bytes : (address : ℕ) → state.bytes address < 2 ^ 8

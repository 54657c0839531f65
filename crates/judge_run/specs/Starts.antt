-- Where a run starts, as definitions have it.
use Rattle.std.specs.Prelude.{◌≡◌, ◌<◌, ◌≤◌, List, All, length}
use Rattle.hart_words.specs.declared.choices.Choices.{Choices}
use Rattle.hart_words.specs.declared.map.Map.{Map}
use Rattle.hart_words.specs.declared.span.Span.{Span}
use Rattle.csr_file.specs.declared.profile.CsrProfile.{CsrProfile}
use Rattle.hart_set.specs.declared.set.HartSet.{HartSet}
use Rattle.hart_step.specs.declared.state.Core.{Core}
use Rattle.hart_set.specs.Calls.{CanStep}
use Rattle.hart_step.specs.Cores.{IsSound}
use Rattle.hart_step.specs.HartSets.{SetCanStep, SetState}
use Rattle.hart_step.specs.Meanings.{core_meaning}
use Rattle.page_image.specs.Bytes.{byte_of}
use Rattle.state_text.specs.declared.state.State.{State}
use Rattle.state_text.specs.declared.state.TheConstants.{MOST_HARTS}
use Rattle.state_text.specs.Laws.{IsOver, IsZeroOutside}
use Rattle.state_text.specs.Memory.{memory_of}
use Rattle.judge_run.specs.declared.start.Start.{Start}

abbrev pub start_view : Start → SetState
start_view start = record { core = start.cores.items; bytes = byte_of start.image }

-- harts, and memory that is still in pieces
abbrev pub state_view : State → SetState
state_view state = record { core = state.cores.items; bytes = memory_of state.pieces }

-- each hart has this profile of registers, this map and these choices
abbrev pub HaveSettings : CsrProfile → Map → Choices → List Core → Type 0
HaveSettings profile map choices cores = All (IsOver profile map choices) cores

-- harts that can be stepped on, no more than a saved state may have
pub record CanGoOn {M : Type 0} (ram_of : M → Span) (harts : HartSet Core M) : Type 0 where
  pub can_step : SetCanStep ram_of harts
  pub few : length harts.cores.items ≤ MOST_HARTS

-- a run may begin there: there are harts, no more than a saved state may have; each is sound, over this map, and memory
-- is 0 outside its RAM
pub record IsStartOf (over : Map) (state : State) : Type 0 where
  pub some : 0 < length state.cores.items
  pub few : length state.cores.items ≤ MOST_HARTS
  pub sound : All IsSound state.cores.items
  pub maps : All (λ core. core.map ≡ over) state.cores.items
  pub outside : IsZeroOutside over.ram (memory_of state.pieces)

-- the same of a start, over the RAM of its image
pub record CanBegin (start : Start) : Type 0 where
  pub can_step : CanStep core_meaning IsSound start.image.ram start.cores.items
  pub few : length start.cores.items ≤ MOST_HARTS
  pub outside : IsZeroOutside start.image.ram (byte_of start.image)

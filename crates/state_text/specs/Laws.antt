-- A state that can be saved.
use Rattle.std.specs.Prelude.{◌≡◌, ℕ, ◌<◌, ◌≤◌, ◌^◌, false, List, length}
use Rattle.std.specs.List.{All}
use Rattle.std.specs.Option.{ForSome}
use Rattle.hart_words.specs.declared.choices.Choices.{Choices}
use Rattle.hart_words.specs.declared.map.Map.{Map}
use Rattle.hart_words.specs.declared.span.Span.{Span}
use Rattle.hart_words.specs.Memory.{Bytes}
use Rattle.hart_words.specs.Spans.{is_in}
use Rattle.csr_file.specs.declared.profile.CsrProfile.{CsrProfile}
use Rattle.hart_step.specs.declared.state.Core.{Core}
use Rattle.hart_step.specs.Cores.{IsSound}
use Rattle.hart_step.specs.Harts.{CoreHoldsWords}
use Rattle.state_text.specs.declared.state.TheConstants.{MOST_HARTS}

-- memory is 0 outside RAM
abbrev pub IsZeroOutside : Span → Bytes → Type 0
IsZeroOutside ram bytes = (a : ℕ) → is_in ram a ≡ false → bytes a ≡ 0

-- a hart has this profile of registers, this map and these choices
pub record IsOver (profile : CsrProfile) (map : Map) (choices : Choices) (core : Core) : Type 0 where
  pub profile_is : core.csrs.profile ≡ profile
  pub map_is : core.map ≡ map
  pub choices_are : core.choices ≡ choices

-- a hart has as many numbers as code has them, and its order index is a word
pub record IsWhole (core : Core) : Type 0 where
  pub order : ForSome core.next_order (λ order. order < 2 ^ 64)
  pub registers : length core.registers.values ≡ 31
  pub entries : length core.csrs.entries ≡ 16

-- a sound hart as code has it, of numbers of 64 bits
pub record IsSavedCore (core : Core) : Type 0 where
  pub sound : IsSound core
  pub words : CoreHoldsWords core
  pub whole : IsWhole core

-- harts of one profile, map and choices, and the bytes of a memory that is 0 outside RAM
pub record IsSaved (profile : CsrProfile) (map : Map) (choices : Choices) (cores : List Core) (bytes : Bytes)
    : Type 0 where
  pub some : 0 < length cores
  pub few : length cores ≤ MOST_HARTS
  pub each : All IsSavedCore cores
  pub over : All (IsOver profile map choices) cores
  pub small : (address : ℕ) → bytes address < 2 ^ 8
  pub outside : IsZeroOutside map.ram bytes

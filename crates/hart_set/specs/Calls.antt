-- What the calls on a set need of it, and what they did.
use Rattle.std.specs.Prelude.{◌≡◌, ◌<◌, true, List, length}
use Rattle.std.specs.List.{All}
use Rattle.hart_words.specs.declared.span.Span.{Span}
use Rattle.hart_words.specs.Memory.{Bytes, after_writes}
use Rattle.hart_words.specs.Actions.{Action}
use Rattle.hart_words.specs.Signals.{Shown}
use Rattle.rvfi_rows.specs.Meanings.{Meaning}
use Rattle.hart_set.specs.Sets.{is_plain_for_set, taken_of_set}

-- there is a hart at least, each is sound, and RAM is that of each hart's map
pub record CanStep {C : Type 0} (meaning : Meaning C) (is_sound : C → Type 0) (ram : Span) (cores : List C)
    : Type 0 where
  pub some : 0 < length cores
  pub sound : All is_sound cores
  pub maps : All (λ core. ram ≡ (meaning.map_of core).ram) cores

-- an action was done: its value is this, and memory is as its writes leave it
pub record IsDone {A : Type 0} (action : Action A) (value : A) (before after : Bytes) : Type 0 where
  pub value_is : value ≡ (action.run before).value
  pub bytes_are : after ≡ after_writes (action.run before).wrote before

-- a row that shows this is plain for the harts before it; the harts after it are what is taken from it, and nothing is
-- written
pub record TakesQuietRow {C : Type 0} (meaning : Meaning C) (before : List C) (shown : Shown) (now : List C) : Type 0
  where
    pub plain : is_plain_for_set meaning before shown ≡ true
    pub taken : (bytes : Bytes) → IsDone (taken_of_set meaning before shown) now bytes bytes

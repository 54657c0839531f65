-- What the rows of a trace let one guess of the harts' state after them.
use Rattle.std.specs.Prelude.{◌≡◌, ℕ, List, [], ◌∷◌, Some, None, Ok, Err, if◌then◌else◌, Bool}
use Rattle.hart_words.specs.Memory.{after_writes}
use Rattle.hart_words.specs.Signals.{Shown}
use Rattle.rvfi_rows.specs.Columns.{TraceColumns}
use Rattle.rvfi_rows.specs.Rows.{RowReading, rows_of}
pub use Rattle.hart_step.specs.HartSets.{SetCanStep, set_state_of}
use Rattle.hart_set.specs.Sets.{is_plain_for_set, taken_of_set}
use Rattle.hart_step.specs.HartSets.{SetState, set_after_row}
use Rattle.hart_step.specs.Meanings.{core_meaning}

-- after a plain row, as it shows: its hart goes on, its store is put, and the others lose what it writes
abbrev pub state_shown : SetState → Shown → SetState
state_shown state shown =
    let run = (taken_of_set core_meaning state.core shown).run state.bytes in
    record { core = run.value; bytes = after_writes run.wrote state.bytes }

-- after a valid row: as a plain one shows; any other is stepped, and not compared
unfoldable pub guess_after_row : SetState → Shown → SetState
guess_after_row state shown =
    if is_plain_for_set core_meaning state.core shown then state_shown state shown else set_after_row state shown

-- after rows: one that is not valid changes nothing, and from a refused one on nothing changes
unfoldable pub guess_after : SetState → List RowReading → SetState
guess_after state [] = state
guess_after state (Err fault ∷ rows) = state
guess_after state (Ok None ∷ rows) = guess_after state rows
guess_after state (Ok (Some shown) ∷ rows) = guess_after (guess_after_row state shown) rows

-- the harts' state before the lines of each segment: the first is known, the others are guessed
unfoldable pub guesses_of : SetState → TraceColumns → List (List (List ℕ)) → List SetState
guesses_of state columns [] = []
guesses_of state columns (lines ∷ segments) =
    state ∷ guesses_of (guess_after state (rows_of columns lines)) columns segments

-- a reading either ends the guess or leaves the rest of the rows
abbrev pub PassesReading : SetState → RowReading → Bool → SetState → Type 0
PassesReading before reading goes_on now =
    (rows : List RowReading) →
    guess_after before (reading ∷ rows) ≡ if goes_on then guess_after now rows else now

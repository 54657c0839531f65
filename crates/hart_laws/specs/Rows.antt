-- What rows leave of several harts, and what they write.
use Rattle.std.specs.Prelude.{◌≡◌, ℕ, Bool, Option, Some, None, List, [], ◌∷◌, slice_get}
use Rattle.hart_words.specs.Signals.{Shown}
use Rattle.rv_atomic.specs.declared.reservation.Block.{Block}
use Rattle.hart_step.specs.declared.state.Core.{Core}
use Rattle.hart_step.specs.HartSets.{SetState, set_after_row, set_step_of}
use Rattle.hart_step.specs.Meanings.{is_written}

-- after rows, stepped one after another
unfoldable pub after_set_rows : SetState → List Shown → SetState
after_set_rows state [] = state
after_set_rows state (shown ∷ rows) = after_set_rows (set_after_row state shown) rows

-- the row's step writes the byte at the address
abbrev pub writes_byte : SetState → Shown → ℕ → Bool
writes_byte state shown address = is_written ((set_step_of state.core shown).run state.bytes).wrote address

-- the block that a hart has reserved, where the hart is there
abbrev pub block_in : Option Core → Option Block
block_in None = None
block_in (Some core) = core.reservation.block

-- the block that the hart of a number has reserved
abbrev pub reserved_by : SetState → ℕ → Option Block
reserved_by state number = block_in (slice_get state.core number)

-- the same hart, but for what it has reserved; or none before and after
abbrev pub IsSameButReservation : Option Core → Option Core → Type 0
IsSameButReservation None None = Unit {0}
IsSameButReservation None (Some after) = ⊥
IsSameButReservation (Some before) None = ⊥
IsSameButReservation (Some before) (Some after) = after ≡ record before { reservation = after.reservation }

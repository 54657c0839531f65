-- What a guess writes by a plain row: the bytes of RAM that the row shows its store to put.
use Rattle.std.specs.Prelude.{ℕ, zero, suc, ◌+◌, ◌%◌, Bool, ◌&&◌, ◌==◌, nat_le, if◌then◌else◌, Option, Some, None}
use Rattle.std.specs.Prelude.{List, [], ◌∷◌, ◌++◌, refl}
use Rattle.hart_words.specs.declared.accesses.Write.{Write}
use Rattle.hart_words.specs.declared.span.Span.{Span}
use Rattle.hart_words.specs.declared.span.TheConstants.{PAGE_SIZE}
use Rattle.hart_words.specs.Actions.{Action}
use Rattle.hart_words.specs.Signals.{Shown}
use Rattle.hart_words.specs.Spans.{holds_all}
use Rattle.rvfi_rows.specs.Window.{moved_down}
use Rattle.hart_step.specs.declared.state.Core.{Core}
use Rattle.hart_step.specs.declared.shown_store.ShownStore.{ShownStore}
use Rattle.hart_step.specs.PlainRows.{byte_place, core_shown, shows_store, stores_byte, store_shown}

-- how many bytes a mask has, where these are the low 1, 2, 4 or 8
abbrev pub len_of_mask : ℕ → Option ℕ
len_of_mask mask =
    if mask == 1 then Some 1 else if mask == 3 then Some 2 else if mask == 15 then Some 4
    else if mask == 255 then Some 8 else None

-- so many bytes lie in RAM, and in one page
abbrev pub is_in_page : Span → ℕ → ℕ → Bool
is_in_page ram pa len = holds_all ram pa len && nat_le (pa % PAGE_SIZE + len) PAGE_SIZE

abbrev pub len_in_page : Span → ℕ → Option ℕ → Option ℕ
len_in_page ram pa None = None
len_in_page ram pa (Some len) = if is_in_page ram pa len then Some len else None

-- how many bytes one write has, where it puts all that are stored
abbrev pub len_at_once : Span → ShownStore → Option ℕ
len_at_once ram store = len_in_page ram store.place (len_of_mask store.mask)

-- the write of one of the eight bytes, where it is stored
abbrev pub byte_write : Span → ShownStore → ℕ → List Write
byte_write ram store number =
    if stores_byte ram store number
    then record { pa = byte_place store number; len = 1; value = moved_down store.value number } ∷ [] else []

-- the writes of so many of them, one after another
unfoldable pub byte_writes : Span → ShownStore → ℕ → List Write
byte_writes ram store zero = []
byte_writes ram store (suc number) = byte_writes ram store number ++ byte_write ram store number

abbrev pub writes_by : Span → ShownStore → Option ℕ → List Write
writes_by ram store None = byte_writes ram store 8
writes_by ram store (Some len) = record { pa = store.place; len = len; value = store.value } ∷ []

-- what puts the bytes that lie in RAM: one write, or one for each byte
unfoldable pub writes_of : Span → ShownStore → List Write
writes_of ram store = writes_by ram store (len_at_once ram store)

-- what a plain row writes
unfoldable pub writes_shown : Core → Shown → List Write
writes_shown core shown = if shows_store shown then writes_of core.map.ram (store_shown shown) else []

-- the state after a plain row, with what it writes; memory is not asked
unfoldable pub taken_of : Core → Shown → Action Core
taken_of core shown = record {
  run = λ bytes. record { value = core_shown core shown; reads = []; wrote = writes_shown core shown };
  framed = λ one other agree. refl;
}

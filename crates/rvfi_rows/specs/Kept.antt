-- How rows are kept that were read.
use Rattle.std.specs.Prelude.{◌≡◌, ◌<◌, ℕ, true, List, [], ◌∷◌, length, slice_index, take, drop, Some, None, Ok, Err}
use Rattle.hart_words.specs.declared.signal.Signal.{Signal}
use Rattle.hart_words.specs.Signals.{index_of}
use Rattle.rvfi_rows.specs.declared.reading.Kept.{Kept}
use Rattle.rvfi_rows.specs.declared.reading.Kept.TheVariants as kept
use Rattle.rvfi_rows.specs.Cells.{AreOf, is_among, values_of, with_bits}
use Rattle.rvfi_rows.specs.Columns.{ColumnList}
use Rattle.rvfi_rows.specs.Rows.{RowReading, signals_of}

-- what a row reads as, by what is kept of it and its values
abbrev pub kept_reading : List Signal → Kept → List ℕ → RowReading
kept_reading signals kept.Invalid values = Ok None
kept_reading signals (kept.Shown bits) values = Ok (Some (with_bits bits (values_of signals values)))
kept_reading signals (kept.Refused fault) values = Err fault

-- the same of rows, each with as many values as there are signals
unfoldable pub kept_readings : List Signal → List Kept → List ℕ → List RowReading
kept_readings signals [] values = []
kept_readings signals (row ∷ rows) values =
    kept_reading signals row (take (length signals) values) ∷ kept_readings signals rows (drop (length signals) values)

-- the signals of the known columns are among these
abbrev pub HasSignalsOf : ColumnList → List Signal → Type 0
HasSignalsOf columns signals =
    (signal : Signal) → is_among (signals_of columns) signal ≡ true → is_among signals signal ≡ true

-- the bits of the signals that a row shows
abbrev pub shown_bits : Kept → ℕ
shown_bits kept.Invalid = 0
shown_bits (kept.Shown bits) = bits
shown_bits (kept.Refused fault) = 0

-- a row shows none but these signals
abbrev pub ShowsOnly : List Signal → Kept → Type 0
ShowsOnly signals row = AreOf signals (shown_bits row)

-- the value of one of the signals stands at this place among as many values
pub record StandsAt (signals : List Signal) (signal : Signal) (position : ℕ) : Type 0 where
  pub within : position < length signals
  pub value : (values : List ℕ) → length values ≡ length signals
      → values_of signals values signal ≡ Some (slice_index values position)
  deriving IsProp as StandsAt-prop

-- for each of the signals, at its index, where its value stands
abbrev pub AreFoundAt : List Signal → List ℕ → Type 0
AreFoundAt signals positions =
    (signal : Signal) → is_among signals signal ≡ true
    → StandsAt signals signal (slice_index positions (index_of signal))

-- A reader of csv that serves many lines.
use Rattle.std.specs.Prelude.{◌≡◌, ℕ, true, List, Option, Some, None, Box}
use Rattle.std.specs.Global.{Global}
use Rattle.std.specs.Borrow.{Bor}
use Rattle.csv.specs.Reading.{Ready, default_config, source_of, reader_state, reader_config, reader_trim, is_flexible}
use Rattle.csv.specs.declared.reader.Reader.{Reader}
use Rattle.csv.specs.declared.reader.Trim.TheVariants as trim
use Rattle.csv.specs.declared.parser.State.TheVariants.{StartRecord}
use Rattle.csv_line.specs.Fields.{fields_of_line}

-- the reader stands at the start of a record, and this text is left to it
pub record StandsAt (text : List ℕ) (reader : Reader (Bor (List ℕ))) : Type 0 where
  pub source : source_of (λ bytes. Some bytes.now) reader ≡ Some text
  pub state : reader_state reader ≡ StartRecord
  pub config : reader_config reader ≡ default_config
  pub trim : reader_trim reader ≡ trim.None
  pub flexible : is_flexible reader ≡ true
  pub ready : Ready reader

-- the same of a reader that may be there
abbrev pub StandsIfSome : List ℕ → Option (Box (Reader (Bor (List ℕ))) Global) → Type 0
StandsIfSome text None = Unit {0}
StandsIfSome text (Some reader) = StandsAt text reader.value

-- the fields are those of the line, and the reader stands after it
pub record ReadsLineFields (line rest : List ℕ) (fields : List (List ℕ)) (reader : Reader (Bor (List ℕ)))
    : Type 0 where
  pub fields_are : fields ≡ fields_of_line line
  pub stands : StandsAt rest reader

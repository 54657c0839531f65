-- Lines that one reader of csv serves among others.
use Rattle.std.specs.Prelude.{◌≡◌, ◌≢◌, ℕ, List, [], ◌∷◌, ◌++◌, ◌<◌, length, take, slice_index, Some}
use Rattle.std.specs.List.{All}
use Rattle.csv.specs.Machine.{step, next_record}
use Rattle.csv.specs.Reading.{default_config, strip_bom}
use Rattle.csv.specs.declared.parser.State.{State}
use Rattle.csv.specs.declared.parser.State.TheVariants.{StartRecord, StartField, InField, InQuoted, AfterQuote}
use Rattle.line_text.specs.Lines.{line_feed, IsLine}
use Rattle.csv_line.specs.declared.first_line.Place.{Place}
use Rattle.csv_line.specs.declared.first_line.Place.TheVariants.{Start, Plain, Quoted, Closed}

-- the byte is neither a line feed nor a carriage return, which end a record outside quotes
abbrev pub EndsNoRecord : ℕ → Type 0
EndsNoRecord byte = (byte ≢ 10) × (byte ≢ 13)

-- where csv's machine stands
abbrev pub machine_state_of : Place → State
machine_state_of Start = StartField
machine_state_of Plain = InField
machine_state_of Quoted = InQuoted
machine_state_of Closed = AfterQuote

-- the state of the machine after these bytes
unfoldable pub machine_state_after : State → List ℕ → State
machine_state_after state [] = state
machine_state_after state (byte ∷ bytes) = machine_state_after (step default_config state byte).0 bytes

-- and it is no quote
abbrev pub IsPlain : ℕ → Type 0
IsPlain byte = (byte ≢ 34) × EndsNoRecord byte

-- the byte is neither a quote nor a carriage return: a text of such bytes is simple
abbrev pub IsSimple : ℕ → Type 0
IsSimple byte = (byte ≢ 34) × (byte ≢ 13)

-- the line has a first byte, and no byte order mark begins with it
pub record IsUnmarked (line : List ℕ) : Type 0 where
  pub nonempty : 0 < length line
  pub first : slice_index line 0 ≢ 0xEF

-- nothing in the line ends a record, each quote that opens a field is closed, and csv drops no mark
pub record IsShareable (line : List ℕ) : Type 0 where
  pub bytes : All EndsNoRecord line
  pub outside : machine_state_after StartField line ≢ InQuoted
  pub unmarked : IsUnmarked line

-- the first line feed stands at this place
pub record EndsAt (text : List ℕ) (end : ℕ) : Type 0 where
  pub within : end < length text
  pub feed : slice_index text end ≡ line_feed
  pub line : IsLine (take end text)

-- csv reads one record from the line alone, and the same from a text in which a line feed and more
-- follow the line; then it stands after the line feed
pub record IsShared (text line rest : List ℕ) : Type 0 where
  pub parts : text ≡ line ++ line_feed ∷ rest
  pub unmarked : strip_bom text ≡ text
  pub fields : List (List ℕ)
  pub alone : next_record default_config StartRecord [] [] (strip_bom line)
      ≡ Some (fields, StartRecord, [])
  pub among : next_record default_config StartRecord [] [] text ≡ Some (fields, StartRecord, rest)

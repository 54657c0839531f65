-- The fields of one line of comma-separated values.
use Rattle.std.specs.Prelude.{ℕ, ◌-◌, Bool, ◌||◌, ◌==◌, List, [], length, take, drop, map, Option, Some, None}
use Rattle.std.specs.List.{list_any, prefix_len, suffix_len}
use Rattle.csv.specs.Machine.{Read, next_record}
use Rattle.csv.specs.Reading.{default_config, strip_bom}
use Rattle.csv.specs.Records.{fields_of}
use Rattle.csv.specs.declared.parser.State.TheVariants.{StartRecord}
use Rattle.csv_line.specs.declared.Fields.TheInside.{Inside}

-- a space or a tab: the blanks at the ends of a field
abbrev pub is_space_or_tab : ℕ → Bool
is_space_or_tab byte = (byte == 32) || (byte == 9)

-- a text less the spaces and tabs at its front
abbrev pub trimmed_start_of : List ℕ → List ℕ
trimmed_start_of text = drop (prefix_len is_space_or_tab text) text

-- less those at its end
abbrev pub trimmed_end_of : List ℕ → List ℕ
trimmed_end_of text = take (length text - suffix_len is_space_or_tab text) text

-- less those at both ends
unfoldable pub trimmed_of : List ℕ → List ℕ
trimmed_of text = trimmed_end_of (trimmed_start_of text)

-- the fields of a record, where there is one
abbrev pub fields_read : Option Read → List (List ℕ)
fields_read None = []
fields_read (Some read) = read.0

-- the first record of the line, each field trimmed; the mark EF BB BF at its front is no part of it
unfoldable pub fields_of_line : List ℕ → List (List ℕ)
fields_of_line line =
    map trimmed_of (fields_read (next_record default_config StartRecord [] [] (strip_bom line)))

-- a record's fields, each trimmed
abbrev pub trimmed_fields : Inside → List (List ℕ)
trimmed_fields fields = map trimmed_of (fields_of fields.record)

-- a carriage return stands in the line
abbrev pub has_return_in : List ℕ → Bool
has_return_in line = list_any (λ byte. byte == 13) line

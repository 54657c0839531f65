-- The lines of a made trace.
use Rattle.std.specs.Prelude.{ℕ, List, ◌∷◌, codes, map}
use Rattle.std.specs.List.{join_by}
use Rattle.trace_lines.specs.Lines.{RemainingLines}
use Rattle.trace_lines.specs.declared.piece.Ending.TheVariants.{End}
use Rattle.trace_maker.specs.declared.made_row.MadeRow.{MadeRow}
use Rattle.trace_maker.specs.Texts.{fields_of, made_rows}
use Rattle.made_runs.specs.Shows.{header_line}

-- the line of a row, less its line feed
abbrev pub row_line : MadeRow → List ℕ
row_line row = join_by (λ field. field) (codes ",") (fields_of row)

-- the lines of the first rows
abbrev pub made_lines : (number rows : ℕ) → List (List ℕ)
made_lines number rows = map row_line (made_rows number rows)

-- all lines of the trace, and its end
abbrev pub made_left : (number rows : ℕ) → RemainingLines
made_left number rows = record { lines = header_line ∷ made_lines number rows; ending = End }

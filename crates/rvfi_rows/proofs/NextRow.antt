-- Reading one line more.
use Rattle.std.proofs.Common.{◌≡◌, ◌∙◌, ap, sym, ℕ, List, [], ◌∷◌, ◌++◌, Some, append_assoc}
use Rattle.csv_line.specs.declared.line_reader.LineRead.{LineRead}
use Rattle.csv_line.specs.Next.{ReadsNext}
use Rattle.csv_line.specs.Fields.{fields_of_line, has_return_in}
use Rattle.rvfi_rows.specs.Columns.{TraceColumns}
use Rattle.rvfi_rows.specs.Rows.{RowReading, rows_of, rows_of_fields, rows_of_line}
use Rattle.rvfi_rows.proofs.Steps.{rows-of_line}

-- the first of the lines was read
pub record ReadsFirst (lines : List (List ℕ)) (read : LineRead) (left fields : List (List ℕ)) : Type 0 where
  pub line : List ℕ
  pub parts : lines ≡ line ∷ left
  pub has_return : read.has_return ≡ has_return_in line
  pub fields_are : fields ≡ fields_of_line line

pub reads_first : (lines before : List (List ℕ)) (read : LineRead) (left fields : List (List ℕ))
    → ReadsNext lines before (Some read) left fields → ReadsFirst lines read left fields
reads_first [] before read left fields reads = absurd cc
reads_first (line ∷ lines) before read left fields reads =
    let same : read ≡ (record { has_return = has_return_in line }) = cc in
    record {
      line = line;
      parts = ap (λ rest. line ∷ rest) (sym reads.others);
      has_return = ap (λ (r : LineRead). r.has_return) same;
      fields_are = reads.fields_are;
    }

pub lines-next : (columns : TraceColumns) {lines left fields : List (List ℕ)} {read : LineRead}
    (done : List RowReading) {now whole : List RowReading} → ReadsFirst lines read left fields
    → now ≡ done ++ rows_of_fields columns read.has_return fields → done ++ rows_of columns lines ≡ whole
    → now ++ rows_of columns left ≡ whole
unfolding rows_of
lines-next columns {left} {fields} {read} done first is so_far =
    let rows : rows_of_fields columns read.has_return fields ≡ rows_of_line columns first.line =
    rows-of_line columns first.line read.has_return fields first.has_return first.fields_are in
    ap (λ front. front ++ rows_of columns left) is
    ∙ append_assoc done (rows_of_fields columns read.has_return fields) (rows_of columns left)
    ∙ ap (λ readings. done ++ (readings ++ rows_of columns left)) rows
    ∙ ap (λ list. done ++ rows_of columns list) (sym first.parts)
    ∙ so_far

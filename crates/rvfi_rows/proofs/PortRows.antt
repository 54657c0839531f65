-- The ports of columns, and how many rows lines have.
use Rattle.std.proofs.Common.{◌≡◌, ◌∙◌, sym, ap, refl, ℕ, suc, ◌+◌, ◌*◌, ◌<◌, ◌≤◌, List, [], ◌∷◌, ◌++◌, length, map}
use Rattle.std.proofs.Common.{get_or, drop, Option, Some, None, add-one, arith, append_assoc, length-append}
use Rattle.std.specs.Prelude.{max}
use Rattle.std.specs.List.{flat_map, range_with_len}
use Rattle.std.proofs.Math.Seq.{drop-cons}
use Rattle.std.proofs.Math.ListN.{drop_of_length-le}
use Rattle.std.proofs.lemmas.List.{get_or-map, length-map, map-append}
use Rattle.std.proofs.lemmas.List.Concat.{flat_map-append, flat_map-cons}
use Rattle.std.proofs.lemmas.Nat.{mul-le}
use Rattle.std.proofs.lemmas.List.FromFn.{get_or-map-range_with_len, length-map-range_with_len, map-range_with_len_more}
use Rattle.rvfi_rows.specs.declared.column.Column.{Column}
use Rattle.rvfi_rows.specs.declared.column.PlacedColumn.{PlacedColumn}
use Rattle.rvfi_rows.specs.declared.column.Port.{Port}
use Rattle.rvfi_rows.specs.declared.column.Port.TheVariants.{Zero, One, Two, Three}
use Rattle.rvfi_rows.specs.declared.port_columns.PortColumns.{PortColumns}
use Rattle.rvfi_rows.specs.declared.segment.Segment.{Segment}
use Rattle.rvfi_rows.specs.Columns.{ColumnList, TraceColumns, highest_port, port_or_zero, ports_of}
use Rattle.rvfi_rows.specs.Ports.{port_number}
use Rattle.rvfi_rows.specs.Rows.{RowReading, row_of_line, rows_of, rows_of_line}
use Rattle.rvfi_rows.specs.Segments.{line_count_of, row_count_of, segment_lines}

-- ---- there are four ports at most

number_below : (port : Port) → port_number port < 4
number_below Zero = omega arith
number_below One = omega arith
number_below Two = omega arith
number_below Three = omega arith

zero_below : (column : Option Column) → port_or_zero column < 4
zero_below None = omega arith
zero_below (Some column) = number_below column.port

pub highest_below : (columns : ColumnList) → highest_port columns < 4
unfolding highest_port
highest_below [] = omega arith
highest_below (column ∷ columns) = omega (arith, zero_below column, highest_below columns)

-- ---- the highest port of columns, one after the other

max_assoc : (a b c : ℕ) → max (max a b) c ≡ max a (max b c)
max_assoc a b c = omega arith

pub highest-next : (columns : ColumnList) (i : ℕ) (d : Option Column) (so_far port : ℕ) {whole : ℕ}
    → i < length columns → port ≡ port_or_zero (get_or columns i d)
    → max so_far (highest_port (drop i columns)) ≡ whole
    → max (max so_far port) (highest_port (drop (i + 1) columns)) ≡ whole
unfolding highest_port
highest-next columns i d so_far port {whole = whole} within is all =
    let rest : drop i columns ≡ get_or columns i d ∷ drop (i + 1) columns = rw add-one (drop-cons columns i d within) in
    let here : max so_far (max (port_or_zero (get_or columns i d)) (highest_port (drop (i + 1) columns))) ≡ whole =
    rw rest at all in
    max_assoc so_far port (highest_port (drop (i + 1) columns))
    ∙ ap (λ n. max so_far (max n (highest_port (drop (i + 1) columns)))) is ∙ here

pub highest-end : (columns : ColumnList) (i so_far : ℕ) {whole : ℕ} → length columns ≤ i
    → max so_far (highest_port (drop i columns)) ≡ whole → so_far ≡ whole
unfolding highest_port
highest-end columns i so_far {whole = whole} past all =
    let none : max so_far 0 ≡ whole = rw (drop_of_length-le columns past) at all in
    omega (arith, none)

-- ---- the known columns of a port

pub known_many : (ports : List PortColumns) (count : ℕ) (f : ℕ → List PlacedColumn)
    → map (λ known. known.placed.items) ports ≡ map f (range_with_len 0 count) → length ports ≡ count
known_many ports count f are =
    sym (length-map ports (λ known. known.placed.items)) ∙ ap length are ∙ length-map-range_with_len f 0 count

pub known_at : (ports : List PortColumns) (count : ℕ) (f : ℕ → List PlacedColumn) (port : ℕ) (d : PortColumns)
    → map (λ known. known.placed.items) ports ≡ map f (range_with_len 0 count) → port < count
    → (get_or ports port d).placed.items ≡ f port
known_at ports count f port d are within =
    let many = known_many ports count f are in
    sym (get_or-map (λ known. known.placed.items) ports port d [] (omega (arith, within, many)))
    ∙ ap (λ list. get_or list port []) are ∙ get_or-map-range_with_len f 0 count port port [] within (omega arith)

pub known-next : (ports : List PortColumns) (f : ℕ → List PlacedColumn) (port : ℕ) (known : PortColumns)
    {now : List PortColumns} → now ≡ ports ++ known ∷ [] → known.placed.items ≡ f port
    → map (λ known. known.placed.items) ports ≡ map f (range_with_len 0 port)
    → map (λ known. known.placed.items) now ≡ map f (range_with_len 0 (port + 1))
known-next ports f port known is one so_far =
    ap (map (λ known. known.placed.items)) is
    ∙ map-append (λ known. known.placed.items) ports (known ∷ [])
    ∙ ap (λ front. front ++ known.placed.items ∷ []) so_far
    ∙ ap (λ last. map f (range_with_len 0 port) ++ last ∷ []) one
    ∙ sym (map-range_with_len_more f 0 port port (omega arith))

-- ---- the rows of a line, one port after the other

pub rows-next : (f : ℕ → RowReading) (port : ℕ) (old before : List RowReading) (row : RowReading)
    {now : List RowReading} → now ≡ before ++ row ∷ [] → row ≡ f port
    → before ≡ old ++ map f (range_with_len 0 port) → now ≡ old ++ map f (range_with_len 0 (port + 1))
rows-next f port old before row is one so_far =
    is ∙ ap (λ row. before ++ row ∷ []) one ∙ ap (λ front. front ++ f port ∷ []) so_far
    ∙ append_assoc old (map f (range_with_len 0 port)) (f port ∷ [])
    ∙ ap (λ rows. old ++ rows) (sym (map-range_with_len_more f 0 port port (omega arith)))

-- ---- the rows of lines

pub rows_append : (columns : TraceColumns) (lines more : List (List ℕ))
    → rows_of columns (lines ++ more) ≡ rows_of columns lines ++ rows_of columns more
unfolding rows_of
rows_append columns [] more = refl
rows_append columns (line ∷ lines) more =
    ap (λ rest. rows_of_line columns line ++ rest) (rows_append columns lines more)
    ∙ sym (append_assoc (rows_of_line columns line) (rows_of columns lines) (rows_of columns more))

-- as many as the ports for each line
pub rows_length : (columns : TraceColumns) (lines : List (List ℕ))
    → length (rows_of columns lines) ≡ ports_of columns.named * length lines
unfolding rows_of
rows_length columns [] = omega arith
rows_length columns (line ∷ lines) =
    length-append (rows_of_line columns line) (rows_of columns lines)
    ∙ ap (λ n. n + length (rows_of columns lines)) (length-map-range_with_len (row_of_line columns line) 0 (ports_of columns.named))
    ∙ ap (λ n. ports_of columns.named + n) (rows_length columns lines)
    ∙ more (ports_of columns.named) (length lines)
  where
    more : (ports count : ℕ) → ports + ports * count ≡ ports * suc count
    more ports count = grind arith

-- four a line at most
pub rows_few : (columns : TraceColumns) (segments : List Segment)
    → row_count_of columns segments ≤ 4 * line_count_of segments
unfolding row_count_of
rows_few columns segments = by (ports_of columns.named) (line_count_of segments) (omega (arith, highest_below columns.named))
  where
    by : (ports lines : ℕ) → ports ≤ 4 → ports * lines ≤ 4 * lines
    by ports lines few = mul-le ports lines 4 lines few (omega arith)

-- the rows of the lines of segments
pub rows_counted : (columns : TraceColumns) (segments : List Segment)
    → length (rows_of columns (flat_map segment_lines segments)) ≡ row_count_of columns segments
unfolding row_count_of
rows_counted columns segments = rows_length columns (flat_map segment_lines segments)

-- of one segment and others
pub count-cons : (columns : TraceColumns) (segment : Segment) (segments : List Segment)
    → row_count_of columns (segment ∷ segments)
    ≡ length (rows_of columns segment.lines) + row_count_of columns segments
count-cons columns segment segments =
    sym (rows_counted columns (segment ∷ segments))
    ∙ ap (λ lines. length (rows_of columns lines)) (flat_map-cons segment_lines segment segments)
    ∙ ap length (rows_append columns segment.lines (flat_map segment_lines segments))
    ∙ length-append (rows_of columns segment.lines) (rows_of columns (flat_map segment_lines segments))
    ∙ ap (λ n. length (rows_of columns segment.lines) + n) (rows_counted columns segments)

-- of some segments and others
pub count-append : (columns : TraceColumns) (segments more : List Segment)
    → row_count_of columns (segments ++ more) ≡ row_count_of columns segments + row_count_of columns more
count-append columns segments more =
    sym (rows_counted columns (segments ++ more))
    ∙ ap (λ lines. length (rows_of columns lines)) (flat_map-append segment_lines segments more)
    ∙ ap length (rows_append columns (flat_map segment_lines segments) (flat_map segment_lines more))
    ∙ length-append (rows_of columns (flat_map segment_lines segments)) (rows_of columns (flat_map segment_lines more))
    ∙ ap (λ n. n + length (rows_of columns (flat_map segment_lines more))) (rows_counted columns segments)
    ∙ ap (λ n. row_count_of columns segments + n) (rows_counted columns more)

-- Going over the columns and the fields of a line, one after the other.
use Rattle.std.proofs.Common.{◌≡◌, ◌∙◌, sym, ap, refl, ℕ, zero, suc, ◌+◌, ◌<◌, ◌≤◌, Bool, List, [], ◌∷◌, ◌++◌, ◌==◌}
use Rattle.std.proofs.Common.{true, false, length, take, drop, map, get_or, slice_get, cond, Option, Some, None, Result}
use Rattle.std.proofs.Common.{Ok, Err, add-one, arith, length-take}
use Rattle.std.specs.Prelude.{if◌then◌else◌}
use Rattle.std.proofs.Math.Path.{fun_ext}
use Rattle.std.proofs.lemmas.List.{length-map, map-append, take_more}
use Rattle.std.proofs.lemmas.Option.{get_or_from_slice_get}
use Rattle.std.proofs.Math.Seq.{drop-cons, take-suc}
use Rattle.std.proofs.Math.ListN.{drop_of_length-le}
use Rattle.hart_words.specs.declared.signal.Signal.{Signal}
use Rattle.hart_words.specs.Results.{◌>>=◌}
use Rattle.hart_words.specs.Signals.{Shown, index_of}
use Rattle.std.specs.Option.{option_or}
use Rattle.csv_line.specs.Fields.{fields_of_line, has_return_in}
use Rattle.rvfi_rows.specs.declared.column.Column.{Column}
use Rattle.rvfi_rows.specs.declared.column.PlacedColumn.{PlacedColumn}
use Rattle.rvfi_rows.specs.Columns.{ColumnList, TraceColumns, column_if_of, first_repeated, port_columns}
use Rattle.rvfi_rows.specs.Columns.{port_numbers, stands_in}
use Rattle.rvfi_rows.specs.Placed.{cell_at, cells_at, field_shown_at, placed_from, row_at, valid_among, valid_at}
use Rattle.rvfi_rows.specs.Rows.{RowReading, alone, cell_of, cells_of, field_shown, is_valid_column, nothing}
use Rattle.rvfi_rows.specs.Rows.{row_of_fields, row_of_line, rows_of_fields, rows_of_line, shown_then, valid_of}
use Rattle.rvfi_rows.specs.Rows.{row_from, with_shown}
use Rattle.rvfi_rows.specs.declared.fault.RowFault.{RowFault}

-- what was shown before, and what the rest shows
abbrev pub with_front : Shown → Result Shown RowFault → Result Shown RowFault
with_front front rest = rest >>= λ row. Ok (shown_then front row)

drop_at : {A : Type 0} (xs : List A) (i : ℕ) (d : A) → i < length xs → drop i xs ≡ get_or xs i d ∷ drop (i + 1) xs
drop_at xs i d lt = rw add-one (drop-cons xs i d lt)

drop_from : {A : Type 0} (xs : List A) (i : ℕ) (x : A) → Some x ≡ slice_get xs i → drop i xs ≡ x ∷ drop (suc i) xs
drop_from [] i x is = absurd cc
drop_from (y ∷ xs) zero x is = let same : x ≡ y = cc in rw same refl
drop_from (y ∷ xs) (suc i) x is = drop_from xs i x is

drop_found : {A : Type 0} (xs : List A) (i : ℕ) (x : A) → Some x ≡ slice_get xs i → drop i xs ≡ x ∷ drop (i + 1) xs
drop_found xs i x is = rw add-one (drop_from xs i x is)

drop_past : {A : Type 0} (xs : List A) (i : ℕ) → length xs ≤ i → drop i xs ≡ []
drop_past xs i le = drop_of_length-le xs le

drop_gone : {A : Type 0} (xs : List A) (i : ℕ) → None ≡ slice_get xs i → drop i xs ≡ []
drop_gone [] i is = drop_past [] i (omega arith)
drop_gone (y ∷ xs) zero is = absurd cc
drop_gone (y ∷ xs) (suc i) is = drop_gone xs i is

past : {A : Type 0} (xs : List A) (i : ℕ) → None ≡ slice_get xs i → length xs ≤ i
past [] i is = omega arith
past (y ∷ xs) zero is = absurd cc
past (y ∷ xs) (suc i) is = let more = past xs i is in omega (arith, more)

-- ---- what the fields of a header name

pub named-next : {A B : Type 0} (f : A → B) (xs : List A) (i : ℕ) (x : A) (made : List B) → i < length xs
    → Some x ≡ slice_get xs i → made ≡ map f (take i xs) → made ++ f x ∷ [] ≡ map f (take (i + 1) xs)
named-next f xs i x made lt is so_far =
    let here : get_or xs i x ≡ x = get_or_from_slice_get xs i x x (sym is) in
    rw (take_more xs i x lt, here, map-append f (take i xs) (x ∷ []), so_far) refl

pub found_within : {A : Type 0} (xs : List A) (i : ℕ) → i < length xs → None ≡ slice_get xs i → ⊥
found_within [] i lt is = omega arith
found_within (x ∷ xs) zero lt is = cc
found_within (x ∷ xs) (suc i) lt is = found_within xs i (omega arith) is

-- ---- the first column that stands twice

pub repeated_column-next : (columns : ColumnList) (i : ℕ) (stands : Bool) (wanted : Option Column) → i < length columns
    → stands ≡ stands_in (take i columns) (get_or columns i None)
    → first_repeated (take i columns) (drop i columns) ≡ wanted
    → (if stands then get_or columns i None else first_repeated (take (i + 1) columns) (drop (i + 1) columns)) ≡ wanted
unfolding first_repeated
repeated_column-next columns i stands wanted lt is so_far =
    let here : (if stands then get_or columns i None else first_repeated
    (take i columns ++ get_or columns i None ∷ []) (drop (i + 1) columns)) ≡ wanted =
    rw is (rw (drop_at columns i None lt) at so_far) in
    rw (add-one, take-suc columns i None lt, ← add-one) here

pub repeated_column-end : (columns : ColumnList) (i : ℕ) (wanted : Option Column) → length columns ≤ i
    → first_repeated (take i columns) (drop i columns) ≡ wanted → None ≡ wanted
unfolding first_repeated
repeated_column-end columns i wanted le so_far = rw (drop_past columns i le) at so_far

-- ---- the column `valid`

no_fields : (columns : ColumnList) → valid_of columns [] ≡ Ok None
unfolding valid_of
no_fields [] = refl
no_fields (column ∷ columns) = refl

-- at one column: it is the one, or the rest tells
choose : (test : Bool) (all : List (List ℕ)) (one : PlacedColumn) (others : Option PlacedColumn)
    (here rest : Result (Option ℕ) RowFault)
    → cell_at one (slice_get all one.place) ≡ here → valid_at others all ≡ rest
    → valid_at (cond test (Some one) others) all ≡ (if test then here else rest)
choose true all one others here rest is more = is
choose false all one others here rest is more = more

same : (test : Bool) (value : Result (Option ℕ) RowFault) → (if test then value else value) ≡ value
same true value = refl
same false value = refl

-- from a place on
valid_from : (columns : ColumnList) (all : List (List ℕ)) (i : ℕ)
    → valid_at (valid_among (placed_from i columns)) all ≡ valid_of columns (drop i all)
unfolding valid_of placed_from
valid_from [] all i = refl
valid_from (column ∷ columns) all i = by column (slice_get all i) refl (valid_from columns all (i + 1))
  where
    by : (column : Option Column) (found : Option (List ℕ)) → found ≡ slice_get all i
        → valid_at (valid_among (placed_from (i + 1) columns)) all ≡ valid_of columns (drop (i + 1) all)
        → valid_at (valid_among (placed_from i (column ∷ columns))) all ≡ valid_of (column ∷ columns) (drop i all)
    by None (Some field) at rest = rw (drop_found all i field at) rest
    by (Some column) (Some field) at rest =
        rw (drop_found all i field at)
        (choose (is_valid_column column) all (record { place = i; column = column }) _ (cell_of column field) _
        (ap (cell_at (record { place = i; column = column })) (sym at)) rest)
    by None None at rest =
        let none : drop (i + 1) all ≡ [] = drop_past all (i + 1) (omega (arith, past all i at)) in
        rw (drop_gone all i at) (rest ∙ ap (valid_of columns) none ∙ no_fields columns)
    by (Some column) None at rest =
        let none : drop (i + 1) all ≡ [] = drop_past all (i + 1) (omega (arith, past all i at)) in
        rw (drop_gone all i at)
        (choose (is_valid_column column) all (record { place = i; column = column }) _ (Ok None) (Ok None)
        (ap (cell_at (record { place = i; column = column })) (sym at)) (rest ∙ ap (valid_of columns) none ∙ no_fields columns)
        ∙ same (is_valid_column column) (Ok None))

-- ---- all cells

later : (one two three : Option ℕ) → option_or three (option_or two one) ≡ option_or (option_or three two) one
later one two None = refl
later one two (Some x) = refl

joined : (front first others : Shown)
    → shown_then (shown_then front first) others ≡ shown_then front (shown_then first others)
joined front first others = fun_ext (λ signal. later (front signal) (first signal) (others signal))

none_later : (front : Shown) → shown_then front nothing ≡ front
none_later front = refl

-- ---- what one field adds

pub adds_nothing : (front : Shown) → shown_then front nothing ≡ front
adds_nothing front = refl

none_alone : (test : Bool) (before : Option ℕ) → option_or (if test then None else None) before ≡ before
none_alone true before = refl
none_alone false before = refl

pub adds_none : (front : Shown) (signal : Signal) → shown_then front (alone signal None) ≡ front
adds_none front signal = fun_ext (λ other. none_alone (index_of other == index_of signal) (front other))

one_alone : (test : Bool) (value : ℕ) (before : Option ℕ)
    → option_or (if test then Some value else None) before ≡ (if test then Some value else before)
one_alone true value before = refl
one_alone false value before = refl

pub adds_one : (front : Shown) (signal : Signal) (value : ℕ)
    → shown_then front (alone signal (Some value)) ≡ with_shown front signal value
adds_one front signal value = fun_ext (λ other. one_alone (index_of other == index_of signal) value (front other))

regroup : (front first : Shown) (rest : Result Shown RowFault)
    → with_front front (rest >>= λ others. Ok (shown_then first others)) ≡ with_front (shown_then front first) rest
regroup front first (Ok row) = ap (λ (cells : Shown). Ok cells) (sym (joined front first row))
regroup front first (Err fault) = refl

-- the cells of a field, and then those of the rest
after : Shown → Result Shown RowFault → Result Shown RowFault → Result Shown RowFault
after front first rest = first >>= λ cells. with_front (shown_then front cells) rest

cells-step : (placed : List PlacedColumn) (fields : List (List ℕ)) (i : ℕ) (d : PlacedColumn) (front : Shown)
    {wanted : Result Shown RowFault} → i < length placed
    → with_front front (cells_at (drop i placed) fields) ≡ wanted
    → after front (field_shown_at (get_or placed i d) (slice_get fields (get_or placed i d).place))
    (cells_at (drop (i + 1) placed) fields) ≡ wanted
unfolding cells_at after
cells-step placed fields i d front lt so_far =
    let one = get_or placed i d in
    let here = rw (drop_at placed i d lt) at so_far in
    step front (field_shown_at one (slice_get fields one.place)) (cells_at (drop (i + 1) placed) fields) ∙ here
  where
    step : (front : Shown) (first rest : Result Shown RowFault)
        → after front first rest
        ≡ with_front front (first >>= λ cells. (rest >>= λ others. Ok (shown_then cells others)))
    step front (Ok cells) rest = sym (regroup front cells rest)
    step front (Err fault) rest = refl

added : (front now : Shown) (first rest : Result Shown RowFault) (wanted : Result Shown RowFault)
    → with_front front first ≡ Ok now → after front first rest ≡ wanted → with_front now rest ≡ wanted
unfolding after
added front now (Ok cells) rest wanted is so_far = let same : shown_then front cells ≡ now = cc in rw (← same) so_far
added front now (Err fault) rest wanted is so_far = absurd cc

failed : (fault : RowFault) (front : Shown) (first rest : Result Shown RowFault) (wanted : Result Shown RowFault)
    → first ≡ Err fault → after front first rest ≡ wanted → Err fault ≡ wanted
unfolding after
failed fault front (Ok cells) rest wanted is so_far = absurd cc
failed fault front (Err other) rest wanted is so_far =
    let same : other ≡ fault = cc in ap (λ (f : RowFault). Err f) (sym same) ∙ so_far

pub cells-next : (placed : List PlacedColumn) (fields : List (List ℕ)) (i : ℕ) (d : PlacedColumn) (front : Shown)
    {field : List ℕ} {now : Shown} {wanted : Result Shown RowFault} → i < length placed
    → Some field ≡ slice_get fields (get_or placed i d).place
    → with_front front (field_shown (Some (get_or placed i d).column) field) ≡ Ok now
    → with_front front (cells_at (drop i placed) fields) ≡ wanted
    → with_front now (cells_at (drop (i + 1) placed) fields) ≡ wanted
cells-next placed fields i d front {now = now} {wanted = wanted} lt is shown so_far =
    added front now _ _ wanted
    (ap (λ found. with_front front (field_shown_at (get_or placed i d) found)) (sym is) ∙ shown)
    (cells-step placed fields i d front lt so_far)

pub cells-fail : (placed : List PlacedColumn) (fields : List (List ℕ)) (i : ℕ) (d : PlacedColumn) (front : Shown)
    {field : List ℕ} {fault : RowFault} {wanted : Result Shown RowFault} → i < length placed
    → Some field ≡ slice_get fields (get_or placed i d).place
    → field_shown (Some (get_or placed i d).column) field ≡ Err fault
    → with_front front (cells_at (drop i placed) fields) ≡ wanted → Err fault ≡ wanted
cells-fail placed fields i d front {fault = fault} {wanted = wanted} lt is shown so_far =
    failed fault front _ _ wanted (ap (field_shown_at (get_or placed i d)) (sym is) ∙ shown)
    (cells-step placed fields i d front lt so_far)

-- no field stands at the place
pub cells-skip : (placed : List PlacedColumn) (fields : List (List ℕ)) (i : ℕ) (d : PlacedColumn) (front : Shown)
    {wanted : Result Shown RowFault} → i < length placed → None ≡ slice_get fields (get_or placed i d).place
    → with_front front (cells_at (drop i placed) fields) ≡ wanted
    → with_front front (cells_at (drop (i + 1) placed) fields) ≡ wanted
cells-skip placed fields i d front {wanted = wanted} lt is so_far =
    added front front _ _ wanted
    (ap (λ found. with_front front (field_shown_at (get_or placed i d) found)) (sym is))
    (cells-step placed fields i d front lt so_far)

pub cells-end : (placed : List PlacedColumn) (fields : List (List ℕ)) (i : ℕ) (front : Shown)
    (wanted : Result Shown RowFault) → length placed ≤ i
    → with_front front (cells_at (drop i placed) fields) ≡ wanted → Ok front ≡ wanted
unfolding cells_at
cells-end placed fields i front wanted le so_far = rw (drop_past placed i le) at so_far

alone_cell : (x : Option ℕ) → option_or x None ≡ x
alone_cell None = refl
alone_cell (Some value) = refl

alone_front : (rest : Result Shown RowFault) → with_front nothing rest ≡ rest
alone_front (Ok row) = ap (λ (cells : Shown). Ok cells) (fun_ext (λ signal. alone_cell (row signal)))
alone_front (Err fault) = refl

-- before the first cell
pub cells-start : (placed : List PlacedColumn) (fields : List (List ℕ)) (shown : Shown) → shown ≡ nothing
    → with_front shown (cells_at placed fields) ≡ cells_at placed fields
cells-start placed fields shown is = rw is (alone_front (cells_at placed fields))

-- ---- the known columns at their places have the cells of all columns

no_cells : (columns : ColumnList) → cells_of columns [] ≡ Ok nothing
unfolding cells_of
no_cells [] = refl
no_cells (column ∷ columns) = refl

cells_from : (columns : ColumnList) (all : List (List ℕ)) (i : ℕ)
    → cells_at (placed_from i columns) all ≡ cells_of columns (drop i all)
unfolding cells_of cells_at placed_from field_shown
cells_from [] all i = refl
cells_from (column ∷ columns) all i = by column (slice_get all i) refl (cells_from columns all (i + 1))
  where
    by : (column : Option Column) (found : Option (List ℕ)) → found ≡ slice_get all i
        → cells_at (placed_from (i + 1) columns) all ≡ cells_of columns (drop (i + 1) all)
        → cells_at (placed_from i (column ∷ columns)) all ≡ cells_of (column ∷ columns) (drop i all)
    by None (Some field) at rest =
        rw (drop_found all i field at) (rest ∙ sym (alone_front (cells_of columns (drop (i + 1) all))))
    by (Some column) (Some field) at rest =
        rw (drop_found all i field at)
        (ap (λ found. field_shown_at (record { place = i; column = column }) found >>= λ first.
        (cells_at (placed_from (i + 1) columns) all >>= λ others. Ok (shown_then first others))) (sym at)
        ∙ ap (λ (cells : Result Shown RowFault). field_shown (Some column) field >>= λ first.
        (cells >>= λ others. Ok (shown_then first others))) rest)
    by None None at rest =
        let none : drop (i + 1) all ≡ [] = drop_past all (i + 1) (omega (arith, past all i at)) in
        rw (drop_gone all i at) (rest ∙ ap (cells_of columns) none ∙ no_cells columns)
    by (Some column) None at rest =
        let none : drop (i + 1) all ≡ [] = drop_past all (i + 1) (omega (arith, past all i at)) in
        rw (drop_gone all i at)
        (ap (λ found. field_shown_at (record { place = i; column = column }) found >>= λ first.
        (cells_at (placed_from (i + 1) columns) all >>= λ others. Ok (shown_then first others))) (sym at)
        ∙ alone_front (cells_at (placed_from (i + 1) columns) all)
        ∙ rest ∙ ap (cells_of columns) none ∙ no_cells columns)

-- so they have its row
pub row_placed : (columns : ColumnList) (placed : List PlacedColumn) (fields : List (List ℕ))
    → placed ≡ placed_from 0 columns → row_at placed fields ≡ row_from columns fields
unfolding row_at row_from
row_placed columns placed fields is =
    rw (is, valid_from columns fields 0, cells_from columns fields 0) refl

-- ---- the known columns of a port, one after the other

placed-append : (place : ℕ) (columns more : ColumnList)
    → placed_from place (columns ++ more) ≡ placed_from place columns ++ placed_from (place + length columns) more
unfolding placed_from
placed-append place [] more = ap (λ n. placed_from n more) (omega arith)
placed-append place (None ∷ columns) more =
    placed-append (place + 1) columns more
    ∙ ap (λ n. placed_from (place + 1) columns ++ placed_from n more) (omega arith)
placed-append place (Some column ∷ columns) more =
    ap (λ rest. record { place = place; column = column } ∷ rest)
    (placed-append (place + 1) columns more
    ∙ ap (λ n. placed_from (place + 1) columns ++ placed_from n more) (omega arith))

pub placed-next : (columns : ColumnList) (port i : ℕ) (d : Option Column) (before : List PlacedColumn)
    {now : List PlacedColumn} → i < length columns
    → now ≡ before ++ placed_from i (column_if_of port (get_or columns i d) ∷ [])
    → before ≡ placed_from 0 (port_columns port (take i columns))
    → now ≡ placed_from 0 (port_columns port (take (i + 1) columns))
placed-next columns port i d before lt is so_far =
    let mine = port_columns port (take i columns) in
    let one = column_if_of port (get_or columns i d) ∷ [] in
    let many : 0 + length mine ≡ i =
    omega (arith, length-map (take i columns) (column_if_of port), length-take i columns, lt) in
    let split : port_columns port (take (i + 1) columns) ≡ mine ++ one =
    ap (port_columns port) (take_more columns i d lt)
    ∙ map-append (column_if_of port) (take i columns) (get_or columns i d ∷ []) in
    is ∙ ap (λ placed. placed ++ placed_from i one) so_far
    ∙ ap (λ n. placed_from 0 mine ++ placed_from n one) (sym many)
    ∙ sym (placed-append 0 mine one) ∙ ap (placed_from 0) (sym split)

-- ---- the rows of a line

pub of_line : (columns : TraceColumns) (line : List ℕ) (has : Bool) (fields : List (List ℕ)) (port : ℕ)
    → has ≡ has_return_in line → fields ≡ fields_of_line line
    → row_of_fields columns has fields port ≡ row_of_line columns line port
unfolding row_of_line
of_line columns line has fields port is are = rw (is, are) refl

pub rows-of_line : (columns : TraceColumns) (line : List ℕ) (has : Bool) (fields : List (List ℕ))
    → has ≡ has_return_in line → fields ≡ fields_of_line line
    → rows_of_fields columns has fields ≡ rows_of_line columns line
rows-of_line columns line has fields is are =
    ap (λ (row : ℕ → RowReading). map row (port_numbers columns.named))
    (fun_ext (λ port. of_line columns line has fields port is are))

-- Rows show none but the signals of their columns.
use Rattle.std.proofs.Common.{◌≡◌, ◌∙◌, sym, ap, refl, subst, ℕ, ◌==◌, ◌||◌, Bool, true, false, not, List, [], ◌∷◌}
use Rattle.std.proofs.Common.{◌++◌, ◌+◌, ◌<◌, get_or, length, take, Option, Some, None, Result, Ok, Err}
use Rattle.std.specs.Prelude.{if◌then◌else◌, nat_lt, slice_index}
use Rattle.std.specs.Option.{option_or}
use Rattle.std.specs.Int.{bit_at}
use Rattle.std.proofs.lemmas.Bool.{eqb-true, or_parts}
use Rattle.std.proofs.lemmas.Bool.Decides.{Decides-eqb}
use Rattle.std.specs.List.{list_any}
use Rattle.std.proofs.lemmas.List.{take_more}
use Rattle.std.proofs.lemmas.List.Folds.{list_any-append}
use Rattle.hart_words.specs.declared.signal.Signal.{Signal}
use Rattle.hart_words.specs.Signals.{Shown, index_of}
use Rattle.hart_words.specs.Results.{◌>>=◌, ◌>>◌, refuse_if}
use Rattle.rvfi_rows.specs.declared.column.Column.{Column}
use Rattle.rvfi_rows.specs.declared.fault.RowFault.{RowFault}
use Rattle.rvfi_rows.specs.declared.fault.RowFault.TheVariants.{FieldCount, NoHart}
use Rattle.rvfi_rows.specs.declared.row.Row.{Row}
use Rattle.rvfi_rows.specs.Cells.{AreOf, is_among, shown_in, values_at, values_of, with_bits}
use Rattle.rvfi_rows.specs.Columns.{ColumnList, TraceColumns, port_columns}
use Rattle.rvfi_rows.specs.Kept.{HasSignalsOf}
use Rattle.rvfi_rows.specs.Ports.{port_number}
use Rattle.rvfi_rows.specs.Rows.{alone, cell_of, cells_of, field_shown, hart_of, is_invalid, nothing, row_at_port}
use Rattle.rvfi_rows.specs.Rows.{row_from, row_of_fields, row_of_present, shown_then, signals_of, valid_of}
use Rattle.rvfi_rows.proofs.Values.{shows_kept}

-- it shows nothing of a signal, where it is read
abbrev Lacks : Signal → Result Shown RowFault → Type 0
Lacks signal (Ok shown) = shown signal ≡ None
Lacks signal (Err fault) = Unit {0}

lacks_then : (signal : Signal) (first rest : Result Shown RowFault) → Lacks signal first → Lacks signal rest
    → Lacks signal (first >>= λ a. (rest >>= λ b. Ok (shown_then a b)))
lacks_then signal (Ok a) (Ok b) one two = ap (λ later. option_or later (a signal)) two ∙ one
lacks_then signal (Ok a) (Err fault) one two = tt
lacks_then signal (Err fault) rest one two = tt

lacks_cell : (signal shown : Signal) (cell : Result (Option ℕ) RowFault) → (index_of signal == index_of shown) ≡ false
    → Lacks signal (cell >>= λ value. Ok (alone shown value))
lacks_cell signal shown (Ok value) other = ap (λ test. if test then value else None) other
lacks_cell signal shown (Err fault) other = tt

lacks_cells : (signal : Signal) (columns : ColumnList) (fields : List (List ℕ))
    → is_among (signals_of columns) signal ≡ false → Lacks signal (cells_of columns fields)
unfolding cells_of field_shown signals_of
lacks_cells signal [] fields none = refl
lacks_cells signal (column ∷ columns) [] none = refl
lacks_cells signal (None ∷ columns) (field ∷ fields) none =
    lacks_then signal (Ok nothing) (cells_of columns fields) refl (lacks_cells signal columns fields none)
lacks_cells signal (Some column ∷ columns) (field ∷ fields) none =
    let parts = or_parts (index_of signal == index_of column.signal) (is_among (signals_of columns) signal) none in
    lacks_then signal (field_shown (Some column) field) (cells_of columns fields)
    (lacks_cell signal column.signal (cell_of column field) parts.0) (lacks_cells signal columns fields parts.1)

-- the same of a row that is valid
abbrev LacksRow : Signal → Result (Option Shown) RowFault → Type 0
LacksRow signal (Ok (Some shown)) = shown signal ≡ None
LacksRow signal (Ok None) = Unit {0}
LacksRow signal (Err fault) = Unit {0}

lacks_valid : (signal : Signal) (valid : Result (Option ℕ) RowFault) (cells : Result Shown RowFault)
    → Lacks signal cells
    → LacksRow signal (valid >>= λ value. (if is_invalid value then Ok None else (cells >>= λ row. Ok (Some row))))
lacks_valid signal (Err fault) cells lacks = tt
lacks_valid signal (Ok value) cells lacks = by (is_invalid value) cells lacks
  where
    by : (invalid : Bool) (cells : Result Shown RowFault) → Lacks signal cells
        → LacksRow signal (if invalid then Ok None else (cells >>= λ row. Ok (Some row)))
    by true cells lacks = tt
    by false (Ok shown) lacks = lacks
    by false (Err fault) lacks = tt

lacks_row : (signal : Signal) (columns : ColumnList) (has : Bool) (fields : List (List ℕ)) (port : ℕ)
    → is_among (signals_of (port_columns port columns)) signal ≡ false
    → LacksRow signal (row_at_port columns has fields port)
unfolding row_at_port row_from
lacks_row signal columns true fields port none = tt
lacks_row signal columns false fields port none =
    let mine = port_columns port columns in
    by (length fields == length columns) (row_from mine fields)
    (lacks_valid signal (valid_of mine fields) (cells_of mine fields) (lacks_cells signal mine fields none))
  where
    by : (fit : Bool) (row : Result (Option Shown) RowFault) → LacksRow signal row
        → LacksRow signal (refuse_if (not fit) FieldCount >> row)
    by true row lacks = lacks
    by false row lacks = tt

-- the signals of a port's columns are signals of the columns
port_signals : (port : ℕ) (columns : ColumnList) (signal : Signal)
    → is_among (signals_of (port_columns port columns)) signal ≡ true → is_among (signals_of columns) signal ≡ true
unfolding signals_of
port_signals port [] signal among = among
port_signals port (None ∷ columns) signal among = port_signals port columns signal among
port_signals port (Some column ∷ columns) signal among =
    by (port_number column.port == port) (index_of signal == index_of column.signal) refl among
    (port_signals port columns signal)
  where
    by : (mine here : Bool) → (index_of signal == index_of column.signal) ≡ here
        → is_among (signals_of ((if mine then Some column else None) ∷ port_columns port columns)) signal ≡ true
        → (is_among (signals_of (port_columns port columns)) signal ≡ true → is_among (signals_of columns) signal ≡ true)
        → (here || is_among (signals_of columns) signal) ≡ true
    by mine true is among more = refl
    by true false is among more =
        more (ap (λ b. b || is_among (signals_of (port_columns port columns)) signal) (sym is) ∙ among)
    by false false is among more = more among

-- a row that is shown shows none but these signals, among which are those of the columns
pub are_of : (row : Row) (columns : ColumnList) (has : Bool) (fields : List (List ℕ)) (port : ℕ)
    (signals : List Signal) → HasSignalsOf columns signals
    → Ok (Some (shown_in row)) ≡ row_at_port columns has fields port → AreOf signals row.shown
unfolding shown_in
are_of row columns has fields port signals all is = record {
  below = row.within;
  theirs = λ signal bit. by signal bit (is_among signals signal) refl;
}
  where
    lacked : (signal : Signal) (among : Bool) → is_among (signals_of (port_columns port columns)) signal ≡ among
        → is_among signals signal ≡ false → among ≡ false
    lacked signal false e none = refl
    lacked signal true e none =
        let here : is_among signals signal ≡ true = all signal (port_signals port columns signal e) in absurd cc

    by : (signal : Signal) → bit_at row.shown (index_of signal) ≡ 1 → (among : Bool)
        → is_among signals signal ≡ among → among ≡ true
    by signal bit true e = refl
    by signal bit false e =
        let P : Result (Option Shown) RowFault → Type 0 = λ r. LacksRow signal r in
        let none = lacked signal (is_among (signals_of (port_columns port columns)) signal) refl e in
        let lacks : shown_in row signal ≡ None = subst P (sym is) (lacks_row signal columns has fields port none) in
        let shown : shown_in row signal ≡ Some (slice_index row.values (index_of signal)) = rw bit refl in
        absurd cc

-- so it is what is kept of it
pub kept_shown : (row : Row) (bits : ℕ) (columns : ColumnList) (has : Bool) (fields : List (List ℕ)) (port : ℕ)
    (signals : List Signal) → HasSignalsOf columns signals
    → bits ≡ row.shown → Ok (Some (shown_in row)) ≡ row_at_port columns has fields port
    → Ok (Some (with_bits bits (values_of signals (values_at row.values signals))))
    ≡ row_at_port columns has fields port
kept_shown row bits columns has fields port signals all same is =
    rw same (ap (λ (shown : Shown). Ok (Some shown)) (shows_kept row signals
    (are_of row columns has fields port signals all is)) ∙ is)

-- ---- whether its hart is there

with_present : (columns : TraceColumns) (has : Bool) (fields : List (List ℕ)) (port : ℕ) (shown : Shown) (is_there : Bool)
    → Ok (Some shown) ≡ row_at_port columns.named has fields port → nat_lt (hart_of shown) columns.harts ≡ is_there
    → row_of_fields columns has fields port ≡ (if is_there then Ok (Some shown) else Err NoHart)
unfolding row_of_fields
with_present columns has fields port shown is_there is there =
    ap (λ (row : Result (Option Shown) RowFault). row >>= λ found. row_of_present columns.harts found) (sym is)
    ∙ ap (λ (t : Bool). if t then Ok (Some shown) else Err NoHart) there

pub kept_present : (row : Row) (bits : ℕ) (columns : TraceColumns) (has : Bool) (fields : List (List ℕ)) (port : ℕ)
    (signals : List Signal) → HasSignalsOf columns.named signals
    → bits ≡ row.shown → Ok (Some (shown_in row)) ≡ row_at_port columns.named has fields port
    → nat_lt (hart_of (shown_in row)) columns.harts ≡ true
    → Ok (Some (with_bits bits (values_of signals (values_at row.values signals))))
    ≡ row_of_fields columns has fields port
kept_present row bits columns has fields port signals all same is there =
    kept_shown row bits columns.named has fields port signals all same is ∙ sym is
    ∙ sym (with_present columns has fields port (shown_in row) true is there)

pub kept_absent : (row : Row) (columns : TraceColumns) (has : Bool) (fields : List (List ℕ)) (port : ℕ)
    → Ok (Some (shown_in row)) ≡ row_at_port columns.named has fields port
    → nat_lt (hart_of (shown_in row)) columns.harts ≡ false → Err NoHart ≡ row_of_fields columns has fields port
kept_absent row columns has fields port is there =
    sym (with_present columns has fields port (shown_in row) false is there)

pub kept_invalid : (columns : TraceColumns) (has : Bool) (fields : List (List ℕ)) (port : ℕ)
    → Ok None ≡ row_at_port columns.named has fields port → Ok None ≡ row_of_fields columns has fields port
unfolding row_of_fields
kept_invalid columns has fields port is =
    ap (λ (row : Result (Option Shown) RowFault). row >>= λ found. row_of_present columns.harts found) is

pub kept_refused : (columns : TraceColumns) (has : Bool) (fields : List (List ℕ)) (port : ℕ) (fault : RowFault)
    → Err fault ≡ row_at_port columns.named has fields port → Err fault ≡ row_of_fields columns has fields port
unfolding row_of_fields
kept_refused columns has fields port fault is =
    ap (λ (row : Result (Option Shown) RowFault). row >>= λ found. row_of_present columns.harts found) is

-- ---- the signals of one column more

signals_append : (columns more : ColumnList) → signals_of (columns ++ more) ≡ signals_of columns ++ signals_of more
unfolding signals_of
signals_append [] more = refl
signals_append (None ∷ columns) more = signals_append columns more
signals_append (Some column ∷ columns) more = ap (λ signals. column.signal ∷ signals) (signals_append columns more)

-- signals among which are those of one column more
pub signals-next : (columns : ColumnList) (i : ℕ) (d : Option Column) (before now : List Signal) → i < length columns
    → ((signal : Signal) → is_among before signal ≡ true → is_among now signal ≡ true)
    → HasSignalsOf (get_or columns i d ∷ []) now → HasSignalsOf (take i columns) before
    → HasSignalsOf (take (i + 1) columns) now
signals-next columns i d before now within stay one so_far = λ signal among.
    let split : is_among (signals_of (take (i + 1) columns)) signal
    ≡ (is_among (signals_of (take i columns)) signal || is_among (signals_of (get_or columns i d ∷ [])) signal) =
    ap (λ (list : ColumnList). is_among (signals_of list) signal) (take_more columns i d within)
    ∙ ap (λ signals. is_among signals signal) (signals_append (take i columns) (get_or columns i d ∷ []))
    ∙ list_any-append (λ other. index_of signal == index_of other) (signals_of (take i columns))
    (signals_of (get_or columns i d ∷ [])) in
    by signal (is_among (signals_of (take i columns)) signal) refl (sym split ∙ among)
  where
    by : (signal : Signal) (front : Bool) → is_among (signals_of (take i columns)) signal ≡ front
        → (front || is_among (signals_of (get_or columns i d ∷ [])) signal) ≡ true → is_among now signal ≡ true
    by signal true is among = stay signal (so_far signal is)
    by signal false is among = one signal among

-- ---- a signal that is put after others

either : (x : Bool) → (x || false) ≡ true → x ≡ true
either true e = refl
either false e = absurd cc

pub none_among : {column : Option Column} (signals : List Signal) → column ≡ None → HasSignalsOf (column ∷ []) signals
unfolding signals_of
none_among signals is =
    subst (λ (column : Option Column). HasSignalsOf (column ∷ []) signals) (sym is) (λ signal e. absurd cc)

pub one_among : {column : Option Column} {one : Column} (signals : List Signal) → column ≡ Some one
    → is_among signals one.signal ≡ true → HasSignalsOf (column ∷ []) signals
unfolding signals_of
one_among {one = one} signals is among =
    subst (λ (column : Option Column). HasSignalsOf (column ∷ []) signals) (sym is)
    (λ signal e.
    ap (λ n. list_any (λ other. n == index_of other) signals)
    (eqb-true (index_of signal) (index_of one.signal) (either _ e)) ∙ among)

pub last_among : (signals : List Signal) (signal : Signal) → is_among (signals ++ signal ∷ []) signal ≡ true
last_among [] signal =
    ap (λ b. b || false) ((Decides-eqb (index_of signal) (index_of signal)).1 refl)
last_among (first ∷ signals) signal =
    ap (λ b. (index_of signal == index_of first) || b) (last_among signals signal)
    ∙ or_true (index_of signal == index_of first)
  where
    or_true : (x : Bool) → (x || true) ≡ true
    or_true true = refl
    or_true false = refl

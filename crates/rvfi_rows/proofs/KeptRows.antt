-- Rows that are kept, one by one.
use Rattle.std.proofs.Common.{◌≡◌, ◌∙◌, sym, ap, refl, subst, ℕ, zero, suc, ◌+◌, ◌*◌, ◌≤◌, List, [], ◌∷◌, ◌++◌, length}
use Rattle.std.proofs.Common.{take, drop, slice_get, Some, None, option_map, arith, length-append, length-drop}
use Rattle.std.proofs.lemmas.List.{drop-drop, take-append-le, drop-append-le, take_all}
use Rattle.std.proofs.lemmas.List.Elements.{All-head, All-push, All-tail}
use Rattle.std.specs.List.{All}
use Rattle.hart_words.specs.declared.signal.Signal.{Signal}
use Rattle.rvfi_rows.specs.declared.reading.Kept.{Kept}
use Rattle.rvfi_rows.specs.Cells.{values_at}
use Rattle.rvfi_rows.specs.Kept.{ShowsOnly, kept_reading, kept_readings}
use Rattle.rvfi_rows.specs.Rows.{RowReading}

-- as many readings as rows
pub kept-length : (signals : List Signal) (rows : List Kept) (values : List ℕ)
    → length (kept_readings signals rows values) ≡ length rows
unfolding kept_readings
kept-length signals [] values = refl
kept-length signals (row ∷ rows) values = ap suc (kept-length signals rows (drop (length signals) values))

-- the row at a place
pub kept-get : (signals : List Signal) (rows : List Kept) (values : List ℕ) (place : ℕ)
    → slice_get (kept_readings signals rows values) place
    ≡ option_map (λ row. kept_reading signals row (take (length signals) (drop (place * length signals) values)))
    (slice_get rows place)
unfolding kept_readings
kept-get signals [] values place = refl
kept-get signals (row ∷ rows) values zero =
    let none : 0 * length signals ≡ 0 = omega arith in
    ap (λ n. Some (kept_reading signals row (take (length signals) (drop n values)))) (sym none)
kept-get signals (row ∷ rows) values (suc place) =
    let more : length signals + place * length signals ≡ suc place * length signals = omega arith in
    kept-get signals rows (drop (length signals) values) place
    ∙ ap (λ front. option_map (λ row. kept_reading signals row (take (length signals) front)) (slice_get rows place))
    (drop-drop (place * length signals) (length signals) values ∙ ap (λ n. drop n values) more)

pub kept-none : (signals : List Signal) (rows : List Kept) (values : List ℕ) (place : ℕ) → None ≡ slice_get rows place
    → None ≡ slice_get (kept_readings signals rows values) place
kept-none signals rows values place is =
    ap (option_map (λ row. kept_reading signals row (take (length signals) (drop (place * length signals) values))))
    is ∙ sym (kept-get signals rows values place)

pub kept-some : (signals : List Signal) (rows : List Kept) (values : List ℕ) (place : ℕ) (row : Kept)
    → Some row ≡ slice_get rows place
    → Some (kept_reading signals row (take (length signals) (drop (place * length signals) values)))
    ≡ slice_get (kept_readings signals rows values) place
kept-some signals rows values place row is =
    ap (option_map (λ row. kept_reading signals row (take (length signals) (drop (place * length signals) values))))
    is ∙ sym (kept-get signals rows values place)

-- a row more
pub kept-push : (signals : List Signal) (rows : List Kept) (values more : List ℕ) (row : Kept)
    → length values ≡ length rows * length signals → length more ≡ length signals
    → kept_readings signals (rows ++ row ∷ []) (values ++ more) ≡ kept_readings signals rows values
    ++ kept_reading signals row more ∷ []
unfolding kept_readings
kept-push signals [] [] more row full fits =
    ap (λ list. kept_reading signals row list ∷ []) (take_all (length signals) more (omega (arith, fits)))
kept-push signals [] (value ∷ values) more row full fits = absurd (omega (arith, full))
kept-push signals (first ∷ rows) values more row full fits =
    let count : suc (length rows) * length signals ≡ length rows * length signals + length signals = omega arith in
    let enough : length signals ≤ length values = omega (arith, full, count) in
    let rest : length (drop (length signals) values) ≡ length rows * length signals =
    omega (arith, full, count, length-drop (length signals) values) in
    rw (take-append-le (length signals) values more enough, drop-append-le (length signals) values more enough)
    (ap (λ list. kept_reading signals first (take (length signals) values) ∷ list)
    (kept-push signals rows (drop (length signals) values) more row rest fits))

values_length : (list : List ℕ) (signals : List Signal) → length (values_at list signals) ≡ length signals
values_length list [] = refl
values_length list (signal ∷ signals) = ap suc (values_length list signals)

-- there is one row more, with the values of a list
pub record IsPushed (signals : List Signal) (rows now_rows : List Kept) (values now_values list : List ℕ) (row : Kept)
    : Type 0 where
  pub rows_are : now_rows ≡ rows ++ row ∷ []
  pub values_are : now_values ≡ values ++ values_at list signals

pub full_more : {signals : List Signal} {rows now_rows : List Kept} {values now_values list : List ℕ} {row : Kept}
    → IsPushed signals rows now_rows values now_values list row
    → length values ≡ length rows * length signals
    → length now_values ≡ length now_rows * length signals
full_more {signals} {rows} {now_rows} {values} {now_values} {list} {row} pushed full =
    let many : length now_values ≡ length values + length signals =
    ap length pushed.values_are ∙ length-append values (values_at list signals)
    ∙ ap (λ n. length values + n) (values_length list signals) in
    let some : length now_rows ≡ length rows + 1 = ap length pushed.rows_are ∙ length-append rows (row ∷ []) in
    rw (many, some, full) (omega arith)

pub theirs_more : {signals : List Signal} {rows now_rows : List Kept} {values now_values list : List ℕ} {row : Kept}
    → IsPushed signals rows now_rows values now_values list row
    → All (ShowsOnly signals) rows → ShowsOnly signals row → All (ShowsOnly signals) now_rows
theirs_more {signals} {rows} {row} pushed all is =
    let P : List Kept → Type 0 = λ list. All (ShowsOnly signals) list in
    subst P (sym pushed.rows_are) (All-push (ShowsOnly signals) rows row all is)

pub kept_more : {signals : List Signal} {rows now_rows : List Kept} {values now_values list : List ℕ} {row : Kept}
    {reading : RowReading} → IsPushed signals rows now_rows values now_values list row
    → length values ≡ length rows * length signals → kept_reading signals row (values_at list signals) ≡ reading
    → kept_readings signals now_rows now_values ≡ kept_readings signals rows values ++ reading ∷ []
kept_more {signals} {rows} {values} {list} {row} pushed full is =
    rw (pushed.rows_are, pushed.values_are)
    (kept-push signals rows values (values_at list signals) row full (values_length list signals)
    ∙ ap (λ last. kept_readings signals rows values ++ last ∷ []) is)

pub none_kept : (signals : List Signal) (rows : List Kept) (values : List ℕ) → rows ≡ []
    → kept_readings signals rows values ≡ []
unfolding kept_readings
none_kept signals rows values none = rw none refl

-- what is kept at a place shows none but these signals
pub kept_are : (signals : List Signal) (rows : List Kept) (place : ℕ) (row : Kept) → All (ShowsOnly signals) rows
    → Some row ≡ slice_get rows place → ShowsOnly signals row
kept_are signals [] place row all is = absurd cc
kept_are signals (first ∷ rows) zero row all is =
    let same : row ≡ first = cc in
    subst (ShowsOnly signals) (sym same) (All-head (ShowsOnly signals) first rows all)
kept_are signals (first ∷ rows) (suc place) row all is =
    kept_are signals rows place row (All-tail (ShowsOnly signals) first rows all) is

-- What was read of each of several segments.
use Rattle.std.proofs.Common.{◌≡◌, ℕ, ◌<◌, List, ◌∷◌, length, map, slice_get, slice_index_or, Some, option_map, sym, ap}
use Rattle.std.proofs.Common.{◌∙◌, All}
use Rattle.std.proofs.lemmas.List.Elements.{All-head, All-same, All-tail}
use Rattle.std.proofs.lemmas.Option.{slice_get-map, slice_get-get_or}
use Rattle.rvfi_rows.specs.declared.segment.Segment.{Segment}
use Rattle.rvfi_rows.specs.declared.unread.PlaceRead.{PlaceRead}
use Rattle.rvfi_rows.specs.Columns.{TraceColumns}
use Rattle.rvfi_rows.specs.Readings.{readings_in}
use Rattle.rvfi_rows.specs.Rows.{rows_of}
use Rattle.rvfi_rows.specs.Segments.{ReadsPlace, segment_lines}

-- of the first, and of the others
pub first_read : (segments : List (List (List ℕ))) (one : PlaceRead) (items rest : List PlaceRead)
    → items ≡ one ∷ rest → All (ReadsPlace segments) items → ReadsPlace segments one × All (ReadsPlace segments) rest
first_read segments one items rest is all =
    let whole : All (ReadsPlace segments) (one ∷ rest) =
    All-same (ReadsPlace segments) (one ∷ rest) items (sym is) all in
    (All-head (ReadsPlace segments) one rest whole, All-tail (ReadsPlace segments) one rest whole)

-- the lines at a place
pub lines_at : (segments : List Segment) (place : ℕ) (d : Segment) → place < length segments
    → slice_get (map segment_lines segments) place ≡ Some (segment_lines (slice_index_or segments place d))
lines_at segments place d within =
    slice_get-map segment_lines segments place
    ∙ ap (option_map segment_lines) (slice_get-get_or segments place d within)

-- it is what the segment at its place reads as, while the lines stay
pub reads_place : (now before : List Segment) (one : PlaceRead) (d : Segment) → one.place < length now
    → map segment_lines now ≡ map segment_lines before → ReadsPlace (map segment_lines before) one
    → readings_in one.read.rows ≡ rows_of one.read.columns (slice_index_or now one.place d).lines
reads_place now before one d within same reads =
    reads.reads _ (ap (λ segments. slice_get segments one.place) (sym same) ∙ lines_at now one.place d within)

-- a segment was read at its place
pub reads_at : (segments : List Segment) (one : PlaceRead) (d : Segment) {columns : TraceColumns}
    → one.place < length segments → one.read.columns ≡ columns
    → readings_in one.read.rows ≡ rows_of columns (slice_index_or segments one.place d).lines
    → ReadsPlace (map segment_lines segments) one
reads_at segments one d {columns = columns} within under rows = record {
  reads = λ lines at.
      let here : Some (segment_lines (slice_index_or segments one.place d)) ≡ Some lines =
      sym (lines_at segments one.place d within) ∙ at in
      let same : segment_lines (slice_index_or segments one.place d) ≡ lines = cc in
      rows ∙ ap (rows_of columns) same ∙ ap (λ columns. rows_of columns lines) (sym under);
}

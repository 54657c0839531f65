-- The lines of a made trace, and how many bytes it has.
use Rattle.std.proofs.Common.{◌≡◌, ℕ, zero, suc, ◌+◌, ◌-◌, ◌*◌, ◌^◌, ◌<◌, ◌≤◌, ◌==◌, ◌&&◌, Bool, true, false, List, []}
use Rattle.std.proofs.Common.{◌∷◌, ◌++◌, map, length, refl, ap, ◌∙◌, arith, append_assoc, length-append, ne_eqb}
use Rattle.std.specs.Prelude.{codes, decimal, nat_le, nat_lt, slice_index, take}
use Rattle.std.specs.List.{All, flat_map, list_all, range_with_len}
use Rattle.std.proofs.lemmas.Bool.{le-ltb}
use Rattle.std.proofs.lemmas.Bool.Decides.{nat_tests}
use Rattle.std.proofs.lemmas.List.{take_all}
use Rattle.std.proofs.lemmas.List.Elements.{All-head, All-tail, All-weaker}
use Rattle.std.proofs.lemmas.List.Sums.{AllPass-from_list_all}
use Rattle.line_text.specs.Lines.{text_of}
use Rattle.trace_lines.specs.declared.next.TheConstants.{LONGEST}
use Rattle.trace_lines.specs.declared.piece.Ending.TheVariants.{End}
use Rattle.trace_lines.specs.Lines.{RemainingLines, TextPart, line_in, lines_from, file_lines, text_parts_of}
use Rattle.trace_lines.specs.Lines.{with_byte_in_first}
use Rattle.trace_lines.specs.Lines.{with_line, without_mark}
use Rattle.trace_maker.specs.declared.made_row.MadeRow.{MadeRow}
use Rattle.trace_maker.specs.Rows.{made_row}
use Rattle.trace_maker.specs.Texts.{header_text, made_rows, made_trace, row_text}
use Rattle.made_runs.specs.Lines.{made_left, made_lines, row_line}
use Rattle.made_runs.specs.Shows.{header_line}
use Rattle.made_runs.proofs.PlainLines.{IsLineByte, following, line_bytes}
use Rattle.made_runs.proofs.RowLines.{AreRowFields, others_are, others_of, row_fields, row_fits}

-- a line that is taken as it stands
record IsWhole (line : List ℕ) : Type 0 where
  nonempty : 0 < length line
  bytes : All IsLineByte line
  short : length line ≤ LONGEST

abbrev AreWhole : List (List ℕ) → Type 0
AreWhole [] = Unit {0}
AreWhole (line ∷ lines) = IsWhole line × AreWhole lines

part_ended : (line rest : List ℕ) → All IsLineByte line
    → text_parts_of (line ++ 10 ∷ rest) ≡ record { bytes = line; ended = true } ∷ text_parts_of rest
unfolding text_parts_of
part_ended [] rest bytes = refl
part_ended (byte ∷ line) rest bytes =
    let low : 44 ≤ byte = (All-head IsLineByte byte line bytes).0 in
    let no : (byte == 10) ≡ false = ne_eqb byte 10 (omega arith) in
    rw no (ap (with_byte_in_first byte) (part_ended line rest (All-tail IsLineByte byte line bytes)))

no_return_dropped : (line : List ℕ) → IsWhole line → line_in line ≡ line
no_return_dropped line is =
    let nonempty : 0 < length line = is.nonempty in
    let low : 44 ≤ slice_index line (length line - 1) = (is.bytes (length line - 1) 0 (omega arith)).0 in
    let last : (slice_index line (length line - 1) == 13) ≡ false =
    ne_eqb (slice_index line (length line - 1)) 13 (omega arith) in
    rw last refl

line_taken : (number : ℕ) (line : List ℕ) (parts : List TextPart) (lines : List (List ℕ)) → IsWhole line
    → lines_from false (number + 1) parts ≡ record { lines = lines; ending = End }
    → lines_from false number (record { bytes = line; ended = true } ∷ parts)
    ≡ record { lines = line ∷ lines; ending = End }
unfolding lines_from
line_taken number line parts lines is more =
    let short : nat_lt LONGEST (length line) ≡ false = le-ltb LONGEST (length line) is.short in
    let nonempty : (length line == 0) ≡ false = ne_eqb (length line) 0 (omega (arith, is.nonempty)) in
    rw short (ap (λ (bytes : List ℕ). with_line bytes (lines_from false (number + 1) parts)) (no_return_dropped line is)
    ∙ ap (λ (left : RemainingLines). with_line line left) more
    ∙ rw nonempty refl)

lines_taken : (number : ℕ) (lines : List (List ℕ)) → AreWhole lines
    → lines_from false number (text_parts_of (text_of lines)) ≡ record { lines = lines; ending = End }
unfolding text_of text_parts_of lines_from
lines_taken number [] are = refl
lines_taken number (line ∷ lines) are =
    ap (λ (parts : List TextPart). lines_from false number parts) (part_ended line (text_of lines) are.0.bytes)
    ∙ line_taken number line (text_parts_of (text_of lines)) lines are.0 (lines_taken (number + 1) lines are.1)

-- a made trace is its lines
rows_text : (rows : List MadeRow) → flat_map row_text rows ≡ text_of (map row_line rows)
unfolding row_text text_of
rows_text [] = refl
rows_text (row ∷ rows) =
    append_assoc (row_line row) (codes "\n") (flat_map row_text rows)
    ∙ ap (λ (rest : List ℕ). row_line row ++ 10 ∷ rest) (rows_text rows)

trace_text : (number rows : ℕ) → made_trace number rows ≡ text_of (header_line ∷ made_lines number rows)
unfolding made_trace text_of
trace_text number rows = ap (λ (rest : List ℕ). header_text ++ rest) (rows_text (made_rows number rows))

unmarked : (number rows : ℕ) → without_mark (made_trace number rows) ≡ made_trace number rows
unfolding without_mark made_trace
unmarked number rows = refl

-- how long a line is
abbrev total : List (List ℕ) → ℕ
total [] = 0
total (field ∷ fields) = 1 + (length field + total fields)

after_len : (fields : List (List ℕ)) → length (following fields) ≡ total fields
after_len [] = refl
after_len (field ∷ fields) = omega (arith, length-append field (following fields), after_len fields)

row_len : (row : MadeRow) → AreRowFields row → length (row_line row) ≤ 178
row_len row are = omega (
  arith,
  length-append (decimal row.order) (following (others_of row)),
  after_len (others_of row),
  are.order.short,
  are.insn.short,
  are.trap.short,
  are.pc_rdata.short,
  are.pc_wdata.short,
  are.rd_addr.short,
  are.rd_wdata.short,
  are.mem_addr.short,
  are.mem_rmask.short,
  are.mem_wmask.short,
  are.mem_rdata.short,
  are.mem_wdata.short,
  are.mem_paddr.short,
)

row_nonempty : (row : MadeRow) → AreRowFields row → 0 < length (row_line row)
row_nonempty row are =
    omega (arith, length-append (decimal row.order) (following (others_of row)), are.order.is_field.nonempty)

row_whole : (row : MadeRow) → AreRowFields row → IsWhole (row_line row)
row_whole row are = record {
  nonempty = row_nonempty row are;
  bytes = line_bytes (decimal row.order) (others_of row) are.order.is_field (others_are row are);
  short = omega (arith, row_len row are);
}

header_bytes : list_all (λ byte. nat_le 44 byte && nat_lt byte 128) header_line ≡ true
header_bytes = refl

line_byte_by : (byte : ℕ) → (nat_le 44 byte && nat_lt byte 128) ≡ true → IsLineByte byte
line_byte_by byte is = (grind (arith, nat_tests), grind (arith, nat_tests))

header_whole : IsWhole header_line
header_whole = record {
  nonempty = omega arith;
  bytes =
      All-weaker (λ (byte : ℕ). (nat_le 44 byte && nat_lt byte 128) ≡ true) IsLineByte line_byte_by header_line
      (AllPass-from_list_all (λ (byte : ℕ). nat_le 44 byte && nat_lt byte 128) header_line header_bytes);
  short = omega arith;
}

rows_whole : (number order rows : ℕ) → order + rows ≤ 2 ^ 64
    → AreWhole (map row_line (map (made_row number) (range_with_len order rows)))
rows_whole number order zero small = tt
rows_whole number order (suc rows) small =
    let row = made_row number order in (
      row_whole row (row_fields row (row_fits number order (omega arith))),
      rows_whole number (order + 1) rows (omega arith),
    )

rows_len : (number order rows : ℕ) → order + rows ≤ 2 ^ 64
    → length (text_of (map row_line (map (made_row number) (range_with_len order rows)))) ≤ 179 * rows
unfolding text_of
rows_len number order zero small = omega arith
rows_len number order (suc rows) small =
    let row = made_row number order in
    let others : List ℕ = text_of (map row_line (map (made_row number) (range_with_len (order + 1) rows))) in
    let first : length (row_line row) ≤ 178 = row_len row (row_fields row (row_fits number order (omega arith))) in
    let more : length others ≤ 179 * rows = rows_len number (order + 1) rows (omega arith) in
    omega (arith, length-append (row_line row) (10 ∷ others))

pub lines_are : (number rows most : ℕ) → rows ≤ 2 ^ 64 → length (made_trace number rows) ≤ most
    → file_lines most (made_trace number rows) ≡ made_left number rows
unfolding file_lines
lines_are number rows most small fits =
    let trace : List ℕ = made_trace number rows in
    ap (λ (more : Bool). lines_from more 1 (text_parts_of (without_mark (take most trace))))
    (le-ltb most (length trace) fits)
    ∙ ap (λ (text : List ℕ). lines_from false 1 (text_parts_of (without_mark text))) (take_all most trace fits)
    ∙ ap (λ (text : List ℕ). lines_from false 1 (text_parts_of text)) (unmarked number rows ∙ trace_text number rows)
    ∙ lines_taken 1 (header_line ∷ made_lines number rows) (header_whole, rows_whole number 0 rows (omega arith))

pub trace_len : (number rows : ℕ) → rows ≤ 2 ^ 64 → length (made_trace number rows) ≤ 110 + 179 * rows
unfolding text_of
trace_len number rows small =
    let others : List ℕ = text_of (made_lines number rows) in
    let more : length others ≤ 179 * rows = rows_len number 0 rows (omega arith) in
    rw (trace_text number rows) (omega (arith, length-append header_line (10 ∷ others)))

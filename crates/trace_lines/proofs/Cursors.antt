-- What a cursor has left, by what stands after the bytes that were read.
use Rattle.std.proofs.Common.{◌≡◌, ℕ, ◌+◌, ◌-◌, List, [], ◌++◌, length, drop, true, false, ap, sym, ◌∙◌, arith}
use Rattle.std.proofs.Common.{length-drop, vec_len}
use Rattle.trace_lines.specs.declared.line_cursor.Following.TheVariants.{End, TooLarge}
use Rattle.trace_lines.specs.declared.line_cursor.LineCursor.{LineCursor}
use Rattle.trace_lines.specs.Lines.{RemainingLines, lines_from, text_parts_of, with_line}
use Rattle.trace_lines.specs.Cursors.{buffered_bytes, lines_from_cursor, lines_after_next, more_of, unread_of}

pub length-held : (cursor : LineCursor) → length (buffered_bytes cursor) ≡ vec_len cursor.bytes - cursor.at
length-held cursor = omega (arith, length-drop cursor.at cursor.bytes.items, cursor.bytes.ok.0)

pub left_at_end : (file : List ℕ) (cursor : LineCursor) (left : RemainingLines) → cursor.following ≡ End
    → lines_from false cursor.number (text_parts_of (buffered_bytes cursor ++ [])) ≡ left
    → lines_from_cursor file cursor ≡ left
left_at_end file cursor left end is =
    ap (λ following. lines_from (more_of following cursor.most file) cursor.number
    (text_parts_of (buffered_bytes cursor ++ unread_of following cursor.place cursor.most file))) end ∙ is

pub left_past_most : (file : List ℕ) (cursor : LineCursor) (left : RemainingLines) → cursor.following ≡ TooLarge
    → lines_from true cursor.number (text_parts_of (buffered_bytes cursor ++ [])) ≡ left
    → lines_from_cursor file cursor ≡ left
left_past_most file cursor left past is =
    ap (λ following. lines_from (more_of following cursor.most file) cursor.number
    (text_parts_of (buffered_bytes cursor ++ unread_of following cursor.place cursor.most file))) past ∙ is

pub last_at_end : (file : List ℕ) (cursor : LineCursor) (line : List ℕ) (used : ℕ) → cursor.following ≡ End
    → lines_from false cursor.number (text_parts_of (buffered_bytes cursor ++ []))
    ≡ with_line line (lines_from false (cursor.number + 1) (text_parts_of (drop used (buffered_bytes cursor) ++ [])))
    → lines_from_cursor file cursor ≡ with_line line (lines_after_next file cursor used)
last_at_end file cursor line used end is =
    left_at_end file cursor
    (with_line line (lines_from false (cursor.number + 1) (text_parts_of (drop used (buffered_bytes cursor) ++ []))))
    end is
    ∙ ap (λ following. with_line line
    (lines_from (more_of following cursor.most file) (cursor.number + 1)
    (text_parts_of (drop used (buffered_bytes cursor) ++ unread_of following cursor.place cursor.most file)))) (sym end)

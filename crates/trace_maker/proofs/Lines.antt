-- What a line more makes of the trace.
use Rattle.std.proofs.Common.{◌≡◌, ℕ, ◌+◌, List, [], ◌∷◌, ◌++◌, codes, decimal, drop, arith, ap, sym, ◌∙◌, append_assoc}
use Rattle.std.proofs.Common.{append-nil}
use Rattle.std.proofs.lemmas.Grind.{flat_map-append}
use Rattle.std.proofs.lemmas.List.FromFn.{map-range_with_len_more}
use Rattle.std.specs.List.{flat_map, join_by}
use Rattle.trace_maker.specs.Rows.{made_row}
use Rattle.trace_maker.specs.Texts.{fields_of, made_rows, row_text}
use Rattle.trace_maker.specs.declared.made_row.MadeRow.{MadeRow}

pub lines_go_on : (number rows : ℕ) (front : List ℕ)
    → (front ++ flat_map row_text (made_rows number rows)) ++ row_text (made_row number rows) ≡ front
    ++ flat_map row_text (made_rows number (rows + 1))
lines_go_on number rows front =
    let more : made_rows number (rows + 1) ≡ made_rows number rows ++ made_row number rows ∷ [] =
    map-range_with_len_more (made_row number) 0 rows rows (omega arith) in
    append_assoc front (flat_map row_text (made_rows number rows)) (row_text (made_row number rows))
    ∙ ap (λ text. front ++ (flat_map row_text (made_rows number rows) ++ text))
    (sym (append-nil (row_text (made_row number rows))))
    ∙ ap (λ text. front ++ text)
    (sym (flat_map-append row_text (made_rows number rows) (made_row number rows ∷ []))
    ∙ ap (flat_map row_text) (sym more))

-- fields appended to a text one by one, each after a comma
abbrev with_fields : List ℕ → List (List ℕ) → List ℕ
with_fields text [] = text
with_fields text (field ∷ fields) = with_fields (text ++ (codes "," ++ field)) fields

with_fields-is : (text : List ℕ) (fields : List (List ℕ))
    → with_fields text fields ≡ text ++ flat_map (λ field. codes "," ++ field) fields
with_fields-is text [] = sym (append-nil text)
with_fields-is text (field ∷ fields) =
    with_fields-is (text ++ (codes "," ++ field)) fields
    ∙ append_assoc text (codes "," ++ field) (flat_map (λ f. codes "," ++ f) fields)

-- a row whose fields were appended one by one, and the end of its line
pub row_written : (text : List ℕ) (row : MadeRow)
    → with_fields (text ++ decimal row.order) (drop 1 (fields_of row)) ++ codes "\n" ≡ text ++ row_text row
unfolding row_text
row_written text row =
    ap (λ t. t ++ codes "\n")
    (with_fields-is (text ++ decimal row.order) (drop 1 (fields_of row))
    ∙ append_assoc text (decimal row.order) (flat_map (λ f. codes "," ++ f) (drop 1 (fields_of row))))
    ∙ append_assoc text (join_by (λ field. field) (codes ",") (fields_of row)) (codes "\n")

-- The first line of a text.
use Rattle.std.proofs.Common.{◌≡◌, ◌≢◌, ℕ, ◌+◌, ◌<◌, ◌≤◌, ◌-◌, ◌==◌, Bool, false, List, [], ◌∷◌, ◌++◌}
use Rattle.std.proofs.Common.{length, take, drop, get_or, Option, Some, None, refl, sym, ap, subst, ◌∙◌, arith, ⊎_elim}
use Rattle.std.proofs.Common.{le_refl}
use Rattle.std.specs.List.{All}
use Rattle.std.proofs.lemmas.Bool.{cases_Bool, ne_eqb}
use Rattle.std.proofs.lemmas.List.{take_all, length-take-le, get_or-take, take-append-drop, drop_more, drop_all}
use Rattle.std.proofs.lemmas.List.{take_rest}
use Rattle.std.proofs.lemmas.List.Elements.{All-from_get_or, All-head, All-weaker}
use Rattle.std.proofs.lemmas.List.Folds.{list_any_none, list_any_at}
use Rattle.std.specs.Option.{is_some}
use Rattle.memchr.specs.Find.{IsFirstByte, Nowhere, Passes, is_byte}
use Rattle.csv.specs.Reading.{strip_bom}
use Rattle.csv.specs.declared.parser.State.TheVariants.{StartField}
use Rattle.line_text.specs.Lines.{line_feed, IsLine, text_lines}
use Rattle.line_text.proofs.Texts.{lines_in-line, lines_in-last}
use Rattle.csv_line.specs.Fields.{has_return_in}
use Rattle.csv_line.specs.SharedLines.{EndsNoRecord, EndsAt, IsPlain, IsUnmarked, IsShareable, IsShared}
use Rattle.csv_line.proofs.Machine.{start_inside, start_outside, reads_alike, start_byte, stays_outside}

-- where a search finds nothing, no byte passes
nowhere_all : (test : ℕ → Bool) (text : List ℕ) (end : ℕ) → end ≤ length text → Nowhere (Passes test text) 0 end
    → All (λ byte. test byte ≡ false) (take end text)
nowhere_all test text end within nowhere =
    All-from_get_or (λ (byte : ℕ). test byte ≡ false) (take end text) 0
    (λ place low.
    let len = length-take-le end text within in
    let below : place < end = omega arith in
    rw (get_or-take end text place 0 below)
    (⊎_elim (λ passes. absurd (nowhere place (omega arith) below passes)) (λ fails. fails)
    (cases_Bool (test (get_or text place 0)))))

-- a plain line has no carriage return, and is closed
pub plain_no_return : (line : List ℕ) → All IsPlain line → false ≡ has_return_in line
plain_no_return line plain =
    sym (list_any_none (λ (byte : ℕ). byte == 13) line
    (All-weaker IsPlain (λ (byte : ℕ). (byte == 13) ≡ false) (λ byte here. ne_eqb byte 13 here.1.1) line plain))

pub plain_is_shareable : (line : List ℕ) → All IsPlain line → IsUnmarked line → IsShareable line
plain_is_shareable line plain unmarked = record {
  unmarked = unmarked;
  bytes = All-weaker IsPlain EndsNoRecord (λ byte here. here.1) line plain;
  outside = stays_outside StartField line start_outside plain;
}

-- a search for a carriage return
pub returns_found : (line : List ℕ) (found : Option ℕ) → IsFirstByte (is_byte 13) line found
    → is_some found ≡ has_return_in line
returns_found line None nowhere =
    sym (list_any_none (λ (byte : ℕ). byte == 13) line
    (rw (take_all (length line) line (le_refl (length line))) at
    (nowhere_all (is_byte 13) line (length line) (le_refl (length line)) nowhere)))
returns_found line (Some place) here = sym (list_any_at (λ (byte : ℕ). byte == 13) line place 0 here.0.high here.1)

-- the parts of a text around its first line feed
pub parts_at : (text : List ℕ) (end : ℕ) → EndsAt text end → text ≡ take end text ++ line_feed ∷ drop (end + 1) text
parts_at text end ends =
    sym (take-append-drop end text)
    ∙ ap (λ rest. take end text ++ rest)
    (drop_more text end 0 ends.within ∙ ap (λ byte. byte ∷ drop (end + 1) text) ends.feed)

pub first_of : (text : List ℕ) (end : ℕ) → EndsAt text end
    → text_lines text ≡ take end text ∷ text_lines (drop (end + 1) text)
first_of text end ends =
    ap text_lines (parts_at text end ends) ∙ lines_in-line (take end text) (drop (end + 1) text) ends.line

-- a mark is no more than its first byte
pub unmarked_from : (byte : ℕ) (bytes : List ℕ) → byte ≢ 239 → strip_bom (byte ∷ bytes) ≡ byte ∷ bytes
unfolding strip_bom
unmarked_from byte [] other = refl
unmarked_from byte (second ∷ []) other = refl
unmarked_from byte (second ∷ third ∷ bytes) other = rw (ne_eqb byte 239 other) refl

-- a closed line that begins with no mark
shared_from : (byte : ℕ) (line rest : List ℕ) → IsShareable (byte ∷ line)
    → IsShared (byte ∷ (line ++ line_feed ∷ rest)) (byte ∷ line) rest
shared_from byte line rest closed =
    let here = All-head EndsNoRecord byte line closed.bytes in
    let alike = reads_alike StartField [] [] (byte ∷ line) rest start_inside closed.bytes closed.outside in
    record {
      parts = refl;
      unmarked = unmarked_from byte (line ++ line_feed ∷ rest) closed.unmarked.first;
      fields = alike.fields;
      alone = rw (unmarked_from byte line closed.unmarked.first) (start_byte byte line here ∙ alike.alone);
      among = start_byte byte (line ++ line_feed ∷ rest) here ∙ alike.among;
    }

pub shared_line : (text line rest : List ℕ) → text ≡ line ++ line_feed ∷ rest → IsShareable line
    → IsShared text line rest
shared_line text [] rest is closed = absurd (omega (arith, closed.unmarked.nonempty))
shared_line text (byte ∷ line) rest is closed =
    let P : List ℕ → Type 0 = λ (t : List ℕ). IsShared t (byte ∷ line) rest in
    subst P (sym is) (shared_from byte line rest closed)

-- the same of the parts that the code cuts
pub ended_lines : (text : List ℕ) (end : ℕ) → EndsAt text end
    → text_lines text ≡ take end text ∷ text_lines (take (length text - (end + 1)) (drop (end + 1) text))
ended_lines text end ends =
    first_of text end ends ∙ ap (λ rest. take end text ∷ text_lines rest) (sym (take_rest text (end + 1)))

pub ended_shared : (text : List ℕ) (end : ℕ) → EndsAt text end → IsShareable (take end text)
    → IsShared text (take end text) (take (length text - (end + 1)) (drop (end + 1) text))
ended_shared text end ends shareable =
    rw (take_rest text (end + 1))
    (shared_line text (take end text) (drop (end + 1) text) (parts_at text end ends) shareable)

pub last_lines : (text : List ℕ) → 0 < length text → IsLine text
    → text_lines text ≡ text ∷ text_lines (take (length text - length text) (drop (length text) text))
unfolding text_lines
last_lines text some line =
    lines_in-last text some line
    ∙ ap (λ rest. text ∷ text_lines rest)
    (sym (take_rest text (length text) ∙ drop_all (length text) text (le_refl (length text))))

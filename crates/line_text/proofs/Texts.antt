-- Lines as one text, and the lines of a text.
use Rattle.std.proofs.Common.{◌≡◌, ◌≢◌, ℕ, ◌+◌, ◌==◌, if◌then◌else◌, Bool, true, false, List, [], ◌∷◌, ◌++◌, length}
use Rattle.std.proofs.Common.{refl, sym, ap, subst, ◌∙◌, arith, append_assoc, length-append, add-zero, zero, suc}
use Rattle.std.proofs.Common.{get_or, slice_get, take, drop, ◌-◌, ◌<◌, ◌≤◌, Some}
use Rattle.std.proofs.lemmas.Bool.{eqb-true, eqb-false, ne_eqb}
use Rattle.std.proofs.lemmas.List.{take_at, drop_at, drop-drop, get_or_read}
use Rattle.std.proofs.lemmas.List.Elements.{All-nil, All-cons, All-head, All-tail}
use Rattle.line_text.specs.Lines.{line_start, line_feed, with_first_byte, text_lines, IsLine, text_of, ends_from}
use Rattle.line_text.specs.Lines.{IsLaidOut}

-- each is a line
abbrev pub AreLines : List (List ℕ) → Type 0
AreLines [] = Unit {0}
AreLines (line ∷ lines) = IsLine line × AreLines lines

-- a byte that is no line feed goes before lines
with_first-are_lines : (byte : ℕ) (lines : List (List ℕ)) → byte ≢ line_feed → AreLines lines
    → AreLines (with_first_byte byte lines)
with_first-are_lines byte [] other are =
    (All-cons (λ (b : ℕ). b ≢ line_feed) byte [] other (All-nil (λ (b : ℕ). b ≢ line_feed)), tt)
with_first-are_lines byte (line ∷ lines) other are = (All-cons (λ (b : ℕ). b ≢ line_feed) byte line other are.0, are.1)

-- the lines of a text are lines
pub lines_in-are_lines : (text : List ℕ) → AreLines (text_lines text)
unfolding text_lines
lines_in-are_lines [] = tt
lines_in-are_lines (byte ∷ bytes) = by (byte == line_feed) refl (lines_in-are_lines bytes)
  where
    by : (test : Bool) → (byte == line_feed) ≡ test → AreLines (text_lines bytes)
        → AreLines (if test then [] ∷ text_lines bytes else with_first_byte byte (text_lines bytes))
    by true e are = (All-nil (λ (b : ℕ). b ≢ line_feed), are)
    by false e are = with_first-are_lines byte (text_lines bytes) (eqb-false byte line_feed e) are

-- a line and its line feed go before a text
pub lines_in-line : (line rest : List ℕ) → IsLine line → text_lines (line ++ line_feed ∷ rest) ≡ line ∷ text_lines rest
unfolding text_lines
lines_in-line [] rest is = refl
lines_in-line (byte ∷ line) rest is =
    by (byte == line_feed) refl (lines_in-line line rest (All-tail (λ (b : ℕ). b ≢ line_feed) byte line is))
  where
    by : (test : Bool) → (byte == line_feed) ≡ test → text_lines (line ++ line_feed ∷ rest) ≡ line ∷ text_lines rest
        → (if test then []
        ∷ text_lines (line ++ line_feed ∷ rest) else with_first_byte byte (text_lines (line ++ line_feed ∷ rest)))
        ≡ (byte ∷ line) ∷ text_lines rest
    by true e more = absurd (All-head (λ (b : ℕ). b ≢ line_feed) byte line is (eqb-true byte line_feed e))
    by false e more = ap (with_first_byte byte) more

-- lines as one text, and more of it
pub lines_in-text_of : (lines : List (List ℕ)) (rest : List ℕ) → AreLines lines
    → text_lines (text_of lines ++ rest) ≡ lines ++ text_lines rest
unfolding text_of
lines_in-text_of [] rest are = refl
lines_in-text_of (line ∷ lines) rest are =
    ap text_lines (append_assoc line (line_feed ∷ text_of lines) rest)
    ∙ lines_in-line line (text_of lines ++ rest) are.0
    ∙ ap (λ more. line ∷ more) (lines_in-text_of lines rest are.1)

text_of-push : (lines : List (List ℕ)) (line : List ℕ)
    → text_of (lines ++ line ∷ []) ≡ text_of lines ++ (line ++ line_feed ∷ [])
unfolding text_of
text_of-push [] line = refl
text_of-push (first ∷ lines) line =
    ap (λ more. first ++ line_feed ∷ more) (text_of-push lines line)
    ∙ sym (append_assoc first (line_feed ∷ text_of lines) (line ++ line_feed ∷ []))

ends_from-push : (at : ℕ) (lines : List (List ℕ)) (line : List ℕ)
    → ends_from at (lines ++ line ∷ []) ≡ ends_from at lines ++ (at + length (text_of lines) + length line) ∷ []
unfolding text_of ends_from
ends_from-push at [] line = ap (λ n. (n + length line) ∷ []) (sym (add-zero at))
ends_from-push at (first ∷ lines) line =
    let len : at + length first + 1 + length (text_of lines) ≡ at + length (text_of (first ∷ lines)) =
    omega (arith, length-append first (line_feed ∷ text_of lines)) in
    ap (λ more. (at + length first) ∷ more) (ends_from-push (at + length first + 1) lines line)
    ∙ ap (λ n. (at + length first) ∷ (ends_from (at + length first + 1) lines ++ (n + length line) ∷ [])) len

length-ends_from : (at : ℕ) (lines : List (List ℕ)) → length (ends_from at lines) ≡ length lines
unfolding ends_from
length-ends_from at [] = refl
length-ends_from at (line ∷ lines) = ap suc (length-ends_from (at + length line + 1) lines)

-- a line more
pub lines_in-push : (text line : List ℕ) → text ≡ text_of (text_lines text) → IsLine line
    → text_lines (text ++ (line ++ line_feed ∷ [])) ≡ text_lines text ++ line ∷ []
unfolding text_lines
lines_in-push text line made is =
    ap (λ front. text_lines (front ++ (line ++ line_feed ∷ []))) made
    ∙ lines_in-text_of (text_lines text) (line ++ line_feed ∷ []) (lines_in-are_lines text)
    ∙ ap (λ more. text_lines text ++ more) (lines_in-line line [] is)

pub laid_out-push : (text ends line : List ℕ) (end : ℕ) → IsLaidOut text ends → IsLine line
    → end ≡ length text + length line → IsLaidOut (text ++ (line ++ line_feed ∷ [])) (ends ++ end ∷ [])
laid_out-push text ends line end out is at =
    let here : end ≡ 0 + length (text_of (text_lines text)) + length line = omega (arith, at, ap length out.made) in
    record {
      made =
          ap (λ front. front ++ (line ++ line_feed ∷ [])) out.made
          ∙ sym (text_of-push (text_lines text) line)
          ∙ ap text_of (sym (lines_in-push text line out.made is));
      placed =
          ap (λ front. front ++ end ∷ []) out.placed
          ∙ ap (λ n. ends_from 0 (text_lines text) ++ n ∷ []) here
          ∙ sym (ends_from-push 0 (text_lines text) line)
          ∙ ap (ends_from 0) (sym (lines_in-push text line out.made is));
    }

-- as many places as lines
pub laid_out-length : (text ends : List ℕ) → IsLaidOut text ends → length ends ≡ length (text_lines text)
laid_out-length text ends out = ap length out.placed ∙ length-ends_from 0 (text_lines text)

-- where the line of a number begins, in lines as one text that begins at a place
abbrev start_from : ℕ → List ℕ → ℕ → ℕ
start_from at ends zero = at
start_from at ends (suc place) = get_or ends place 0 + 1

start_from-is : (ends : List ℕ) (place : ℕ) → start_from 0 ends place ≡ line_start ends place
start_from-is ends zero = refl
start_from-is ends (suc place) =
    let less : suc place - 1 ≡ place = omega arith in
    let some : (suc place == 0) ≡ false = ne_eqb (suc place) 0 (omega arith) in
    rw (some, less) refl

-- the part of a text from one place to another is the line of this number
pub record IsCut (lines : List (List ℕ)) (text : List ℕ) (at place start end : ℕ) : Type 0 where
  pub from : at ≤ start
  pub ordered : start ≤ end
  pub within : end < at + length text
  pub line : slice_get lines place ≡ Some (take (end - start) (drop (start - at) text))

cut_first : (at : ℕ) (line : List ℕ) (lines : List (List ℕ))
    → IsCut (line ∷ lines) (text_of (line ∷ lines)) at 0 at (at + length line)
unfolding text_of
cut_first at line lines =
    let len : at + length line - at ≡ length line = omega arith in
    let none : at - at ≡ 0 = omega arith in
    record {
      from = omega arith;
      ordered = omega arith;
      within = omega (arith, length-append line (line_feed ∷ text_of lines));
      line = rw (len, none) (ap Some (sym (take_at line (line_feed ∷ text_of lines) (length line) refl)));
    }

cut_later : (at : ℕ) (line : List ℕ) (lines : List (List ℕ)) (place start end : ℕ)
    → IsCut lines (text_of lines) (at + length line + 1) place start end
    → IsCut (line ∷ lines) (text_of (line ∷ lines)) at (suc place) start end
unfolding text_of
cut_later at line lines place start end cut =
    let whole = append_assoc line (line_feed ∷ []) (text_of lines) in
    let len : length (line ++ line_feed ∷ []) ≡ length line + 1 = omega (arith, length-append line (line_feed ∷ [])) in
    let deep : start - at ≡ (length line + 1) + (start - (at + length line + 1)) = omega (arith, cut.from) in
    let dropped : drop (start - at) (line ++ line_feed ∷ text_of lines)
    ≡ drop (start - (at + length line + 1)) (text_of lines) =
    ap (λ n. drop n (line ++ line_feed ∷ text_of lines)) deep
    ∙ sym (drop-drop (start - (at + length line + 1)) (length line + 1) (line ++ line_feed ∷ text_of lines))
    ∙ ap (λ text. drop (start - (at + length line + 1)) (drop (length line + 1) text)) (sym whole)
    ∙ ap (drop (start - (at + length line + 1)))
    (drop_at (line ++ line_feed ∷ []) (text_of lines) (length line + 1) len) in
    record {
      from = omega (arith, cut.from);
      ordered = cut.ordered;
      within = omega (arith, cut.within, length-append line (line_feed ∷ text_of lines));
      line = cut.line ∙ ap (λ text. Some (take (end - start) text)) (sym dropped);
    }

cut_at : (at : ℕ) (lines : List (List ℕ)) (place : ℕ) → place < length lines
    → IsCut lines (text_of lines) at place (start_from at (ends_from at lines) place)
    (get_or (ends_from at lines) place 0)
unfolding ends_from
cut_at at [] place within = absurd (omega arith)
cut_at at (line ∷ lines) zero within = cut_first at line lines
cut_at at (line ∷ lines) (suc zero) within =
    cut_later at line lines 0 (at + length line + 1) (get_or (ends_from (at + length line + 1) lines) 0 0)
    (cut_at (at + length line + 1) lines 0 (omega arith))
cut_at at (line ∷ lines) (suc (suc place)) within =
    cut_later at line lines (suc place) (get_or (ends_from (at + length line + 1) lines) place 0 + 1)
    (get_or (ends_from (at + length line + 1) lines) (suc place) 0)
    (cut_at (at + length line + 1) lines (suc place) (omega arith))

-- the same of a text that is laid out
pub cut_laid_out : (text ends : List ℕ) (place : ℕ) → IsLaidOut text ends → place < length ends
    → IsCut (text_lines text) text 0 place (line_start ends place) (get_or ends place 0)
cut_laid_out text ends place out within =
    let P : List ℕ → List ℕ → Type 0 =
    λ (t e : List ℕ). IsCut (text_lines text) t 0 place (start_from 0 e place) (get_or e place 0) in
    let inside : place < length (text_lines text) = omega (arith, within, laid_out-length text ends out) in
    subst (λ (start : ℕ). IsCut (text_lines text) text 0 place start (get_or ends place 0)) (start_from-is ends place)
    (subst (λ (t : List ℕ). P t ends) (sym out.made)
    (subst (λ (e : List ℕ). P (text_of (text_lines text)) e) (sym out.placed)
    (cut_at 0 (text_lines text) place inside)))

-- the same of the places that the code has
pub is_cut : {text ends : List ℕ} (number start end : ℕ) → IsLaidOut text ends → number < length ends
    → start ≡ line_start ends number → end ≡ get_or ends number end → IsCut (text_lines text) text 0 number start end
is_cut {text} {ends} number start end out within from to =
    rw (from, get_or_read ends number end within to 0) (cut_laid_out text ends number out within)

pub cut_line : (text ends : List ℕ) (number start end : ℕ) → IsCut (text_lines text) text 0 number start end
    → slice_get (text_lines text) number ≡ Some (take (end - start) (drop start text))
cut_line text ends number start end cut =
    let less : start - 0 ≡ start = omega arith in
    cut.line ∙ ap (λ n. Some (take (end - start) (drop n text))) less

-- no lines
pub none_in : (text : List ℕ) → text ≡ [] → text_lines text ≡ []
unfolding text_lines
none_in text none = ap text_lines none

pub none_laid_out : (text ends : List ℕ) → text ≡ [] → ends ≡ [] → IsLaidOut text ends
unfolding text_lines text_of ends_from
none_laid_out text ends none nowhere = rw (none, nowhere) (record { made = refl; placed = refl })

-- a last line has no line feed
pub lines_in-last : (line : List ℕ) → 0 < length line → IsLine line → text_lines line ≡ line ∷ []
unfolding text_lines
lines_in-last [] some is = absurd (omega arith)
lines_in-last (byte ∷ []) some is = by (byte == line_feed) refl
  where
    by : (test : Bool) → (byte == line_feed) ≡ test
        → (if test then [] ∷ text_lines [] else with_first_byte byte (text_lines [])) ≡ (byte ∷ []) ∷ []
    by true e = absurd (All-head (λ (b : ℕ). b ≢ line_feed) byte [] is (eqb-true byte line_feed e))
    by false e = refl
lines_in-last (byte ∷ next ∷ line) some is =
    by (byte == line_feed) refl
    (lines_in-last (next ∷ line) (omega arith) (All-tail (λ (b : ℕ). b ≢ line_feed) byte (next ∷ line) is))
  where
    by : (test : Bool) → (byte == line_feed) ≡ test → text_lines (next ∷ line) ≡ (next ∷ line) ∷ []
        → (if test then [] ∷ text_lines (next ∷ line) else with_first_byte byte (text_lines (next ∷ line)))
        ≡ (byte ∷ next ∷ line) ∷ []
    by true e more = absurd (All-head (λ (b : ℕ). b ≢ line_feed) byte (next ∷ line) is (eqb-true byte line_feed e))
    by false e more = ap (with_first_byte byte) more

-- What calls of a taker one after another give and leave.
use Rattle.std.proofs.Common.{◌≡◌, ℕ, ◌+◌, ◌<◌, Bool, true, false, not, ◌&&◌, if◌then◌else◌, List, [], ◌∷◌, ◌++◌}
use Rattle.std.proofs.Common.{length, take, drop, refl, sym, ap, ◌∙◌, arith, append-nil, nat_le, nat_lt}
use Rattle.std.proofs.lemmas.List.{append_assoc, drop_all, length-take-le, take-append-drop}
use Rattle.std.proofs.lemmas.Bool.{leb-true, leb-false}
use Rattle.trace_lines.specs.declared.next.TheConstants.{LONGEST}
use Rattle.trace_lines.specs.declared.piece.Ending.TheVariants.{More, TooLong, TooLarge}
use Rattle.trace_lines.specs.Lines.{RemainingLines, TextPart, text_parts_of, lines_from, file_lines, with_line, line_in}
use Rattle.trace_lines.specs.Lines.{without_mark}
use Rattle.trace_lines.specs.Pieces.{front_of, back_of, IsLast}
use Rattle.trace_lines.specs.Calls.{left_after_calls, pieces_by, all_lines_of, piece_after, EndsLines}

-- a call splits what is left
front_and_back : (asked : ℕ) (left : RemainingLines)
    → (front_of asked left).lines ++ (back_of asked left).lines ≡ left.lines
unfolding front_of back_of
front_and_back asked left = by (nat_le asked (length left.lines)) refl
  where
    by : (test : Bool) → nat_le asked (length left.lines) ≡ test
        → (if test then record { lines = take asked left.lines; ending = More } else left).lines
        ++ drop asked left.lines ≡ left.lines
    by true e = take-append-drop asked left.lines
    by false e =
        ap (λ rest. left.lines ++ rest) (drop_all asked left.lines (omega (arith, leb-false _ _ e)))
        ∙ append-nil left.lines

-- a piece is all that is left, and fewer lines than were asked for
pub record IsAllLeft (asked : ℕ) (left : RemainingLines) : Type 0 where
  pub piece : front_of asked left ≡ left
  pub fewer : length left.lines < asked

last_is_all : (asked : ℕ) (left : RemainingLines) → IsLast (front_of asked left).ending → IsAllLeft asked left
unfolding front_of
last_is_all asked left last = by (nat_le asked (length left.lines)) refl last
  where
    by : (test : Bool) → nat_le asked (length left.lines) ≡ test
        → IsLast (if test then record { lines = take asked left.lines; ending = More } else left).ending
        → IsAllLeft asked left
    by true e last = absurd last
    by false e last = record { piece = rw e refl; fewer = leb-false _ _ e }

short_is_all : (asked : ℕ) (left : RemainingLines) → length (front_of asked left).lines < asked → IsAllLeft asked left
unfolding front_of
short_is_all asked left short = by (nat_le asked (length left.lines)) refl short
  where
    by : (test : Bool) → nat_le asked (length left.lines) ≡ test
        → length (if test then record { lines = take asked left.lines; ending = More } else left).lines < asked
        → IsAllLeft asked left
    by true e short = absurd (omega (arith, short, length-take-le asked left.lines (leb-true _ _ e)))
    by false e short = record { piece = rw e refl; fewer = leb-false _ _ e }

-- the lines of all pieces, and those that are left
pub pieces_so_far : (calls : List ℕ) (left : RemainingLines)
    → all_lines_of (pieces_by calls left) ++ (left_after_calls calls left).lines ≡ left.lines
pieces_so_far [] left = refl
pieces_so_far (asked ∷ calls) left =
    append_assoc (front_of asked left).lines (all_lines_of (pieces_by calls (back_of asked left)))
    (left_after_calls calls (back_of asked left)).lines
    ∙ ap (λ lines. (front_of asked left).lines ++ lines) (pieces_so_far calls (back_of asked left))
    ∙ front_and_back asked left

left_by-ending : (calls : List ℕ) (left : RemainingLines) → (left_after_calls calls left).ending ≡ left.ending
unfolding back_of
left_by-ending [] left = refl
left_by-ending (asked ∷ calls) left = left_by-ending calls (back_of asked left)

left_by-append : (calls : List ℕ) (asked : ℕ) (left : RemainingLines)
    → left_after_calls (calls ++ asked ∷ []) left ≡ back_of asked (left_after_calls calls left)
left_by-append [] asked left = refl
left_by-append (first ∷ calls) asked left = left_by-append calls asked (back_of first left)

-- nothing is left after all that is left
all_leaves_none : (asked : ℕ) (left : RemainingLines) → length left.lines < asked → (back_of asked left).lines ≡ []
unfolding back_of
all_leaves_none asked left fewer = drop_all asked left.lines (omega (arith, fewer))

all_ends : (calls : List ℕ) (asked : ℕ) (left : RemainingLines) → IsAllLeft asked (left_after_calls calls left)
    → EndsLines calls asked left
all_ends calls asked left all =
    let none : (left_after_calls (calls ++ asked ∷ []) left).lines ≡ [] =
    ap (λ rest. rest.lines) (left_by-append calls asked left)
    ∙ all_leaves_none asked (left_after_calls calls left) all.fewer in
    record {
      lines =
          sym (append-nil (all_lines_of (pieces_by (calls ++ asked ∷ []) left)))
          ∙ ap (λ rest. all_lines_of (pieces_by (calls ++ asked ∷ []) left) ++ rest) (sym none)
          ∙ pieces_so_far (calls ++ asked ∷ []) left;
      none = none;
      ending = ap (λ rest. rest.ending) all.piece ∙ left_by-ending calls left;
    }

pub last_ends : (calls : List ℕ) (asked : ℕ) (left : RemainingLines) → IsLast (piece_after calls asked left).ending
    → EndsLines calls asked left
last_ends calls asked left last = all_ends calls asked left (last_is_all asked (left_after_calls calls left) last)

pub short_ends : (calls : List ℕ) (asked : ℕ) (left : RemainingLines)
    → length (piece_after calls asked left).lines < asked → EndsLines calls asked left
short_ends calls asked left short = all_ends calls asked left (short_is_all asked (left_after_calls calls left) short)

-- the ending of a file's lines is a last one
lines_from-last : (more : Bool) (number : ℕ) (parts : List TextPart) → IsLast (lines_from more number parts).ending
unfolding lines_from
lines_from-last true number [] = tt
lines_from-last false number [] = tt
lines_from-last more number (part ∷ parts) =
    by (nat_lt LONGEST (length part.bytes)) (more && not part.ended) (lines_from more (number + 1) parts)
    (lines_from-last more (number + 1) parts)
  where
    by : (long past : Bool) (rest : RemainingLines) → IsLast rest.ending
        → IsLast
        (if long then record { lines = []; ending = TooLong number } else if past
        then record { lines = []; ending = TooLarge } else with_line (line_in part.bytes) rest).ending
    by true past rest last = tt
    by false true rest last = tt
    by false false rest last = last

pub lines_of-last : (most : ℕ) (file : List ℕ) → IsLast (file_lines most file).ending
unfolding file_lines
lines_of-last most file = lines_from-last (nat_lt most (length file)) 1 (text_parts_of (without_mark (take most file)))

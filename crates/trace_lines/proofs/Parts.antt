-- The first part of a text.
use Rattle.std.proofs.Common.{◌≡◌, ◌≢◌, ℕ, suc, ◌+◌, ◌<◌, ◌≤◌, ◌==◌, if◌then◌else◌, Bool, true, false, List, [], ◌∷◌}
use Rattle.std.proofs.Common.{◌++◌, length, take, drop, refl, sym, ap, ◌∙◌, arith, append-nil, append_assoc, nat_lt}
use Rattle.std.proofs.lemmas.Bool.{eqb-true, lt-ltb, le-ltb}
use Rattle.std.proofs.lemmas.List.{take-append-drop, drop_more, take_all, length-take-le, drop_all}
use Rattle.std.proofs.lemmas.List.Elements.{All-head, All-tail}
use Rattle.line_text.specs.Lines.{line_feed, IsLine}
use Rattle.trace_lines.specs.declared.next.TheConstants.{LONGEST}
use Rattle.trace_lines.specs.declared.piece.Ending.TheVariants.{End, TooLong, TooLarge}
use Rattle.trace_lines.specs.Lines.{TextPart, text_parts_of, with_byte_in_first, lines_from, with_line, line_in}
use Rattle.trace_lines.specs.Nexts.{IsBeforeFeed}

-- a line and its line feed are the first part, whatever follows
part_ended : (line rest : List ℕ) → IsLine line
    → text_parts_of (line ++ line_feed ∷ rest) ≡ record { bytes = line; ended = true } ∷ text_parts_of rest
unfolding text_parts_of
part_ended [] rest is = refl
part_ended (byte ∷ line) rest is =
    by (byte == 10) refl (part_ended line rest (All-tail (λ (b : ℕ). b ≢ line_feed) byte line is))
  where
    by : (test : Bool) → (byte == 10) ≡ test
        → text_parts_of (line ++ line_feed ∷ rest) ≡ record { bytes = line; ended = true } ∷ text_parts_of rest
        → (if test then record { bytes = []; ended = true }
        ∷ text_parts_of (line ++ line_feed ∷ rest) else with_byte_in_first byte
        (text_parts_of (line ++ line_feed ∷ rest)))
        ≡ record { bytes = byte ∷ line; ended = true } ∷ text_parts_of rest
    by true e more = absurd (All-head (λ (b : ℕ). b ≢ line_feed) byte line is (eqb-true byte 10 e))
    by false e more = ap (with_byte_in_first byte) more

-- a line with nothing after it is the only part
part_last : (byte : ℕ) (line : List ℕ) → IsLine (byte ∷ line)
    → text_parts_of (byte ∷ line) ≡ record { bytes = byte ∷ line; ended = false } ∷ []
unfolding text_parts_of
part_last byte [] is = by (byte == 10) refl
  where
    by : (test : Bool) → (byte == 10) ≡ test
        → (if test then record { bytes = []; ended = true }
        ∷ text_parts_of [] else with_byte_in_first byte (text_parts_of []))
        ≡ record { bytes = byte ∷ []; ended = false } ∷ []
    by true e = absurd (All-head (λ (b : ℕ). b ≢ line_feed) byte [] is (eqb-true byte 10 e))
    by false e = refl
part_last byte (next ∷ line) is =
    by (byte == 10) refl (part_last next line (All-tail (λ (b : ℕ). b ≢ line_feed) byte (next ∷ line) is))
  where
    by : (test : Bool) → (byte == 10) ≡ test
        → text_parts_of (next ∷ line) ≡ record { bytes = next ∷ line; ended = false } ∷ []
        → (if test then record { bytes = []; ended = true }
        ∷ text_parts_of (next ∷ line) else with_byte_in_first byte (text_parts_of (next ∷ line)))
        ≡ record { bytes = byte ∷ next ∷ line; ended = false } ∷ []
    by true e more = absurd (All-head (λ (b : ℕ). b ≢ line_feed) byte (next ∷ line) is (eqb-true byte 10 e))
    by false e more = ap (with_byte_in_first byte) more

-- the first part has so many bytes at least
abbrev HasLong : ℕ → List TextPart → Type 0
HasLong count [] = count ≡ 0
HasLong count (part ∷ parts) = count ≤ length part.bytes

has_long : (line rest : List ℕ) → IsLine line → HasLong (length line) (text_parts_of (line ++ rest))
unfolding text_parts_of
has_long [] rest is = none (text_parts_of rest)
  where
    none : (parts : List TextPart) → HasLong 0 parts
    none [] = refl
    none (part ∷ parts) = omega arith
has_long (byte ∷ line) rest is =
    by (byte == 10) refl (text_parts_of (line ++ rest))
    (has_long line rest (All-tail (λ (b : ℕ). b ≢ line_feed) byte line is))
  where
    by : (test : Bool) → (byte == 10) ≡ test → (parts : List TextPart) → HasLong (length line) parts
        → HasLong (suc (length line))
        (if test then record { bytes = []; ended = true } ∷ parts else with_byte_in_first byte parts)
    by true e parts long = absurd (All-head (λ (b : ℕ). b ≢ line_feed) byte line is (eqb-true byte 10 e))
    by false e [] none = omega (arith, none)
    by false e (part ∷ parts) long = omega (arith, long)

long_part : (more : Bool) (number count : ℕ) (parts : List TextPart) → LONGEST < count → HasLong count parts
    → lines_from more number parts ≡ record { lines = []; ending = TooLong number }
unfolding lines_from
long_part more number count [] long is = absurd (omega (arith, long, is))
long_part more number count (part ∷ parts) long is =
    let e : nat_lt LONGEST (length part.bytes) ≡ true =
    lt-ltb LONGEST (length part.bytes) (omega (arith, long, is)) in rw e refl

ended_part : (more : Bool) (number : ℕ) (bytes : List ℕ) (parts : List TextPart) → length bytes ≤ LONGEST
    → lines_from more number (record { bytes = bytes; ended = true } ∷ parts)
    ≡ with_line (line_in bytes) (lines_from more (number + 1) parts)
unfolding lines_from
ended_part true number bytes parts short =
    let e : nat_lt LONGEST (length bytes) ≡ false = le-ltb LONGEST (length bytes) short in rw e refl
ended_part false number bytes parts short =
    let e : nat_lt LONGEST (length bytes) ≡ false = le-ltb LONGEST (length bytes) short in rw e refl

open_part : (number : ℕ) (bytes : List ℕ) → length bytes ≤ LONGEST
    → lines_from true number (record { bytes = bytes; ended = false } ∷ []) ≡ record { lines = []; ending = TooLarge }
unfolding lines_from
open_part number bytes short =
    let e : nat_lt LONGEST (length bytes) ≡ false = le-ltb LONGEST (length bytes) short in rw e refl

last_part : (number : ℕ) (bytes : List ℕ) → length bytes ≤ LONGEST
    → lines_from false number (record { bytes = bytes; ended = false } ∷ [])
    ≡ with_line (line_in bytes) (lines_from false (number + 1) [])
unfolding lines_from
last_part number bytes short =
    let e : nat_lt LONGEST (length bytes) ≡ false = le-ltb LONGEST (length bytes) short in rw e refl

-- what is left, told by the bytes that are held and by what is still to be read
pub left_long : (more : Bool) (number place : ℕ) (held unread : List ℕ) → IsBeforeFeed held place → LONGEST < place
    → lines_from more number (text_parts_of (held ++ unread)) ≡ record { lines = []; ending = TooLong number }
left_long more number place held unread is long =
    let whole : held ++ unread ≡ take place held ++ (drop place held ++ unread) =
    ap (λ bytes. bytes ++ unread) (sym (take-append-drop place held))
    ∙ append_assoc (take place held) (drop place held) unread in
    let len : length (take place held) ≡ place = length-take-le place held is.within in
    ap (λ bytes. lines_from more number (text_parts_of bytes)) whole
    ∙ long_part more number (length (take place held)) (text_parts_of (take place held ++ (drop place held ++ unread)))
    (omega arith) (has_long (take place held) (drop place held ++ unread) is.line)

pub left_line : (more : Bool) (number place : ℕ) (held unread : List ℕ) → IsBeforeFeed held place
    → place < length held → place ≤ LONGEST
    → lines_from more number (text_parts_of (held ++ unread))
    ≡ with_line (line_in (take place held))
    (lines_from more (number + 1) (text_parts_of (drop (place + 1) held ++ unread)))
left_line more number place held unread is ended short =
    let here : drop place held ≡ line_feed ∷ drop (place + 1) held =
    drop_more held place 0 ended ∙ ap (λ byte. byte ∷ drop (place + 1) held) (is.feed ended) in
    let whole : held ++ unread ≡ take place held ++ line_feed ∷ (drop (place + 1) held ++ unread) =
    ap (λ bytes. bytes ++ unread) (sym (take-append-drop place held))
    ∙ append_assoc (take place held) (drop place held) unread
    ∙ ap (λ bytes. take place held ++ (bytes ++ unread)) here in
    let len : length (take place held) ≡ place = length-take-le place held is.within in
    ap (λ bytes. lines_from more number (text_parts_of bytes)) whole
    ∙ ap (lines_from more number) (part_ended (take place held) (drop (place + 1) held ++ unread) is.line)
    ∙ ended_part more number (take place held) (text_parts_of (drop (place + 1) held ++ unread)) (omega arith)

-- no line feed is held
pub no_feed : (held : List ℕ) (place : ℕ) → IsBeforeFeed held place → length held ≤ place → IsLine held
no_feed held place is all = rw (take_all place held all) at is.line

pub left_past : (number place : ℕ) (held : List ℕ) → IsBeforeFeed held place → length held ≤ place → place ≤ LONGEST
    → lines_from true number (text_parts_of (held ++ [])) ≡ record { lines = []; ending = TooLarge }
unfolding text_parts_of lines_from
left_past number place [] is all short = refl
left_past number place (byte ∷ held) is all short =
    ap (λ bytes. lines_from true number (text_parts_of bytes)) (append-nil (byte ∷ held))
    ∙ ap (lines_from true number) (part_last byte held (no_feed (byte ∷ held) place is all))
    ∙ open_part number (byte ∷ held) (omega (arith, is.within))

pub left_none : (number : ℕ) (held : List ℕ) → length held ≡ 0
    → lines_from false number (text_parts_of (held ++ [])) ≡ record { lines = []; ending = End }
unfolding text_parts_of lines_from
left_none number [] none = refl
left_none number (byte ∷ held) none = absurd (omega (arith, none))

pub left_last : (number : ℕ) {place : ℕ} (len : ℕ) (held : List ℕ) → IsBeforeFeed held place → length held ≤ place
    → place ≤ LONGEST → 0 < len → len ≡ length held
    → lines_from false number (text_parts_of (held ++ []))
    ≡ with_line (line_in (take len held)) (lines_from false (number + 1) (text_parts_of (drop len held ++ [])))
unfolding text_parts_of
left_last number len [] is all short some same = absurd (omega (arith, some, same))
left_last number {place} len (byte ∷ held) is all short some same =
    let whole : take len (byte ∷ held) ≡ byte ∷ held = take_all len (byte ∷ held) (omega (arith, same)) in
    let none : drop len (byte ∷ held) ≡ [] = drop_all len (byte ∷ held) (omega (arith, same)) in
    ap (λ bytes. lines_from false number (text_parts_of bytes)) (append-nil (byte ∷ held))
    ∙ ap (lines_from false number) (part_last byte held (no_feed (byte ∷ held) place is all))
    ∙ last_part number (byte ∷ held) (omega (arith, is.within))
    ∙ ap (λ bytes. with_line (line_in bytes) (lines_from false (number + 1) (text_parts_of []))) (sym whole)
    ∙ ap (λ bytes. with_line (line_in (take len (byte ∷ held)))
    (lines_from false (number + 1) (text_parts_of (bytes ++ [])))) (sym none)

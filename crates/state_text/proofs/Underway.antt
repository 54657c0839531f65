-- A text that is written piece by piece.
use Rattle.std.proofs.Common.{◌≡◌, ℕ, zero, suc, ◌+◌, ◌-◌, ◌*◌, ◌/◌, ◌%◌, ◌<◌, ◌≤◌, Bool, true, false, List, [], ◌∷◌, ◌++◌}
use Rattle.std.proofs.Common.{length, drop, get_or, map, refl, sym, ap, ◌∙◌, subst, arith, append_assoc, append-nil}
use Rattle.std.proofs.Common.{Option, Some, None, option_map, if◌then◌else◌}
use Rattle.std.specs.Prelude.{◌==◌, Result, Ok, Err, OnOk, OnErr}
use Rattle.std.specs.Int.{w64, to_le_bytes}
use Rattle.std.specs.List.{concat, list_all, range_with_len}
use Rattle.std.proofs.Math.Seq.{drop-cons}
use Rattle.std.proofs.Math.ListN.{drop_of_length-le}
use Rattle.std.proofs.lemmas.List.Folds.{concat-append}
use Rattle.std.proofs.Math.ListN.{get_or-append}
use Rattle.std.proofs.Math.Seq.{get_or-append_right}
use Rattle.std.proofs.lemmas.List.{drop_more, length-append, length-map}
use Rattle.std.proofs.lemmas.Nat.{le_bytes_8}
use Rattle.hart_words.specs.declared.span.Span.{Span}
use Rattle.hart_words.specs.declared.registers.Registers.{Registers}
use Rattle.csr_file.specs.declared.csrs.Csrs.{Csrs}
use Rattle.hart_words.specs.Memory.{Bytes, number_at}
use Rattle.hart_step.specs.declared.state.Core.{Core}
use Rattle.state_text.specs.Lines.{block_line, number_line, front_lines, end_line}
use Rattle.state_text.specs.Memory.{block_text, bytes_from, memory_lines}
use Rattle.state_text.specs.Numbers.{numbers_of}
use Rattle.state_text.specs.Reading.{is_zero}
use Rattle.state_text.specs.Texts.{core_lines, cores_lines, number_lines, ram_lines, saved_text}
use Rattle.state_text.specs.Writes.{FindsInRam, Sends, WritesFront}
use Rattle.state_text.proofs.OneText.{text_parts}

-- ---- what a sink holds

none_appended : (held : Option (List ℕ)) → held ≡ option_map (λ bytes. bytes ++ []) held
none_appended None = refl
none_appended (Some bytes) = ap (λ all. Some all) (sym (append-nil bytes))

appended_twice : (held : Option (List ℕ)) (one other : List ℕ)
    → option_map (λ bytes. bytes ++ other) (option_map (λ bytes. bytes ++ one) held)
    ≡ option_map (λ bytes. bytes ++ (one ++ other)) held
appended_twice None one other = refl
appended_twice (Some bytes) one other = ap (λ all. Some all) (append_assoc bytes one other)

-- a text is under way: a front was sent, a piece is kept, and the rest is to come
pub record IsUnderway (text : List ℕ) (before now : Option (List ℕ)) (piece rest : List ℕ) : Type 0 where
  pub sent : List ℕ
  pub parts : sent ++ (piece ++ rest) ≡ text
  pub held : now ≡ option_map (λ bytes. bytes ++ sent) before

pub begins : (before : Option (List ℕ)) (piece rest : List ℕ) → IsUnderway (piece ++ rest) before before piece rest
begins before piece rest = record { sent = []; parts = refl; held = none_appended before }

pub more_kept : {text : List ℕ} {before now : Option (List ℕ)} {piece : List ℕ} (line rest : List ℕ)
    → IsUnderway text before now piece (line ++ rest) → IsUnderway text before now (piece ++ line) rest
more_kept {piece} line rest is = record {
  sent = is.sent;
  parts = ap (λ more. is.sent ++ more) (append_assoc piece line rest) ∙ is.parts;
  held = is.held;
}

pub sent_on : {text : List ℕ} {before now later : Option (List ℕ)} {piece kept rest : List ℕ}
    → IsUnderway text before now piece rest → Sends piece kept now later → IsUnderway text before later kept rest
sent_on {before} {piece} {kept} {rest} is sends = record {
  sent = is.sent ++ sends.front;
  parts = append_assoc is.sent sends.front (kept ++ rest)
      ∙ ap (λ more. is.sent ++ more) (sym (append_assoc sends.front kept rest))
      ∙ ap (λ whole. is.sent ++ (whole ++ rest)) sends.parts ∙ is.parts;
  held = sends.held ∙ ap (λ held. option_map (λ bytes. bytes ++ sends.front) held) is.held
      ∙ appended_twice before is.sent sends.front;
}

pub fails : {text : List ℕ} {before now later : Option (List ℕ)} {piece rest : List ℕ}
    → IsUnderway text before now piece rest → WritesFront piece now later → WritesFront text before later
fails {before} {rest} is writes = record {
  front = is.sent ++ writes.front;
  more = writes.more ++ rest;
  parts = append_assoc is.sent writes.front (writes.more ++ rest)
      ∙ ap (λ more. is.sent ++ more) (sym (append_assoc writes.front writes.more rest))
      ∙ ap (λ whole. is.sent ++ (whole ++ rest)) writes.parts ∙ is.parts;
  held = writes.held ∙ ap (λ held. option_map (λ bytes. bytes ++ writes.front) held) is.held
      ∙ appended_twice before is.sent writes.front;
}

pub ends : {text : List ℕ} {before now later : Option (List ℕ)} {piece : List ℕ}
    → IsUnderway text before now piece [] → later ≡ option_map (λ bytes. bytes ++ piece) now
    → later ≡ option_map (λ bytes. bytes ++ text) before
ends {text} {before} {piece} is wrote =
    wrote ∙ ap (λ held. option_map (λ bytes. bytes ++ piece) held) is.held
    ∙ appended_twice before is.sent piece
    ∙ ap (λ all. option_map (λ bytes. bytes ++ all) before)
    (ap (λ more. is.sent ++ more) (sym (append-nil piece)) ∙ is.parts)

pub sent_whole : {before now : Option (List ℕ)} {piece empty : List ℕ} → empty ≡ []
    → now ≡ option_map (λ bytes. bytes ++ piece) before → Sends piece empty before now
sent_whole {piece} is held =
    record { front = piece; parts = ap (λ kept. piece ++ kept) is ∙ append-nil piece; held = held }

-- ---- the lines of memory

zeros_all : (bytes : Bytes) (a n : ℕ) → ((pa : ℕ) → a ≤ pa → pa < a + n → bytes pa ≡ 0)
    → list_all (λ byte. byte == 0) (map bytes (range_with_len a n)) ≡ true
zeros_all bytes a zero zero_each = refl
zeros_all bytes a (suc n) zero_each =
    let here : bytes a ≡ 0 = zero_each a (omega arith) (omega arith) in
    rw here (zeros_all bytes (a + 1) n (λ pa low high. zero_each pa (omega arith) (omega arith)))

-- blocks of zeros have no lines
pub zeros_skipped : (bytes : Bytes) (from k n : ℕ) → ((pa : ℕ) → from ≤ pa → pa < from + 16 * k → bytes pa ≡ 0)
    → memory_lines bytes from (k + n) ≡ memory_lines bytes (from + 16 * k) n
unfolding memory_lines
zeros_skipped bytes from zero n zero_each =
    let none : 0 + n ≡ n = omega arith in
    let same : from ≡ from + 16 * 0 = omega arith in
    ap (memory_lines bytes from) none ∙ ap (λ at. memory_lines bytes at n) same
zeros_skipped bytes from (suc k) n zero_each =
    let empty : is_zero (bytes_from bytes from) ≡ true =
    zeros_all bytes from 16 (λ pa low high. zero_each pa low (omega arith)) in
    let same : from + 16 + 16 * k ≡ from + 16 * suc k = omega arith in
    let next : suc k + n ≡ suc (k + n) = omega arith in
    ap (memory_lines bytes from) next
    ∙ rw empty (zeros_skipped bytes (from + 16) k n (λ pa low high. zero_each pa (omega arith) (omega arith))
    ∙ ap (λ at. memory_lines bytes at n) same)

pub lines_parted : (bytes : Bytes) (from k n : ℕ)
    → memory_lines bytes from (k + n) ≡ memory_lines bytes from k ++ memory_lines bytes (from + 16 * k) n
unfolding memory_lines
lines_parted bytes from zero n =
    let none : 0 + n ≡ n = omega arith in
    let same : from ≡ from + 16 * 0 = omega arith in
    ap (memory_lines bytes from) none ∙ ap (λ at. memory_lines bytes at n) same
lines_parted bytes from (suc k) n =
    let same : from + 16 + 16 * k ≡ from + 16 * suc k = omega arith in
    let next : suc k + n ≡ suc (k + n) = omega arith in
    ap (memory_lines bytes from) next
    ∙ by (is_zero (bytes_from bytes from)) (lines_parted bytes (from + 16) k n
    ∙ ap (λ at. memory_lines bytes (from + 16) k ++ memory_lines bytes at n) same)
  where
    by : (empty : Bool)
        → memory_lines bytes (from + 16) (k + n)
        ≡ memory_lines bytes (from + 16) k ++ memory_lines bytes (from + 16 * suc k) n
        → (if empty then memory_lines bytes (from + 16) (k + n)
        else block_line from (bytes_from bytes from) ∷ memory_lines bytes (from + 16) (k + n))
        ≡ (if empty then memory_lines bytes (from + 16) k
        else block_line from (bytes_from bytes from) ∷ memory_lines bytes (from + 16) k)
        ++ memory_lines bytes (from + 16 * suc k) n
    by true more = more
    by false more = ap (λ lines. block_line from (bytes_from bytes from) ∷ lines) more

-- the text of one more block
pub block_on : (bytes : Bytes) (from n : ℕ)
    → concat (memory_lines bytes from (suc n))
    ≡ block_text from (bytes_from bytes from) ++ concat (memory_lines bytes (from + 16) n)
unfolding memory_lines
block_on bytes from n = by (is_zero (bytes_from bytes from))
  where
    by : (empty : Bool)
        → concat (if empty then memory_lines bytes (from + 16) n
        else block_line from (bytes_from bytes from) ∷ memory_lines bytes (from + 16) n)
        ≡ (if empty then [] else block_line from (bytes_from bytes from)) ++ concat (memory_lines bytes (from + 16) n)
    by true = refl
    by false = refl

-- the lines of RAM from an address on, and the end
abbrev pub rest_from : Bytes → Span → ℕ → List ℕ
rest_from bytes ram from = concat (memory_lines bytes from ((ram.base + ram.size - from) / 16)) ++ end_line

pub rest_at_base : (bytes : Bytes) (ram : Span)
    → rest_from bytes ram ram.base ≡ concat (memory_lines bytes ram.base (ram.size / 16)) ++ end_line
rest_at_base bytes ram =
    let same : ram.base + ram.size - ram.base ≡ ram.size = omega arith in
    ap (λ size. concat (memory_lines bytes ram.base (size / 16)) ++ end_line) same

-- where no page is found, the end is left
pub no_page : (bytes : Bytes) (ram : Span) (from : ℕ) → FindsInRam bytes ram from None → from ≤ ram.base + ram.size
    → rest_from bytes ram from ≡ end_line
unfolding memory_lines
no_page bytes ram from zero_each low =
    let k = (ram.base + ram.size - from) / 16 in
    let count : k ≡ k + 0 = omega arith in
    ap (λ n. concat (memory_lines bytes from n) ++ end_line) count
    ∙ ap (λ lines. concat lines ++ end_line)
    (zeros_skipped bytes from k 0 (λ pa after before. zero_each pa after (grind (arith, before, low))))

-- and else the lines of that page, and those after it
pub page_next : (bytes : Bytes) (ram : Span) (from page : ℕ) → from % 4096 ≡ 0 → ram.base ≤ from
    → FindsInRam bytes ram from (Some page)
    → rest_from bytes ram from ≡ concat (memory_lines bytes page 256) ++ rest_from bytes ram (page + 4096)
page_next bytes ram from page whole base found =
    let k = (page - from) / 16 in
    let n = (ram.base + ram.size - (page + 4096)) / 16 in
    let count : (ram.base + ram.size - from) / 16 ≡ k + (256 + n) =
    grind (arith, whole, found.0, found.1, found.2, ram.whole_base, ram.whole_size) in
    let at : from + 16 * k ≡ page = grind (arith, whole, found.0, found.1) in
    let next : page + 16 * 256 ≡ page + 4096 = omega arith in
    ap (λ n. concat (memory_lines bytes from n) ++ end_line) count
    ∙ ap (λ lines. concat lines ++ end_line)
    (zeros_skipped bytes from k (256 + n) (λ pa low high. found.3 pa low (omega (arith, high, at)))
    ∙ ap (λ a. memory_lines bytes a (256 + n)) at ∙ lines_parted bytes page 256 n
    ∙ ap (λ a. memory_lines bytes page 256 ++ memory_lines bytes a n) next)
    ∙ ap (λ text. text ++ end_line)
    (concat-append (memory_lines bytes page 256) (memory_lines bytes (page + 4096) n))
    ∙ append_assoc (concat (memory_lines bytes page 256)) (concat (memory_lines bytes (page + 4096) n)) end_line

-- the bytes of a number that memory has
pub number_bytes : (bytes : Bytes) (pa : ℕ) → ((at : ℕ) → pa ≤ at → at < pa + 8 → bytes at < 256)
    → to_le_bytes w64 (number_at bytes pa 8) ≡ map bytes (range_with_len pa 8)
unfolding number_at
number_bytes bytes pa small = le_bytes_8 (map bytes (range_with_len pa 8)) (number_at bytes pa 8) refl each (omega arith)
  where
    each : (i : ℕ) → get_or (map bytes (range_with_len pa 8)) i 0 < 256
    each zero = small pa (omega arith) (omega arith)
    each (suc zero) = small (pa + 1) (omega arith) (omega arith)
    each (suc (suc zero)) = small (pa + 1 + 1) (omega arith) (omega arith)
    each (suc (suc (suc zero))) = small (pa + 1 + 1 + 1) (omega arith) (omega arith)
    each (suc (suc (suc (suc zero)))) = small (pa + 1 + 1 + 1 + 1) (omega arith) (omega arith)
    each (suc (suc (suc (suc (suc zero))))) = small (pa + 1 + 1 + 1 + 1 + 1) (omega arith) (omega arith)
    each (suc (suc (suc (suc (suc (suc zero)))))) = small (pa + 1 + 1 + 1 + 1 + 1 + 1) (omega arith) (omega arith)
    each (suc (suc (suc (suc (suc (suc (suc zero))))))) =
        small (pa + 1 + 1 + 1 + 1 + 1 + 1 + 1) (omega arith) (omega arith)
    each (suc (suc (suc (suc (suc (suc (suc (suc i)))))))) = omega arith

-- the 16 bytes at an address, in two halves
halves : (bytes : Bytes) (a : ℕ)
    → map bytes (range_with_len a 8) ++ map bytes (range_with_len (a + 8) 8) ≡ bytes_from bytes a
halves bytes a =
    let middle : a + 8 ≡ a + 1 + 1 + 1 + 1 + 1 + 1 + 1 + 1 = omega arith in
    ap (λ b. map bytes (range_with_len a 8) ++ map bytes (range_with_len b 8)) middle

pub two_halves : (bytes : Bytes) (a : ℕ) (low high : List ℕ) → low ≡ map bytes (range_with_len a 8)
    → high ≡ map bytes (range_with_len (a + 8) 8)
    → map (λ k. get_or low k 0) (range_with_len 0 8) ++ map (λ k. get_or high k 0) (range_with_len 0 8)
    ≡ bytes_from bytes a
two_halves bytes a low high first second = rw (first, second) (halves bytes a)

-- ---- the lines of numbers

pub number_on : (names : List (List ℕ)) (numbers : List ℕ) (i : ℕ) (name : List ℕ) → i < length names
    → i < length numbers → name ≡ get_or names i []
    → concat (number_lines (drop i names) (drop i numbers))
    ≡ number_line name (get_or numbers i 0) ++ concat (number_lines (drop (suc i) names) (drop (suc i) numbers))
unfolding number_lines
number_on names numbers i name here there is =
    rw (drop-cons names i [] here, drop-cons numbers i 0 there, is) refl

-- one more line of a number is put
pub number_line_on : (names : List (List ℕ)) (numbers : List ℕ) (i : ℕ) (name : List ℕ) (number : ℕ)
    (start before after : List ℕ) → i < 70 → length numbers ≡ 70 → name ≡ get_or names i []
    → number ≡ get_or numbers i 0 → after ≡ before ++ number_line name number
    → before ++ concat (number_lines (drop i names) (drop i numbers)) ≡ start ++ concat (number_lines names numbers)
    → length names ≡ 70
    → after ++ concat (number_lines (drop (i + 1) names) (drop (i + 1) numbers))
    ≡ start ++ concat (number_lines names numbers)
number_line_on names numbers i name number start before after below len is has put so_far names_len =
    let next : i + 1 ≡ suc i = omega arith in
    let more = concat (number_lines (drop (suc i) names) (drop (suc i) numbers)) in
    rw next
    (ap (λ text. text ++ more) (put ∙ ap (λ n. before ++ number_line name n) has)
    ∙ append_assoc before (number_line name (get_or numbers i 0)) more
    ∙ ap (λ text. before ++ text)
    (sym (number_on names numbers i name (omega (arith, below, names_len)) (omega (arith, below, len)) is))
    ∙ so_far)

pub numbers_end : (names : List (List ℕ)) (numbers : List ℕ) (i : ℕ) → length names ≤ i
    → concat (number_lines (drop i names) (drop i numbers)) ≡ []
unfolding number_lines
numbers_end names numbers i past = rw (drop_of_length-le names past) refl

-- ---- the whole text

-- a text goes on after what is kept
pub sends_more : {before now later : Option (List ℕ)} {all kept : List ℕ} (rest : List ℕ) → Sends all kept before now
    → later ≡ option_map (λ bytes. bytes ++ (kept ++ rest)) now
    → later ≡ option_map (λ bytes. bytes ++ (all ++ rest)) before
sends_more {before} {all} {kept} rest sends wrote =
    wrote ∙ ap (λ held. option_map (λ bytes. bytes ++ (kept ++ rest)) held) sends.held
    ∙ appended_twice before sends.front (kept ++ rest)
    ∙ ap (λ text. option_map (λ bytes. bytes ++ text) before)
    (sym (append_assoc sends.front kept rest) ∙ ap (λ whole. whole ++ rest) sends.parts)

pub sends_fails : {before now later : Option (List ℕ)} {all kept : List ℕ} (rest : List ℕ) → Sends all kept before now
    → WritesFront (kept ++ rest) now later → WritesFront (all ++ rest) before later
sends_fails {before} {all} {kept} rest sends writes = record {
  front = sends.front ++ writes.front;
  more = writes.more;
  parts = append_assoc sends.front writes.front writes.more ∙ ap (λ text. sends.front ++ text) writes.parts
      ∙ sym (append_assoc sends.front kept rest) ∙ ap (λ whole. whole ++ rest) sends.parts;
  held = writes.held ∙ ap (λ held. option_map (λ bytes. bytes ++ writes.front) held) sends.held
      ∙ appended_twice before sends.front writes.front;
}

-- a front of a text is one of a longer text
pub longer_front : {before now : Option (List ℕ)} {text : List ℕ} (rest : List ℕ) → WritesFront text before now
    → WritesFront (text ++ rest) before now
longer_front rest writes = record {
  front = writes.front;
  more = writes.more ++ rest;
  parts = sym (append_assoc writes.front writes.more rest) ∙ ap (λ whole. whole ++ rest) writes.parts;
  held = writes.held;
}

-- all of a text was put, and what is kept of it is its end
pub all_put : {text : List ℕ} {before now : Option (List ℕ)} {piece : List ℕ} → IsUnderway text before now piece []
    → Sends text piece before now
all_put {piece} is = record {
  front = is.sent;
  parts = ap (λ more. is.sent ++ more) (sym (append-nil piece)) ∙ is.parts;
  held = is.held;
}

-- one hart's lines are put
pub core_kept : {text : List ℕ} {before now : Option (List ℕ)} {piece : List ℕ} (cores : List Core) (place : ℕ)
    (core : Core) (put : List ℕ) → place < length cores → core ≡ get_or cores place core
    → put ≡ piece ++ concat (core_lines core)
    → IsUnderway text before now piece (concat (cores_lines (drop place cores)))
    → IsUnderway text before now put (concat (cores_lines (drop (place + 1) cores)))
unfolding cores_lines
core_kept {text} {before} {now} {piece} cores place core put here is puts under =
    let left = concat (cores_lines (drop (place + 1) cores)) in
    let rest : drop place cores ≡ core ∷ drop (place + 1) cores =
    drop_more cores place core here ∙ ap (λ c. c ∷ drop (place + 1) cores) (sym is) in
    let parts : concat (cores_lines (drop place cores)) ≡ concat (core_lines core) ++ left =
    ap (λ cores. concat (cores_lines cores)) rest
    ∙ concat-append (core_lines core) (cores_lines (drop (place + 1) cores)) in
    subst (λ p. IsUnderway text before now p left) (sym puts)
    (more_kept (concat (core_lines core)) left (subst (IsUnderway text before now piece) parts under))

pub cores_end : (cores : List Core) (place : ℕ) → length cores ≤ place → concat (cores_lines (drop place cores)) ≡ []
unfolding cores_lines
cores_end cores place past = rw (drop_of_length-le cores past) refl

-- the lines of memory by the first hart
pub first_ram : (cores : List Core) (bytes : Bytes) (core : Core) → 0 < length cores → core ≡ get_or cores 0 core
    → ram_lines cores bytes ≡ memory_lines bytes core.map.ram.base (core.map.ram.size / 16)
first_ram [] bytes core some is = absurd (omega arith)
first_ram (first ∷ cores) bytes core some is =
    ap (λ (core : Core). memory_lines bytes core.map.ram.base (core.map.ram.size / 16)) (sym is)

pub first_there : (cores : List Core) → 0 < length cores → (core : Core) × (core ≡ get_or cores 0 core)
first_there [] some = absurd (omega arith)
first_there (first ∷ cores) some = (first, refl)

-- the text of a state, by what is put before memory
pub whole_text : (cores : List Core) (bytes : Bytes) (ram : Span) (harts : ℕ) {p0 p1 : List ℕ}
    → harts ≡ length cores → p0 ≡ [] → p1 ≡ p0 ++ concat (front_lines harts)
    → ram_lines cores bytes ≡ memory_lines bytes ram.base (ram.size / 16)
    → (p1 ++ concat (cores_lines cores)) ++ (concat (memory_lines bytes ram.base (ram.size / 16)) ++ end_line)
    ≡ saved_text cores bytes
whole_text cores bytes ram harts count none front same =
    let lines = memory_lines bytes ram.base (ram.size / 16) in
    let first = concat (front_lines (length cores)) in
    let second = concat (cores_lines cores) in
    let last : concat lines ++ end_line ≡ concat (ram_lines cores bytes ++ end_line ∷ []) =
    sym (concat-append lines (end_line ∷ []) ∙ ap (λ text. concat lines ++ text) (append-nil end_line))
    ∙ ap (λ lines. concat (lines ++ end_line ∷ [])) (sym same) in
    ap (λ p. (p ++ second) ++ (concat lines ++ end_line)) (front
    ∙ ap (λ p. p ++ concat (front_lines harts)) none ∙ ap (λ n. concat (front_lines n)) count)
    ∙ append_assoc first second (concat lines ++ end_line)
    ∙ ap (λ text. first ++ (second ++ text)) last ∙ sym (text_parts cores bytes)

-- a block that is no block of zeros has its line
pub block_put : (address : ℕ) (bytes read : List ℕ) (empty : Bool) → read ≡ bytes → empty ≡ is_zero read → empty ≡ false
    → block_line address read ≡ block_text address bytes
block_put address bytes read empty same test isnt =
    let not : is_zero bytes ≡ false = ap (λ (b : List ℕ). is_zero b) (sym same) ∙ sym test ∙ isnt in
    rw not (ap (block_line address) same)

-- one more block of a page is put
pub page_on : (bytes : Bytes) (page k : ℕ) (start before after : List ℕ) → k < 256
    → before ++ concat (memory_lines bytes (page + 16 * k) (256 - k)) ≡ start ++ concat (memory_lines bytes page 256)
    → after ≡ before ++ block_text (page + 16 * k) (bytes_from bytes (page + 16 * k))
    → after ++ concat (memory_lines bytes (page + 16 * (k + 1)) (256 - (k + 1)))
    ≡ start ++ concat (memory_lines bytes page 256)
page_on bytes page k start before after below so_far put =
    let at = page + 16 * k in
    let n = 256 - (k + 1) in
    let next : at + 16 ≡ page + 16 * (k + 1) = omega arith in
    let count : 256 - k ≡ suc n = omega (arith, below) in
    ap (λ text. text ++ concat (memory_lines bytes (page + 16 * (k + 1)) n)) put
    ∙ append_assoc before (block_text at (bytes_from bytes at)) (concat (memory_lines bytes (page + 16 * (k + 1)) n))
    ∙ ap (λ text. before ++ text)
    (ap (λ a. block_text at (bytes_from bytes at) ++ concat (memory_lines bytes a n)) (sym next)
    ∙ sym (block_on bytes at n) ∙ ap (λ m. concat (memory_lines bytes at m)) (sym count))
    ∙ so_far

pub page_ends : (bytes : Bytes) (page k : ℕ) (start after : List ℕ) → 256 ≤ k
    → after ++ concat (memory_lines bytes (page + 16 * k) (256 - k)) ≡ start ++ concat (memory_lines bytes page 256)
    → after ≡ start ++ concat (memory_lines bytes page 256)
unfolding memory_lines
page_ends bytes page k start after past so_far =
    let none : 256 - k ≡ 0 = omega (arith, past) in
    sym (append-nil after) ∙ ap (λ n. after ++ concat (memory_lines bytes (page + 16 * k) n)) (sym none) ∙ so_far

-- ---- the numbers of a hart

pub numbers_len : (registers : Registers) (csrs : Csrs) → length registers.values ≡ 31 → length csrs.entries ≡ 16
    → length (numbers_of registers csrs) ≡ 70
unfolding numbers_of
numbers_len registers csrs r e =
    let entries : length (map (λ entry. entry.addr) csrs.entries) ≡ 16 = length-map csrs.entries (λ entry. entry.addr) ∙ e in
    length-append registers.values _ ∙ omega (arith, r, entries)

-- the number at a place, of the registers, the stored registers, the configurations and the addresses
pub number_in_first : (a more : List ℕ) (place : ℕ) → place < length a → get_or a place 0 ≡ get_or (a ++ more) place 0
number_in_first a more place below = sym (get_or-append a more 0 place below)

pub number_in_second : (a more : List ℕ) (first place : ℕ) → length a ≡ first → first ≤ place
    → get_or more (place - first) 0 ≡ get_or (a ++ more) place 0
number_in_second a more first place len past =
    ap (λ n. get_or more (place - n) 0) (sym len)
    ∙ sym (get_or-append_right a more place 0 (omega (arith, len, past)))

-- ---- the walk over memory

pub on_ok_more : {T E P Q : Type 0} (result : Result T E) → (P → Q) → OnOk result P → OnOk result Q
on_ok_more (Ok value) more holds = more holds
on_ok_more (Err error) more holds = tt

pub on_err_more : {T E P Q : Type 0} (result : Result T E) → (P → Q) → OnErr result P → OnErr result Q
on_err_more (Ok value) more holds = tt
on_err_more (Err error) more holds = more holds

-- the end is put after the last page
pub last_kept : {text : List ℕ} {before now : Option (List ℕ)} {piece : List ℕ} (bytes : Bytes) (ram : Span) (from : ℕ)
    (written : List ℕ) → IsUnderway text before now piece (rest_from bytes ram from)
    → FindsInRam bytes ram from None → from ≤ ram.base + ram.size → written ≡ piece ++ end_line
    → IsUnderway text before now written []
last_kept {text} {before} {now} {piece} bytes ram from written is found low put =
    let rest : rest_from bytes ram from ≡ end_line ++ [] = no_page bytes ram from found low ∙ sym (append-nil end_line) in
    subst (λ p. IsUnderway text before now p []) (sym put)
    (more_kept end_line [] (subst (IsUnderway text before now piece) rest is))

-- the lines of a page are put
pub page_kept : {text : List ℕ} {before now : Option (List ℕ)} {piece : List ℕ} (bytes : Bytes) (ram : Span)
    (from page : ℕ) (put : List ℕ) → IsUnderway text before now piece (rest_from bytes ram from)
    → from % 4096 ≡ 0 → ram.base ≤ from → FindsInRam bytes ram from (Some page)
    → put ≡ piece ++ concat (memory_lines bytes page 256)
    → IsUnderway text before now put (rest_from bytes ram (page + 4096))
page_kept {text} {before} {now} {piece} bytes ram from page put is whole low found puts =
    subst (λ p. IsUnderway text before now p (rest_from bytes ram (page + 4096))) (sym puts)
    (more_kept (concat (memory_lines bytes page 256)) (rest_from bytes ram (page + 4096))
    (subst (IsUnderway text before now piece) (page_next bytes ram from page whole low found) is))

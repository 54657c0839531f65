-- Lines that are taken, segment by segment.
use Rattle.std.proofs.Common.{◌≡◌, ℕ, zero, suc, ◌+◌, ◌-◌, ◌*◌, ◌<◌, ◌≤◌, Bool, true, false, List, [], ◌∷◌, ◌++◌}
use Rattle.std.proofs.Common.{length, take, drop, nat_le, if◌then◌else◌, Option, Some, None, IsSome, Result, Ok, Err}
use Rattle.std.proofs.Common.{IfOk, refl, sym, ap, ap₂, subst, ◌∙◌, arith, append-nil, string_bytes, take-add}
use Rattle.std.specs.List.{flat_map}
use Rattle.std.proofs.lemmas.Bool.{leb-true, leb-false, le-leb}
use Rattle.std.proofs.Math.Nat.{add-mul}
use Rattle.std.proofs.lemmas.Nat.{mul-le}
use Rattle.std.proofs.lemmas.List.{drop-drop, length-drop, length-take-le, take-append-drop}
use Rattle.std.proofs.lemmas.List.Concat.{flat_map-append, flat_map-cons}
use Rattle.outside_ports.specs.Ports.{Files, IsThere, file_of}
use Rattle.rvfi_rows.specs.declared.segment.Segment.{Segment}
use Rattle.rvfi_rows.specs.Segments.{segment_lines}
use Rattle.trace_lines.specs.declared.piece.Ending.{Ending}
use Rattle.trace_lines.specs.declared.piece.Ending.TheVariants as endings
use Rattle.trace_lines.specs.declared.line_taker.LineTaker.{LineTaker}
use Rattle.trace_lines.specs.declared.piece.LineError.{LineError}
use Rattle.trace_lines.specs.declared.piece.Piece.{Piece}
use Rattle.trace_lines.specs.Lines.{RemainingLines}
use Rattle.trace_lines.specs.Pieces.{FitsAsked, FitsEnding, back_of, front_of, piece_view}
use Rattle.trace_lines.specs.Takers.{Takes, TakesWhereKnown, remaining_lines_of, room_of}
use Rattle.judge_run.specs.declared.taken.Asked.{Asked}
use Rattle.judge_run.specs.declared.taken.Taken.{Taken}
use Rattle.judge_run.specs.Taking.{TakesSegments, TakesAfterWhereKnown, TakesLines, TakesLinesWhereKnown, TakesSoFar}
use Rattle.judge_run.specs.Taking.{TakesSoFarWhereKnown, more_turns, remaining_after, taken_lines, with_lines_before}

-- before any call
pub none_taken : (file : Option (List ℕ)) (taker : LineTaker) → TakesSoFarWhereKnown file 0 taker [] taker
unfolding back_of
none_taken None taker = tt
none_taken (Some file) taker = record { enough = omega arith; lines = refl; left = refl; name = refl }

-- a call whose lines are as many as were asked for found so many
pub front_more : (asked : ℕ) (left : RemainingLines) (lines : List (List ℕ))
    → record { lines = lines; ending = endings.More } ≡ front_of asked left → length lines ≡ asked
    → (asked ≤ length left.lines) × (lines ≡ take asked left.lines)
unfolding front_of
front_more asked left lines front count = by (nat_le asked (length left.lines)) refl front
  where
    by : (test : Bool) → nat_le asked (length left.lines) ≡ test
        → record { lines = lines; ending = endings.More }
        ≡ (if test then record { lines = take asked left.lines; ending = endings.More } else left)
        → (asked ≤ length left.lines) × (lines ≡ take asked left.lines)
    by true e is = (leb-true _ _ e, ap (λ view. view.lines) is)
    by false e is =
        let fewer = leb-false _ _ e in
        let same : length lines ≡ length left.lines = ap (λ view. length view.lines) is in
        absurd (omega (arith, fewer, same, count))

-- one with fewer lines took all that was left
pub front_last : (asked : ℕ) (left piece : RemainingLines) → piece ≡ front_of asked left → length piece.lines < asked
    → piece ≡ left
unfolding front_of
front_last asked left piece front few = by (nat_le asked (length left.lines)) refl front
  where
    by : (test : Bool) → nat_le asked (length left.lines) ≡ test
        → piece ≡ (if test then record { lines = take asked left.lines; ending = endings.More } else left)
        → piece ≡ left
    by true e is =
        let enough : asked ≤ length left.lines = leb-true _ _ e in
        let many : length piece.lines ≡ asked =
        ap (λ view. length view.lines) is ∙ length-take-le asked left.lines enough in
        absurd (omega (arith, many, few))
    by false e is = is

-- the back of a back
back_twice : (first next : ℕ) (left : RemainingLines) → back_of next (back_of first left) ≡ back_of (first + next) left
unfolding back_of
back_twice first next left =
    ap (λ lines. record { lines = lines; ending = left.ending }) (drop-drop next first left.lines)

back_lines : (asked : ℕ) (left : RemainingLines) → (back_of asked left).lines ≡ drop asked left.lines
unfolding back_of
back_lines asked left = refl

back_ending : (asked : ℕ) (left : RemainingLines) → (back_of asked left).ending ≡ left.ending
unfolding back_of
back_ending asked left = refl

-- one more call, after which more may follow
take_on : {file : List ℕ} {first next : ℕ} {before middle after : LineTaker} {lines : List (List ℕ)} (piece : Piece)
    → TakesSoFar file first before lines middle → Takes file next middle piece after → piece.ending ≡ endings.More
    → FitsAsked next piece → TakesSoFar file (first + next) before (lines ++ piece.lines) after
take_on {file} {first} {next} {before} {middle} {after} {lines} piece taken takes more fits =
    let count : length piece.lines ≡ next = subst (λ ending. FitsEnding ending next (length piece.lines)) more fits in
    let front = ap (λ ending. record { lines = piece.lines; ending = ending }) (sym more) ∙ takes.taken in
    let left = remaining_lines_of file before in
    let found = front_more next (remaining_lines_of file middle) piece.lines front count in
    let following : (remaining_lines_of file middle).lines ≡ drop first left.lines =
    ap (λ view. view.lines) taken.left ∙ back_lines first left in
    let room : length (remaining_lines_of file middle).lines ≡ length left.lines - first =
    ap length following ∙ length-drop first left.lines in
    record {
      enough = omega (arith, found.0, room, taken.enough);
      lines =
          ap₂ (λ one other. one ++ other) taken.lines (found.1 ∙ ap (take next) following)
          ∙ sym (take-add first next left.lines);
      left = takes.left ∙ ap (back_of next) taken.left ∙ back_twice first next left;
      name = takes.name ∙ taken.name;
    }

-- a call after others, of the same file
pub record TakesNext (file : Option (List ℕ)) (first next : ℕ) (before middle after : LineTaker)
    (lines : List (List ℕ)) (piece : Piece) : Type 0 where
  pub so_far : TakesSoFarWhereKnown file first before lines middle
  pub takes : TakesWhereKnown file next middle piece after
  pub fits : FitsAsked next piece

pub take_on_told : {first next : ℕ} {before middle after : LineTaker} {lines : List (List ℕ)} {piece : Piece}
    (file : Option (List ℕ)) → TakesNext file first next before middle after lines piece
    → piece.ending ≡ endings.More → TakesSoFarWhereKnown file (first + next) before (lines ++ piece.lines) after
take_on_told None is more = tt
take_on_told {piece = piece} (Some file) is more = take_on piece is.so_far is.takes more is.fits

-- as many as were asked for
front_whole : (asked : ℕ) (left : RemainingLines) → asked ≤ length left.lines
    → record { lines = take asked left.lines; ending = endings.More } ≡ front_of asked left
unfolding front_of
front_whole asked left enough = let some : nat_le asked (length left.lines) ≡ true = le-leb _ _ enough in rw some refl

pub takes_whole : (file : Option (List ℕ)) (asked : ℕ) (before after : LineTaker) (lines : List (List ℕ))
    → TakesSoFarWhereKnown file asked before lines after
    → TakesLinesWhereKnown file asked before lines endings.More after
takes_whole None asked before after lines taken = tt
takes_whole (Some file) asked before after lines taken = record {
  taken =
      ap (λ text. record { lines = text; ending = endings.More }) taken.lines
      ∙ front_whole asked (remaining_lines_of file before) taken.enough;
  left = λ more. taken.left;
  name = taken.name;
}

-- a call with fewer lines than were asked for is the last
front_fewer : (asked : ℕ) (left : RemainingLines) → length left.lines < asked → left ≡ front_of asked left
unfolding front_of
front_fewer asked left fewer =
    let none : nat_le asked (length left.lines) ≡ false = not_enough (nat_le asked (length left.lines)) refl in
    rw none refl
  where
    not_enough : (test : Bool) → nat_le asked (length left.lines) ≡ test → nat_le asked (length left.lines) ≡ false
    not_enough true e = let enough = leb-true asked (length left.lines) e in absurd (omega (arith, enough, fewer))
    not_enough false e = e

take_last : {file : List ℕ} {first next : ℕ} {before middle after : LineTaker} {lines : List (List ℕ)} (asked : ℕ)
    (piece : Piece) → TakesSoFar file first before lines middle → Takes file next middle piece after
    → FitsAsked next piece → (piece.ending ≡ endings.More → ⊥) → first + next ≤ asked
    → TakesLines file asked before (lines ++ piece.lines) piece.ending after
take_last {file} {first} {next} {before} {middle} {after} {lines} asked piece taken takes fits last within =
    let left = remaining_lines_of file before in
    let few = fewer piece.ending fits last in
    let all : piece_view piece ≡ back_of first left =
    front_last next (remaining_lines_of file middle) (piece_view piece) takes.taken few ∙ taken.left in
    let rest : piece.lines ≡ drop first left.lines = ap (λ view. view.lines) all ∙ back_lines first left in
    let same : piece.ending ≡ left.ending = ap (λ view. view.ending) all ∙ back_ending first left in
    let whole : lines ++ piece.lines ≡ left.lines =
    ap₂ (λ one other. one ++ other) taken.lines rest ∙ take-append-drop first left.lines in
    let count : length piece.lines ≡ length left.lines - first = ap length rest ∙ length-drop first left.lines in
    record {
      taken =
          ap₂ (λ text end. record { lines = text; ending = end }) whole same
          ∙ front_fewer asked left (omega (arith, count, few, within, taken.enough));
      left = λ more. absurd (last more);
      name = takes.name ∙ taken.name;
    }
  where
    fewer : (ending : Ending) → FitsEnding ending next (length piece.lines) → (ending ≡ endings.More → ⊥)
        → length piece.lines < next
    fewer endings.More fits last = absurd (last refl)
    fewer endings.End fits last = fits
    fewer (endings.TooLong line) fits last = fits
    fewer endings.TooLarge fits last = fits

pub take_last_told : {first next : ℕ} {before middle after : LineTaker} {lines : List (List ℕ)} {piece : Piece}
    (file : Option (List ℕ)) (asked : ℕ) → TakesNext file first next before middle after lines piece
    → (piece.ending ≡ endings.More → ⊥) → first + next ≤ asked
    → TakesLinesWhereKnown file asked before (lines ++ piece.lines) piece.ending after
take_last_told None asked is last within = tt
take_last_told {piece = piece} (Some file) asked is last within =
    take_last asked piece is.so_far is.takes is.fits last within

-- how many lines there are
pub fits_last : {first count : ℕ} (next more asked : ℕ) (ending : Ending) → count ≡ first
    → FitsEnding ending next more → (ending ≡ endings.More → ⊥) → first + next ≤ asked
    → FitsEnding ending asked (count + more)
fits_last next more asked endings.More so_far fits last within = absurd (last refl)
fits_last next more asked endings.End so_far fits last within = omega (arith, so_far, fits, within)
fits_last next more asked (endings.TooLong line) so_far fits last within = omega (arith, so_far, fits, within)
fits_last next more asked endings.TooLarge so_far fits last within = omega (arith, so_far, fits, within)

-- so many lines were taken of a file that was there
pub record TakesInFile (files : Option Files) (asked : ℕ) (before : LineTaker) (lines : List (List ℕ))
    (after : LineTaker) : Type 0 where
  pub file_exists : IsThere files (string_bytes before.name)
  pub taken : TakesSoFarWhereKnown (file_of files (string_bytes before.name)) asked before lines after

-- the file stays there, as calls go on
pub exists_after : {asked : ℕ} {before after : LineTaker} {lines : List (List ℕ)} (files : Option Files)
    → TakesInFile files asked before lines after → IsThere files (string_bytes after.name)
exists_after None is = tt
exists_after {asked} {before} {after} {lines} (Some files) is =
    by (files (string_bytes before.name)) refl is.file_exists is.taken
  where
    by : (file : Option (List ℕ)) → files (string_bytes before.name) ≡ file → IsSome file
        → TakesSoFarWhereKnown file asked before lines after → IsSome (files (string_bytes after.name))
    by None e exists taken = absurd cc
    by (Some file) e exists taken =
        let again : files (string_bytes after.name) ≡ Some file =
        ap (λ text. files (string_bytes text)) taken.name ∙ e in
        subst IsSome (sym again) refl

-- a call of a taker that stands further on in the same file
pub takes_on : {asked : ℕ} {before middle : LineTaker} {lines : List (List ℕ)} (files : Option Files) (next : ℕ)
    (piece : Piece) (after : LineTaker) → TakesInFile files asked before lines middle
    → TakesWhereKnown (file_of files (string_bytes middle.name)) next middle piece after
    → TakesWhereKnown (file_of files (string_bytes before.name)) next middle piece after
takes_on None next piece after is takes = tt
takes_on {asked} {before} {middle} {lines} (Some files) next piece after is takes =
    by (files (string_bytes before.name)) refl is.file_exists is.taken
  where
    by : (file : Option (List ℕ)) → files (string_bytes before.name) ≡ file → IsSome file
        → TakesSoFarWhereKnown file asked before lines middle → TakesWhereKnown file next middle piece after
    by None e exists taken = absurd cc
    by (Some file) e exists taken =
        let again : files (string_bytes middle.name) ≡ Some file =
        ap (λ text. files (string_bytes text)) taken.name ∙ e in
        subst (λ file. TakesWhereKnown file next middle piece after) again takes

-- one segment more, where a piece has lines, and none where it has not
pub one_segment_more : (segments : List Segment) (segment : Segment)
    → flat_map segment_lines (segments ++ segment ∷ []) ≡ flat_map segment_lines segments ++ segment.lines
one_segment_more segments segment =
    flat_map-append segment_lines segments (segment ∷ [])
    ∙ ap (λ rest. flat_map segment_lines segments ++ rest)
    (flat_map-cons segment_lines segment [] ∙ append-nil segment.lines)

-- one segment more than so many, which are fewer than were asked for
pub next_lines_are : (count segment : ℕ) → (count + 1) * segment ≡ count * segment + segment
next_lines_are count segment =
    let one : 1 * segment ≡ segment = omega arith in
    add-mul count 1 segment ∙ ap (λ more. count * segment + more) one

pub next_within : (count asked segment : ℕ) → count < asked → count * segment + segment ≤ asked * segment
next_within count asked segment fewer =
    let whole : (count + 1) * segment ≤ asked * segment =
    mul-le (count + 1) segment asked segment (omega (arith, fewer)) (omega arith) in
    let next = next_lines_are count segment in
    omega (arith, whole, next)

-- before any segment
pub begins : (file : Option (List ℕ)) (taker : LineTaker) (segment : ℕ) (items : List Segment) → items ≡ []
    → TakesSoFarWhereKnown file (0 * segment) taker (flat_map segment_lines items) taker
begins file taker segment items none =
    let nothing : 0 * segment ≡ 0 = omega arith in rw (none, nothing) (none_taken file taker)

pub no_lines : (segment : ℕ) (items : List Segment) → items ≡ [] → length (flat_map segment_lines items) ≡ 0 * segment
no_lines segment items none = let nothing : 0 * segment ≡ 0 = omega arith in rw (none, nothing) refl

-- ---- what was taken, with what is left after it, is what was left

front_and_back : (asked : ℕ) (left : RemainingLines) (lines : List (List ℕ)) → lines ≡ take asked left.lines
    → with_lines_before lines (back_of asked left) ≡ left
unfolding back_of
front_and_back asked left lines is =
    ap (λ text. record { lines = text; ending = left.ending })
    (ap (λ text. text ++ drop asked left.lines) is ∙ take-append-drop asked left.lines)

all_and_none : (left : RemainingLines) (lines : List (List ℕ)) (ending : Ending)
    → record { lines = lines; ending = ending } ≡ left
    → with_lines_before lines (record { lines = []; ending = ending }) ≡ left
all_and_none left lines ending is = ap (λ text. record { lines = text; ending = ending }) (append-nil lines) ∙ is

taken_is_left : (file : List ℕ) (asked : ℕ) (before after : LineTaker) (lines : List (List ℕ)) (ending : Ending)
    → TakesLines file asked before lines ending after → FitsEnding ending asked (length lines)
    → with_lines_before lines (remaining_after ending (remaining_lines_of file after)) ≡ remaining_lines_of file before
taken_is_left file asked before after lines endings.More takes fits =
    let left = remaining_lines_of file before in
    ap (with_lines_before lines) (takes.left refl)
    ∙ front_and_back asked left lines (front_more asked left lines takes.taken fits).1
taken_is_left file asked before after lines endings.End takes fits =
    all_and_none (remaining_lines_of file before) lines endings.End
    (front_last asked (remaining_lines_of file before) (record { lines = lines; ending = endings.End })
    takes.taken fits)
taken_is_left file asked before after lines (endings.TooLong line) takes fits =
    all_and_none (remaining_lines_of file before) lines (endings.TooLong line)
    (front_last asked (remaining_lines_of file before) (record { lines = lines; ending = endings.TooLong line })
    takes.taken fits)
taken_is_left file asked before after lines endings.TooLarge takes fits =
    all_and_none (remaining_lines_of file before) lines endings.TooLarge
    (front_last asked (remaining_lines_of file before) (record { lines = lines; ending = endings.TooLarge })
    takes.taken fits)

pub result_after : (file : Option (List ℕ)) (asked : ℕ) (ending : Ending) (before : LineTaker)
    (result : Result (Taken × LineTaker) LineError) → ending ≡ endings.More
    → IfOk result (λ taken. TakesLinesWhereKnown file asked before (taken_lines taken.0) taken.0.ending taken.1)
    → IfOk result (λ taken. FitsEnding taken.0.ending asked (length (taken_lines taken.0)))
    → IfOk result (λ taken. TakesAfterWhereKnown file ending before (taken_lines taken.0) taken.0.ending taken.1)
result_after None asked ending before (Ok taken) more takes fits = tt
result_after (Some file) asked ending before (Ok taken) more takes fits = record {
  left =
      taken_is_left file asked before taken.1 (taken_lines taken.0) taken.0.ending takes fits
      ∙ ap (λ ending. remaining_after ending (remaining_lines_of file before)) (sym more);
  name = takes.name;
}
result_after file asked ending before (Err error) more takes fits = tt

pub none_after : (file : Option (List ℕ)) (ending : Ending) (taker : LineTaker) (lines : List (List ℕ)) → lines ≡ []
    → TakesAfterWhereKnown file ending taker lines ending taker
none_after None ending taker lines none = tt
none_after (Some file) ending taker lines none = record {
  left = ap (λ text. with_lines_before text (remaining_after ending (remaining_lines_of file taker))) none;
  name = refl;
}

-- ---- how many segments

-- where more may follow, some are there
some_lines : (asked segment : ℕ) → 0 < asked → 0 < segment → 0 < asked * segment
some_lines (suc asked) (suc segment) one other = omega arith
some_lines zero segment one other = absurd (omega (arith, one))
some_lines (suc asked) zero one other = absurd (omega (arith, other))

pub some_taken : (asked segment : ℕ) (ending : Ending) (segments : List Segment) → 0 < asked → 0 < segment
    → FitsEnding ending (asked * segment) (length (flat_map segment_lines segments))
    → more_turns ending ≤ length segments
some_taken asked segment endings.More [] some lines fits =
    let all = some_lines asked segment some lines in absurd (omega (arith, all, fits))
some_taken asked segment endings.More (one ∷ segments) some lines fits = omega arith
some_taken asked segment endings.End segments some lines fits = omega arith
some_taken asked segment (endings.TooLong line) segments some lines fits = omega arith
some_taken asked segment endings.TooLarge segments some lines fits = omega arith

pub at_most_one_turn : (ending : Ending) → more_turns ending ≤ 1
at_most_one_turn endings.More = omega arith
at_most_one_turn endings.End = omega arith
at_most_one_turn (endings.TooLong line) = omega arith
at_most_one_turn endings.TooLarge = omega arith

pub no_turns : (ending : Ending) → (ending ≡ endings.More → ⊥) → more_turns ending ≡ 0
no_turns endings.More last = absurd (last refl)
no_turns endings.End last = refl
no_turns (endings.TooLong line) last = refl
no_turns endings.TooLarge last = refl

-- what is promised of segments that were taken: so many at most, each of so many lines
pub record TakesAsked (asked segment : ℕ) (before : LineTaker) (result : Result (Taken × LineTaker) LineError)
    : Type 0 where
  pub counts : IfOk result
      (λ taken. FitsEnding taken.0.ending (asked * segment) (length (taken_lines taken.0)))
  pub at_most_asked : IfOk result (λ taken. length taken.0.segments.items ≤ asked)
  pub full : IfOk result (λ taken. length taken.0.segments.items ≤ length (taken_lines taken.0))
  pub room : IfOk result (λ taken. length (taken_lines taken.0) + room_of taken.1 ≤ room_of before)

pub taken_are : {segment : ℕ} {before : LineTaker} (asked : Asked) (result : Result (Taken × LineTaker) LineError)
    → 0 < segment → asked.ending ≡ endings.More → TakesAsked asked.segments segment before result
    → IfOk result (λ taken. TakesSegments asked before taken.0.segments.items taken.0.ending taken.1)
taken_are {segment} {before} asked (Ok taken) one more took = record {
  at_most_asked = took.at_most_asked;
  full = took.full;
  room = took.room;
  ending =
      let most = at_most_one_turn taken.0.ending in
      let turns : more_turns asked.ending ≡ 1 = ap more_turns more in omega (arith, most, turns);
  nonempty_where_more = λ some.
      some_taken asked.segments segment taken.0.ending taken.0.segments.items some one took.counts;
}
taken_are asked (Err error) one more took = tt

pub none_are : (asked : Asked) (taker : LineTaker) (segments : List Segment) → segments ≡ []
    → (asked.ending ≡ endings.More → ⊥) → TakesSegments asked taker segments asked.ending taker
none_are asked taker segments none last =
    let no : length segments ≡ 0 = ap length none in
    let lines : length (flat_map segment_lines segments) ≡ 0 =
    ap (λ segments. length (flat_map segment_lines segments)) none in
    let turns = no_turns asked.ending last in
    record {
      at_most_asked = omega (arith, no);
      full = omega (arith, no);
      room = omega (arith, lines);
      ending = omega arith;
      nonempty_where_more = λ some. omega (arith, turns);
    }

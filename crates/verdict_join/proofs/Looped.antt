-- One turn of the loop over segments.
use Rattle.std.proofs.Common.{◌≡◌, ℕ, zero, suc, ◌+◌, ◌≤◌, ◌<◌, Bool, true, false, List, [], ◌∷◌, slice_index_or}
use Rattle.std.proofs.Common.{length, map, drop, slice_get, if◌then◌else◌, Option, Some, None, option_map}
use Rattle.std.proofs.Common.{option_copied, refl, sym, ap, ◌∙◌, subst, add-one, arith, All, IfSome}
use Rattle.std.specs.Prelude.{◌&&◌}
use Rattle.std.specs.Borrow.{Bor}
use Rattle.std.specs.Option.{is_none}
use Rattle.std.proofs.lemmas.Option.{slice_get-map}
use Rattle.hart_words.specs.declared.span.Span.{Span}
use Rattle.hart_words.specs.Memory.{Bytes}
use Rattle.rvfi_rows.specs.declared.segment.Segment.{Segment}
use Rattle.rvfi_rows.specs.declared.verdict.Verdict.{Verdict}
use Rattle.rvfi_rows.specs.Columns.{TraceColumns}
use Rattle.rvfi_rows.specs.Segments.{row_count_of}
use Rattle.rvfi_rows.specs.Rows.{RowReading}
use Rattle.rvfi_rows.proofs.PortRows.{count-cons}
use Rattle.hart_set.specs.declared.set.HartSet.{HartSet}
use Rattle.hart_step.specs.declared.state.Core.{Core}
use Rattle.hart_step.specs.HartSets.{SetState, set_state_of}
use Rattle.row_origin.specs.Histories.{IsKept}
use Rattle.segment_judge.specs.Histories.{history_from}
use Rattle.segment_judge.specs.declared.found.Found.{Found}
use Rattle.segment_judge.specs.declared.judged.Judged.{Judged as JudgedSegment}
use Rattle.segment_judge.specs.Founds.{IsLawfulFound}
use Rattle.segment_judge.specs.Judged.{IsJudgement, IsUsable}
use Rattle.segment_judge.specs.Judgements.{Judgement, by_set}
use Rattle.segment_judge.specs.Laws.{judgement_from}
use Rattle.verdict_join.specs.declared.walk.Walk.{Walk}
use Rattle.verdict_join.specs.Founds.{candidates, found_judgement}
use Rattle.verdict_join.specs.Joining.{candidates_of, found_of, round_of, rows_of_segment}
use Rattle.verdict_join.specs.Joins.{Candidate, Joined, Sameness, adopted_judgement, adopted_judgement_from}
use Rattle.verdict_join.specs.Joins.{nothing_from, walk}
use Rattle.verdict_join.specs.Laws.{TellsApart, miss}
use Rattle.verdict_join.specs.Walks.{ArePlaced, IsMissedAs, IsRest, PassesRows, judged_segment_in}
use Rattle.verdict_join.proofs.Findings.{found_is, founds_theirs, lawful_at}
use Rattle.verdict_join.proofs.Rests.{IsPassed, agreed_round, left_after, nothing_left, turn_ends, turn_on}
use Rattle.verdict_join.proofs.Walks.{after_segment}
use Rattle.verdict_join.proofs.Turns.{candidate_at, candidate_lawful}

-- what stands under a number, where all that was found is lawful: a segment, the guess before it, and how it was judged
pub record StandUnder {M : Type 0} (origin : Bool) (bytes_of : M → Bytes) (ram_of : M → Span) (columns : TraceColumns)
    (segments : List Segment) (guesses : List (HartSet Core M)) (founds : List (Found (JudgedSegment M))) (number : ℕ)
    (segment : Segment) (guess : HartSet Core M) (place : Option (Bor (JudgedSegment M))) : Type 0 where
  pub lawful : All (IsLawfulFound origin bytes_of ram_of columns segments guesses) founds
  pub segment_is : slice_get segments number ≡ Some segment
  pub guess_is : slice_get guesses number ≡ Some guess
  pub place_is : option_copied place ≡ judged_segment_in founds number

-- it is the judgement of its segment
pub placed_judgement : {M : Type 0} {origin : Bool} {bytes_of : M → Bytes} {ram_of : M → Span} {columns : TraceColumns}
    {segments : List Segment} {guesses : List (HartSet Core M)} {founds : List (Found (JudgedSegment M))} {number : ℕ}
    {segment : Segment} {guess : HartSet Core M} (place : Option (Bor (JudgedSegment M)))
    → StandUnder origin bytes_of ram_of columns segments guesses founds number segment guess place
    → IfSome place
    (λ judged. IsJudgement bytes_of (set_state_of bytes_of guess) (rows_of_segment columns segment) judged.now)
placed_judgement None stand = tt
placed_judgement {bytes_of = bytes_of} {ram_of = ram_of} {columns = columns} {founds = founds} {number = number}
    {segment = segment} {guess = guess} (Some judged) stand =
    (lawful_at bytes_of ram_of columns founds number stand.lawful (sym stand.place_is) segment guess stand.segment_is
    stand.guess_is).0

pub placed_usable : {M : Type 0} {origin : Bool} {bytes_of : M → Bytes} {ram_of : M → Span} {columns : TraceColumns}
    {segments : List Segment} {guesses : List (HartSet Core M)} {founds : List (Found (JudgedSegment M))} {number : ℕ}
    {segment : Segment} {guess : HartSet Core M} (place : Option (Bor (JudgedSegment M)))
    → StandUnder origin bytes_of ram_of columns segments guesses founds number segment guess place
    → IfSome place (λ judged. IsUsable ram_of (ram_of guess.mem) judged.now)
placed_usable None stand = tt
placed_usable {bytes_of = bytes_of} {ram_of = ram_of} {columns = columns} {founds = founds} {number = number}
    {segment = segment} {guess = guess} (Some judged) stand =
    (lawful_at bytes_of ram_of columns founds number stand.lawful (sym stand.place_is) segment guess stand.segment_is
    stand.guess_is).1.0

pub placed_history : {M : Type 0} {origin : Bool} {bytes_of : M → Bytes} {ram_of : M → Span} {columns : TraceColumns}
    {segments : List Segment} {guesses : List (HartSet Core M)} {founds : List (Found (JudgedSegment M))} {number : ℕ}
    {segment : Segment} {guess : HartSet Core M} (place : Option (Bor (JudgedSegment M)))
    → StandUnder origin bytes_of ram_of columns segments guesses founds number segment guess place
    → IfSome place
    (λ judged. IsKept origin (history_from (set_state_of bytes_of guess) (rows_of_segment columns segment))
    judged.now.history)
placed_history None stand = tt
placed_history {bytes_of = bytes_of} {ram_of = ram_of} {columns = columns} {founds = founds} {number = number}
    {segment = segment} {guess = guess} (Some judged) stand =
    (lawful_at bytes_of ram_of columns founds number stand.lawful (sym stand.place_is) segment guess stand.segment_is
    stand.guess_is).1.1

mapped_copy : {A B : Type 0} (b : B) (x : Option (Bor A))
    → option_map (λ any. b) (option_copied x) ≡ option_map (λ any. b) x
mapped_copy b None = refl
mapped_copy b (Some a) = refl

-- the rest, or nothing, where the round ends with the segment
abbrev pub left_or_none : Sameness (List Core) → Bool → Bool → List (Candidate (List Core)) → SetState
    → Joined (List Core)
left_or_none same once true later state = nothing_from state
left_or_none same once false later state = walk by_set same once later state

after_by : {A : Type 0} (same : Sameness (List Core)) (once : Bool) (later : List (Candidate (List Core)))
    (found : Option (Judgement (List Core))) (adopted : Option A) (state : SetState)
    → miss found ≡ (if is_none adopted then 1 else 0)
    → after_segment once found (λ following. walk by_set same once later following) state
    ≡ left_or_none same once (once && is_none adopted) later state
after_by same true later None None state is = refl
after_by same false later None None state is = refl
after_by same true later (Some judgement) (Some a) state is = refl
after_by same false later (Some judgement) (Some a) state is = refl
after_by same once later None (Some a) state is = absurd (omega (arith, is))
after_by same once later (Some judgement) None state is = absurd (omega (arith, is))

-- what a turn leads to: the rest from the state after it, or the end
abbrev pub Turned : {M : Type 0} → (M → Bytes) → (SetState → Joined (List Core)) → Walk M → ℕ → Joined (List Core)
    → Option Verdict → Type 0
Turned bytes_of rest now number whole None = IsRest now (number + 1) (rest (set_state_of bytes_of now.harts)) whole
Turned bytes_of rest now number whole (Some verdict) =
    round_of bytes_of
    (record {
      verdict = verdict;
      end = None;
      settled = number + 1;
      rejudged = now.rejudged;
      history = now.history;
    })
    ≡ whole

-- a turn passes rows: as they were judged from a guess, where that is adopted, or as they are judged again
pub record PassesAs {M : Type 0} (bytes_of : M → Bytes) (same : Sameness (List Core)) (guess : SetState)
    (rows : List RowReading) (place adopted : Option (Bor (JudgedSegment M))) (before now : Walk M)
    (end : Option Verdict) : Type 0 where
  pub misses : IsMissedAs same guess (set_state_of bytes_of before.harts) rows place adopted
  pub again : now.rejudged ≡ before.rejudged + (if is_none adopted then 1 else 0)
  pub passes : PassesRows bytes_of before now rows end

turned : {M : Type 0} {bytes_of : M → Bytes} {before now : Walk M} {number : ℕ} {whole : Joined (List Core)}
    (same : Sameness (List Core)) → TellsApart same
    → (once : Bool) (candidate : Candidate (List Core)) (later : List (Candidate (List Core))) (end : Option Verdict)
    → IsPassed bytes_of same before now candidate end
    → IsRest before number (walk by_set same once (candidate ∷ later) (set_state_of bytes_of before.harts)) whole
    → Turned bytes_of (left_after same once candidate later (set_state_of bytes_of before.harts)) now number whole end
turned same tells once candidate later None passed so_far = turn_on same tells once candidate later passed so_far
turned same tells once candidate later (Some last) passed so_far =
    turn_ends same tells once candidate later passed so_far

-- it is the same by whichever name the rest goes
turned_alike : {M : Type 0} {rest other : SetState → Joined (List Core)} (bytes_of : M → Bytes) (now : Walk M)
    (number : ℕ)
    (whole : Joined (List Core)) (end : Option Verdict) → ((state : SetState) → rest state ≡ other state)
    → Turned bytes_of rest now number whole end → Turned bytes_of other now number whole end
turned_alike bytes_of now number whole None alike done =
    subst (λ left. IsRest now (number + 1) left whole) (alike (set_state_of bytes_of now.harts)) done
turned_alike bytes_of now number whole (Some last) alike done = done

pub loop_turn : {M : Type 0} {origin : Bool} {bytes_of : M → Bytes} {ram_of : M → Span} {columns : TraceColumns}
    {segments : List Segment} {guesses : List (HartSet Core M)} {founds : List (Found (JudgedSegment M))} {number : ℕ}
    {segment : Segment} {guess : HartSet Core M} {place adopted : Option (Bor (JudgedSegment M))} {before now : Walk M}
    {end : Option Verdict} {whole : Joined (List Core)} (once : Bool) (same : Sameness (List Core)) → TellsApart same
    → StandUnder origin bytes_of ram_of columns segments guesses founds number segment guess place
    → PassesAs bytes_of same (set_state_of bytes_of guess) (rows_of_segment columns segment) place adopted before now
    end
    → IsRest before number
    (walk by_set same once (drop number (candidates_of bytes_of columns segments guesses founds))
    (set_state_of bytes_of before.harts)) whole
    → Turned bytes_of
    (left_or_none same once (once && is_none adopted)
    (drop (number + 1) (candidates_of bytes_of columns segments guesses founds))) now number whole end
loop_turn {origin = origin} {bytes_of = bytes_of} {ram_of = ram_of} {columns = columns} {segments = segments} {guesses = guesses}
    {founds = founds} {number = number} {segment = segment} {guess = guess} {place = place} {adopted = adopted}
    {before = before} {now = now} {end = end} {whole = whole} once same tells stand turn so_far =
    let rows : List (List RowReading) = map (rows_of_segment columns) segments in
    let states : List SetState = map (set_state_of bytes_of) guesses in
    let all = map (found_of rows states) founds in
    let mine = rows_of_segment columns segment in
    let state : SetState = set_state_of bytes_of guess in
    let judged = judgement_from by_set state mine in
    let row_here : slice_get rows number ≡ Some mine =
    slice_get-map (rows_of_segment columns) segments number
    ∙ ap (option_map (rows_of_segment columns)) stand.segment_is in
    let state_there : slice_get states number ≡ Some state =
    slice_get-map (set_state_of bytes_of) guesses number ∙ ap (option_map (set_state_of bytes_of)) stand.guess_is in
    let number_is : 0 + number ≡ number = omega arith in
    let found = found_judgement all (0 + number) in
    let by_place : found ≡ option_map (λ any. judged) place =
    ap (found_judgement all) number_is
    ∙ found_is rows states founds number
    (founds_theirs origin bytes_of ram_of columns segments guesses founds stand.lawful) row_here state_there
    ∙ ap (option_map (λ any. judged)) (sym stand.place_is) ∙ mapped_copy judged place in
    let candidate : Candidate (List Core) = record { rows = mine; guess = state; found = found } in
    let start = set_state_of bytes_of before.harts in
    let missed : miss (adopted_judgement same candidate start) ≡ (if is_none adopted then 1 else 0) =
    ap (λ found. miss (adopted_judgement_from same state start found)) by_place ∙ turn.misses in
    let passed : IsPassed bytes_of same before now candidate end = record {
      lawful = candidate_lawful mine state found place by_place;
      passes = turn.passes;
      misses = turn.again ∙ ap (λ n. before.rejudged + n) (sym missed);
    } in
    let left = candidate_at 0 number rows states all row_here state_there in
    let later = drop (suc number) (candidates rows states all) in
    let done : Turned bytes_of (left_or_none same once (once && is_none adopted) later) now number whole end =
    turned_alike bytes_of now number whole end
    (λ state. after_by same once later (adopted_judgement same candidate start) adopted state missed)
    (turned same tells once candidate later end passed
    (subst (λ left. IsRest before number (walk by_set same once left start) whole) left so_far)) in
    subst
    (λ n. Turned bytes_of (left_or_none same once (once && is_none adopted) (drop n (candidates rows states all))) now
    number whole end) (sym (add-one number)) done

-- the walk goes on after a segment that is not the last
pub goes_on_after : {M : Type 0} {last : Bool} {whole : Joined (List Core)} {now : Walk M} {count : ℕ}
    (same : Sameness (List Core))
    (once : Bool) (later : List (Candidate (List Core))) (state : SetState) → last ≡ false
    → IsRest now count (left_or_none same once last later state) whole
    → IsRest now count (walk by_set same once later state) whole
goes_on_after {whole = whole} {now = now} {count = count} same once later state not_last rest =
    subst (λ last. IsRest now count (left_or_none same once last later state) whole) not_last rest

pub stops_after : {M : Type 0} {last : Bool} {whole : Joined (List Core)} {now : Walk M} {count : ℕ}
    (bytes_of : M → Bytes)
    (same : Sameness (List Core)) (once : Bool) (later : List (Candidate (List Core))) → last ≡ true
    → IsRest now count (left_or_none same once last later (set_state_of bytes_of now.harts)) whole
    → round_of bytes_of (agreed_round now count) ≡ whole
stops_after {whole = whole} {now = now} {count = count} bytes_of same once later is_last rest =
    nothing_left bytes_of now count whole
    (subst (λ last. IsRest now count (left_or_none same once last later (set_state_of bytes_of now.harts)) whole)
    is_last
    rest)

same_default : {A : Type 0} (xs : List A) (number : ℕ) (one other : A) → number < length xs
    → slice_index_or xs number one ≡ slice_index_or xs number other
same_default [] number one other within = absurd (omega (arith, within))
same_default (x ∷ xs) zero one other within = refl
same_default (x ∷ xs) (suc number) one other within = same_default xs number one other (omega (arith, within))

-- the place of a number
pub place_is : {M : Type 0} {count : ℕ} {founds all : List (Found (JudgedSegment M))}
    {places : List (Option (Bor (JudgedSegment M)))} {place : Option (Bor (JudgedSegment M))} (number : ℕ)
    → ArePlaced count founds places → founds ≡ all → number < count → place ≡ slice_index_or places number place
    → option_copied place ≡ judged_segment_in all number
place_is {places = places} {place = place} number placed same within is =
    ap option_copied (is ∙ same_default places number place None (omega (arith, within, placed.all)))
    ∙ placed.each number within ∙ ap (λ founds. judged_segment_in founds number) same

drop_at : {A : Type 0} (xs : List A) (i : ℕ) (x : A) → slice_get xs i ≡ Some x → drop i xs ≡ x ∷ drop (suc i) xs
drop_at [] i x is = cc
drop_at (y ∷ xs) zero x is = let same : y ≡ x = cc in rw same refl
drop_at (y ∷ xs) (suc i) x is = drop_at xs i x is

-- the rows of the segments that are left
pub rows_left : {segment : Segment} (columns : TraceColumns) (segments : List Segment) (number : ℕ)
    → slice_get segments number ≡ Some segment
    → row_count_of columns (drop number segments) ≡ length (rows_of_segment columns segment)
    + row_count_of columns (drop (number + 1) segments)
rows_left {segment = segment} columns segments number here =
    ap (row_count_of columns) (drop_at segments number segment here)
    ∙ count-cons columns segment (drop (suc number) segments)
    ∙ ap (λ n. length (rows_of_segment columns segment) + row_count_of columns (drop n segments)) (sym (add-one number))

pub some_at : {A : Type 0} (xs : List A) (i : ℕ) → i < length xs → (x : A) × (slice_get xs i ≡ Some x)
some_at [] i within = absurd (omega (arith, within))
some_at (x ∷ xs) zero within = (x, refl)
some_at (x ∷ xs) (suc i) within = some_at xs i (omega (arith, within))

pub one_more : {A : Type 0} (adopted : Option A) {before now number : ℕ}
    → now ≡ before + (if is_none adopted then 1 else 0) → before ≤ number → now ≤ number + 1
one_more None is below = omega (arith, is, below)
one_more (Some a) is below = omega (arith, is, below)

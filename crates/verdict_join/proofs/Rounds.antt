-- Rounds settle segments.
use Rattle.std.proofs.Common.{◌≡◌, ℕ, zero, suc, ◌+◌, ◌<◌, ◌≤◌, ◌⊎◌, inl, inr, true, List, [], ◌∷◌, ◌++◌, drop, length}
use Rattle.std.proofs.Common.{map, take, Option, Some, None, refl, sym, ap, ◌∙◌, subst, arith, All}
use Rattle.std.specs.List.{flat_map}
use Rattle.std.proofs.lemmas.List.{length-drop, length-map, take-append-drop}
use Rattle.std.proofs.lemmas.List.Concat.{flat_map-append, flat_map-cons}
use Rattle.std.proofs.lemmas.List.Elements.{All-head, All-tail}
use Rattle.hart_words.specs.Memory.{after_writes}
use Rattle.hart_words.specs.States.{State}
use Rattle.rvfi_rows.specs.declared.verdict.Verdict.{Verdict}
use Rattle.rvfi_rows.specs.Columns.{TraceColumns}
use Rattle.rvfi_rows.specs.Rows.{RowReading, rows_of}
use Rattle.rvfi_rows.proofs.PortRows.{rows_append}
use Rattle.hart_step.specs.declared.state.Core.{Core}
use Rattle.hart_step.specs.HartSets.{SetState}
use Rattle.boundary_guess.specs.Pieces.{lines_of_pieces}
use Rattle.boundary_guess.specs.Guesses.{guesses_of}
use Rattle.segment_judge.specs.declared.found.Found.{Found}
use Rattle.segment_judge.specs.Judgements.{Judgement, Judging, by_set, judgement_of}
use Rattle.segment_judge.specs.Laws.{Conclusion, conclusion_after_end, conclusion_from, conclusion_then}
use Rattle.segment_judge.specs.Laws.{verdict_of_both}
use Rattle.segment_judge.proofs.Parts.{in_parts}
use Rattle.verdict_join.specs.Founds.{candidates_from, found_judgement}
use Rattle.verdict_join.specs.Guessed.{ShowsFrom, guessed_candidates}
use Rattle.verdict_join.specs.Joins.{Candidate, Joined, Sameness, adopted_judgement, joined, joined_by, nothing_from}
use Rattle.verdict_join.specs.Joins.{walk}
use Rattle.verdict_join.specs.Laws.{IsLawfulCandidate, TellsApart, miss, rows_through}
use Rattle.verdict_join.specs.Rounds.{AreRounds, GoOn, IsRound, SettleAll, SettlesSome, rejudged_in, rounds_conclude}
use Rattle.verdict_join.proofs.Guessed.{none_rejudged}
use Rattle.verdict_join.proofs.Lawful.{guess_for_each, left_lawful, pieces_read}
use Rattle.verdict_join.proofs.Sameness.{cores_sameness, cores_tell}
use Rattle.verdict_join.proofs.Walks.{after_segment, conclusion_of, walked_segment, walked_segment_once}

-- ---- one walk

once_step : {C : Type 0} (judging : Judging C) (same : Sameness C) (segment : Candidate C)
    (segments : List (Candidate C)) (now : State C) → TellsApart same → IsLawfulCandidate judging segment
    → walk judging same true (segment ∷ segments) now
    ≡ joined_by (conclusion_from judging now segment.rows).end (conclusion_from judging now segment.rows).verdict
    (miss (adopted_judgement same segment now))
    (after_segment true (adopted_judgement same segment now) (λ following. walk judging same true segments following))
unfolding walk
once_step judging same segment segments now tells lawful =
    walked_segment_once judging same true segment now (λ following. walk judging same true segments following) tells
    lawful

-- the verdict on the rows of the segments that were walked
abbrev Concludes : {C : Type 0} → Judging C → List (Candidate C) → State C → Joined C → Type 0
Concludes judging segments now walked =
    conclusion_of walked ≡ conclusion_from judging now (rows_through (take walked.settled segments))

nothing_concludes : {C : Type 0} (judging : Judging C) (segments : List (Candidate C)) (now : State C)
    → Concludes judging segments now (nothing_from now)
unfolding conclusion_from judgement_of after_writes
nothing_concludes judging segments now = refl

after_concludes : {C : Type 0} (judging : Judging C) (segments : List (Candidate C)) (next : State C → Joined C)
    → ((state : State C) → Concludes judging segments state (next state))
    → (found : Option (Judgement C)) (state : State C)
    → Concludes judging segments state (after_segment true found next state)
after_concludes judging segments next later (Some judgement) state = later state
after_concludes judging segments next later None state = nothing_concludes judging segments state

first_rows : {C : Type 0} (segment : Candidate C) (segments : List (Candidate C)) (count : ℕ)
    → rows_through (take (1 + count) (segment ∷ segments)) ≡ segment.rows ++ rows_through (take count segments)
first_rows {C = C} segment segments count =
    let more : 1 + count ≡ suc count = omega arith in
    ap (λ n. rows_through (take n (segment ∷ segments))) more
    ∙ flat_map-cons (λ (segment : Candidate C). segment.rows) segment (take count segments)

joined_concludes : {C : Type 0} (judging : Judging C) (segment : Candidate C) (segments : List (Candidate C))
    (now : State C) (again : ℕ) (next : State C → Joined C)
    → ((state : State C) → Concludes judging segments state (next state))
    → Concludes judging (segment ∷ segments) now
    (joined_by (conclusion_from judging now segment.rows).end (conclusion_from judging now segment.rows).verdict again
    next)
joined_concludes {C = C} judging segment segments now again next later = by first.end refl
  where
    first : Conclusion C
    first = conclusion_from judging now segment.rows

    by : (end : Option (State C)) → first.end ≡ end
        → Concludes judging (segment ∷ segments) now (joined_by end first.verdict again next)
    by None is =
        let alone : conclusion_then first
        (λ following. conclusion_from judging following (rows_through (take 0 segments))) ≡ first = rw is refl in
        let whole : first ≡ record { verdict = first.verdict; end = None } = rw (← is) refl in
        sym whole ∙ sym alone ∙ sym (in_parts judging now segment.rows (rows_through (take 0 segments)))
        ∙ ap (conclusion_from judging now) (sym (first_rows segment segments 0))
    by (Some state) is =
        let rest = next state in
        let others = rows_through (take rest.settled segments) in
        let whole : conclusion_then first (λ following. conclusion_from judging following others)
        ≡ record {
          verdict =
              verdict_of_both first.verdict (conclusion_from judging state others).verdict;
          end =
              (conclusion_from judging state others).end;
        } = rw is refl in
        ap (λ following. record { verdict = verdict_of_both first.verdict following.verdict; end = following.end })
        (later state)
        ∙ sym whole ∙ sym (in_parts judging now segment.rows others)
        ∙ ap (conclusion_from judging now) (sym (first_rows segment segments rest.settled))

once_concludes : {C : Type 0} (judging : Judging C) (same : Sameness C) (segments : List (Candidate C))
    (now : State C) → TellsApart same → All (IsLawfulCandidate judging) segments
    → Concludes judging segments now (walk judging same true segments now)
unfolding walk conclusion_from judgement_of after_writes
once_concludes judging same [] now tells lawful = refl
once_concludes judging same (segment ∷ segments) now tells lawful =
    let found = adopted_judgement same segment now in
    let later =
    after_concludes judging segments (λ following. walk judging same true segments following)
    (λ following. once_concludes judging same segments following tells
    (All-tail (IsLawfulCandidate judging) segment segments lawful)) found in
    subst (Concludes judging (segment ∷ segments) now)
    (sym
    (once_step judging same segment segments now tells
    (All-head (IsLawfulCandidate judging) segment segments lawful)))
    (joined_concludes judging segment segments now (miss found)
    (after_segment true found (λ following. walk judging same true segments following)) later)

-- how many were walked, and how many of them judged again
abbrev Again : {C : Type 0} → ℕ → Joined C → Type 0
Again count walked = (walked.rejudged ≡ 1) ⊎ ((walked.rejudged ≡ 0) × ((walked.end ≡ None) ⊎ (walked.settled ≡ count)))

record Counts {C : Type 0} (count : ℕ) (walked : Joined C) : Type 0 where
  within : walked.settled ≤ count
  again : Again count walked

again_after : {C : Type 0} (count : ℕ) (walked : Joined C) (verdict : Verdict) → Again count walked
    → Again (suc count)
    (record { verdict = verdict; end = walked.end; settled = 1 + walked.settled; rejudged = 0 + walked.rejudged })
again_after count walked verdict (inl one) = inl (omega (arith, one))
again_after count walked verdict (inr (none, inl end)) = inr (omega (arith, none), inl end)
again_after count walked verdict (inr (none, inr all)) = inr (omega (arith, none), inr (omega (arith, all)))

joined_counts : {C : Type 0} (count : ℕ) (verdict : Verdict) (found : Option (Judgement C))
    (next : State C → Joined C) → ((state : State C) → Counts count (next state)) → (end : Option (State C))
    → Counts (suc count) (joined_by end verdict (miss found) (after_segment true found next))
joined_counts count verdict None next later None = record { within = omega arith; again = inl refl }
joined_counts count verdict None next later (Some state) = record { within = omega arith; again = inl (omega arith) }
joined_counts count verdict (Some judgement) next later None =
    record { within = omega arith; again = inr (refl, inl refl) }
joined_counts count verdict (Some judgement) next later (Some state) =
    let rest = later state in
    record {
      within =
          omega (arith, rest.within);
      again =
          again_after count (next state) (verdict_of_both verdict (next state).verdict) rest.again;
    }

once_counts : {C : Type 0} (judging : Judging C) (same : Sameness C) (segments : List (Candidate C)) (now : State C)
    → TellsApart same → All (IsLawfulCandidate judging) segments
    → Counts (length segments) (walk judging same true segments now)
unfolding walk
once_counts judging same [] now tells lawful = record { within = omega arith; again = inr (refl, inr refl) }
once_counts judging same (segment ∷ segments) now tells lawful =
    subst (Counts (length (segment ∷ segments)))
    (sym
    (once_step judging same segment segments now tells
    (All-head (IsLawfulCandidate judging) segment segments lawful)))
    (joined_counts (length segments) (conclusion_from judging now segment.rows).verdict
    (adopted_judgement same segment now) (λ following. walk judging same true segments following)
    (λ following. once_counts judging same segments following tells
    (All-tail (IsLawfulCandidate judging) segment segments lawful)) (conclusion_from judging now segment.rows).end)

some_settled : {C : Type 0} (end : Option (State C)) (verdict : Verdict) (again : ℕ) (next : State C → Joined C)
    → 0 < (joined_by end verdict again next).settled
some_settled None verdict again next = omega arith
some_settled (Some state) verdict again next = omega arith

once_some : {C : Type 0} (judging : Judging C) (same : Sameness C) (segments : List (Candidate C)) (now : State C)
    → TellsApart same → All (IsLawfulCandidate judging) segments → 0 < length segments
    → 0 < (walk judging same true segments now).settled
once_some judging same [] now tells lawful some = absurd (omega (arith, some))
once_some {C = C} judging same (segment ∷ segments) now tells lawful some =
    subst (λ (walked : Joined C). 0 < walked.settled)
    (sym
    (once_step judging same segment segments now tells
    (All-head (IsLawfulCandidate judging) segment segments lawful)))
    (some_settled (conclusion_from judging now segment.rows).end (conclusion_from judging now segment.rows).verdict
    (miss (adopted_judgement same segment now))
    (after_segment true (adopted_judgement same segment now)
    (λ following. walk judging same true segments following)))

pub settles_some : {C : Type 0} (judging : Judging C) (same : Sameness C) (segments : List (Candidate C))
    (now : State C) → TellsApart same → All (IsLawfulCandidate judging) segments
    → SettlesSome judging segments now (walk judging same true segments now)
settles_some judging same segments now tells lawful =
    let concludes = once_concludes judging same segments now tells lawful in
    let counts = once_counts judging same segments now tells lawful in
    record {
      at_least_one = once_some judging same segments now tells lawful;
      within = counts.within;
      has_verdict =
          record {
            verdict =
                ap (λ conclusion. conclusion.verdict) concludes;
            end = ap (λ conclusion. conclusion.end) concludes;
          };
      again = counts.again;
    }

-- where no segment of a join is judged again, none is of a round
rest_again : {C : Type 0} (verdict : Verdict) (found : Option (Judgement C)) (all once : State C → Joined C)
    → ((state : State C) → (all state).rejudged ≡ 0 → (once state).rejudged ≡ 0) → (end : Option (State C))
    → (joined_by end verdict (miss found) all).rejudged ≡ 0
    → (joined_by end verdict (miss found) (after_segment true found once)).rejudged ≡ 0
rest_again verdict None all once later None none = absurd (omega (arith, none))
rest_again verdict None all once later (Some state) none = absurd (omega (arith, none))
rest_again verdict (Some judgement) all once later None none = refl
rest_again verdict (Some judgement) all once later (Some state) none =
    let rest = later state (omega (arith, none)) in omega (arith, rest)

pub none_once : {C : Type 0} (judging : Judging C) (same : Sameness C) (segments : List (Candidate C)) (now : State C)
    → TellsApart same → All (IsLawfulCandidate judging) segments → (joined judging same segments now).rejudged ≡ 0
    → (walk judging same true segments now).rejudged ≡ 0
unfolding walk
none_once judging same [] now tells lawful none = refl
none_once {C = C} judging same (segment ∷ segments) now tells lawful none =
    let all : State C → Joined C = λ following. joined judging same segments following in
    let once : State C → Joined C = λ following. walk judging same true segments following in
    let mine = All-head (IsLawfulCandidate judging) segment segments lawful in
    let first = conclusion_from judging now segment.rows in
    let found = adopted_judgement same segment now in
    let here : (joined_by first.end first.verdict (miss found) all).rejudged ≡ 0 =
    sym (ap (λ (whole : Joined C). whole.rejudged) (walked_segment judging same segment now all tells mine))
    ∙ none in
    ap (λ (whole : Joined C). whole.rejudged) (once_step judging same segment segments now tells mine)
    ∙ rest_again first.verdict found all once
    (λ following. none_once judging same segments following tells
    (All-tail (IsLawfulCandidate judging) segment segments lawful)) first.end here

-- ---- one round

pub candidates_count : {C : Type 0} (from : ℕ) (segments : List (List RowReading)) (guesses : List (State C))
    (founds : List (Found (Judgement C))) → length guesses ≡ length segments
    → length (candidates_from from segments guesses founds) ≡ length segments
unfolding candidates_from
candidates_count from [] guesses founds one_each = refl
candidates_count from (rows ∷ segments) [] founds one_each = absurd (omega (arith, one_each))
candidates_count from (rows ∷ segments) (guess ∷ guesses) founds one_each =
    ap suc (candidates_count (from + 1) segments guesses founds (omega (arith, one_each)))

pub candidates_front : {C : Type 0} (from count : ℕ) (segments : List (List RowReading)) (guesses : List (State C))
    (founds : List (Found (Judgement C))) → length guesses ≡ length segments
    → rows_through (take count (candidates_from from segments guesses founds))
    ≡ flat_map (λ rows. rows) (take count segments)
unfolding candidates_from
candidates_front from zero segments guesses founds one_each = refl
candidates_front from (suc count) [] guesses founds one_each = refl
candidates_front from (suc count) (rows ∷ segments) [] founds one_each = absurd (omega (arith, one_each))
candidates_front {C = C} from (suc count) (rows ∷ segments) (guess ∷ guesses) founds one_each =
    flat_map-cons (λ (segment : Candidate C). segment.rows)
    (record { rows = rows; guess = guess; found = found_judgement founds from })
    (take count (candidates_from (from + 1) segments guesses founds))
    ∙ ap (λ rest. rows ++ rest) (candidates_front (from + 1) count segments guesses founds (omega (arith, one_each)))
    ∙ sym (flat_map-cons (λ rows. rows) rows (take count segments))

pub take_mapped : {A B : Type 0} (f : A → B) (count : ℕ) (xs : List A) → take count (map f xs) ≡ map f (take count xs)
take_mapped f zero xs = refl
take_mapped f (suc count) [] = refl
take_mapped f (suc count) (x ∷ xs) = ap (λ rest. f x ∷ rest) (take_mapped f count xs)

-- what a round comes to
record Settled (start : SetState) (columns : TraceColumns) (pieces : List (List (List ℕ))) (round : Joined (List Core))
    : Type
    0 where
  at_least_one : 0 < length pieces → 0 < round.settled
  within : round.settled ≤ length pieces
  concludes : record { verdict = round.verdict; end = round.end }
      ≡ conclusion_from by_set start (rows_of columns (lines_of_pieces (take round.settled pieces)))
  again : Again (length pieces) round

settled_lawful : (start : SetState) (columns : TraceColumns) (pieces : List (List (List ℕ)))
    (round : Joined (List Core))
    (is : IsRound start columns pieces round)
    → All (IsLawfulCandidate by_set) (guessed_candidates start columns pieces is.founds)
settled_lawful start columns pieces round is =
    left_lawful by_set (map (rows_of columns) pieces) (guesses_of start columns pieces) (length pieces) is.events
    is.founds is.left

round_settles : (start : SetState) (columns : TraceColumns) (pieces : List (List (List ℕ))) (round : Joined (List Core))
    → IsRound start columns pieces round → Settled start columns pieces round
round_settles start columns pieces round is =
    let segments = guessed_candidates start columns pieces is.founds in
    let rows = map (rows_of columns) pieces in
    let guesses = guesses_of start columns pieces in
    let each : length guesses ≡ length rows =
    guess_for_each start columns pieces ∙ sym (length-map pieces (rows_of columns)) in
    let count : length segments ≡ length pieces =
    candidates_count 0 rows guesses is.founds each ∙ length-map pieces (rows_of columns) in
    let settles : SettlesSome by_set segments start round =
    subst (SettlesSome by_set segments start) (sym (is.walked cores_sameness cores_tell))
    (settles_some by_set cores_sameness segments start cores_tell (settled_lawful start columns pieces round is)) in
    let front : rows_through (take round.settled segments)
    ≡ rows_of columns (lines_of_pieces (take round.settled pieces)) =
    candidates_front 0 round.settled rows guesses is.founds each
    ∙ ap (flat_map (λ rows. rows)) (take_mapped (rows_of columns) round.settled pieces)
    ∙ pieces_read columns (take round.settled pieces) in
    let conclusion = conclusion_from by_set start (rows_through (take round.settled segments)) in
    let whole : record { verdict = round.verdict; end = round.end } ≡ conclusion =
    rw (settles.has_verdict.verdict, settles.has_verdict.end) refl in
    record {
      at_least_one = λ some. settles.at_least_one (omega (arith, count, some));
      within = omega (arith, count, settles.within);
      concludes = whole ∙ ap (conclusion_from by_set start) front;
      again = subst (λ n. Again n round) count settles.again;
    }

-- ---- rounds

abbrev lines_conclude : SetState → TraceColumns → List (List (List ℕ)) → Conclusion (List Core)
lines_conclude start columns pieces = conclusion_from by_set start (rows_of columns (lines_of_pieces pieces))

-- pieces come to what the first of them come to, and the others from the state after these
pieces_in_parts : (start : SetState) (columns : TraceColumns) (count : ℕ) (pieces : List (List (List ℕ)))
    → lines_conclude start columns pieces
    ≡ conclusion_then (lines_conclude start columns (take count pieces))
    (λ following. lines_conclude following columns (drop count pieces))
pieces_in_parts start columns count pieces =
    ap (lines_conclude start columns) (sym (take-append-drop count pieces))
    ∙ ap (λ lines. conclusion_from by_set start (rows_of columns lines))
    (flat_map-append (λ (piece : List (List ℕ)). piece) (take count pieces) (drop count pieces))
    ∙ ap (conclusion_from by_set start)
    (rows_append columns (lines_of_pieces (take count pieces)) (lines_of_pieces (drop count pieces)))
    ∙ in_parts by_set start (rows_of columns (lines_of_pieces (take count pieces)))
    (rows_of columns (lines_of_pieces (drop count pieces)))

followed_alike : (first : Conclusion (List Core)) (one other : SetState → Conclusion (List Core))
    → ((following : SetState) → first.end ≡ Some following → one following ≡ other following)
    → conclusion_then first one ≡ conclusion_then first other
followed_alike first one other alike = by first.end refl
  where
    by : (end : Option SetState) → first.end ≡ end
        → conclusion_after_end end first one ≡ conclusion_after_end end first other
    by None is = refl
    by (Some following) is =
        ap (λ rest. record { verdict = verdict_of_both first.verdict rest.verdict; end = rest.end })
        (alike following is)

-- the rounds after one
after_round : (columns : TraceColumns) (pieces : List (List (List ℕ))) (round : Joined (List Core))
    (rounds : List (Joined (List Core))) (following : SetState)
    → GoOn round.end rounds (λ following. AreRounds following columns (drop round.settled pieces) rounds)
    → round.end ≡ Some following → AreRounds following columns (drop round.settled pieces) rounds
after_round columns pieces round rounds following on is =
    subst (λ end. GoOn end rounds (λ following. AreRounds following columns (drop round.settled pieces) rounds)) is on

no_more : (columns : TraceColumns) (pieces : List (List (List ℕ))) (round : Joined (List Core))
    (rounds : List (Joined (List Core)))
    → GoOn round.end rounds (λ following. AreRounds following columns (drop round.settled pieces) rounds)
    → round.end ≡ None → rounds ≡ []
no_more columns pieces round rounds on is =
    subst (λ end. GoOn end rounds (λ following. AreRounds following columns (drop round.settled pieces) rounds)) is on

conclude : (rounds : List (Joined (List Core))) (start : SetState) (columns : TraceColumns)
    (pieces : List (List (List ℕ)))
    → AreRounds start columns pieces rounds → rounds_conclude start rounds ≡ lines_conclude start columns pieces
unfolding AreRounds rounds_conclude conclusion_from judgement_of after_writes rows_of
conclude [] start columns pieces none = rw none refl
conclude (round ∷ rounds) start columns pieces are =
    let settled = round_settles start columns pieces round are.1.0 in
    followed_alike (record { verdict = round.verdict; end = round.end })
    (λ following. rounds_conclude following rounds)
    (λ following. lines_conclude following columns (drop round.settled pieces))
    (λ following is. conclude rounds following columns (drop round.settled pieces)
    (after_round columns pieces round rounds following are.1.1 is))
    ∙ ap (λ first. conclusion_then first (λ following. lines_conclude following columns (drop round.settled pieces)))
    settled.concludes
    ∙ sym (pieces_in_parts start columns round.settled pieces)

-- how many they are
record Numbers (pieces : List (List (List ℕ))) (rounds : List (Joined (List Core))) : Type 0 where
  at_most_pieces : length rounds ≤ length pieces
  at_least_one : 0 < length pieces → 0 < length rounds
  count : (length rounds ≡ rejudged_in rounds) ⊎ (length rounds ≡ rejudged_in rounds + 1)

drop_nothing : {A : Type 0} (count : ℕ) (xs : List A) → count ≡ length xs → drop count xs ≡ []
drop_nothing zero [] is = refl
drop_nothing zero (x ∷ xs) is = absurd (omega (arith, is))
drop_nothing (suc count) [] is = refl
drop_nothing (suc count) (x ∷ xs) is = drop_nothing count xs (omega (arith, is))

-- no rounds are left where no piece is
none_left : (rounds : List (Joined (List Core))) (start : SetState) (columns : TraceColumns)
    (pieces : List (List (List ℕ)))
    → AreRounds start columns pieces rounds → pieces ≡ [] → rounds ≡ []
unfolding AreRounds
none_left [] start columns pieces are none = refl
none_left (round ∷ rounds) start columns pieces are none = absurd (omega (arith, are.0, ap length none))

one_alone : (round : Joined (List Core)) (rounds : List (Joined (List Core))) (pieces : List (List (List ℕ)))
    → 0 < length pieces
    → (round.rejudged ≡ 0) ⊎ (round.rejudged ≡ 1) → rounds ≡ [] → Numbers pieces (round ∷ rounds)
unfolding rejudged_in
one_alone round [] pieces some (inl none) alone =
    record {
      at_most_pieces = omega (arith, some);
      at_least_one = λ any. omega arith;
      count = inr (omega (arith, none));
    }
one_alone round [] pieces some (inr one) alone =
    record {
      at_most_pieces = omega (arith, some);
      at_least_one = λ any. omega arith;
      count = inl (omega (arith, one));
    }
one_alone round (other ∷ rounds) pieces some again alone = cc

one_and_more : (round : Joined (List Core)) (rounds : List (Joined (List Core))) (pieces : List (List (List ℕ)))
    → 0 < length pieces
    → 0 < round.settled → round.settled ≤ length pieces → round.rejudged ≡ 1
    → Numbers (drop round.settled pieces) rounds → Numbers pieces (round ∷ rounds)
unfolding rejudged_in
one_and_more round rounds pieces some settled within one rest =
    let left = length-drop round.settled pieces in
    record {
      at_most_pieces = omega (arith, settled, within, left, rest.at_most_pieces);
      at_least_one = λ any. omega arith;
      count = by rest.count;
    }
  where
    by : (length rounds ≡ rejudged_in rounds) ⊎ (length rounds ≡ rejudged_in rounds + 1)
        → (suc (length rounds) ≡ round.rejudged + rejudged_in rounds)
        ⊎ (suc (length rounds) ≡ round.rejudged + rejudged_in rounds + 1)
    by (inl is) = inl (omega (arith, one, is))
    by (inr is) = inr (omega (arith, one, is))

numbers : (rounds : List (Joined (List Core))) (start : SetState) (columns : TraceColumns)
    (pieces : List (List (List ℕ)))
    → AreRounds start columns pieces rounds → Numbers pieces rounds
unfolding AreRounds rejudged_in
numbers [] start columns pieces none =
    let empty = ap length none in
    record {
      at_most_pieces = omega arith;
      at_least_one = λ some. absurd (omega (arith, empty, some));
      count = inl refl;
    }
numbers (round ∷ rounds) start columns pieces are =
    by (λ following later. numbers rounds following columns (drop round.settled pieces) later) round.end refl
    settled.again
  where
    settled : Settled start columns pieces round
    settled = round_settles start columns pieces round are.1.0

    either : Again (length pieces) round → (round.rejudged ≡ 0) ⊎ (round.rejudged ≡ 1)
    either (inl one) = inr one
    either (inr (none, rest)) = inl none

    by : ((following : SetState) → AreRounds following columns (drop round.settled pieces) rounds
        → Numbers (drop round.settled pieces) rounds) → (end : Option SetState) → round.end ≡ end
        → Again (length pieces) round → Numbers pieces (round ∷ rounds)
    by more None is again =
        one_alone round rounds pieces are.0 (either again) (no_more columns pieces round rounds are.1.1 is)
    by more (Some following) is (inl one) =
        one_and_more round rounds pieces are.0 (settled.at_least_one are.0) settled.within one
        (more following (after_round columns pieces round rounds following are.1.1 is))
    by more (Some following) is (inr (none, inl end)) = let never : Some following ≡ None = sym is ∙ end in cc
    by more (Some following) is (inr (none, inr all)) =
        let later = after_round columns pieces round rounds following are.1.1 is in
        one_alone round rounds pieces are.0 (inl none)
        (none_left rounds following columns (drop round.settled pieces) later
        (drop_nothing round.settled pieces all))

pub settle_all : (start : SetState) (columns : TraceColumns) (pieces : List (List (List ℕ)))
    (rounds : List (Joined (List Core))) → AreRounds start columns pieces rounds → SettleAll start columns pieces rounds
settle_all start columns pieces rounds are =
    let counted = numbers rounds start columns pieces are in
    record {
      conclude =
          conclude rounds start columns pieces are;
      at_most_pieces = counted.at_most_pieces;
      at_least_one = counted.at_least_one;
      count = counted.count;
    }

-- where the rows show what they change, the first round judges none again, and it is the last
first_none : (start : SetState) (columns : TraceColumns) (pieces : List (List (List ℕ))) (round : Joined (List Core))
    → IsRound start columns pieces round → ShowsFrom start columns pieces → round.rejudged ≡ 0
first_none start columns pieces round is shows =
    let segments = guessed_candidates start columns pieces is.founds in
    let lawful = settled_lawful start columns pieces round is in
    ap (λ (round : Joined (List Core)). round.rejudged) (is.walked cores_sameness cores_tell)
    ∙ none_once by_set cores_sameness segments start cores_tell lawful
    (none_rejudged is.founds cores_sameness shows cores_tell lawful is.judged)

none_in_all : (round : Joined (List Core)) (rounds : List (Joined (List Core))) → round.rejudged ≡ 0 → rounds ≡ []
    → rejudged_in (round ∷ rounds) ≡ 0
unfolding rejudged_in
none_in_all round [] none alone = omega (arith, none)
none_in_all round (other ∷ rounds) none alone = cc

pub none_again : (start : SetState) (columns : TraceColumns) (pieces : List (List (List ℕ)))
    (rounds : List (Joined (List Core))) → AreRounds start columns pieces rounds → ShowsFrom start columns pieces
    → rejudged_in rounds ≡ 0
unfolding AreRounds rejudged_in
none_again start columns pieces [] are shows = refl
none_again start columns pieces (round ∷ rounds) are shows =
    none_in_all round rounds none (by round.end refl settled.again)
  where
    none : round.rejudged ≡ 0
    none = first_none start columns pieces round are.1.0 shows

    settled : Settled start columns pieces round
    settled = round_settles start columns pieces round are.1.0

    by : (end : Option SetState) → round.end ≡ end → Again (length pieces) round → rounds ≡ []
    by None is again = no_more columns pieces round rounds are.1.1 is
    by (Some following) is (inl one) = absurd (omega (arith, none, one))
    by (Some following) is (inr (zero_is, inl end)) = let never : Some following ≡ None = sym is ∙ end in cc
    by (Some following) is (inr (zero_is, inr all)) =
        none_left rounds following columns (drop round.settled pieces)
        (after_round columns pieces round rounds following are.1.1 is) (drop_nothing round.settled pieces all)

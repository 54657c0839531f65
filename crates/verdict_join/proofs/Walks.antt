-- Walks over segments, whatever was guessed.
use Rattle.std.proofs.Common.{◌≡◌, ℕ, ◌+◌, Bool, true, false, if◌then◌else◌, List, [], ◌∷◌, Option, Some, None}
use Rattle.std.proofs.Common.{option_map, refl, sym, ap, ◌∙◌, subst, All, IfSome, arith}
use Rattle.std.specs.Option.{is_some}
use Rattle.std.proofs.lemmas.Bool.{and_from, and_parts}
use Rattle.std.proofs.lemmas.List.Concat.{flat_map-cons}
use Rattle.std.proofs.lemmas.List.Elements.{All-head, All-tail}
use Rattle.hart_words.specs.Memory.{Bytes, after_writes}
use Rattle.hart_words.specs.States.{State}
use Rattle.rvfi_rows.specs.declared.verdict.Verdict.{Verdict}
use Rattle.rvfi_rows.specs.Rows.{RowReading}
use Rattle.read_footprint.specs.Footprints.{agree, footprint_of}
use Rattle.read_footprint.proofs.Entries.{all_agree}
use Rattle.segment_judge.specs.Judgements.{Judgement, Judging, judgement_of}
use Rattle.segment_judge.specs.Laws.{Conclusion, conclusion_after_end, bytes_after_judgement, conclusion_from}
use Rattle.segment_judge.specs.Laws.{judgement_from, verdict_of_both}
use Rattle.segment_judge.proofs.Framed.{framed}
use Rattle.segment_judge.proofs.Parts.{in_parts}
use Rattle.verdict_join.specs.Joins.{Candidate, Joined, Sameness, adopted_judgement, adopted_judgement_from}
use Rattle.verdict_join.specs.Joins.{adopted_judgement_if, is_met, joined_by, joined_with, moved_conclusion}
use Rattle.verdict_join.specs.Joins.{nothing_from, walk, walk_on}
use Rattle.verdict_join.specs.Laws.{AllMet, IsLawfulCandidate, JoinsAnyGuesses, TellsApart, miss, misses}
use Rattle.verdict_join.specs.Laws.{misses_after_end, rows_through}

-- the conclusion of a judgement over a memory
abbrev concluded : {C : Type 0} → Judgement C → Bytes → Conclusion C
concluded judgement bytes =
    record {
      verdict =
          judgement.verdict;
      end = option_map (λ core. record { core = core; bytes = bytes }) judgement.end;
    }

-- the judgement of a guess that is met, moved, is the conclusion from the true state
met_conclusion : {C : Type 0} (judging : Judging C) (guess now : State C) (rows : List RowReading)
    → guess.core ≡ now.core
    → agree guess.bytes now.bytes (footprint_of (judgement_from judging guess rows).accesses) ≡ true
    → moved_conclusion guess now (judgement_from judging guess rows) ≡ conclusion_from judging now rows
unfolding conclusion_from
met_conclusion judging guess now rows same agrees =
    let judgement = judgement_from judging guess rows in
    let frame = framed judging guess.core rows guess.bytes now.bytes agrees in
    let here : judgement_from judging now rows ≡ judgement =
    ap (λ core. judgement_of judging core rows now.bytes) (sym same) ∙ frame.same in
    ap (concluded judgement) (sym frame.moves)
    ∙ ap (λ judgement. concluded judgement (bytes_after_judgement judgement now.bytes)) (sym here)

-- what is adopted has a guess that is met
adopted_tells : {C : Type 0} (same : Sameness C) (guess now : State C) (found : Option (Judgement C))
    (judgement : Judgement C) → adopted_judgement_from same guess now found ≡ Some judgement
    → (found ≡ Some judgement) × (is_met same guess now judgement ≡ true)
adopted_tells same guess now None judgement is = cc
adopted_tells same guess now (Some other) judgement is = by (is_met same guess now other) refl is
  where
    by : (met : Bool) → is_met same guess now other ≡ met → adopted_judgement_if met other ≡ Some judgement
        → (Some other ≡ Some judgement) × (is_met same guess now judgement ≡ true)
    by true met is =
        let equal : other ≡ judgement = cc in
        (ap Some equal, subst (λ judgement. is_met same guess now judgement ≡ true) equal met)
    by false met is = cc

same_tells : {C : Type 0} (same : Sameness C) → TellsApart same → (one other : C) → same one other ≡ true → one ≡ other
same_tells same tells one other is = (tells one other).0 is

lawful_is : {C : Type 0} (judging : Judging C) (segment : Candidate C) (judgement : Judgement C)
    → IsLawfulCandidate judging segment → segment.found ≡ Some judgement
    → judgement ≡ judgement_from judging segment.guess segment.rows
lawful_is {C = C} judging segment judgement lawful is = by segment.found lawful is
  where
    by : (found : Option (Judgement C))
        → IfSome found (λ judgement. judgement ≡ judgement_from judging segment.guess segment.rows)
        → found ≡ Some judgement → judgement ≡ judgement_from judging segment.guess segment.rows
    by None lawful is = cc
    by (Some other) lawful is = let equal : other ≡ judgement = cc in sym equal ∙ lawful

-- so it is the conclusion from the true state
adopted_conclusion : {C : Type 0} (judging : Judging C) (same : Sameness C) (segment : Candidate C) (now : State C)
    (judgement : Judgement C) → TellsApart same → IsLawfulCandidate judging segment
    → adopted_judgement same segment now ≡ Some judgement
    → moved_conclusion segment.guess now judgement ≡ conclusion_from judging now segment.rows
adopted_conclusion judging same segment now judgement tells lawful is =
    let both = adopted_tells same segment.guess now segment.found judgement is in
    let theirs = lawful_is judging segment judgement lawful both.0 in
    let parts = and_parts _ _ both.1 in
    let core = same_tells same tells segment.guess.core now.core parts.0 in
    let agrees =
    subst (λ judgement. agree segment.guess.bytes now.bytes (footprint_of judgement.accesses) ≡ true) theirs
    parts.1 in
    ap (moved_conclusion segment.guess now) theirs ∙ met_conclusion judging segment.guess now segment.rows core agrees

-- one segment, whichever way it is concluded
pub walked_segment : {C : Type 0} (judging : Judging C) (same : Sameness C) (segment : Candidate C) (now : State C)
    (next : State C → Joined C) → TellsApart same → IsLawfulCandidate judging segment
    → walk_on judging (adopted_judgement same segment now) false segment now next
    ≡ joined_with (conclusion_from judging now segment.rows) (miss (adopted_judgement same segment now)) next
walked_segment {C = C} judging same segment now next tells lawful = by (adopted_judgement same segment now) refl
  where
    by : (found : Option (Judgement C)) → adopted_judgement same segment now ≡ found
        → walk_on judging found false segment now next
        ≡ joined_with (conclusion_from judging now segment.rows) (miss found) next
    by None is = refl
    by (Some judgement) is =
        ap (λ first. joined_with first 0 next) (adopted_conclusion judging same segment now judgement tells lawful is)

-- what comes after a segment: with `once` nothing, where it had to be judged again
abbrev pub after_segment : {C : Type 0} → Bool → Option (Judgement C) → (State C → Joined C) → State C → Joined C
after_segment once (Some judgement) next = next
after_segment once None next = if once then nothing_from else next

pub walked_segment_once : {C : Type 0} (judging : Judging C) (same : Sameness C) (once : Bool) (segment : Candidate C)
    (now : State C) (next : State C → Joined C) → TellsApart same → IsLawfulCandidate judging segment
    → walk_on judging (adopted_judgement same segment now) once segment now next
    ≡ joined_with (conclusion_from judging now segment.rows) (miss (adopted_judgement same segment now))
    (after_segment once (adopted_judgement same segment now) next)
walked_segment_once {C = C} judging same once segment now next tells lawful =
    by (adopted_judgement same segment now) refl
  where
    by : (found : Option (Judgement C)) → adopted_judgement same segment now ≡ found
        → walk_on judging found once segment now next
        ≡ joined_with (conclusion_from judging now segment.rows) (miss found) (after_segment once found next)
    by None is = refl
    by (Some judgement) is =
        ap (λ first. joined_with first 0 next) (adopted_conclusion judging same segment now judgement tells lawful is)

-- the verdict and the end of a join
abbrev pub conclusion_of : {C : Type 0} → Joined C → Conclusion C
conclusion_of joined = record { verdict = joined.verdict; end = joined.end }

joined_concludes : {C : Type 0} (end : Option (State C)) (verdict : Verdict) (again : ℕ) (next : State C → Joined C)
    (rest : State C → Conclusion C) → ((state : State C) → end ≡ Some state → conclusion_of (next state) ≡ rest state)
    → conclusion_of (joined_by end verdict again next)
    ≡ conclusion_after_end end (record { verdict = verdict; end = end }) rest
joined_concludes None verdict again next rest same = refl
joined_concludes (Some state) verdict again next rest same =
    ap (λ following. record { verdict = verdict_of_both verdict following.verdict; end = following.end })
    (same state refl)

walk_concludes : {C : Type 0} (judging : Judging C) (same : Sameness C) (segments : List (Candidate C))
    (now : State C) → TellsApart same → All (IsLawfulCandidate judging) segments
    → conclusion_of (walk judging same false segments now) ≡ conclusion_from judging now (rows_through segments)
unfolding walk conclusion_from judgement_of after_writes
walk_concludes {C = C} judging same [] now tells lawful = refl
walk_concludes {C = C} judging same (segment ∷ segments) now tells lawful =
    let next : State C → Joined C = λ following. walk judging same false segments following in
    let first = conclusion_from judging now segment.rows in
    ap conclusion_of
    (walked_segment judging same segment now next tells
    (All-head (IsLawfulCandidate judging) segment segments lawful))
    ∙ joined_concludes first.end first.verdict (miss (adopted_judgement same segment now)) next
    (λ following. conclusion_from judging following (rows_through segments))
    (λ following is. walk_concludes judging same segments following tells
    (All-tail (IsLawfulCandidate judging) segment segments lawful))
    ∙ sym (in_parts judging now segment.rows (rows_through segments))
    ∙ ap (λ rows. conclusion_from judging now rows) (sym (flat_map-cons (λ segment. segment.rows) segment segments))

pub joins_any_guesses : {C : Type 0} (judging : Judging C) (same : Sameness C) (segments : List (Candidate C))
    (now : State C) → JoinsAnyGuesses judging same segments now
joins_any_guesses judging same segments now tells lawful =
    let whole = walk_concludes judging same segments now tells lawful in
    record { verdict = ap (λ conclusion. conclusion.verdict) whole; end = ap (λ conclusion. conclusion.end) whole }

-- how many are judged again
joined_counts : {C : Type 0} (end : Option (State C)) (verdict : Verdict) (again : ℕ) (next : State C → Joined C)
    (rest : State C → ℕ) → ((state : State C) → (next state).rejudged ≡ rest state)
    → (joined_by end verdict again next).rejudged ≡ again + misses_after_end end rest
joined_counts None verdict again next rest same = omega arith
joined_counts (Some state) verdict again next rest same = ap (λ n. again + n) (same state)

pub counted : {C : Type 0} (judging : Judging C) (same : Sameness C) (segments : List (Candidate C)) (now : State C)
    → TellsApart same → All (IsLawfulCandidate judging) segments
    → (walk judging same false segments now).rejudged ≡ misses judging same segments now
unfolding walk misses
counted {C = C} judging same [] now tells lawful = refl
counted {C = C} judging same (segment ∷ segments) now tells lawful =
    let next : State C → Joined C = λ following. walk judging same false segments following in
    let first = conclusion_from judging now segment.rows in
    ap (λ (joined : Joined C). joined.rejudged)
    (walked_segment judging same segment now next tells
    (All-head (IsLawfulCandidate judging) segment segments lawful))
    ∙ joined_counts first.end first.verdict (miss (adopted_judgement same segment now)) next
    (λ following. misses judging same segments following)
    (λ following. counted judging same segments following tells
    (All-tail (IsLawfulCandidate judging) segment segments lawful))

-- where a guess is the true state, it is met
same_itself : {C : Type 0} (same : Sameness C) → TellsApart same → (one : C) → same one one ≡ true
same_itself same tells one = (tells one one).1 refl

met_itself : {C : Type 0} (same : Sameness C) → TellsApart same → (now : State C) (judgement : Judgement C)
    → is_met same now now judgement ≡ true
met_itself same tells now judgement =
    and_from _ _ (same_itself same tells now.core)
    (all_agree now.bytes now.bytes (footprint_of judgement.accesses) (λ address there. refl))

adopted_itself : {C : Type 0} (same : Sameness C) → TellsApart same → (now : State C) (found : Option (Judgement C))
    → is_some found ≡ true → miss (adopted_judgement_from same now now found) ≡ 0
adopted_itself same tells now None is = cc
adopted_itself same tells now (Some judgement) is =
    ap (λ met. miss (adopted_judgement_if met judgement)) (met_itself same tells now judgement)

no_misses_after : {C : Type 0} (end : Option (State C)) (next : State C → ℕ)
    → ((following : State C) → end ≡ Some following → next following ≡ 0) → misses_after_end end next ≡ 0
no_misses_after None next none = refl
no_misses_after (Some following) next none = none following refl

pub none_missed : {C : Type 0} (judging : Judging C) (same : Sameness C) (segments : List (Candidate C))
    (now : State C) → TellsApart same → AllMet judging segments now → misses judging same segments now ≡ 0
unfolding misses AllMet
none_missed judging same [] now tells met = refl
none_missed judging same (segment ∷ segments) now tells met =
    let here : miss (adopted_judgement same segment now) ≡ 0 =
    subst (λ guess. miss (adopted_judgement_from same guess now segment.found) ≡ 0) (sym met.0.0)
    (adopted_itself same tells now segment.found met.0.1) in
    let later =
    no_misses_after (conclusion_from judging now segment.rows).end
    (λ following. misses judging same segments following)
    (λ following is. none_missed judging same segments following tells (met.1 following is)) in
    rw (here, later) refl

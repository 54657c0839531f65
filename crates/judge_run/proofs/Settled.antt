-- Segments are settled in rounds.
use Rattle.std.proofs.Common.{◌≡◌, ℕ, zero, suc, Bool, ◌+◌, ◌-◌, ◌^◌, ◌<◌, ◌≤◌, ◌⊎◌, inl, inr, true, List, [], ◌∷◌, drop}
use Rattle.std.proofs.Common.{length}
use Rattle.std.proofs.Common.{map, take, Option, Some, None, option_map, Result, Ok, Err, IfOk, IfSome, refl, sym, ap}
use Rattle.std.proofs.Common.{ap₂, ◌∙◌, append-nil, subst, arith}
use Rattle.std.specs.List.{All, flat_map}
use Rattle.std.proofs.lemmas.List.{length-append, length-drop, length-map, take-append-drop, take_all}
use Rattle.std.proofs.lemmas.List.Concat.{flat_map-append}
use Rattle.hart_words.specs.declared.span.Span.{Span}
use Rattle.hart_words.specs.Memory.{Bytes}
use Rattle.rvfi_rows.specs.declared.segment.Segment.{Segment}
use Rattle.rvfi_rows.specs.declared.verdict.Verdict.{Verdict}
use Rattle.rvfi_rows.specs.declared.verdict.Verdict.TheVariants.{Agrees, Differs, Refused}
use Rattle.rvfi_rows.specs.Columns.{TraceColumns}
use Rattle.rvfi_rows.specs.Rows.{RowReading, rows_of}
use Rattle.rvfi_rows.specs.Segments.{line_count_of, row_count_of, segment_lines}
use Rattle.rvfi_rows.proofs.PortRows.{count-append}
use Rattle.hart_set.specs.declared.set.HartSet.{HartSet}
use Rattle.hart_step.specs.declared.state.Core.{Core}
use Rattle.hart_step.specs.HartSets.{SetCanStep, SetHoldsWords, SetState, set_state_of}
use Rattle.hart_step.specs.Cores.{IsSound}
use Rattle.boundary_guess.specs.Guesses.{guesses_of}
use Rattle.boundary_guess.specs.Truth.{SetNoMarks, ShowChanges}
use Rattle.row_origin.specs.declared.history.History.{History}
use Rattle.segment_judge.specs.declared.found.Found.{Found}
use Rattle.segment_judge.specs.declared.judged.Judged.{Judged as JudgedSegment}
use Rattle.segment_judge.specs.Judged.{IsJudgement, IsUsable}
use Rattle.segment_judge.specs.Judgements.{by_set, verdict_after_rows}
use Rattle.segment_judge.specs.Laws.{Conclusion, conclusion_after_end, conclusion_from, verdict_of_both}
use Rattle.segment_judge.proofs.Parts.{counted_twice, uncounted}
use Rattle.verdict_join.specs.declared.joined.Joined.{Joined as JoinedSegments}
use Rattle.verdict_join.specs.declared.joined.Round.{Round}
use Rattle.verdict_join.specs.Founds.{Leaves, candidates}
use Rattle.verdict_join.specs.Guessed.{ShowsFrom, guessed_candidates}
use Rattle.verdict_join.specs.Joining.{WalksThem, candidates_of, found_of, round_of, rows_of_segment}
use Rattle.verdict_join.specs.Joins.{Joined, walk}
use Rattle.verdict_join.specs.Laws.{AreJudgedInTurn}
use Rattle.verdict_join.specs.Rounds.{AreRounds, GoOn, IsRound, rejudged_in, rounds_conclude}
use Rattle.verdict_join.specs.Walks.{IsWithinRows}
use Rattle.verdict_join.proofs.Coded.{read_twice, through}
use Rattle.verdict_join.proofs.Rounds.{none_again, settle_all}
use Rattle.verdict_join.proofs.Passed.{EndsWhereAgrees, conclusion_ends, few_within, lines_within}
use Rattle.judge_run.specs.declared.tally.Settling.{Settling}
use Rattle.judge_run.specs.declared.tally.Tally.{Tally}
use Rattle.judge_run.specs.declared.tally.AfterRound.{AfterRound}
use Rattle.judge_run.specs.declared.tally.AfterRound.TheVariants.{Continue, Ends}
use Rattle.judge_run.specs.Events.{AreLeft}
use Rattle.judge_run.specs.Settling.{IsCountedOn, IsNewTally, IsPartOver, IsRoundOver, IsSettled, IsTallied, LeadsBy}
use Rattle.judge_run.specs.Settling.{LeadsToRound, LeadsToBy, SettlesInRounds}

-- ---- a round in code is one of the definitions

pub is_round : {M : Type 0} {bytes_of : M → Bytes} {ram_of : M → Span} {columns : TraceColumns}
    {segments : List Segment} {guesses : List (HartSet Core M)} {founds : List (Found (JudgedSegment M))} {start : SetState}
    (round : Round M) → map (set_state_of bytes_of) guesses ≡ guesses_of start columns (map segment_lines segments)
    → AreLeft bytes_of ram_of columns segments guesses founds
    → AreJudgedInTurn by_set (candidates_of bytes_of columns segments guesses founds)
    → WalksThem bytes_of (candidates_of bytes_of columns segments guesses founds) start round
    → IsRound start columns (map segment_lines segments) (round_of bytes_of round)
is_round {M} {bytes_of} {ram_of} {columns} {segments} {guesses} {founds} {start} round guessed left judged walks =
    let rows : List (List RowReading) = map (rows_of_segment columns) segments in
    let states : List SetState = map (set_state_of bytes_of) guesses in
    let pieces = map segment_lines segments in
    let all = map (found_of rows states) founds in
    let read = read_twice columns segments in
    let is : candidates_of bytes_of columns segments guesses founds ≡ guessed_candidates start columns pieces all =
    ap (λ rows. candidates rows states all) read
    ∙ ap (λ states. candidates (map (rows_of columns) pieces) states all) guessed in
    record {
      events = left.events;
      founds = all;
      left =
          subst
          (λ n. Leaves by_set (map (rows_of columns) pieces) (guesses_of start columns pieces) n left.events all)
          (sym (length-map segments segment_lines))
          (subst (λ states. Leaves by_set (map (rows_of columns) pieces) states (length segments) left.events all)
          guessed
          (subst (λ rows. Leaves by_set rows states (length segments) left.events all) read left.events_are.leave));
      judged = subst (AreJudgedInTurn by_set) is judged;
      walked = λ same tells. walks same tells ∙ ap (λ segments. walk by_set same true segments start) is;
    }

-- ---- segments that are left

drop_mapped : {A B : Type 0} (f : A → B) (count : ℕ) (xs : List A) → drop count (map f xs) ≡ map f (drop count xs)
drop_mapped f zero xs = refl
drop_mapped f (suc count) [] = refl
drop_mapped f (suc count) (x ∷ xs) = drop_mapped f count xs

drop_none : {A : Type 0} (count : ℕ) (xs : List A) → xs ≡ [] → drop count xs ≡ []
drop_none zero xs none = none
drop_none (suc count) [] none = refl
drop_none (suc count) (x ∷ xs) none = cc

pub drop_twice : {A : Type 0} (more count : ℕ) (xs : List A) → drop more (drop count xs) ≡ drop (count + more) xs
drop_twice more zero xs = let same : more ≡ 0 + more = omega arith in ap (λ n. drop n xs) same
drop_twice more (suc count) [] = drop_none more [] refl ∙ sym (drop_none (suc count + more) [] refl)
drop_twice more (suc count) (x ∷ xs) =
    let same : suc (count + more) ≡ suc count + more = omega arith in
    drop_twice more count xs ∙ ap (λ n. drop n (x ∷ xs)) same

left_after : (segments : List Segment) (settled more : ℕ)
    → drop more (map segment_lines (drop settled segments)) ≡ map segment_lines (drop (settled + more) segments)
left_after segments settled more =
    drop_mapped segment_lines more (drop settled segments) ∙ ap (map segment_lines) (drop_twice more settled segments)

-- a slice from a place on
pub sliced : (segments : List Segment) (count : ℕ)
    → take (length segments - count) (drop count segments) ≡ drop count segments
sliced segments count = let left = length-drop count segments in take_all _ _ (omega (arith, left))

-- what is left has no more lines than all
pub lines_left : (count : ℕ) (segments : List Segment) → line_count_of segments < 2 ^ 60
    → line_count_of (take (length segments - count) (drop count segments)) < 2 ^ 60
lines_left count segments few =
    let parts : line_count_of segments ≡ line_count_of (take count segments) + line_count_of (drop count segments) =
    ap line_count_of (sym (take-append-drop count segments))
    ∙ ap length (flat_map-append segment_lines (take count segments) (drop count segments))
    ∙ length-append (flat_map segment_lines (take count segments)) (flat_map segment_lines (drop count segments)) in
    rw (sliced segments count) (omega (arith, parts, few))

-- ---- rounds so far

-- whatever rounds settle what is left, some settle all, and come to what was counted and to what these come to
pub record Extends (columns : TraceColumns) (pieces : List (List (List ℕ))) (start : SetState) (before now : ℕ)
    (tally : Tally) (state : SetState) (rest : List (Joined (List Core))) : Type 0 where
  pub rounds : List (Joined (List Core))
  pub are : AreRounds start columns pieces rounds
  pub counted : before + length rounds ≡ now + length rest
  pub verdict : (rounds_conclude start rounds).verdict
      ≡ verdict_after_rows tally.counts.rows tally.counts.valid (rounds_conclude state rest).verdict
  pub end : (rounds_conclude start rounds).end ≡ (rounds_conclude state rest).end
  pub rejudged : rejudged_in rounds ≡ tally.rejudged + rejudged_in rest

pub record SoFar {M : Type 0} (bytes_of : M → Bytes) (columns : TraceColumns) (segments : List Segment)
    (start : SetState) (before now : ℕ) (settling : Settling M) : Type 0 where
  pub extend : (rest : List (Joined (List Core)))
      → AreRounds (set_state_of bytes_of settling.harts) columns
      (map segment_lines (drop settling.tally.settled segments)) rest
      → Extends columns (map segment_lines segments) start before now settling.tally (set_state_of bytes_of settling.harts)
      rest

-- the round over the segments that are left, of which there are some
pub record IsNextRound {M : Type 0} (bytes_of : M → Bytes) (ram_of : M → Span) (columns : TraceColumns)
    (segments : List Segment) (settling : Settling M) (round : Round M) : Type 0 where
  pub left : settling.tally.settled < length segments
  pub over : IsRoundOver bytes_of ram_of columns (drop settling.tally.settled segments)
      (set_state_of bytes_of settling.harts) round

pub so_far_begins : {M : Type 0} (bytes_of : M → Bytes) (columns : TraceColumns) (segments : List Segment)
    (harts : HartSet Core M) (tally : Tally) (history : Option History) (count : ℕ) → IsNewTally tally
    → SoFar bytes_of columns segments (set_state_of bytes_of harts) count count
    (record { harts = harts; tally = tally; history = history })
so_far_begins bytes_of columns segments harts tally history count new = record {
  extend =
      λ rest are. record {
        rounds = rest;
        are =
            subst (λ n. AreRounds (set_state_of bytes_of harts) columns (map segment_lines (drop n segments)) rest)
            new.settled are;
        counted = refl;
        verdict =
            sym (uncounted (rounds_conclude (set_state_of bytes_of harts) rest).verdict)
            ∙ sym
            (ap₂ (λ rows valid. verdict_after_rows rows valid (rounds_conclude (set_state_of bytes_of harts) rest).verdict)
            new.rows new.valid);
        end = refl;
        rejudged = omega (arith, new.rejudged);
      };
}

-- the rounds from this one on
this_and_rest : {M : Type 0} {bytes_of : M → Bytes} {ram_of : M → Span} {columns : TraceColumns}
    {segments : List Segment} {settling : Settling M} {round : Round M} (rest : List (Joined (List Core)))
    → IsNextRound bytes_of ram_of columns segments settling round
    → GoOn (round_of bytes_of round).end rest
    (λ after_round. AreRounds after_round columns
    (map segment_lines (drop (settling.tally.settled + round.settled) segments)) rest)
    → AreRounds (set_state_of bytes_of settling.harts) columns (map segment_lines (drop settling.tally.settled segments))
    (round_of bytes_of round ∷ rest)
unfolding AreRounds
this_and_rest {M} {bytes_of} {ram_of} {columns} {segments} {settling} {round} rest next on =
    let pieces = map segment_lines (drop settling.tally.settled segments) in
    let count = length-map (drop settling.tally.settled segments) segment_lines in
    let dropped = length-drop settling.tally.settled segments in
    let some : 0 < length pieces = omega (arith, count, dropped, next.left) in (
      some,
      (
        next.over.is_round,
        subst
            (λ left. GoOn (round_of bytes_of round).end rest (λ after_round. AreRounds after_round columns left rest))
            (sym (left_after segments settling.tally.settled round.settled)) on,
      ),
    )

-- what they come to
concludes_on : (state after_round : SetState) (round : Joined (List Core)) (rest : List (Joined (List Core)))
    → round.end ≡ Some after_round
    → rounds_conclude state (round ∷ rest)
    ≡ record {
      verdict =
          verdict_of_both round.verdict (rounds_conclude after_round rest).verdict;
      end =
          (rounds_conclude after_round rest).end;
    }
unfolding rounds_conclude
concludes_on state after_round round rest is =
    ap (λ end. conclusion_after_end end (record { verdict = round.verdict; end = round.end })
    (λ after_round. rounds_conclude after_round rest)) is

concludes_here : (state : SetState) (round : Joined (List Core)) → round.end ≡ None
    → rounds_conclude state (round ∷ []) ≡ record { verdict = round.verdict; end = round.end }
unfolding rounds_conclude
concludes_here state round is =
    ap (λ end. conclusion_after_end end (record { verdict = round.verdict; end = round.end })
    (λ after_round. rounds_conclude after_round [])) is

-- a round that agrees
so_far_on : {M : Type 0} {bytes_of : M → Bytes} {ram_of : M → Span} {columns : TraceColumns} {segments : List Segment}
    {start : SetState} {before now : ℕ} {settling : Settling M} {round : Round M} {rows valid : ℕ} {harts : HartSet Core M}
    (next : Settling M) → IsNextRound bytes_of ram_of columns segments settling round
    → SoFar bytes_of columns segments start before now settling → round.verdict ≡ Agrees rows valid
    → round.end ≡ Some harts → IsCountedOn settling.tally round rows valid harts next
    → SoFar bytes_of columns segments start before (now + 1) next
unfolding rejudged_in
so_far_on {M} {bytes_of} {ram_of} {columns} {segments} {start} {before} {now} {settling} {round} {rows} {valid} {harts}
    next is_next so_far agrees ends counted =
    let this = round_of bytes_of round in
    let state = set_state_of bytes_of settling.harts in
    let after_round = set_state_of bytes_of next.harts in
    let tally = settling.tally in
    let end : this.end ≡ Some after_round =
    ap (option_map (set_state_of bytes_of)) (ends ∙ ap (λ (harts : HartSet Core M). Some harts) (sym counted.harts_are)) in
    record {
      extend =
          λ rest are.
          let here =
          subst (λ n. AreRounds after_round columns (map segment_lines (drop n segments)) rest) counted.settled are in
          let goes : GoOn this.end rest
          (λ after_round. AreRounds after_round columns
          (map segment_lines (drop (tally.settled + round.settled) segments)) rest) =
          subst
          (λ end. GoOn end rest
          (λ after_round. AreRounds after_round columns
          (map segment_lines (drop (tally.settled + round.settled) segments)) rest)) (sym end) here in
          let whole = so_far.extend (this ∷ rest) (this_and_rest rest is_next goes) in
          let conclude = concludes_on state after_round this rest end in
          let last = (rounds_conclude after_round rest).verdict in
          let verdict : verdict_of_both this.verdict last ≡ verdict_after_rows rows valid last =
          ap (λ verdict. verdict_of_both verdict last) agrees in
          record {
            rounds = whole.rounds;
            are = whole.are;
            counted = omega (arith, whole.counted);
            verdict =
                whole.verdict
                ∙ ap (verdict_after_rows tally.counts.rows tally.counts.valid)
                (ap (λ (conclusion : Conclusion (List Core)). conclusion.verdict) conclude ∙ verdict)
                ∙ counted_twice tally.counts.rows tally.counts.valid rows valid last
                ∙ ap₂ (λ rows valid. verdict_after_rows rows valid last) (sym counted.rows_are) (sym counted.valid_are);
            end = whole.end ∙ ap (λ (conclusion : Conclusion (List Core)). conclusion.end) conclude;
            rejudged = omega (arith, whole.rejudged, counted.rejudged);
          };
    }

-- all segments are settled
pub so_far_all : {M : Type 0} {bytes_of : M → Bytes} {columns : TraceColumns} {segments : List Segment}
    {start : SetState} {before now : ℕ} {settling : Settling M} (joined : JoinedSegments M)
    → length segments ≤ settling.tally.settled → SoFar bytes_of columns segments start before now settling
    → joined
    ≡ record {
      verdict =
          Agrees settling.tally.counts.rows settling.tally.counts.valid;
      end = Some settling.harts;
      rejudged = settling.tally.rejudged;
      history = settling.history;
    }
    → SettlesInRounds bytes_of columns segments start before now joined
unfolding AreRounds rounds_conclude rejudged_in
so_far_all {M} {bytes_of} {columns} {segments} {start} {before} {now} {settling} joined all so_far is =
    let tally = settling.tally in
    let none : map segment_lines (drop tally.settled segments) ≡ [] =
    ap (map segment_lines) (nothing_after tally.settled segments all) in
    let whole = so_far.extend [] none in
    let rows : tally.counts.rows + 0 ≡ tally.counts.rows = omega arith in
    let valid : tally.counts.valid + 0 ≡ tally.counts.valid = omega arith in
    let counted : Agrees (tally.counts.rows + 0) (tally.counts.valid + 0)
    ≡ Agrees tally.counts.rows tally.counts.valid =
    rw (rows, valid) refl in
    record {
      rounds = whole.rounds;
      are = whole.are;
      counted = omega (arith, whole.counted);
      verdict = ap (λ (joined : JoinedSegments M). joined.verdict) is ∙ sym counted ∙ sym whole.verdict;
      end = ap (λ (joined : JoinedSegments M). option_map (set_state_of bytes_of) joined.end) is ∙ sym whole.end;
      rejudged = omega (arith, ap (λ (joined : JoinedSegments M). joined.rejudged) is, whole.rejudged);
    }
  where
    nothing_after : {A : Type 0} (count : ℕ) (xs : List A) → length xs ≤ count → drop count xs ≡ []
    nothing_after zero [] all = refl
    nothing_after zero (x ∷ xs) all = absurd (omega (arith, all))
    nothing_after (suc count) [] all = refl
    nothing_after (suc count) (x ∷ xs) all = nothing_after count xs (omega (arith, all))

-- the last round
so_far_ends : {M : Type 0} {bytes_of : M → Bytes} {ram_of : M → Span} {columns : TraceColumns} {segments : List Segment}
    {start : SetState} {before now : ℕ} {settling : Settling M} {round : Round M} (joined : JoinedSegments M)
    → IsNextRound bytes_of ram_of columns segments settling round
    → SoFar bytes_of columns segments start before now settling → round.end ≡ None
    → joined
    ≡ record {
      verdict =
          verdict_after_rows settling.tally.counts.rows settling.tally.counts.valid round.verdict;
      end =
          None;
      rejudged = settling.tally.rejudged + round.rejudged;
      history = round.history;
    }
    → SettlesInRounds bytes_of columns segments start before (now + 1) joined
unfolding rejudged_in
so_far_ends {M} {bytes_of} {ram_of} {columns} {segments} {start} {before} {now} {settling} {round} joined is_next
    so_far ends is =
    let this = round_of bytes_of round in
    let state = set_state_of bytes_of settling.harts in
    let tally = settling.tally in
    let end : this.end ≡ None = ap (option_map (set_state_of bytes_of)) ends in
    let stops : GoOn this.end []
    (λ after_round. AreRounds after_round columns
    (map segment_lines (drop (tally.settled + round.settled) segments)) []) =
    subst
    (λ end. GoOn end []
    (λ after_round. AreRounds after_round columns
    (map segment_lines (drop (tally.settled + round.settled) segments)) [])) (sym end) refl in
    let whole = so_far.extend (this ∷ []) (this_and_rest [] is_next stops) in
    let conclude = concludes_here state this end in
    record {
      rounds = whole.rounds;
      are = whole.are;
      counted = omega (arith, whole.counted);
      verdict =
          ap (λ (joined : JoinedSegments M). joined.verdict) is
          ∙ ap (verdict_after_rows tally.counts.rows tally.counts.valid)
          (sym (ap (λ (conclusion : Conclusion (List Core)). conclusion.verdict) conclude)) ∙ sym whole.verdict;
      end =
          ap (λ (joined : JoinedSegments M). option_map (set_state_of bytes_of) joined.end) is ∙ sym end
          ∙ sym (ap (λ (conclusion : Conclusion (List Core)). conclusion.end) conclude) ∙ sym whole.end;
      rejudged = omega (arith, ap (λ (joined : JoinedSegments M). joined.rejudged) is, whole.rejudged);
    }

-- ---- where a round leads

-- its verdict agrees just where there are harts after it
pub ends_where_agrees : {M : Type 0} (bytes_of : M → Bytes) (verdict : Verdict) (end : Option (HartSet Core M))
    (conclusion : Conclusion (List Core)) → verdict ≡ conclusion.verdict
    → option_map (set_state_of bytes_of) end ≡ conclusion.end → EndsWhereAgrees conclusion.verdict conclusion.end
    → EndsWhereAgrees verdict (option_map (set_state_of bytes_of) end)
ends_where_agrees bytes_of verdict end conclusion is ends fits =
    subst (λ verdict. EndsWhereAgrees verdict (option_map (set_state_of bytes_of) end)) (sym is)
    (subst (EndsWhereAgrees conclusion.verdict) (sym ends) fits)

-- a round that goes on, or ends
abbrev pub Followed : {M : Type 0} → (M → Bytes) → TraceColumns → List Segment → SetState → ℕ → ℕ → AfterRound M → Type 0
Followed bytes_of columns segments start before now (Continue next) =
    SoFar bytes_of columns segments start before now next
Followed bytes_of columns segments start before now (Ends joined) =
    SettlesInRounds bytes_of columns segments start before now joined

round_follows : {M : Type 0} {bytes_of : M → Bytes} {ram_of : M → Span} {columns : TraceColumns}
    {segments : List Segment} {start : SetState} {before now : ℕ} {settling : Settling M} {round : Round M}
    (next : AfterRound M) → IsNextRound bytes_of ram_of columns segments settling round
    → SoFar bytes_of columns segments start before now settling → LeadsToRound settling.tally round next
    → Followed bytes_of columns segments start before (now + 1) next
round_follows {M} {bytes_of} {ram_of} {columns} {segments} {start} {before} {now} {settling} {round} next is_next so_far
    leads =
    by round.verdict round.end next refl refl
    (ends_where_agrees bytes_of round.verdict round.end conclusion is_next.over.verdict is_next.over.end
    (conclusion_ends by_set (set_state_of bytes_of settling.harts) rows)) leads
  where
    rows : List RowReading
    rows =
        rows_of columns (flat_map segment_lines (take round.settled (drop settling.tally.settled segments)))

    conclusion : Conclusion (List Core)
    conclusion = conclusion_from by_set (set_state_of bytes_of settling.harts) rows

    ended : Verdict → JoinedSegments M
    ended verdict = record {
      verdict = verdict_after_rows settling.tally.counts.rows settling.tally.counts.valid verdict;
      end = None;
      rejudged = settling.tally.rejudged + round.rejudged;
      history = round.history;
    }

    ends_with : (verdict : Verdict) (joined : JoinedSegments M) → round.verdict ≡ verdict → round.end ≡ None
        → joined ≡ ended verdict → SettlesInRounds bytes_of columns segments start before (now + 1) joined
    ends_with verdict joined is none leads = so_far_ends joined is_next so_far none (leads ∙ ap ended (sym is))

    by : (verdict : Verdict) (end : Option (HartSet Core M)) (next : AfterRound M) → round.verdict ≡ verdict
        → round.end ≡ end → EndsWhereAgrees verdict (option_map (set_state_of bytes_of) end)
        → LeadsToBy settling.tally round verdict end next
        → Followed bytes_of columns segments start before (now + 1) next
    by (Agrees rows valid) None next is none fits leads = absurd fits
    by (Agrees rows valid) (Some harts) (Continue next) is some fits counted =
        so_far_on next is_next so_far is some counted
    by (Agrees rows valid) (Some harts) (Ends joined) is some fits leads = absurd leads
    by (Differs row difference) (Some harts) next is some fits leads = absurd fits
    by (Differs row difference) None (Continue next) is none fits leads = absurd leads
    by (Differs row difference) None (Ends joined) is none fits leads =
        ends_with (Differs row difference) joined is none leads
    by (Refused row fault) (Some harts) next is some fits leads = absurd fits
    by (Refused row fault) None (Continue next) is none fits leads = absurd leads
    by (Refused row fault) None (Ends joined) is none fits leads = ends_with (Refused row fault) joined is none leads

-- ---- what was counted

pub rows_split : (columns : TraceColumns) (count : ℕ) (segments : List Segment)
    → row_count_of columns segments
    ≡ row_count_of columns (take count segments) + row_count_of columns (drop count segments)
rows_split columns count segments =
    ap (row_count_of columns) (sym (take-append-drop count segments))
    ∙ count-append columns (take count segments) (drop count segments)

-- a round is a part
part_of_round : {M : Type 0} (bytes_of : M → Bytes) (ram_of : M → Span) (columns : TraceColumns)
    (segments : List Segment) (start : SetState) (round : Round M) → 0 < length segments
    → IsRoundOver bytes_of ram_of columns segments start round → IsPartOver bytes_of ram_of columns segments start round
part_of_round bytes_of ram_of columns segments start round left over =
    let some = over.settles_one left in
    record {
      within =
          over.within;
      at_least_1 =
          some;
      again =
          omega (arith, over.at_most_1_again, some);
      verdict = over.verdict;
      end = over.end;
      can_step = over.can_step;
    }

part_of_next : {M : Type 0} {bytes_of : M → Bytes} {ram_of : M → Span} {columns : TraceColumns} {segments : List Segment}
    {settling : Settling M} {round : Round M} → IsNextRound bytes_of ram_of columns segments settling round
    → IsPartOver bytes_of ram_of columns (drop settling.tally.settled segments) (set_state_of bytes_of settling.harts) round
part_of_next {M} {bytes_of} {ram_of} {columns} {segments} {settling} {round} next =
    let dropped = length-drop settling.tally.settled segments in
    part_of_round bytes_of ram_of columns (drop settling.tally.settled segments) (set_state_of bytes_of settling.harts) round
    (omega (arith, dropped, next.left)) next.over

-- a part counts no more rows than its segments have
part_within : {M : Type 0} {bytes_of : M → Bytes} {ram_of : M → Span} {columns : TraceColumns} {segments : List Segment}
    {start : SetState} (round : Round M) → IsPartOver bytes_of ram_of columns segments start round
    → IsWithinRows (row_count_of columns (take round.settled segments)) round.verdict
part_within {M} {bytes_of} {ram_of} {columns} {segments} {start} round over =
    lines_within start columns (take round.settled segments) round.verdict over.verdict

-- nor does the next round
pub next_within : {M : Type 0} {bytes_of : M → Bytes} {ram_of : M → Span} {columns : TraceColumns}
    {segments : List Segment} {settling : Settling M} (round : Round M) (most : ℕ)
    → row_count_of columns segments ≤ most → IsNextRound bytes_of ram_of columns segments settling round
    → IsWithinRows most round.verdict
next_within {M} {bytes_of} {ram_of} {columns} {segments} {settling} round most at_most next =
    let settled = settling.tally.settled in
    let first = rows_split columns settled segments in
    let second = rows_split columns round.settled (drop settled segments) in
    few_within (row_count_of columns (take round.settled (drop settled segments))) most round.verdict
    (part_within round (part_of_next next)) (omega (arith, first, second, at_most))

abbrev pub IsTalliedAfter : {M : Type 0} → (M → Span) → TraceColumns → List Segment → Tally → AfterRound M → Type 0
IsTalliedAfter ram_of columns segments tally (Continue next) =
    IsTallied columns segments next.tally × ((tally.settled < next.tally.settled) × SetCanStep ram_of next.harts)
IsTalliedAfter ram_of columns segments tally (Ends joined) = Unit {0}

part_tallied : {M : Type 0} {bytes_of : M → Bytes} {ram_of : M → Span} {columns : TraceColumns}
    {segments : List Segment} {round : Round M} (settling : Settling M) (next : AfterRound M)
    → IsTallied columns segments settling.tally
    → IsPartOver bytes_of ram_of columns (drop settling.tally.settled segments) (set_state_of bytes_of settling.harts)
    round → LeadsToRound settling.tally round next → IsTalliedAfter ram_of columns segments settling.tally next
part_tallied {M} {bytes_of} {ram_of} {columns} {segments} {round} settling next tallied over leads =
    by round.verdict round.end next (part_within round over) over.can_step leads
  where
    tally : Tally
    tally = settling.tally

    rest : List Segment
    rest = drop settling.tally.settled segments

    by : (verdict : Verdict) (end : Option (HartSet Core M)) (next : AfterRound M)
        → IsWithinRows (row_count_of columns (take round.settled rest)) verdict → IfSome end (SetCanStep ram_of)
        → LeadsToBy tally round verdict end next → IsTalliedAfter ram_of columns segments tally next
    by (Agrees rows valid) (Some harts) (Continue next) within can_step counted =
        let dropped = length-drop tally.settled segments in
        let parts = rows_split columns round.settled rest in
        let after_round =
        ap (row_count_of columns)
        (drop_twice round.settled tally.settled segments ∙ ap (λ n. drop n segments) (sym counted.settled)) in (
          record {
            within = omega (arith, over.within, dropped, tallied.within, counted.settled);
            rows = omega (arith, tallied.rows, within.0, parts, after_round, counted.rows_are);
            again = omega (arith, tallied.again, over.again, counted.rejudged, counted.settled);
          },
          (omega (arith, over.at_least_1, counted.settled), subst (SetCanStep ram_of) (sym counted.harts_are) can_step),
        )
    by (Agrees rows valid) (Some harts) (Ends joined) within can_step leads = tt
    by (Agrees rows valid) None (Continue next) within can_step leads = absurd leads
    by (Agrees rows valid) None (Ends joined) within can_step leads = tt
    by (Differs row difference) end (Continue next) within can_step leads = absurd leads
    by (Differs row difference) end (Ends joined) within can_step leads = tt
    by (Refused row fault) end (Continue next) within can_step leads = absurd leads
    by (Refused row fault) end (Ends joined) within can_step leads = tt

-- where a round leads, with what was settled before
pub record LeadsOn {M : Type 0} (bytes_of : M → Bytes) (ram_of : M → Span) (columns : TraceColumns)
    (segments : List Segment) (start : SetState) (before now : ℕ) (tally : Tally) (next : AfterRound M) : Type 0 where
  pub follows : Followed bytes_of columns segments start before now next
  pub tallied : IsTalliedAfter ram_of columns segments tally next

pub leads_on : {M : Type 0} {origin : Bool} {bytes_of : M → Bytes} {ram_of : M → Span} {columns : TraceColumns} {segments : List Segment}
    {start : SetState} {before now later : ℕ} {settling : Settling M} (next : AfterRound M)
    → settling.tally.settled < length segments → IsTallied columns segments settling.tally
    → SoFar bytes_of columns segments start before now settling
    → LeadsBy origin bytes_of ram_of columns segments settling next → later ≡ now + 1
    → LeadsOn bytes_of ram_of columns segments start before later settling.tally next
leads_on {M} {origin} {bytes_of} {ram_of} {columns} {segments} {start} {before} {now} {later} {settling} next left tallied so_far
    leads counted =
    let is_next : IsNextRound bytes_of ram_of columns segments settling leads.round =
    record { left = left; over = leads.over } in
    record {
      follows =
          subst (λ count. Followed bytes_of columns segments start before count next) (sym counted)
          (round_follows next is_next so_far leads.leads);
      tallied = part_tallied settling next tallied (part_of_next is_next) leads.leads;
    }

-- what is kept of its rows does not matter to what a round is over
pub over_alike : {M : Type 0} {bytes_of : M → Bytes} {ram_of : M → Span} {columns : TraceColumns}
    {segments : List Segment} {start : SetState} {round : Round M} (history : Option History)
    → IsRoundOver bytes_of ram_of columns segments start round
    → IsRoundOver bytes_of ram_of columns segments start (record round { history = history })
over_alike history over = record {
  is_round = over.is_round;
  within = over.within;
  settles_one = over.settles_one;
  at_most_1_again = over.at_most_1_again;
  verdict = over.verdict;
  end = over.end;
  can_step = over.can_step;
}

-- nor to what was settled
pub settled_alike : {M : Type 0} {bytes_of : M → Bytes} {ram_of : M → Span} {columns : TraceColumns}
    {segments : List Segment} {start : SetState} {joined : JoinedSegments M} (history : Option History)
    → IsSettled bytes_of ram_of columns segments start joined
    → IsSettled bytes_of ram_of columns segments start (record joined { history = history })
settled_alike history settled = record {
  verdict = settled.verdict;
  end = settled.end;
  can_step = settled.can_step;
  again = settled.again;
  once = settled.once;
}

-- what the join of a round promises of it
pub record PromisesRound {M E : Type 0} (bytes_of : M → Bytes) (ram_of : M → Span) (columns : TraceColumns)
    (segments : List Segment) (guesses : List (HartSet Core M)) (founds : List (Found (JudgedSegment M))) (start : SetState)
    (result : Result (Round M) E) : Type 0 where
  pub walks : IfOk result (WalksThem bytes_of (candidates_of bytes_of columns segments guesses founds) start)
  pub within : IfOk result (λ round. round.settled ≤ length segments)
  pub settles_one : IfOk result (λ round. 0 < length segments → 0 < round.settled)
  pub at_most_1_again : IfOk result (λ round. round.rejudged ≤ 1)
  pub verdict : IfOk result
      (λ round. round.verdict
      ≡ (conclusion_from by_set start
      (rows_of columns (flat_map segment_lines (take round.settled segments)))).verdict)
  pub end : IfOk result
      (λ round. option_map (set_state_of bytes_of) round.end
      ≡ (conclusion_from by_set start
      (rows_of columns (flat_map segment_lines (take round.settled segments)))).end)
  pub can_step : IfOk result (λ round. IfSome round.end (SetCanStep ram_of))

pub round_over : {M E : Type 0} {bytes_of : M → Bytes} {ram_of : M → Span} {columns : TraceColumns}
    {segments : List Segment} {guesses : List (HartSet Core M)} {founds : List (Found (JudgedSegment M))} {start : SetState}
    (result : Result (Round M) E)
    → map (set_state_of bytes_of) guesses ≡ guesses_of start columns (map segment_lines segments)
    → AreLeft bytes_of ram_of columns segments guesses founds
    → AreJudgedInTurn by_set (candidates_of bytes_of columns segments guesses founds)
    → PromisesRound bytes_of ram_of columns segments guesses founds start result
    → IfOk result (IsRoundOver bytes_of ram_of columns segments start)
round_over (Ok round) guessed left judged promised = record {
  is_round = is_round round guessed left judged promised.walks;
  within = promised.within;
  settles_one = promised.settles_one;
  at_most_1_again = promised.at_most_1_again;
  verdict = promised.verdict;
  end = promised.end;
  can_step = promised.can_step;
}
round_over (Err error) guessed left judged promised = tt

-- ---- what rounds that settle all come to

pub record ComeTo {M : Type 0} (bytes_of : M → Bytes) (columns : TraceColumns) (segments : List Segment)
    (start : SetState) (before now : ℕ) (joined : JoinedSegments M) : Type 0 where
  pub verdict : joined.verdict
      ≡ (conclusion_from by_set start (rows_of columns (flat_map segment_lines segments))).verdict
  pub end : option_map (set_state_of bytes_of) joined.end
      ≡ (conclusion_from by_set start (rows_of columns (flat_map segment_lines segments))).end
  pub at_most_segments : now ≤ before + length segments
  pub one_round : 0 < length segments → before < now
  pub count : (now ≡ before + joined.rejudged) ⊎ (now ≡ before + joined.rejudged + 1)

pub come_to : {M : Type 0} {bytes_of : M → Bytes} {columns : TraceColumns} {segments : List Segment} {start : SetState}
    {before now : ℕ} (joined : JoinedSegments M) → SettlesInRounds bytes_of columns segments start before now joined
    → ComeTo bytes_of columns segments start before now joined
come_to {M} {bytes_of} {columns} {segments} {start} {before} {now} joined settles =
    let pieces = map segment_lines segments in
    let all = settle_all start columns pieces settles.rounds settles.are in
    let count = length-map segments segment_lines in
    let whole : rounds_conclude start settles.rounds
    ≡ conclusion_from by_set start (rows_of columns (flat_map segment_lines segments)) =
    all.conclude ∙ ap (λ lines. conclusion_from by_set start (rows_of columns lines)) (sym (through segments)) in
    record {
      verdict = settles.verdict ∙ ap (λ (conclusion : Conclusion (List Core)). conclusion.verdict) whole;
      end = settles.end ∙ ap (λ (conclusion : Conclusion (List Core)). conclusion.end) whole;
      at_most_segments = omega (arith, settles.counted, all.at_most_pieces, count);
      one_round =
          λ some. let rounds = all.at_least_one (omega (arith, count, some)) in omega (arith, settles.counted, rounds);
      count = by all.count;
    }
  where
    by : (length settles.rounds ≡ rejudged_in settles.rounds)
        ⊎ (length settles.rounds ≡ rejudged_in settles.rounds + 1)
        → (now ≡ before + joined.rejudged) ⊎ (now ≡ before + joined.rejudged + 1)
    by (inl is) = inl (omega (arith, settles.counted, settles.rejudged, is))
    by (inr is) = inr (omega (arith, settles.counted, settles.rejudged, is))

pub none_rejudged : {M : Type 0} {bytes_of : M → Bytes} {columns : TraceColumns} {segments : List Segment}
    {start : SetState} {before now : ℕ} (joined : JoinedSegments M) → All IsSound start.core → SetHoldsWords start
    → SetNoMarks start.core → ShowChanges (rows_of columns (flat_map segment_lines segments))
    → SettlesInRounds bytes_of columns segments start before now joined → joined.rejudged ≡ 0
none_rejudged {M} {bytes_of} {columns} {segments} {start} joined sound words faults shows settles =
    let shown : ShowsFrom start columns (map segment_lines segments) =
    record {
      sound =
          sound;
      words = words;
      faults = faults;
      shows = subst (λ lines. ShowChanges (rows_of columns lines)) (through segments) shows;
    } in
    settles.rejudged ∙ none_again start columns (map segment_lines segments) settles.rounds settles.are shown

-- what is promised of segments that rounds settled, in one
pub record PromisesRounds {M E : Type 0} (bytes_of : M → Bytes) (ram_of : M → Span) (columns : TraceColumns)
    (segments : List Segment) (start : SetState) (before now : ℕ) (result : Result (JoinedSegments M) E)
    : Type 0 where
  pub settles : IfOk result (SettlesInRounds bytes_of columns segments start before now)
  pub can_step : IfOk result (λ joined. IfSome joined.end (SetCanStep ram_of))

pub settled_by_rounds : {M E : Type 0} {bytes_of : M → Bytes} {ram_of : M → Span} {columns : TraceColumns}
    {segments : List Segment} {start : SetState} {before now : ℕ} (result : Result (JoinedSegments M) E)
    → All IsSound start.core → SetHoldsWords start
    → PromisesRounds bytes_of ram_of columns segments start before now result
    → IfOk result (IsSettled bytes_of ram_of columns segments start)
settled_by_rounds (Err error) sound words promised = tt
settled_by_rounds {M} {E} {bytes_of} {ram_of} {columns} {segments} {start} {before} {now} (Ok joined) sound words
    promised =
    let all = come_to joined promised.settles in
    record {
      verdict = all.verdict;
      end = all.end;
      can_step = promised.can_step;
      again = by all.at_most_segments all.count;
      once = λ faults shows. none_rejudged joined sound words faults shows promised.settles;
    }
  where
    by : now ≤ before + length segments → (now ≡ before + joined.rejudged) ⊎ (now ≡ before + joined.rejudged + 1)
        → joined.rejudged ≤ length segments
    by few (inl is) = omega (arith, few, is)
    by few (inr is) = omega (arith, few, is)

-- ---- a part of one segment, judged from the state before it

pub one_segment : (segment : Segment) → flat_map segment_lines (segment ∷ []) ≡ segment_lines segment
one_segment segment = append-nil (segment_lines segment)

pub settled_alone : {M : Type 0} {bytes_of : M → Bytes} {ram_of : M → Span} {ram : Span} {columns : TraceColumns}
    (segment : Segment) {start : SetState} {judged : JudgedSegment M} (joined : JoinedSegments M)
    → joined.verdict ≡ judged.verdict → joined.end ≡ judged.end → joined.rejudged ≡ 0
    → IsJudgement bytes_of start (rows_of columns (segment_lines segment)) judged → IsUsable ram_of ram judged
    → IsSettled bytes_of ram_of columns (segment ∷ []) start joined
unfolding conclusion_from
settled_alone {M} {bytes_of} {ram_of} {ram} {columns} segment {start} {judged} joined verdict end none is usable =
    let all : rows_of columns (segment_lines segment) ≡ rows_of columns (flat_map segment_lines (segment ∷ [])) =
    ap (rows_of columns) (sym (one_segment segment)) in
    record {
      verdict = verdict ∙ is.verdict ∙ ap (λ rows. (conclusion_from by_set start rows).verdict) all;
      end =
          ap (option_map (set_state_of bytes_of)) end
          ∙ is.end
          ∙ ap (λ rows. (conclusion_from by_set start rows).end) all;
      can_step = subst (λ end. IfSome end (SetCanStep ram_of)) (sym end) usable.end;
      again = omega (arith, none);
      once = λ marks shows. none;
    }

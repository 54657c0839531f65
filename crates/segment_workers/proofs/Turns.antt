-- Segments are judged in turn, up to the first that does not agree from its guess.
use Rattle.std.proofs.Common.{◌≡◌, ℕ, zero, suc, ◌+◌, ◌<◌, Bool, true, false, ◌==◌, nat_lt, List, [], ◌∷◌, length, map}
use Rattle.std.proofs.Common.{slice_get, Option, Some, None, option_map, refl, sym, ap, ◌∙◌, subst, arith}
use Rattle.std.specs.List.{All}
use Rattle.std.specs.Option.{is_some, option_or}
use Rattle.std.proofs.lemmas.Bool.{and_parts, eqb-true}
use Rattle.std.proofs.lemmas.Bool.Decides.{nat_tests}
use Rattle.std.proofs.lemmas.List.{length-map}
use Rattle.std.proofs.lemmas.List.Elements.{All-head, All-tail}
use Rattle.std.proofs.lemmas.Option.{slice_get-map}
use Rattle.board_core.specs.Bags.{count}
use Rattle.board_core.proofs.Bags.{one_if, zero_if}
use Rattle.hart_words.specs.declared.span.Span.{Span}
use Rattle.hart_words.specs.Memory.{Bytes}
use Rattle.rvfi_rows.specs.declared.segment.Segment.{Segment}
use Rattle.rvfi_rows.specs.declared.verdict.Verdict.{Verdict}
use Rattle.rvfi_rows.specs.declared.verdict.Verdict.TheVariants.{Agrees, Differs, Refused}
use Rattle.rvfi_rows.specs.Rows.{RowReading}
use Rattle.hart_set.specs.declared.set.HartSet.{HartSet}
use Rattle.hart_step.specs.declared.state.Core.{Core}
use Rattle.hart_step.specs.HartSets.{SetState, set_state_of}
use Rattle.segment_judge.specs.declared.found.Found.{Found}
use Rattle.segment_judge.specs.declared.found.What.{What}
use Rattle.segment_judge.specs.declared.found.What.TheVariants.{Judged, Skipped}
use Rattle.segment_judge.specs.declared.judged.Judged.{Judged as JudgedSegment}
use Rattle.segment_judge.specs.Founds.{IsLawfulFound, IsLawfulWhat}
use Rattle.segment_judge.specs.Judgements.{by_set}
use Rattle.segment_judge.specs.Laws.{judgement_from}
use Rattle.verdict_join.specs.Founds.{found_judgement}
use Rattle.verdict_join.specs.Joining.{candidates_of, found_of, rows_of_segment}
use Rattle.verdict_join.specs.Laws.{AreJudgedInTurn}
use Rattle.verdict_join.specs.Walks.{judged_segment_by, judged_segment_in}
use Rattle.verdict_join.proofs.Guessed.{judged_in_turn}
use Rattle.verdict_join.proofs.Looped.{some_at}
use Rattle.verdict_join.proofs.Passed.{EndsWhereAgrees, judgement_ends}
use Rattle.verdict_join.proofs.Findings.{found_is, founds_theirs}
use Rattle.segment_workers.specs.Laws.{IsPromised, WorkerRun}
use Rattle.segment_workers.specs.Runs.{HasReason, IsSkippedFor, ends_trace, is_end, is_end_of, is_found_of}
use Rattle.segment_workers.proofs.Accounts.{IsFoundBySome, IsSeenBySome, found_by_some}

-- ---- lists

within : {A : Type 0} (xs : List A) (i : ℕ) (x : A) → slice_get xs i ≡ Some x → i < length xs
within [] i x is = cc
within (y ∷ xs) zero x is = omega arith
within (y ∷ xs) (suc i) x is = let rest = within xs i x is in omega (arith, rest)

-- what is counted is there
some_of : {X : Type 0} (P : X → Type 0) (test : X → Bool) (xs : List X) → All P xs → 0 < count test xs
    → (x : X) × P x × (test x ≡ true)
some_of P test [] all some = absurd (omega (arith, some))
some_of {X} P test (x ∷ xs) all some = by (test x) refl (some_of P test xs (All-tail P x xs all))
  where
    by : (passes : Bool) → test x ≡ passes → (0 < count test xs → (x : X) × P x × (test x ≡ true))
        → (x : X) × P x × (test x ≡ true)
    by true is more = (x, All-head P x xs all, is)
    by false is more = more (omega (arith, some, zero_if (test x) is))

or_some : {A : Type 0} (x : Option A) (a : A) → is_some (option_or x (Some a)) ≡ true
or_some None a = refl
or_some (Some b) a = refl

some_or : {A : Type 0} (x y : Option A) → is_some x ≡ true → is_some (option_or x y) ≡ true
some_or None y is = cc
some_or (Some a) y is = refl

mapped_some : {A B : Type 0} (f : A → B) (x : Option A) → is_some x ≡ true → is_some (option_map f x) ≡ true
mapped_some f None is = cc
mapped_some f (Some a) is = refl

-- ---- one that was found, and was not skipped, was judged

abbrev IsJudged : {V : Type 0} → What V → Type 0
IsJudged (Judged judged) = Unit {0}
IsJudged (Skipped least) = ⊥

abbrev IsJudgedAt : {V : Type 0} → ℕ → Found V → Type 0
IsJudgedAt number found = found.seg ≡ number → IsJudged found.what

judged_here : {M : Type 0} (number segment : ℕ) (what : What (JudgedSegment M)) (later : Option (JudgedSegment M))
    → (segment == number) ≡ true → IsJudged what
    → is_some (option_or later (judged_segment_by number segment what)) ≡ true
judged_here number segment (Judged judged) later is judged_so = rw is (or_some later judged)
judged_here number segment (Skipped least) later is skipped = absurd skipped

judged_where : {M : Type 0} (founds : List (Found (JudgedSegment M))) (number : ℕ) → All (IsJudgedAt number) founds
    → 0 < count (is_found_of number) founds → is_some (judged_segment_in founds number) ≡ true
unfolding judged_segment_in
judged_where [] number all some = absurd (omega (arith, some))
judged_where {M} (found ∷ founds) number all some =
    by (found.seg == number) refl (judged_where founds number (All-tail (IsJudgedAt number) found founds all))
  where
    by : (test : Bool) → (found.seg == number) ≡ test
        → (0 < count (is_found_of number) founds → is_some (judged_segment_in founds number) ≡ true)
        → is_some (option_or (judged_segment_in founds number) (judged_segment_by number found.seg found.what)) ≡ true
    by true is later =
        judged_here number found.seg found.what (judged_segment_in founds number) is
        (All-head (IsJudgedAt number) found founds all (eqb-true found.seg number is))
    by false is later =
        some_or (judged_segment_in founds number) (judged_segment_by number found.seg found.what)
        (later (omega (arith, some, zero_if (found.seg == number) is)))

-- ---- none is skipped before an end

never_both : {C : Type 0} (verdict : Verdict) (end : Option C) → EndsWhereAgrees verdict end → is_some end ≡ true
    → ends_trace verdict ≡ true → ⊥
never_both (Agrees rows valid) end ends some is = cc
never_both (Differs row difference) None ends some is = cc
never_both (Differs row difference) (Some c) ends some is = ends
never_both (Refused row fault) None ends some is = cc
never_both (Refused row fault) (Some c) ends some is = ends

module _ {M : Type 0} (bytes_of : M → Bytes) (ram_of : M → Span) (ran : WorkerRun M)
    (promised : IsPromised bytes_of ram_of ran) where
  abbrev rows : List (List RowReading)
  rows = map (rows_of_segment ran.columns) ran.segments

  abbrev states : List SetState
  states = map (set_state_of bytes_of) ran.guesses

  -- those before a number agree from their guesses
  abbrev AgreeBefore : ℕ → Type 0
  AgreeBefore number =
      (earlier : ℕ) → earlier < number → (mine : List RowReading) (guess : SetState)
      → slice_get rows earlier ≡ Some mine → slice_get states earlier ≡ Some guess
      → is_some (judgement_from by_set guess mine).end ≡ true

  agrees_not_ends : (number : ℕ) (what : What (JudgedSegment M)) (segment : Segment) (guess : HartSet Core M)
      → slice_get ran.segments number ≡ Some segment → slice_get ran.guesses number ≡ Some guess
      → is_some (judgement_from by_set (set_state_of bytes_of guess) (rows_of_segment ran.columns segment)).end ≡ true
      → IsLawfulWhat ran.keeps_history bytes_of ram_of ran.columns ran.segments ran.guesses number what → is_end what ≡
      true → ⊥
  agrees_not_ends number (Skipped least) segment guess here there agrees lawful end = cc
  agrees_not_ends number (Judged judged) segment guess here there agrees lawful end =
      let state = set_state_of bytes_of guess in
      let mine = rows_of_segment ran.columns segment in
      let judgement = judgement_from by_set state mine in
      let theirs = (lawful segment guess here there).0 in
      never_both judgement.verdict judgement.end (judgement_ends by_set state.core mine state.bytes) agrees
      (sym (ap ends_trace theirs.verdict) ∙ end)

  not_posted : (number : ℕ) → number < length ran.segments → AgreeBefore number → (least : ℕ) → least < number
      → 0 < count (is_end_of least) ran.founds → ⊥
  not_posted number below agree least low some =
      let L = IsLawfulFound ran.keeps_history bytes_of ram_of ran.columns ran.segments ran.guesses in
      let found = some_of L (is_end_of least) ran.founds promised.lawful some in
      let parts = and_parts _ _ found.2 in
      let same : found.0.seg ≡ least = eqb-true found.0.seg least parts.0 in
      let segment = some_at ran.segments least (omega (arith, low, below)) in
      let guess = some_at ran.guesses least (omega (arith, low, below, promised.one_each)) in
      let mine : slice_get rows least ≡ Some (rows_of_segment ran.columns segment.0) =
      slice_get-map (rows_of_segment ran.columns) ran.segments least
      ∙ ap (option_map (rows_of_segment ran.columns)) segment.1 in
      let theirs : slice_get states least ≡ Some (set_state_of bytes_of guess.0) =
      slice_get-map (set_state_of bytes_of) ran.guesses least ∙ ap (option_map (set_state_of bytes_of)) guess.1 in
      let agrees = agree least low (rows_of_segment ran.columns segment.0) (set_state_of bytes_of guess.0) mine theirs
      in
      agrees_not_ends found.0.seg found.0.what segment.0 guess.0 (ap (slice_get ran.segments) same ∙ segment.1)
      (ap (slice_get ran.guesses) same ∙ guess.1) agrees found.1.lawful parts.1

  not_skipped : (number : ℕ) → number < length ran.segments → AgreeBefore number
      → (worker : ℕ) (what : What (JudgedSegment M)) → IsSeenBySome ran.view worker number what
      → IsSkippedFor ran.view.posts what → IsJudged what
  not_skipped number below agree worker (Judged judged) seen reason = tt
  not_skipped number below agree worker (Skipped least) seen reason =
      not_posted number below agree least seen.0 (omega (arith, reason, promised.posted least))

  judged_so : (number : ℕ) → number < length ran.segments → AgreeBefore number → (found : Found (JudgedSegment M))
      → IsFoundBySome ran.view found → HasReason ran.view.posts found → IsJudgedAt number found
  judged_so number below agree found by reason same =
      not_skipped number below agree by.worker found.what
      (subst (λ n. IsSeenBySome ran.view by.worker n found.what) same by.so) reason

  judged_at : (number : ℕ) → number < length ran.segments → AgreeBefore number
      → is_some (judged_segment_in ran.founds number) ≡ true
  judged_at number below agree =
      judged_where ran.founds number
      (λ k d low. judged_so number below agree _ (found_by_some ran.view ran.founds promised.by k d low)
      (promised.reasons k d low))
      (omega (arith, promised.once number, one_if (nat_lt number (length ran.segments)) (grind (arith, nat_tests))))

pub segments_judged_in_turn : {M : Type 0} (bytes_of : M → Bytes) (ram_of : M → Span) (ran : WorkerRun M)
    → IsPromised bytes_of ram_of ran
    → AreJudgedInTurn by_set (candidates_of bytes_of ran.columns ran.segments ran.guesses ran.founds)
segments_judged_in_turn bytes_of ram_of ran promised =
    let mine : List (List RowReading) = map (rows_of_segment ran.columns) ran.segments in
    let theirs : List SetState = map (set_state_of bytes_of) ran.guesses in
    let founds = map (found_of mine theirs) ran.founds in
    judged_in_turn by_set mine 0 theirs founds (λ index rows guess here there agree.
    let number : index ≡ 0 + index = omega arith in
    let below : index < length ran.segments =
    omega (arith, within mine index rows here, length-map ran.segments (rows_of_segment ran.columns)) in
    let some =
    mapped_some (λ any. judgement_from by_set guess rows) (judged_segment_in ran.founds index)
    (judged_at bytes_of ram_of ran promised index below agree) in
    let found =
    found_is mine theirs ran.founds index
    (founds_theirs ran.keeps_history bytes_of ram_of ran.columns ran.segments ran.guesses ran.founds promised.lawful)
    here there in
    subst (λ n. is_some (found_judgement founds n) ≡ true) number
    (subst (λ found. is_some found ≡ true) (sym found) some))

-- What was found in code, as the definitions have it.
use Rattle.std.proofs.Common.{◌≡◌, ℕ, ◌==◌, Bool, true, false, List, [], ◌∷◌, map, slice_get, if◌then◌else◌, Option}
use Rattle.std.proofs.Common.{Some, None, option_map, unwrap_or, refl, sym, ap, ◌∙◌, subst, All}
use Rattle.std.specs.Option.{option_or}
use Rattle.std.proofs.lemmas.Bool.{eqb-true}
use Rattle.std.proofs.lemmas.List.Elements.{All-head, All-map, All-tail}
use Rattle.std.proofs.lemmas.Option.{slice_get-map}
use Rattle.hart_words.specs.Memory.{Bytes}
use Rattle.hart_words.specs.declared.span.Span.{Span}
use Rattle.rvfi_rows.specs.declared.segment.Segment.{Segment}
use Rattle.rvfi_rows.specs.Columns.{TraceColumns}
use Rattle.rvfi_rows.specs.Rows.{RowReading}
use Rattle.hart_set.specs.declared.set.HartSet.{HartSet}
use Rattle.hart_step.specs.declared.state.Core.{Core}
use Rattle.hart_step.specs.HartSets.{SetState, set_state_of}
use Rattle.segment_judge.specs.declared.found.Found.{Found}
use Rattle.segment_judge.specs.declared.found.What.{What}
use Rattle.segment_judge.specs.declared.found.What.TheVariants.{Judged, Skipped}
use Rattle.segment_judge.specs.declared.judged.Judged.{Judged as JudgedSegment}
use Rattle.segment_judge.specs.Founds.{IsJudgedFrom, IsLawfulFound, IsLawfulWhat}
use Rattle.segment_judge.specs.Judged.{IsJudgement}
use Rattle.segment_judge.specs.Judgements.{Judgement, by_set}
use Rattle.segment_judge.specs.Laws.{bytes_after_judgement, judgement_from}
use Rattle.verdict_join.specs.Founds.{found_judgement, judgement_of_segment}
use Rattle.verdict_join.specs.Joining.{finding, found_of, judgement_as_judged, rows_of_segment}
use Rattle.verdict_join.specs.Walks.{judged_segment_by, judged_segment_in}
use Rattle.verdict_join.proofs.Lawful.{IsFoundTheirs, IsTheirFinding}
use Rattle.verdict_join.proofs.Placed.{or_none}

-- ---- a judgement

cores_of_end : {M : Type 0} (bytes_of : M → Bytes) (end : Option (HartSet Core M))
    → option_map (λ (set : HartSet Core M). set.cores.items) end
    ≡ option_map (λ (state : SetState). state.core) (option_map (set_state_of bytes_of) end)
cores_of_end bytes_of None = refl
cores_of_end bytes_of (Some set) = refl

cores_over : (bytes : Bytes) (end : Option (List Core))
    → option_map (λ (state : SetState). state.core)
    (option_map (λ (cores : List Core). let state : SetState = record { core = cores; bytes = bytes } in state) end)
    ≡ end
cores_over bytes None = refl
cores_over bytes (Some cores) = refl

abbrev judgement_with : Judgement (List Core) → Judgement (List Core) → Judgement (List Core)
judgement_with one whole = record { verdict = one.verdict; end = one.end; accesses = whole.accesses }

-- a judgement in code is that of the rows
pub judgement_is : {M : Type 0} (bytes_of : M → Bytes) (guess : SetState) (rows : List RowReading)
    (judged : JudgedSegment M) → IsJudgement bytes_of guess rows judged
    → judgement_as_judged rows guess judged ≡ judgement_from by_set guess rows
judgement_is bytes_of guess rows judged is =
    let whole = judgement_from by_set guess rows in
    let end : option_map (λ set. set.cores.items) judged.end ≡ whole.end =
    cores_of_end bytes_of judged.end ∙ ap (option_map (λ (state : SetState). state.core)) is.end
    ∙ cores_over (bytes_after_judgement whole guess.bytes) whole.end in
    let equal : judgement_with (judgement_as_judged rows guess judged) whole ≡ judgement_with whole whole =
    rw (is.verdict, end) refl in
    equal

-- ---- what was found

module _ {M : Type 0} (origin : Bool) (bytes_of : M → Bytes) (ram_of : M → Span) (columns : TraceColumns) (segments : List Segment)
    (guesses : List (HartSet Core M)) where
  abbrev readings : List (List RowReading)
  readings = map (rows_of_segment columns) segments

  abbrev states : List SetState
  states = map (set_state_of bytes_of) guesses

  finding_theirs : (number : ℕ) (what : What (JudgedSegment M))
      → IsLawfulWhat origin bytes_of ram_of columns segments guesses number what
      → IsTheirFinding by_set readings states number
      (finding (slice_get readings number) (slice_get states number) what)
  finding_theirs number (Skipped least) lawful = tt
  finding_theirs number (Judged judged) lawful =
      rw (slice_get-map (rows_of_segment columns) segments number, slice_get-map (set_state_of bytes_of) guesses number)
      (by (slice_get segments number) (slice_get guesses number) refl refl)
    where
      by : (segment : Option Segment) (guess : Option (HartSet Core M)) → slice_get segments number ≡ segment
          → slice_get guesses number ≡ guess
          → IsTheirFinding by_set readings states number
          (finding (option_map (rows_of_segment columns) segment) (option_map (set_state_of bytes_of) guess)
          (Judged judged))
      by None guess no_segment there = tt
      by (Some segment) None here no_guess = tt
      by (Some segment) (Some guess) here there = λ theirs start is_theirs is_start.
          let mine = rows_of_segment columns segment in
          let state : SetState = set_state_of bytes_of guess in
          let row_here : slice_get readings number ≡ Some mine =
          slice_get-map (rows_of_segment columns) segments number ∙ ap (option_map (rows_of_segment columns)) here in
          let state_there : slice_get states number ≡ Some state =
          slice_get-map (set_state_of bytes_of) guesses number ∙ ap (option_map (set_state_of bytes_of)) there in
          let same_rows : mine ≡ theirs = ap (λ some. unwrap_or some mine) (sym row_here ∙ is_theirs) in
          let same_start : state ≡ start = ap (λ some. unwrap_or some state) (sym state_there ∙ is_start) in
          judgement_is bytes_of state mine judged (lawful segment guess here there).0
          ∙ ap (λ one. judgement_from by_set one mine) same_start
          ∙ ap (judgement_from by_set start) same_rows

  pub found_theirs : (found : Found (JudgedSegment M))
      → IsLawfulFound origin bytes_of ram_of columns segments guesses found
      → IsFoundTheirs by_set readings states (found_of readings states found)
  found_theirs found lawful = finding_theirs found.seg found.what lawful.lawful

  pub founds_theirs : (founds : List (Found (JudgedSegment M)))
      → All (IsLawfulFound origin bytes_of ram_of columns segments guesses) founds
      → All (IsFoundTheirs by_set readings states) (map (found_of readings states) founds)
  founds_theirs founds lawful =
      All-map (IsFoundTheirs by_set readings states) (found_of readings states) founds
      (λ k d low. found_theirs _ (lawful k d low))

-- ---- what was found of the segment of a number

by_constant : {A B : Type 0} (b : B) (x : Option A) (a : A) → Some b ≡ option_map (λ any. b) (option_or x (Some a))
by_constant b None a = refl
by_constant b (Some other) a = refl

unnamed : {M : Type 0} (number segment : ℕ) (rows : Option (List RowReading)) (guess : Option SetState)
    (judged : JudgedSegment M) (rest : Option (Judgement (List Core))) → (segment == number) ≡ false
    → judgement_of_segment number segment (finding rows guess (Judged judged)) rest ≡ rest
unnamed number segment None guess judged rest other = refl
unnamed number segment (Some rows) None judged rest other = refl
unnamed number segment (Some rows) (Some guess) judged rest other =
    ap (λ test. if test then Some (judgement_as_judged rows guess judged) else rest) other

-- it is its judgement, where it was judged
pub found_is : {M : Type 0} {rows : List RowReading} {guess : SetState} (segments : List (List RowReading))
    (guesses : List SetState) (founds : List (Found (JudgedSegment M))) (number : ℕ)
    → All (IsFoundTheirs by_set segments guesses) (map (found_of segments guesses) founds)
    → slice_get segments number ≡ Some rows → slice_get guesses number ≡ Some guess
    → found_judgement (map (found_of segments guesses) founds) number
    ≡ option_map (λ any. judgement_from by_set guess rows) (judged_segment_in founds number)
unfolding found_judgement judged_segment_in
found_is segments guesses [] number theirs here there = refl
found_is {M = M} {rows = rows} {guess = guess} segments guesses (found ∷ founds) number theirs here there =
    by found.what (found.seg == number) refl
    (All-head (IsFoundTheirs by_set segments guesses) (found_of segments guesses found)
    (map (found_of segments guesses) founds) theirs)
    (found_is segments guesses founds number
    (All-tail (IsFoundTheirs by_set segments guesses) (found_of segments guesses found)
    (map (found_of segments guesses) founds) theirs) here there)
  where
    whole : Judgement (List Core)
    whole = judgement_from by_set guess rows

    by : (what : What (JudgedSegment M)) (test : Bool) → (found.seg == number) ≡ test
        → IsTheirFinding by_set segments guesses found.seg
        (finding (slice_get segments found.seg) (slice_get guesses found.seg) what)
        → found_judgement (map (found_of segments guesses) founds) number
        ≡ option_map (λ any. whole) (judged_segment_in founds number)
        → judgement_of_segment number found.seg
        (finding (slice_get segments found.seg) (slice_get guesses found.seg) what)
        (found_judgement (map (found_of segments guesses) founds) number)
        ≡ option_map (λ any. whole)
        (option_or (judged_segment_in founds number) (judged_segment_by number found.seg what))
    by (Skipped least) test is mine rest =
        rest ∙ ap (option_map (λ any. whole)) (sym (or_none (judged_segment_in founds number)))
    by (Judged judged) true is mine rest =
        let same = eqb-true found.seg number is in
        let row_here : slice_get segments found.seg ≡ Some rows = ap (slice_get segments) same ∙ here in
        let guess_there : slice_get guesses found.seg ≡ Some guess = ap (slice_get guesses) same ∙ there in
        let judgement : judgement_as_judged rows guess judged ≡ whole =
        (rw (row_here, guess_there) at mine) rows guess row_here guess_there in
        rw (row_here, guess_there, is) (ap Some judgement ∙ by_constant whole (judged_segment_in founds number) judged)
    by (Judged judged) false is mine rest =
        unnamed number found.seg (slice_get segments found.seg) (slice_get guesses found.seg) judged
        (found_judgement (map (found_of segments guesses) founds) number) is
        ∙ rest
        ∙ ap (option_map (λ any. whole))
        (sym (or_none (judged_segment_in founds number))
        ∙ ap (λ test. option_or (judged_segment_in founds number) (if test then Some judged else None)) (sym is))

-- and how it was judged is lawful
pub lawful_at : {M : Type 0} {origin : Bool} {segments : List Segment} {guesses : List (HartSet Core M)} {judged : JudgedSegment M}
    (bytes_of : M → Bytes) (ram_of : M → Span) (columns : TraceColumns) (founds : List (Found (JudgedSegment M)))
    (number : ℕ) → All (IsLawfulFound origin bytes_of ram_of columns segments guesses) founds
    → judged_segment_in founds number ≡ Some judged
    → IsJudgedFrom origin bytes_of ram_of columns segments guesses number judged
unfolding judged_segment_in
lawful_at bytes_of ram_of columns [] number lawful is = cc
lawful_at {M = M} {origin = origin} {segments = segments} {guesses = guesses} {judged = judged} bytes_of ram_of columns
    (found ∷ founds) number lawful is =
    either (judged_segment_in founds number) refl is
    (λ later. lawful_at bytes_of ram_of columns founds number
    (All-tail (IsLawfulFound origin bytes_of ram_of columns segments guesses) found founds lawful) later)
  where
    first : IsLawfulFound origin bytes_of ram_of columns segments guesses found
    first = All-head (IsLawfulFound origin bytes_of ram_of columns segments guesses) found founds lawful

    this : (what : What (JudgedSegment M)) (test : Bool) → (found.seg == number) ≡ test
        → IsLawfulWhat origin bytes_of ram_of columns segments guesses found.seg what
        → judged_segment_by number found.seg what ≡ Some judged
        → IsJudgedFrom origin bytes_of ram_of columns segments guesses number judged
    this (Skipped least) test named lawful is = cc
    this (Judged other) true named lawful is =
        let some : Some other ≡ Some judged = rw named at is in
        let equal : other ≡ judged = cc in
        subst (λ judged. IsJudgedFrom origin bytes_of ram_of columns segments guesses number judged) equal
        (subst (λ n. IsJudgedFrom origin bytes_of ram_of columns segments guesses n other)
        (eqb-true found.seg number named) lawful)
    this (Judged other) false named lawful is = let never : None ≡ Some judged = rw named at is in cc

    either : (later : Option (JudgedSegment M)) → judged_segment_in founds number ≡ later
        → option_or later (judged_segment_by number found.seg found.what) ≡ Some judged
        → (judged_segment_in founds number ≡ Some judged
        → IsJudgedFrom origin bytes_of ram_of columns segments guesses number judged)
        → IsJudgedFrom origin bytes_of ram_of columns segments guesses number judged
    either None later is rest = this found.what (found.seg == number) refl first.lawful is
    either (Some other) later is rest = rest (later ∙ is)

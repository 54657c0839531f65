-- What holds of segments, guesses and founds in code, in the words of the definitions.
use Rattle.std.proofs.Common.{Bool, ◌≡◌, ◌<◌, ◌≤◌, ◌⊎◌, inl, inr, List, [], ◌∷◌, ◌++◌, length, map, take}
use Rattle.std.proofs.Common.{option_map, refl, sym, ap, ◌∙◌, subst, arith, All}
use Rattle.std.specs.List.{flat_map}
use Rattle.std.proofs.lemmas.List.{length-map}
use Rattle.std.proofs.lemmas.List.Concat.{flat_map-cons}
use Rattle.hart_words.specs.declared.span.Span.{Span}
use Rattle.hart_words.specs.Memory.{Bytes}
use Rattle.rvfi_rows.specs.declared.segment.Segment.{Segment}
use Rattle.rvfi_rows.specs.Columns.{TraceColumns}
use Rattle.rvfi_rows.specs.Rows.{RowReading, rows_of}
use Rattle.rvfi_rows.specs.Segments.{segment_lines}
use Rattle.hart_set.specs.declared.set.HartSet.{HartSet}
use Rattle.hart_step.specs.declared.state.Core.{Core}
use Rattle.hart_step.specs.HartSets.{SetState, set_state_of}
use Rattle.boundary_guess.specs.Pieces.{lines_of_pieces}
use Rattle.segment_judge.specs.declared.found.Found.{Found}
use Rattle.segment_judge.specs.declared.judged.Judged.{Judged as JudgedSegment}
use Rattle.segment_judge.specs.Founds.{IsLawfulFound}
use Rattle.segment_judge.specs.Judgements.{by_set}
use Rattle.segment_judge.specs.Laws.{conclusion_from}
use Rattle.verdict_join.specs.declared.joined.Round.{Round}
use Rattle.verdict_join.specs.Joining.{WalksThem, candidates_of, found_of, round_of, rows_of_segment}
use Rattle.verdict_join.specs.Laws.{IsLawfulCandidate, rows_through}
use Rattle.verdict_join.specs.Rounds.{SettlesSome}
use Rattle.verdict_join.proofs.Findings.{founds_theirs}
use Rattle.verdict_join.proofs.Lawful.{found_lawful, pieces_read}
use Rattle.verdict_join.proofs.Rounds.{candidates_count, candidates_front, settles_some, take_mapped}
use Rattle.verdict_join.proofs.Sameness.{cores_sameness, cores_tell}

-- the lines of segments
pub through : (segments : List Segment) → flat_map segment_lines segments ≡ lines_of_pieces (map segment_lines segments)
through [] = refl
through (segment ∷ segments) =
    flat_map-cons segment_lines segment segments
    ∙ ap (λ rest. segment.lines ++ rest) (through segments)
    ∙ sym (flat_map-cons (λ piece. piece) segment.lines (map segment_lines segments))

pub read_twice : (columns : TraceColumns) (segments : List Segment)
    → map (rows_of_segment columns) segments ≡ map (rows_of columns) (map segment_lines segments)
read_twice columns [] = refl
read_twice columns (segment ∷ segments) =
    ap (λ rest. rows_of columns segment.lines ∷ rest) (read_twice columns segments)

-- what was judged in code is lawful
pub code_lawful : {M : Type 0} (origin : Bool) (bytes_of : M → Bytes) (ram_of : M → Span) (columns : TraceColumns)
    (segments : List Segment) (guesses : List (HartSet Core M)) (founds : List (Found (JudgedSegment M)))
    → All (IsLawfulFound origin bytes_of ram_of columns segments guesses) founds
    → All (IsLawfulCandidate by_set) (candidates_of bytes_of columns segments guesses founds)
code_lawful origin bytes_of ram_of columns segments guesses founds lawful =
    let rows : List (List RowReading) = map (rows_of_segment columns) segments in
    let states : List SetState = map (set_state_of bytes_of) guesses in
    found_lawful by_set rows states (map (found_of rows states) founds)
    (founds_theirs origin bytes_of ram_of columns segments guesses founds lawful)

-- what a round in code settles
pub record SettlesInCode {M : Type 0} (bytes_of : M → Bytes) (columns : TraceColumns) (segments : List Segment)
    (start : SetState) (round : Round M) : Type 0 where
  pub within : round.settled ≤ length segments
  pub at_least_one : 0 < length segments → 0 < round.settled
  pub at_most_one_again : round.rejudged ≤ 1
  pub verdict : round.verdict
      ≡ (conclusion_from by_set start (rows_of columns (flat_map segment_lines (take round.settled segments)))).verdict
  pub end : option_map (set_state_of bytes_of) round.end
      ≡ (conclusion_from by_set start (rows_of columns (flat_map segment_lines (take round.settled segments)))).end

pub round_in_code : {M : Type 0} {origin : Bool} {ram_of : M → Span} {columns : TraceColumns} {segments : List Segment}
    {guesses : List (HartSet Core M)} (bytes_of : M → Bytes) (founds : List (Found (JudgedSegment M)))
    (start : SetState)
    (round : Round M) → length guesses ≡ length segments
    → All (IsLawfulFound origin bytes_of ram_of columns segments guesses) founds
    → WalksThem bytes_of (candidates_of bytes_of columns segments guesses founds) start round
    → SettlesInCode bytes_of columns segments start round
round_in_code {origin = origin} {ram_of = ram_of} {columns = columns} {segments = segments} {guesses = guesses} bytes_of founds start
    round one_each lawful walks =
    let rows : List (List RowReading) = map (rows_of_segment columns) segments in
    let states : List SetState = map (set_state_of bytes_of) guesses in
    let all = map (found_of rows states) founds in
    let candidates = candidates_of bytes_of columns segments guesses founds in
    let enough : length states ≡ length rows =
    length-map guesses (set_state_of bytes_of) ∙ one_each ∙ sym (length-map segments (rows_of_segment columns)) in
    let count : length candidates ≡ length segments =
    candidates_count 0 rows states all enough ∙ length-map segments (rows_of_segment columns) in
    let settles : SettlesSome by_set candidates start (round_of bytes_of round) =
    subst (SettlesSome by_set candidates start) (sym (walks cores_sameness cores_tell))
    (settles_some by_set cores_sameness candidates start cores_tell
    (code_lawful origin bytes_of ram_of columns segments guesses founds lawful)) in
    let front : rows_through (take round.settled candidates)
    ≡ rows_of columns (flat_map segment_lines (take round.settled segments)) =
    candidates_front 0 round.settled rows states all enough
    ∙ ap (flat_map (λ rows. rows))
    (take_mapped (rows_of_segment columns) round.settled segments
    ∙ read_twice columns (take round.settled segments))
    ∙ pieces_read columns (map segment_lines (take round.settled segments))
    ∙ ap (rows_of columns) (sym (through (take round.settled segments))) in
    record {
      within = omega (arith, count, settles.within);
      at_least_one = λ some. settles.at_least_one (omega (arith, count, some));
      at_most_one_again = at_most_one settles.again;
      verdict = settles.has_verdict.verdict ∙ ap (λ rows. (conclusion_from by_set start rows).verdict) front;
      end = settles.has_verdict.end ∙ ap (λ rows. (conclusion_from by_set start rows).end) front;
    }
  where
    at_most_one : {Else : Type 0} → (round.rejudged ≡ 1) ⊎ ((round.rejudged ≡ 0) × Else) → round.rejudged ≤ 1
    at_most_one (inl one) = omega (arith, one)
    at_most_one (inr (none, rest)) = omega (arith, none)

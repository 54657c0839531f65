-- The verdicts of segments joined, one after another, from the true state before the first.
use Rattle.std.specs.Prelude.{ℕ, ◌+◌, Bool, true, false, ◌&&◌, if◌then◌else◌, List, [], ◌∷◌, Option, Some, None}
use Rattle.std.specs.Prelude.{option_map}
use Rattle.hart_words.specs.States.{State}
use Rattle.rvfi_rows.specs.declared.verdict.Verdict.{Verdict}
use Rattle.rvfi_rows.specs.declared.verdict.Verdict.TheVariants.{Agrees}
use Rattle.rvfi_rows.specs.Rows.{RowReading}
use Rattle.read_footprint.specs.Footprints.{agree, footprint_of, moved, writes_of}
use Rattle.segment_judge.specs.Judgements.{Judgement, Judging}
use Rattle.segment_judge.specs.Laws.{Conclusion, bytes_after_judgement, conclusion_from, verdict_of_both}

-- a segment: what its lines read as, the guess of the state before it, and its judgement from that guess, if it has one
pub record Candidate (C : Type 0) : Type 0 where
  pub rows : List RowReading
  pub guess : State C
  pub found : Option (Judgement C)

-- a test that two states are the same but for memory
abbrev pub Sameness : Type 0 → Type 0
Sameness C = C → C → Bool

-- a guess is met: it is the state that is true but for memory, and agrees with it on what was read from memory
abbrev pub is_met : {C : Type 0} → Sameness C → State C → State C → Judgement C → Bool
is_met same guess now judgement =
    same guess.core now.core && agree guess.bytes now.bytes (footprint_of judgement.accesses)

-- a judgement is adopted where its guess is met
abbrev pub adopted_judgement_if : {C : Type 0} → Bool → Judgement C → Option (Judgement C)
adopted_judgement_if true judgement = Some judgement
adopted_judgement_if false judgement = None

abbrev pub adopted_judgement_from : {C : Type 0} → Sameness C → State C → State C → Option (Judgement C)
    → Option (Judgement C)
adopted_judgement_from same guess now None = None
adopted_judgement_from same guess now (Some judgement) =
    adopted_judgement_if (is_met same guess now judgement) judgement

abbrev pub adopted_judgement : {C : Type 0} → Sameness C → Candidate C → State C → Option (Judgement C)
adopted_judgement same segment now = adopted_judgement_from same segment.guess now segment.found

-- its verdict stands, and so does its end, over the true memory with the bytes that were written
abbrev pub moved_conclusion : {C : Type 0} → State C → State C → Judgement C → Conclusion C
moved_conclusion guess now judgement = record {
  verdict = judgement.verdict;
  end = option_map (λ core. record {
    core = core;
    bytes = moved (writes_of judgement.accesses) (bytes_after_judgement judgement guess.bytes) now.bytes;
  }) judgement.end;
}

-- what segments come to together: the verdict on their rows, the state after them where they agree, how many were
-- walked, and how many of these were judged again
pub record Joined (C : Type 0) : Type 0 where
  pub verdict : Verdict
  pub end : Option (State C)
  pub settled : ℕ
  pub rejudged : ℕ

-- no segment is left, or none is walked
abbrev pub nothing_from : {C : Type 0} → State C → Joined C
nothing_from now = record { verdict = Agrees 0 0; end = Some now; settled = 0; rejudged = 0 }

-- one segment, and those after it, where it agrees
abbrev pub joined_by : {C : Type 0} → Option (State C) → Verdict → ℕ → (State C → Joined C) → Joined C
joined_by None verdict again next = record { verdict = verdict; end = None; settled = 1; rejudged = again }
joined_by (Some state) verdict again next =
    let rest = next state in
    record {
      verdict = verdict_of_both verdict rest.verdict;
      end = rest.end;
      settled = 1 + rest.settled;
      rejudged = again + rest.rejudged;
    }

abbrev pub joined_with : {C : Type 0} → Conclusion C → ℕ → (State C → Joined C) → Joined C
joined_with first again next = joined_by first.end first.verdict again next

-- a segment whose judgement is not adopted is judged from the true state, and with `once` it is the last
abbrev pub walk_on : {C : Type 0} → Judging C → Option (Judgement C) → Bool → Candidate C → State C
    → (State C → Joined C) → Joined C
walk_on judging (Some judgement) once segment now next =
    joined_with (moved_conclusion segment.guess now judgement) 0 next
walk_on judging None once segment now next =
    joined_with (conclusion_from judging now segment.rows) 1 (if once then nothing_from else next)

-- the segments in order, from the true state before the first, up to the first that does not agree
unfoldable pub walk : {C : Type 0} → Judging C → Sameness C → Bool → List (Candidate C) → State C → Joined C
walk judging same once [] now = nothing_from now
walk judging same once (segment ∷ segments) now =
    walk_on judging (adopted_judgement same segment now) once segment now
    (λ following. walk judging same once segments following)

-- all segments are walked
abbrev pub joined : {C : Type 0} → Judging C → Sameness C → List (Candidate C) → State C → Joined C
joined judging same segments now = walk judging same false segments now
